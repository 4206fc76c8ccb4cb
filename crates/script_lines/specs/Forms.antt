-- Document 01, "The script program": the forms of a line. Assumes nothing.
use Rattle.std.specs.Prelude.{Bool, true, false, List, ℕ, ◌-◌, eqb, ltb, length, take, drop, get_or, None, Option, Some}
use Rattle.base.specs.Choice.{choose, within}
use Rattle.rules.specs.Registers.{image}
use Rattle.text.specs.Decimal.{decimal_of}
use Rattle.text.specs.Hex.{hex_pairs}
use Rattle.script_lines.specs.declared.forms.Form.{Form}
use Rattle.script_lines.specs.declared.forms.Form.TheVariants.{Ticks, Frame, Inputs}

-- what a line asks for
pub data Step : Type 0 where
  ticks : (n : ℕ) → Step
  frame : (port : ℕ) (body : List ℕ) → Step
  inputs : (xs : List ℕ) → Step
  bad : Step

-- the longest line, and the most ticks
abbrev pub longest : ℕ
longest = 1200

abbrev pub most_ticks : ℕ
most_ticks = 60000

-- `T`, a space and 1 to 60000 (ticks, no leading zero)
abbrev pub ticks_of : Option ℕ → Step
ticks_of (Some n) = ticks n
ticks_of None = bad

-- a port digit, a space and the body in pairs of hex digits, perhaps none
abbrev pub frame_of : ℕ → Option (List ℕ) → Step
frame_of port None = bad
frame_of port (Some body) = frame port body

-- `I`, a space and 128 hex digits
abbrev pub inputs_of : Option (List ℕ) → Step
inputs_of None = bad
inputs_of (Some xs) = choose (eqb (length xs) image) (inputs xs) bad

-- by the first character and what follows the space
unfoldable pub form_of : ℕ → List ℕ → Step
form_of c rest =
    choose (eqb c 0x54) (ticks_of (decimal_of most_ticks rest))
    (choose (within 0x30 0x39 c) (frame_of (c - 0x30) (hex_pairs rest))
    (choose (eqb c 0x49) (inputs_of (hex_pairs rest))
    bad))

-- other lines, and lines over 1,200 characters, are bad
unfoldable pub line_of : List ℕ → Step
line_of s =
    choose (ltb longest (length s)) bad
    (choose (eqb (get_or s 1 0) 0x20) (form_of (get_or s 0 0) (drop 2 s)) bad)

-- ---- the steps of the code
-- a form together with its bytes
abbrev pub step_in : Option Form → List ℕ → Step
step_in (Some (Ticks n)) bytes = ticks n
step_in (Some (Frame port n)) bytes = frame port (take n bytes)
step_in (Some Inputs) bytes = inputs (take image bytes)
step_in None bytes = bad

abbrev pub is_bad : Step → Bool
is_bad (ticks n) = false
is_bad (frame port body) = false
is_bad (inputs xs) = false
is_bad bad = true

abbrev pub ticks_form : Option ℕ → Option Form
ticks_form (Some n) = Some (Ticks n)
ticks_form None = None
