-- What is printed for a line. Assumes nothing.
use Rattle.std.specs.Prelude.{Bool, List, [], ◌∷◌, ◌++◌, ℕ, eqb, length}
use Rattle.base.specs.Choice.{choose}
use Rattle.text.specs.BadLines.{bad_text}
use Rattle.text.specs.Decimal.{decimal_text}
use Rattle.text.specs.Putting.{hex_digits, hex_text}
use Rattle.rules.specs.Replies.{Outcome}
use Rattle.rules.specs.State.{running}
use Rattle.rules.specs.declared.Agent.{Agent}
use Rattle.script_text.specs.declared.View.{View}
use Rattle.script_text.specs.declared.View.TheVariants.{Script, Trace}

abbrev pub space : List ℕ
space = 0x20 ∷ []

abbrev pub line_end : List ℕ
line_end = 0x0A ∷ []

-- LINE ANSWER MODE CYC
abbrev pub script_header : List ℕ
script_header =
    0x4C ∷ 0x49 ∷ 0x4E ∷ 0x45 ∷ 0x20 ∷ 0x41 ∷ 0x4E ∷ 0x53 ∷ 0x57 ∷ 0x45 ∷ 0x52 ∷ 0x20 ∷ 0x4D ∷ 0x4F ∷ 0x44 ∷ 0x45 ∷ 0x20 ∷ 0x43 ∷ 0x59 ∷ 0x43 ∷ []

-- a space and REPLY REGISTERS
abbrev pub trace_header : List ℕ
trace_header =
    0x20 ∷ 0x52 ∷ 0x45 ∷ 0x50 ∷ 0x4C ∷ 0x59 ∷ 0x20 ∷ 0x52 ∷ 0x45 ∷ 0x47 ∷ 0x49 ∷ 0x53 ∷ 0x54 ∷ 0x45 ∷ 0x52 ∷ 0x53 ∷ []

abbrev pub header_of : View → List ℕ
header_of Script = script_header ++ line_end
header_of Trace = script_header ++ (trace_header ++ line_end)

-- line number and answer
unfoldable pub answer_text : ℕ → ℕ → List ℕ
answer_text n answer = (decimal_text n ++ space) ++ decimal_text answer

-- F or R, c as two capital hex digits, a space before each
abbrev pub mode_text : Agent → List ℕ
mode_text a = choose (running a) (0x20 ∷ 0x52 ∷ 0x20 ∷ []) (0x20 ∷ 0x46 ∷ 0x20 ∷ [])

unfoldable pub state_text : Agent → List ℕ
state_text a = mode_text a ++ hex_digits a.cycle

-- the sent reply in capital hex digits, - for none
abbrev pub reply_text : List ℕ → List ℕ
reply_text line = choose (eqb (length line) 0) (0x2D ∷ []) (hex_text line)

-- the trace's reply and registers, a space before each
unfoldable pub trace_text : List ℕ → List ℕ → List ℕ
trace_text line regs = ((space ++ reply_text line) ++ space) ++ hex_text regs

abbrev pub view_text : View → Outcome → List ℕ
view_text Script o = []
view_text Trace o = trace_text o.line o.agent.regs

unfoldable pub fields_text : View → ℕ → Outcome → List ℕ
fields_text view n o = ((answer_text n o.answer ++ state_text o.agent) ++ view_text view o) ++ line_end

unfoldable pub printed : View → ℕ → Bool → Outcome → List ℕ
printed view n is_bad o = choose is_bad (bad_text n) (fields_text view n o)
