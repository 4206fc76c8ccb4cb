-- What is printed for a cycle. Assumes nothing.
use Rattle.std.specs.Prelude.{List, [], ◌∷◌, ◌++◌, ℕ, eqb}
use Rattle.base.specs.Choice.{choose}
use Rattle.text.specs.Decimal.{decimal_text}
use Rattle.load_text.specs.Shares.{quotient, remainder}
use Rattle.load_text.specs.declared.Cycle.{Cycle}

-- "three decimal numbers, a space between: the number of its first line, then" the quotient and the remainder; the first two,
-- each with its space
unfoldable pub front_text : Cycle → List ℕ
front_text c = ((decimal_text c.first ++ (0x20 ∷ [])) ++ decimal_text (quotient c.bytes c.tcyc)) ++ (0x20 ∷ [])

-- "for each cycle of a script ... one line"
unfoldable pub cycle_text : Cycle → List ℕ
cycle_text c = (front_text c ++ decimal_text (remainder c.bytes c.tcyc)) ++ (0x0A ∷ [])

-- ---- the steps of the code
-- no cycle is open: TCYC of a module is never 0
abbrev pub no_cycle : Cycle
no_cycle = record { first = 0; bytes = 0; tcyc = 0 }

-- the text of the cycle that is open; none if none is
unfoldable pub open_text : Cycle → List ℕ
open_text c = choose (eqb c.tcyc 0) [] (cycle_text c)
