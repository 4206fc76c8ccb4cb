-- The recorded concentrators: up to 8, the first `count` of the list. Assumes nothing.
use Rattle.std.specs.Prelude.{Bool, true, false, not, ◌&&◌, ◌||◌, List, ℕ, zero, suc, ◌+◌, eqb, ltb, get_or, set}
use Rattle.rules.specs.Registers.{sid_at, low_number}
use Rattle.rules.specs.State.{nobody, with_known}
use Rattle.rules.specs.declared.Agent.{Agent}

-- x is one of the first n
unfoldable pub holds : List ℕ → ℕ → ℕ → Bool
holds l zero x = false
holds l (suc n) x = holds l n x || eqb (get_or l n 0) x

-- the first n are distinct; none of them is FFFFFFh or more
unfoldable pub distinct : List ℕ → ℕ → Bool
distinct l zero = true
distinct l (suc n) = distinct l n && not (holds l n (get_or l n 0))

unfoldable pub below24 : List ℕ → ℕ → Bool
below24 l zero = true
below24 l (suc n) = below24 l n && ltb (get_or l n 0) nobody

unfoldable pub is_recorded : Agent → ℕ → Bool
is_recorded a x = holds a.known a.count x

-- one more is recorded
unfoldable pub recorded : ℕ → Agent → Agent
recorded x a = with_known (set a.known a.count x) (a.count + 1) a

-- the own SID
unfoldable pub sid_of : Agent → ℕ
sid_of a = low_number a.regs sid_at 3
