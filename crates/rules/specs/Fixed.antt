-- What is fixed at power-up, and when it is fit (document 02, request 6). Assumes nothing.
use Rattle.std.specs.Prelude.{Bool, ◌||◌, ℕ, eqb}
use Rattle.rules.specs.declared.Agent.{Agent}
use Rattle.rules.specs.declared.Fixed.{Fixed}

-- the limit of requests a cycle: 16 for lighting, 64 for doors and for the module of a script
abbrev pub lighting_limit : ℕ
lighting_limit = 16

abbrev pub doors_limit : ℕ
doors_limit = 64

abbrev pub is_limit : ℕ → Bool
is_limit n = eqb n lighting_limit || eqb n doors_limit

abbrev pub limit_of : Agent → ℕ
limit_of a = a.fixed.limit

-- what is fixed, by what power-up is given
abbrev pub fixed_by : ℕ → Fixed
fixed_by limit = record { limit = limit }

-- fit: the limit is one of the two
unfoldable pub fits : Fixed → Bool
fits f = is_limit f.limit
