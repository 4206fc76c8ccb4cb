-- The reception window of a sync in RUN, and the mark of one that missed it (document 02, request 1). Assumes nothing.
use Rattle.std.specs.Prelude.{Bool, ℕ, ◌+◌, ◌/◌, ◌%◌, max, eqb, leb}
use Rattle.base.specs.Choice.{choose}
use Rattle.rules.specs.State.{is_marked, t_of}
use Rattle.rules.specs.declared.Agent.{Agent}

-- w: t / 8 rounded down, at least 1
unfoldable pub width : ℕ → ℕ
width t = max 1 (t / 8)

-- CYC = c + 1 needs e of at least t − w; CYC = c needs e of at most w
unfoldable pub in_window : Agent → ℕ → Bool
in_window a cyc =
    choose (eqb cyc ((a.cycle + 1) % 256)) (leb (t_of a) (a.elapsed + width (t_of a))) (leb a.elapsed (width (t_of a)))

-- the mark is set
abbrev pub marked : Agent → Bool
marked a = eqb a.mark is_marked
