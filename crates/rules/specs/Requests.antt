-- Safe request. Assumes nothing.
use Rattle.std.specs.Prelude.{not, ◌&&◌, ◌||◌, List, ℕ, ◌+◌, ◌-◌, ◌%◌, eqb, leb, ltb}
use Rattle.base.specs.Choice.{choose}
use Rattle.rules.specs.Answers.{source, addressee, cycle, repeat, out_of_order, too_many}
use Rattle.rules.specs.Fixed.{limit_of}
use Rattle.rules.specs.Marks.{sequence_marked, skip_marked}
use Rattle.rules.specs.Replies.{Deed, does, read_reply}
use Rattle.rules.specs.Sources.{sid_of}
use Rattle.rules.specs.State.{is_heard, nobody, with_taken}
use Rattle.rules.specs.Writes.{on_write}
use Rattle.rules.specs.declared.Agent.{Agent}

-- the first SEQ of a cycle is the complement of CYC plus one, modulo 256
abbrev pub first_seq : ℕ → ℕ
first_seq cyc = (255 - cyc + 1) % 256

-- d = SEQ minus the first SEQ, modulo 256
unfoldable pub distance : ℕ → ℕ → ℕ
distance seq cyc = (seq + 256 - first_seq cyc) % 256

-- what a request asks for
pub data Ask : Type 0 where
  reads : (datl add : ℕ) → Ask
  writes : (add : ℕ) → List ℕ → Ask

abbrev pub on_ask : ℕ → Agent → ℕ → ℕ → Ask → Deed
on_ask port a src seq (reads datl add) = read_reply port a src seq datl add
on_ask port a src seq (writes add xs) = on_write a add xs

-- how many numbers a request may skip
abbrev pub most_skipped : ℕ
most_skipped = 3

-- a request at the distance d is taken: the numbers from k to d - 1 are skipped, and k becomes d + 1
abbrev pub taken_at : ℕ → Agent → Agent
taken_at d a = with_taken (d + 1) (skip_marked (d - a.taken) a)

-- by the distance: below k is a repeat, a number skipped before too; above k + 3 is out of order; at the limit or past it is 15;
-- else the request is taken, even if its write is then refused
unfoldable pub on_distance : ℕ → Agent → ℕ → ℕ → ℕ → Ask → Deed
on_distance port a src seq d ask =
    choose (ltb d a.taken) (does repeat a)
    (choose (ltb (a.taken + most_skipped) d) (does out_of_order (sequence_marked a))
    (choose (leb (limit_of a) d) (does too_many a)
    (on_ask port (taken_at d a) src seq ask)))

-- 10 unless the source is that of the last accepted sync; 11 unless DEST is the own SID; 12 unless the cycle is heard and CYC = c
unfoldable pub on_request : ℕ → Agent → ℕ → ℕ → ℕ → ℕ → Ask → Deed
on_request port a dest src cyc seq ask =
    choose (eqb src nobody || not (eqb src a.last)) (does source a)
    (choose (not (eqb dest (sid_of a))) (does addressee a)
    (choose (not (eqb a.heard is_heard && eqb cyc a.cycle)) (does cycle (sequence_marked a))
    (on_distance port a src seq (distance seq cyc) ask)))
