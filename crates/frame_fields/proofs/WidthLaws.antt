-- The fields of a line are fields of the frame's tables, in the tables' order, two hex digits for each byte: what the table
-- of a line says of digits is what `head_of` and `tail_of` say of widths. Assumes nothing.
use mathlib.Core.List.{List, [], ◌∷◌, ◌++◌}
use Prim.Native.Nat.{ℕ, ◌*◌}
use Rattle.frame_kinds.specs.Kinds.{head_of, tail_of}
use Rattle.frame_kinds.specs.declared.kinds.Frame.{Frame}
use Rattle.frame_kinds.specs.declared.kinds.Frame.TheVariants.{Sync, SafeRead, SafeWrite, PlainRead, PlainWrite, SafeResponse, PlainSyncResponse, PlainResponse, TidAssignment, SidAssignment, SidAssignment4, Acknowledgement, Invariants}
use Rattle.frame_words.specs.Table.{Field, fields_of}
use Rattle.frame_fields.specs.Numbers.{kind_of, numbers_of}

-- the digits and the number of each field of a line
abbrev in_line : List Field → List ℕ → List (ℕ × ℕ)
in_line [] vs = []
in_line (f ∷ fs) [] = []
in_line (f ∷ fs) (v ∷ vs) = (f.1, v) ∷ in_line fs vs

-- the digits and the number of each field of a frame for an address
abbrev in_digits : List (ℕ × ℕ) → List (ℕ × ℕ)
in_digits [] = []
in_digits (f ∷ fs) = (f.0 * 2, f.1) ∷ in_digits fs

abbrev in_tables : ℕ → Frame → List (ℕ × ℕ)
in_tables a f = (2, a) ∷ in_digits (head_of f ++ tail_of f)

-- some of a list, in its order
pub data Among : List (ℕ × ℕ) → List (ℕ × ℕ) → Type 0 where
  none : Among [] []
  skip : {x : ℕ × ℕ} {xs ys : List (ℕ × ℕ)} → Among xs ys → Among xs (x ∷ ys)
  keep : {x : ℕ × ℕ} {xs ys : List (ℕ × ℕ)} → Among xs ys → Among (x ∷ xs) (x ∷ ys)

-- a line has no TYP, no COM that the kind fixes, and DATL only of a read, as len=; a sync has no address there
pub widths_tied : (a : ℕ) (f : Frame) → Among (in_line (fields_of (kind_of f)) (numbers_of a f)) (in_tables a f)
widths_tied a (Sync src cyc) = skip (skip (keep (keep none)))
widths_tied a (SafeRead dest src cyc seq datl add) = keep (skip (keep (keep (keep (keep (skip (keep (keep none))))))))
widths_tied a (SafeWrite dest src cyc seq datl add) = keep (skip (keep (keep (keep (keep (skip (skip (keep none))))))))
widths_tied a (PlainRead src datl add) = keep (skip (keep (skip (keep (keep none)))))
widths_tied a (PlainWrite src datl add) = keep (skip (keep (skip (skip (keep none)))))
widths_tied a (SafeResponse dest src cyc seq «com» datl add stat) = keep (skip (keep (keep (keep (keep (keep (skip (keep (keep none)))))))))
widths_tied a (PlainSyncResponse src datl add stat) = keep (skip (keep (skip (skip (keep (keep none))))))
widths_tied a (PlainResponse src «com» datl add) = keep (skip (keep (keep (skip (keep none)))))
widths_tied a (TidAssignment src iid tid) = keep (skip (keep (keep (keep none))))
widths_tied a (SidAssignment src sec mac sid) = keep (skip (keep (keep (keep (keep none)))))
widths_tied a (SidAssignment4 src sec mac sid sid2 src2) = keep (skip (keep (keep (keep (keep (keep (keep none)))))))
widths_tied a (Acknowledgement src dst sec mac) = keep (skip (keep (keep (keep (keep none)))))
widths_tied a (Invariants dest src cyc seq config logic) = keep (skip (keep (keep (keep (keep (keep (keep none)))))))
