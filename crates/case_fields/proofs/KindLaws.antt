-- Laws of a frame's fields: the code's row is the table's, and a kind's length and frame by its number. Assumes nothing.
use mathlib.Core.Bool.{Bool, true, false}
use mathlib.Core.Path.{◌≡◌, refl, sym}
use mathlib.Core.List.{List, [], ◌∷◌}
use Prim.Native.Nat.{ℕ, zero, suc, ◌≤◌}
use native.Mathlib.Omega.{arith}
use borrow.Author.Tests.{leb-true, leb-false, ne_eqb}
use lib.Dec.{leb}
use lib.ListN.{length, get_or}
use Rattle.base.proofs.Interval.{holds}
use Rattle.fields.specs.Fields.{laid, widths, total}
use Rattle.fields.proofs.Tables.{length_laid}
use Rattle.frame_kinds.specs.Kinds.{tail_of}
use Rattle.frame_kinds.specs.declared.kinds.Frame.{Frame}
use Rattle.frame_kinds.specs.declared.kinds.Frame.TheVariants.{Sync, SafeRead, SafeWrite, PlainRead, PlainWrite, SafeResponse, PlainSyncResponse, PlainResponse, TidAssignment, SidAssignment, SidAssignment4, Acknowledgement, Invariants}
use Rattle.case_fields.specs.Kinds.{row_of, invariants_at, frame_at, lengths}

-- the fields of a frame are short
pub rows : (f : Frame) → (total (widths (row_of f).1) ≤ 28) × (total (widths (tail_of f)) ≤ 1)
rows (Sync src cyc) = omega arith
rows (SafeRead dest src cyc seq datl add) = omega arith
rows (SafeWrite dest src cyc seq datl add) = omega arith
rows (PlainRead src datl add) = omega arith
rows (PlainWrite src datl add) = omega arith
rows (SafeResponse dest src cyc seq «com» datl add stat) = omega arith
rows (PlainSyncResponse src datl add stat) = omega arith
rows (PlainResponse src «com» datl add) = omega arith
rows (TidAssignment src iid tid) = omega arith
rows (SidAssignment src sec mac sid) = omega arith
rows (SidAssignment4 src sec mac sid sid2 src2) = omega arith
rows (Acknowledgement src dst sec mac) = omega arith
rows (Invariants dest src cyc seq config logic) = omega arith

pub fields_short : (f : Frame) (fs : List (ℕ × ℕ)) → fs ≡ (row_of f).1 → length (laid fs) ≤ 28
fields_short f fs e = rw e (omega (arith, length_laid (row_of f).1, (rows f).0))

pub tail_short : (f : Frame) → length (laid (tail_of f)) ≤ 1
tail_short f = omega (arith, length_laid (tail_of f), (rows f).1)

-- past the last kind there are none
none_past : (xs : List ℕ) (k : ℕ) → length xs ≤ k → 0 ≡ get_or xs k 0
none_past [] zero h = refl
none_past [] (suc k) h = refl
none_past (x ∷ xs) zero h = absurd (omega arith)
none_past (x ∷ xs) (suc k) h = none_past xs k (omega arith)

pub length_most : (k : ℕ) → get_or lengths k 0 ≤ 28
length_most k = by (leb (suc k) 13) refl
  where
    by : (t : Bool) → leb (suc k) 13 ≡ t → get_or lengths k 0 ≤ 28
    by true e = leb-true (get_or lengths k 0) 28 (sym (holds (λ n. leb (get_or lengths n 0) 28) 0 13 tt k (omega arith) (omega (arith, leb-true (suc k) 13 e))))
    by false e = rw (← none_past lengths k (omega (arith, leb-false (suc k) 13 e))) (omega arith)

-- none of the first n kinds; past the first twelve it is the last
abbrev Beyond : ℕ → ℕ → Type 0
Beyond k zero = Unit
Beyond k (suc n) = Beyond k n × (k ≡ n → ⊥)

pub last_frame : (k : ℕ) (s : List ℕ) → Beyond k 12 → invariants_at s ≡ frame_at k s
unfolding frame_at
last_frame k s b =
    rw (
      ne_eqb k 0 b.0.0.0.0.0.0.0.0.0.0.0.1,
      ne_eqb k 1 b.0.0.0.0.0.0.0.0.0.0.1,
      ne_eqb k 2 b.0.0.0.0.0.0.0.0.0.1,
      ne_eqb k 3 b.0.0.0.0.0.0.0.0.1,
      ne_eqb k 4 b.0.0.0.0.0.0.0.1,
      ne_eqb k 5 b.0.0.0.0.0.0.1,
      ne_eqb k 6 b.0.0.0.0.0.1,
      ne_eqb k 7 b.0.0.0.0.1,
      ne_eqb k 8 b.0.0.0.1,
      ne_eqb k 9 b.0.0.1,
      ne_eqb k 10 b.0.1,
      ne_eqb k 11 b.1,
    )
