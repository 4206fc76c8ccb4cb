-- The parts of application data, one after another: head, data, tail, and the safety CRC of a safe frame.
-- Assumes nothing.
use mathlib.Core.Path.{◌≡◌, refl, sym, ap, ap₂, ◌∙◌}
use mathlib.Core.Bool.{Bool, true, false}
use mathlib.Core.List.{List, [], ◌∷◌, ◌++◌, append_assoc, append-nil}
use Prim.Native.Nat.{ℕ, ◌+◌}
use native.Mathlib.Omega.{arith}
use lib.ListN.{length, take, drop, length-append}
use lib.Seq.{take_at, drop-append_seam}
use Rattle.base.specs.Choice.{choose}
use Rattle.base.specs.Bytes.{bytes_of}
use Rattle.base.proofs.Numbers.{length_bytes_of}
use Rattle.crc.specs.Crc.{crc_of, Safety}
use Rattle.fields.specs.Fields.{laid, fields_at, widths, total, Fitting}
use Rattle.fields.proofs.Tables.{length_laid, read_back, read_back_at}
use Rattle.frame_kinds.specs.Kinds.{head_of, tail_of, is_safe, data_len, data_place, data_start, data_in, sealed, app_of}
use Rattle.frame_kinds.specs.declared.kinds.Frame.{Frame}
use Rattle.frame_kinds.specs.declared.kinds.Frame.TheVariants.{Sync, SafeRead, SafeWrite, PlainRead, PlainWrite, SafeResponse, PlainSyncResponse, PlainResponse, TidAssignment, SidAssignment, SidAssignment4, Acknowledgement, Invariants}

-- fields put down one after another
pub laid_append : (fs gs : List (ℕ × ℕ)) → laid (fs ++ gs) ≡ laid fs ++ laid gs
unfolding laid
laid_append [] gs = refl
laid_append (f ∷ fs) gs = ap (λ (l : List ℕ). bytes_of f.0 f.1 ++ l) (laid_append fs gs) ∙ sym (append_assoc (bytes_of f.0 f.1) (laid fs) (laid gs))

-- what stands before the safety CRC, and the CRC of a safe frame
abbrev pub plain_app : Frame → List ℕ → List ℕ
plain_app f xs = laid (head_of f) ++ (xs ++ laid (tail_of f))

abbrev pub check_of : Bool → List ℕ → List ℕ
check_of safe ys = choose safe (bytes_of 2 (crc_of Safety ys)) []

-- the bytes of head, of tail and of the CRC
abbrev pub head_len : Frame → ℕ
head_len f = total (widths (head_of f))

abbrev pub tail_len : Frame → ℕ
tail_len f = total (widths (tail_of f))

abbrev pub check_len : Bool → ℕ
check_len safe = choose safe 2 0

-- the bytes of application data, with as many data bytes as the frame says
abbrev pub app_len : Frame → ℕ
app_len f = head_len f + data_len f + tail_len f + check_len (is_safe f)

ends_with : (safe : Bool) (ys : List ℕ) → choose safe (sealed ys) ys ≡ ys ++ check_of safe ys
unfolding sealed
ends_with true ys = refl
ends_with false ys = sym (append-nil ys)

check_length : (safe : Bool) (ys : List ℕ) → length (check_of safe ys) ≡ check_len safe
check_length true ys = length_bytes_of 2 (crc_of Safety ys)
check_length false ys = refl

module _ (f : Frame) (xs : List ℕ) where
  abbrev end : List ℕ
  end = check_of (is_safe f) (plain_app f xs)

  pub app_parts : app_of f xs ≡ laid (head_of f) ++ (xs ++ (laid (tail_of f) ++ end))
  unfolding app_of
  app_parts = ends_with (is_safe f) (plain_app f xs) ∙ simp append_assoc

  pub app_length : length xs ≡ data_len f → length (app_of f xs) ≡ app_len f
  app_length n =
      ap length app_parts
      ∙ simp (length-append, length_laid) (omega (arith, check_length (is_safe f) (plain_app f xs)))

  pub head_back : Fitting (head_of f) → fields_at (app_of f xs) 0 (widths (head_of f)) ≡ head_of f
  head_back h = rw app_parts (read_back (head_of f) (xs ++ (laid (tail_of f) ++ end)) h)

  pub tail_back : Fitting (tail_of f) → fields_at (app_of f xs) (head_len f + length xs) (widths (tail_of f)) ≡ tail_of f
  tail_back h =
      let x : List ℕ = laid (head_of f) ++ xs in
      let n : length x ≡ head_len f + length xs = length-append (laid (head_of f)) xs ∙ ap (λ (k : ℕ). k + length xs) (length_laid (head_of f)) in
      ap₂ (λ (s : List ℕ) (i : ℕ). fields_at s i (widths (tail_of f))) (app_parts ∙ sym (append_assoc (laid (head_of f)) xs (laid (tail_of f) ++ end))) (sym n)
      ∙ read_back_at x (tail_of f) end h

  pub data_back : length xs ≡ data_len f → data_in f (app_of f xs) ≡ xs
  unfolding data_place
  data_back e =
      ap (λ (s : List ℕ). take (data_len f) (drop (length (laid (head_of f))) s)) app_parts
      ∙ ap (take (data_len f)) (drop-append_seam (laid (head_of f)) (xs ++ (laid (tail_of f) ++ end)))
      ∙ take_at xs (laid (tail_of f) ++ end) (data_len f) e

-- where the data begin
pub data_at_lem : (f : Frame) (s : List ℕ) → take (data_len f) (drop (data_start f) s) ≡ data_in f s
unfolding data_place laid bytes_of
data_at_lem (Sync src cyc) s = refl
data_at_lem (SafeRead dest src cyc seq datl add) s = refl
data_at_lem (SafeWrite dest src cyc seq datl add) s = refl
data_at_lem (PlainRead src datl add) s = refl
data_at_lem (PlainWrite src datl add) s = refl
data_at_lem (SafeResponse dest src cyc seq «com» datl add stat) s = refl
data_at_lem (PlainSyncResponse src datl add stat) s = refl
data_at_lem (PlainResponse src «com» datl add) s = refl
data_at_lem (TidAssignment src iid tid) s = refl
data_at_lem (SidAssignment src sec mac sid) s = refl
data_at_lem (SidAssignment4 src sec mac sid sid2 src2) s = refl
data_at_lem (Acknowledgement src dst sec mac) s = refl
data_at_lem (Invariants dest src cyc seq config logic) s = refl
