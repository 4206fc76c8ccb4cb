-- No frame is lost with its flags: bytes from 7Eh to 7Eh are not a body of a frame, since 7Eh is a reserved address.
-- Assumes nothing.
use mathlib.Core.Path.{◌≡◌, sym, ap, ◌∙◌}
use mathlib.Core.Bool.{Bool, true, ◌&&◌}
use mathlib.Core.List.{List}
use Prim.Native.Nat.{ℕ, ◌-◌}
use borrow.Author.Tests.{eqb-true}
use lib.Dec.{eqb, ltb}
use lib.ListN.{length, get_or}
use Rattle.base.specs.Bytes.{Bytes}
use Rattle.base.proofs.Choosing.{never, and_left, and_right}
use Rattle.wire.specs.Body.{reserved_addr}
use Rattle.laying.specs.Laying.{body_with}
use Rattle.frame_reading.specs.Reading.{read_frame}
use Rattle.frame_kinds.specs.declared.kinds.Frame.{Frame}
use Rattle.std.specs.Prelude.{Ok}
use Rattle.frame_writing.proofs.LineBothWays.{Sendable, read_frame_laid}
use Rattle.frame_text.specs.Explained.{is_flagged}

flag_first : (bs : List ℕ) → is_flagged bs ≡ true → get_or bs 0 0 ≡ 0x7E
unfolding is_flagged
flag_first bs e =
    let first : Bool = eqb (get_or bs 0 0) 0x7E in
    let last : Bool = eqb (get_or bs (length bs - 1) 0) 0x7E in
    eqb-true _ _ (and_left first last (and_right (ltb 1 (length bs)) (first && last) e))

flag_reserved : (a : ℕ) → a ≡ 0x7E → reserved_addr a ≡ true
unfolding reserved_addr
flag_reserved a e = rw e

address_first : (a : ℕ) (f : Frame) (d s : List ℕ) → Sendable a f d s → get_or s 0 0 ≡ a
unfolding body_with
address_first a f d s x = ap (λ (l : List ℕ). get_or l 0 0) x.laid

pub flagged_no_frame : (bs : List ℕ) (a : ℕ) (f : Frame) (ys : List ℕ) → Bytes bs → is_flagged bs ≡ true → read_frame bs ≡ Ok (a, f, ys) → ⊥
flagged_no_frame bs a f ys b e r =
    let x = read_frame_laid a f ys bs b r in
    never (sym x.free ∙ flag_reserved a (sym (address_first a f _ bs x) ∙ flag_first bs e))
