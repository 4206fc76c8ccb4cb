-- A frame that the writer accepts is printed whole: its port, if there is one, then its body in hex digits. Assumes nothing.
use mathlib.Core.Path.{◌≡◌, refl, sym, ap, ◌∙◌}
use mathlib.Core.Bool.{true, false}
use mathlib.Core.List.{List, [], ◌∷◌, ◌++◌}
use Prim.Native.Nat.{ℕ, ◌≤◌}
use native.Mathlib.Omega.{arith}
use lib.ListN.{length, length-append}
use Rattle.text.specs.Putting.{hex_text}
use Rattle.text.proofs.PuttingLaws.{text_length}
use Rattle.wire.specs.Body.{reserved_addr, fcs_of}
use Rattle.laying.specs.Laying.{body_of}
use Rattle.laying.proofs.LayingLaws.{line_most, line_length}
use Rattle.frame_kinds.specs.Kinds.{app_of}
use Rattle.frame_kinds.specs.Sized.{Sized}
use Rattle.frame_writing.specs.Writing.{fits, frame_line}
use Rattle.frame_kinds.specs.declared.kinds.Frame.{Frame}
use Rattle.frame_writing.proofs.Sending.{sent}
use Rattle.frame_writing.proofs.WritingLaws.{app_bounds}
use Rattle.frame_words.specs.Texts.{room, put, end_line}
use Rattle.frame_words.proofs.TextLaws.{pieces_are}
use Rattle.frame_text.specs.Built.{frame_built}
use Rattle.frame_text.proofs.BuildingLaws.{built_by}

-- `port` is a port digit and a space, or nothing
pub built_whole : (port : List ℕ) (a : ℕ) (f : Frame) (xs : List ℕ) → length port ≤ 2 → Sized f → reserved_addr a ≡ false
    → fits a f (length xs) ≡ true
    → end_line (frame_built (put [] port) a f xs) ≡ port ++ (hex_text (body_of a (app_of f xs)) ++ (0x0A ∷ []))
built_whole port a f xs p z r h =
    let ys : List ℕ = app_of f xs in
    let m : length ys ≤ 269 = (app_bounds a f xs z h).1 in
    let most : length (frame_line a f xs) ≤ 600 = omega (arith, line_most (fcs_of a ys) a ys) in
    let b : length (body_of a ys) ≤ 543 = omega (arith, line_most (fcs_of a ys) a ys, line_length (fcs_of a ys) a ys) in
    let d : List ℕ = hex_text (body_of a ys) in
    let n : length (port ++ (d ++ (0x0A ∷ []))) ≤ room =
    omega (arith, text_length (body_of a ys), length-append port (d ++ (0x0A ∷ [])), length-append d (0x0A ∷ []))
    in
    ap end_line (sym (built_by a f xs (put [] port) _ _ (sent 600 a f xs r h most) refl))
    ∙ pieces_are (port ∷ d ∷ (0x0A ∷ []) ∷ []) n
