-- Laws of a frame that is built: the line that was written, and the body in it. Assumes nothing.
use mathlib.Core.Path.{◌≡◌, ap, ◌∙◌}
use mathlib.Core.List.{List, ◌++◌}
use Prim.Native.Nat.{ℕ, ◌-◌, ◌≤◌}
use native.Mathlib.Omega.{arith}
use lib.ListN.{length, take, drop, length-append, length-drop}
use lib.Seq.{take-append-le, drop-append-le}
use Rattle.text.specs.Putting.{hex_text}
use Rattle.wire.specs.Body.{fcs_of}
use Rattle.std.specs.Prelude.{Ok}
use Rattle.laying.specs.Laying.{Laid, body_of, left_by}
use Rattle.laying.proofs.LayingLaws.{line_least, body_between}
use Rattle.frame_kinds.specs.Kinds.{app_of}
use Rattle.frame_writing.specs.Writing.{frame_line, written_of}
use Rattle.frame_kinds.specs.declared.kinds.Frame.{Frame}
use Rattle.frame_writing.proofs.Sending.{sent_says}
use Rattle.frame_words.specs.Texts.{put}
use Rattle.frame_text.specs.Built.{by_laid, frame_built}

module _ (a : ℕ) (f : Frame) (xs : List ℕ) where
  line : List ℕ
  line = frame_line a f xs

  least : 2 ≤ length (frame_line a f xs)
  least = omega (arith, line_least (fcs_of a (app_of f xs)) a (app_of f xs))

  between : (r : List ℕ) → take (length (frame_line a f xs) - 2) (drop 1 (frame_line a f xs ++ r)) ≡ body_of a (app_of f xs)
  between r =
      let l : List ℕ = frame_line a f xs in
      let h : 2 ≤ length l = least in
      let k : length l - 2 ≤ length (drop 1 l) = omega (arith, length-drop 1 l) in
      ap (take (length l - 2)) (drop-append-le 1 l r (omega arith)) ∙ take-append-le (length l - 2) (drop 1 l) r k
      ∙ body_between (fcs_of a (app_of f xs)) a (app_of f xs)

  module _ (n : ℕ) (e : written_of 600 a f xs ≡ Ok n) (buf out : List ℕ) (q : out ≡ left_by (Ok n) (frame_line a f xs) buf) where
    pub sent_within : (2 ≤ n) × (n ≤ length out)
    sent_within =
        let m = (sent_says 600 a f xs n e).2 in
        let l = ap length q ∙ length-append (frame_line a f xs) (drop n buf) in
        (omega (arith, m, least), omega (arith, m, l))

    pub built_sent : (t : List ℕ) → put t (hex_text (take (n - 2) (drop 1 out))) ≡ frame_built t a f xs
    unfolding frame_built
    built_sent t =
        rw (e, q, ← (sent_says 600 a f xs n e).2)
        (ap (λ (b : List ℕ). put t (hex_text b)) (between (drop (length (frame_line a f xs)) buf)))

  pub built_by : (t : List ℕ) (l : Laid) (r : List ℕ) → written_of 600 a f xs ≡ l → r ≡ by_laid t l (body_of a (app_of f xs))
      → r ≡ frame_built t a f xs
  unfolding frame_built
  built_by t l r e p = rw e p
