-- The kind, the fields and STAT of a frame, cut from the text of them. Assumes nothing.
use mathlib.Core.Path.{◌≡◌, refl, ap, ap₂, ◌∙◌}
use mathlib.Core.List.{List, [], ◌∷◌, ◌++◌, append-nil}
use Prim.Native.Nat.{ℕ, ◌+◌, ◌-◌, ◌≤◌}
use native.Mathlib.Omega.{arith}
use lib.ListN.{length, take, drop, length-append}
use lib.Seq.{take_at, drop_at}
use Rattle.fields.specs.Fields.{laid}
use Rattle.frame_kinds.specs.Kinds.{tail_of}
use Rattle.frame_kinds.specs.declared.kinds.Frame.{Frame}
use Rattle.frame_words.specs.Texts.{puts}
use Rattle.frame_words.proofs.TextLaws.{pieces_are}
use Rattle.case_fields.specs.Kinds.{row_of}
use Rattle.case_fields.proofs.KindLaws.{fields_short, tail_short}

module _ (f : Frame) (none text s : List ℕ) (z : none ≡ []) (d : text ≡ puts none (((row_of f).0 ∷ []) ∷ laid (row_of f).1 ∷ laid (tail_of f) ∷ [])) (e : s ≡ text) where
  abbrev fields : List ℕ
  fields = laid (row_of f).1

  abbrev stat : List ℕ
  stat = laid (tail_of f)

  whole : s ≡ (row_of f).0 ∷ (fields ++ stat)
  whole =
      let ss : List (List ℕ) = ((row_of f).0 ∷ []) ∷ fields ∷ stat ∷ [] in
      let b = fields_short f (row_of f).1 refl in
      let c = tail_short f in
      e ∙ d ∙ ap (λ (t : List ℕ). puts t ss) z ∙ pieces_are ss (omega (arith, b, c, length-append fields (stat ++ []), length-append stat []))
      ∙ ap (λ (u : List ℕ). (row_of f).0 ∷ (fields ++ u)) (append-nil stat)

  pub kind_within : 1 ≤ length s
  kind_within = omega (arith, ap length whole)

  module _ (rest : List ℕ) (p : rest ≡ drop 1 s) (n : ℕ) (h : n ≡ 0 + length (laid (tail_of f))) where
    behind : rest ≡ fields ++ stat
    behind = p ∙ ap (drop 1) whole

    long : length rest ≡ length fields + n
    long = omega (arith, ap length behind, length-append fields stat, h)

    pub stat_within : n ≤ length rest
    stat_within = omega (arith, long)

    pub parts : (kind mid last : List ℕ) → kind ≡ take 1 s → mid ≡ take (length rest - n) rest → last ≡ drop (length rest - n) rest
        → kind ∷ mid ∷ last ∷ [] ≡ ((row_of f).0 ∷ []) ∷ laid (row_of f).1 ∷ laid (tail_of f) ∷ []
    parts kind mid last a b c =
        let m : length rest - n ≡ length fields = omega (arith, long) in
        let first : kind ≡ (row_of f).0 ∷ [] = a ∙ ap (take 1) whole in
        let second : mid ≡ fields = b ∙ ap₂ take m behind ∙ take_at fields stat (length fields) refl in
        let third : last ≡ stat = c ∙ ap₂ drop m behind ∙ drop_at fields stat (length fields) refl in
        ap₂ (λ (x : List ℕ) (ys : List (List ℕ)). x ∷ ys) first (ap₂ (λ (x y : List ℕ). x ∷ y ∷ []) second third)
