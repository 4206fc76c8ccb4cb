-- A field more, and the room for it. Assumes nothing.
use Rattle.std.proofs.Common.{◌≡◌, ◌+◌, ◌<◌, ◌∙◌, ℕ, List, ◌++◌, length, drop, slice_index_or, sym, ap, ap₂, arith, length-append}
use Rattle.std.proofs.lemmas.List.Edits.{sets}
use native.Mathlib.Numerals.{add-one}
use lib.Seq.{drop-cons}
use Rattle.base.specs.Bytes.{bytes_of}
use Rattle.base.proofs.Numbers.{length_bytes_of}
use Rattle.base.proofs.Sets.{sets_append}
use Rattle.fields.specs.Fields.{laid}
use Rattle.frame_kinds.proofs.putting.put_fields.Goals as goal

module _ (fields : List (ℕ × ℕ)) (i : ℕ) (h : i < length fields) where
  abbrev field : ℕ × ℕ
  field = slice_index_or fields i (0, 0)

  abbrev rest : List (ℕ × ℕ)
  rest = drop (i + 1) fields

  laid_is : laid (drop i fields) ≡ bytes_of field.0 field.1 ++ laid rest
  unfolding laid
  laid_is = rw (drop-cons fields i (0, 0) h, add-one)

  longer : length (laid (drop i fields)) ≡ field.0 + length (laid rest)
  longer = ap length laid_is ∙ length-append (bytes_of field.0 field.1) (laid rest) ∙ ap (λ (k : ℕ). k + length (laid rest)) (length_bytes_of field.0 field.1)

  turn : (d m z : List ℕ) (to next : ℕ) → next ≡ to + field.0 → m ≡ sets d to (bytes_of field.0 field.1) → sets d to (laid (drop i fields)) ≡ z
      → sets m next (laid rest) ≡ z
  turn d m z to next p q r =
      ap₂ (λ (l : List ℕ) (k : ℕ). sets l k (laid rest)) q
      (p ∙ ap (λ (k : ℕ). to + k) (sym (length_bytes_of field.0 field.1)))
      ∙ sym (sets_append d to (bytes_of field.0 field.1) (laid rest)) ∙ ap (sets d to) (sym laid_is) ∙ r

pub put_number-to-requires : goal.put_number-to-requires
put_number-to-requires c =
    let l = c.loop-width in
    omega (arith, longer c.args.fields.now l.width-index c.loop-width-test.true, c.from.ensures, l.auto.dst, l.invariant.place, c.requires)

pub loop-width-preserved : goal.loop-width-preserved
loop-width-preserved c =
    let l = c.loop-width in
    let h = c.loop-width-test.true in
    let p = c.put_number-to.ensures in
    record {
      within = omega arith;
      place = omega (arith, longer c.args.fields.now l.width-index h, c.from.ensures, p.next, l.invariant.place);
      put =
          turn c.args.fields.now l.width-index h l.dst _ _ l.to _ (p.next ∙ ap (λ (k : ℕ). l.to + k) c.from.ensures)
          (p.stored ∙ ap (λ (w : ℕ). sets l.dst l.to (bytes_of w (slice_index_or c.args.fields.now l.width-index (0, 0)).1)) c.from.ensures) l.invariant.put;
    }
