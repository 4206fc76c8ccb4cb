-- Laws of lines: the characters before the first LF and behind it, where it is, and characters added to a line. Assumes nothing.
use mathlib.Core.Path.{◌≡◌, refl, sym, ap, ap₂, ◌∙◌}
use mathlib.Core.Bool.{Bool, true, false}
use mathlib.Core.List.{List, [], ◌∷◌, ◌++◌}
use Prim.Native.Nat.{ℕ, ◌+◌, ◌-◌, ◌≤◌}
use native.Mathlib.Omega.{arith}
use borrow.Author.Tests.{eq-eqb, ne_eqb, eqb-true, eqb-false, lt-ltb, le-ltb}
use borrow.Rule.Slice.PartMut.{put_mid}
use lib.Dec.{eqb}
use lib.ListN.{length, take, drop, length-append}
use Rattle.std.proofs.Math.Seq.{take-append-add, drop-append-add}
use Rattle.std.proofs.lemmas.List.{length-take-le, take_at, take_min}
use Rattle.std.proofs.lemmas.Slice.{take-put_mid}
use Rattle.std.specs.List.{position, position_or_len}
use Rattle.std.specs.Prelude.{None, Some, min}
use Rattle.base.proofs.Choosing.{choose_true, choose_false, never}
use Rattle.text.specs.Lines.{is_end, before_end, has_end, after_end}

-- ---- one byte more
pub end_other : (c : ℕ) (cs : List ℕ) → (c ≡ 0x0A → ⊥) → before_end (c ∷ cs) ≡ c ∷ before_end cs
unfolding before_end
end_other c cs n = simp (ne_eqb _ _ n)

pub end_lf : (c : ℕ) (cs : List ℕ) → c ≡ 0x0A → before_end (c ∷ cs) ≡ []
unfolding before_end
end_lf c cs e = simp (eq-eqb _ _ e)

record Split (s : List ℕ) (found : Bool) (before after : List ℕ) : Type 0 where
  has : has_end s ≡ found
  front : before_end s ≡ before
  behind : after_end s ≡ after

lf : (c : ℕ) (s : List ℕ) → c ≡ 0x0A → Split (c ∷ s) true [] s
unfolding has_end after_end
lf c s e = record {
  has = choose_true _ _ (eq-eqb c 0x0A e);
  front = end_lf c s e;
  behind = choose_true _ _ (eq-eqb c 0x0A e);
}

other : (c : ℕ) (s : List ℕ) → (c ≡ 0x0A → ⊥) → Split (c ∷ s) (has_end s) (c ∷ before_end s) (after_end s)
unfolding has_end after_end
other c s n = record {
  has = choose_false _ _ (ne_eqb c 0x0A n);
  front = end_other c s n;
  behind = choose_false _ _ (ne_eqb c 0x0A n);
}

-- ---- bytes with the end of a line, and without one
pub ends_so : (s : List ℕ) → has_end s ≡ true → s ≡ before_end s ++ (0x0A ∷ after_end s)
unfolding has_end
ends_so [] h = never h
ends_so (c ∷ s) h = by (λ k. ends_so s k) (eqb c 0x0A) refl
  where
    by : (has_end s ≡ true → s ≡ before_end s ++ (0x0A ∷ after_end s)) → (t : Bool) → eqb c 0x0A ≡ t → c ∷ s ≡ before_end (c ∷ s) ++ (0x0A ∷ after_end (c ∷ s))
    by r true e =
        let q = lf c s (eqb-true _ _ e) in
        ap (λ (x : ℕ). x ∷ s) (eqb-true _ _ e) ∙ ap₂ (λ (x y : List ℕ). x ++ (0x0A ∷ y)) (sym q.front) (sym q.behind)
    by r false e =
        let q = other c s (eqb-false _ _ e) in
        ap (λ (t : List ℕ). c ∷ t) (r (sym q.has ∙ h)) ∙ ap₂ (λ (x y : List ℕ). x ++ (0x0A ∷ y)) (sym q.front) (sym q.behind)

pub goes_on_so : (s : List ℕ) → has_end s ≡ false → (before_end s ≡ s) × (after_end s ≡ [])
unfolding has_end after_end before_end
goes_on_so [] h = (refl, refl)
goes_on_so (c ∷ s) h = by (λ k. goes_on_so s k) (eqb c 0x0A) refl
  where
    by : (has_end s ≡ false → (before_end s ≡ s) × (after_end s ≡ [])) → (t : Bool) → eqb c 0x0A ≡ t → (before_end (c ∷ s) ≡ c ∷ s) × (after_end (c ∷ s) ≡ [])
    by r true e = never (sym h ∙ (lf c s (eqb-true _ _ e)).has)
    by r false e =
        let q = other c s (eqb-false _ _ e) in
        let k = r (sym q.has ∙ h) in
        (q.front ∙ ap (λ (t : List ℕ). c ∷ t) k.0, q.behind ∙ k.1)

-- ---- where it is
before_len : (s : List ℕ) → position_or_len is_end s ≡ length (before_end s)
unfolding before_end
before_len [] = refl
before_len (c ∷ s) = by (before_len s) (eqb c 0x0A) refl
  where
    by : position_or_len is_end s ≡ length (before_end s) → (t : Bool) → eqb c 0x0A ≡ t → position_or_len is_end (c ∷ s) ≡ length (before_end (c ∷ s))
    by r true e = rw e refl
    by r false e = rw e (ap (λ (n : ℕ). 1 + n) r ∙ omega arith)

position_so : (s : List ℕ) → has_end s ≡ true → position is_end s ≡ Some (length (before_end s))
position_so s h =
    let n : length s ≡ length (before_end s) + (length (after_end s) + 1) = ap length (ends_so s h) ∙ length-append (before_end s) (0x0A ∷ after_end s) ∙ omega arith in
    simp (before_len s, lt-ltb (length (before_end s)) (length s) (omega (arith, n)))

no_position : (s : List ℕ) → has_end s ≡ false → position is_end s ≡ None
no_position s h =
    let n : length (before_end s) ≡ length s = ap length (goes_on_so s h).0 in
    simp (before_len s, le-ltb (length (before_end s)) (length s) (omega (arith, n)))

-- what an index says of the bytes
pub record FoundAt (s : List ℕ) (n : ℕ) : Type 0 where
  pub has : has_end s ≡ true
  pub front : take n s ≡ before_end s
  pub behind : drop (n + 1) s ≡ after_end s

pub found_at : (s : List ℕ) (n : ℕ) → Some n ≡ position is_end s → FoundAt s n
found_at s n e = by (has_end s) refl
  where
    by : (t : Bool) → has_end s ≡ t → FoundAt s n
    by true h =
        let k : n ≡ length (before_end s) = (let q : Some n ≡ Some (length (before_end s)) = e ∙ position_so s h in cc) in
        record {
          has = h;
          front = ap₂ take k (ends_so s h) ∙ take_at (before_end s) (0x0A ∷ after_end s) (length (before_end s)) refl;
          behind = ap₂ (λ (m : ℕ) (t : List ℕ). drop (m + 1) t) k (ends_so s h) ∙ drop-append-add (before_end s) (0x0A ∷ after_end s) 1;
        }
    by false h = absurd (let q : ◌≡◌ {A = _} (Some n) None = e ∙ no_position s h in cc)

pub found_none : (s : List ℕ) → None ≡ position is_end s → has_end s ≡ false
found_none s e = by (has_end s) refl
  where
    by : (t : Bool) → has_end s ≡ t → has_end s ≡ false
    by true h = absurd (let q : ◌≡◌ {A = _} None (Some (length (before_end s))) = e ∙ position_so s h in cc)
    by false h = h

-- ---- characters added behind the first of a line, as far as there is room
pub added : (line chars : List ℕ) (len n k : ℕ) → len ≤ length line → n ≡ min (length line - len) (length chars)
    → take (len + n) (put_mid len k line (take n chars)) ≡ take (length line) (take len line ++ chars)
added line chars len n k h e =
    let l : length (take len line) ≡ len = length-take-le len line h in
    let r : length line ≡ length (take len line) + (length line - len) = omega (arith, l) in
    take-put_mid len k line (take n chars) (len + n) (omega (arith, length-take-le n chars (omega (arith, e)))) h
    ∙ ap (λ (t : List ℕ). take len line ++ t) (ap (λ (m : ℕ). take m chars) e ∙ take_min (length line - len) chars)
    ∙ sym (ap (λ (m : ℕ). take m (take len line ++ chars)) r ∙ take-append-add (take len line) chars (length line - len))
