-- Laws of words: a turn of each loop, and a word as a part of its line. Assumes nothing.
use mathlib.Core.Path.{◌≡◌, refl, sym, ap, ap₂, ◌∙◌}
use mathlib.Core.Bool.{Bool, true, false, cond}
use mathlib.Core.List.{List, [], ◌∷◌}
use Prim.Native.Nat.{ℕ, suc, ◌+◌, ◌-◌, ◌≤◌, ◌<◌}
use native.Mathlib.Omega.{arith}
use native.Mathlib.Numerals.{add-one}
use borrow.Author.Tests.{eq-eqb, ne_eqb, eqb-true, eqb-false, ltb-false}
use lib.Dec.{eqb, ltb}
use Rattle.base.proofs.Choosing.{and_parts, never}
use lib.ListN.{length, take, drop, get_or, length-drop, drop_of_length-le}
use lib.Pointwise.{pointwise}
use lib.Seq.{drop-cons, length-take-le}
use Rattle.base.specs.Choice.{choose}
use Rattle.std.specs.Option.{unwrap_or}
use Rattle.std.specs.List.{position, position_or_len, starts_with}
use Rattle.std.proofs.lemmas.List.Recursion.{is_position_or_len}
use Rattle.frame_words.specs.Words.{word_in, word_at, word_end, starts, same}

-- ---- the word at a place
module _ (s : List ℕ) (i : ℕ) where
  pub word_none : length s ≤ i → word_at s i ≡ []
  unfolding word_in
  word_none h = rw drop_of_length-le

  pub word_space : i < length s → get_or s i 0 ≡ 0x20 → word_at s i ≡ []
  unfolding word_in
  word_space h e = rw (drop-cons s i 0, eq-eqb _ _ e)

  pub word_more : i < length s → (get_or s i 0 ≡ 0x20 → ⊥) → word_at s i ≡ get_or s i 0 ∷ word_at s (i + 1)
  unfolding word_in
  word_more h e = rw (drop-cons s i 0, ne_eqb _ _ e, add-one)

-- a word is the first part of what it is read from
first_part : (s : List ℕ) → take (length (word_in s)) s ≡ word_in s
unfolding word_in
first_part [] = refl
first_part (c ∷ cs) = by (eqb c 0x20) (first_part cs)
  where
    by : (t : Bool) → take (length (word_in cs)) cs ≡ word_in cs → take (length (choose t [] (c ∷ word_in cs))) (c ∷ cs) ≡ choose t [] (c ∷ word_in cs)
    by true e = refl
    by false e = ap (λ (l : List ℕ). c ∷ l) e

pub shorter : (s : List ℕ) → length (word_in s) ≤ length s
unfolding word_in
shorter [] = omega arith
shorter (c ∷ cs) = by (eqb c 0x20) (shorter cs)
  where
    by : (t : Bool) → length (word_in cs) ≤ length cs → length (choose t [] (c ∷ word_in cs)) ≤ suc (length cs)
    by true h = omega arith
    by false h = omega arith

pub word_part : (s : List ℕ) (i : ℕ) → take (word_end s i - i) (drop i s) ≡ word_at s i
word_part s i = let e : word_end s i - i ≡ length (word_at s i) = omega arith in rw e (first_part (drop i s))

pub word_within : (s : List ℕ) (i : ℕ) → i ≤ length s → word_end s i ≤ length s
word_within s i h = omega (arith, shorter (drop i s), length-drop i s)

none : length (word_in []) ≡ 0
unfolding word_in
none = refl

more : (c : ℕ) (cs : List ℕ) → length (word_in (c ∷ cs)) ≡ cond (eqb c 0x20) 0 (1 + length (word_in cs))
unfolding word_in
more c cs = by (eqb c 0x20)
  where
    by : (t : Bool) → length (choose t [] (c ∷ word_in cs)) ≡ cond t 0 (1 + length (word_in cs))
    by true = refl
    by false = omega arith

-- how many characters a word has, as the library counts them
pub word_length : (s : List ℕ) → unwrap_or (position (λ c. eqb c 0x20) s) (length s) ≡ length (word_in s)
word_length s = by (ltb (position_or_len (λ c. eqb c 0x20) s) (length s)) refl
  where
    n : ℕ
    n = position_or_len (λ c. eqb c 0x20) s

    e : length (word_in s) ≡ n
    e = is_position_or_len (λ l. length (word_in l)) (λ c. eqb c 0x20) none more s

    by : (t : Bool) → ltb n (length s) ≡ t → unwrap_or (position (λ c. eqb c 0x20) s) (length s) ≡ length (word_in s)
    by true t = rw t (sym e)
    by false t = rw t (omega (arith, ltb-false n (length s) t, e, shorter s))

eqb_turned : (a b : ℕ) → eqb a b ≡ eqb b a
eqb_turned a b = by (eqb a b) refl
  where
    by : (t : Bool) → eqb a b ≡ t → eqb a b ≡ eqb b a
    by true t = t ∙ sym (eq-eqb b a (sym (eqb-true a b t)))
    by false t = t ∙ sym (ne_eqb b a (λ e. eqb-false a b t (sym e)))

-- ---- what a text starts with, as the library tells it
pub starts_is : (s p : List ℕ) → starts_with eqb s p ≡ starts s p
unfolding starts
starts_is s [] = refl
starts_is [] (q ∷ p) = refl
starts_is (c ∷ s) (q ∷ p) = rw (eqb_turned q c, starts_is s p)

pub prefix_is : (s p : List ℕ) → pointwise eqb (take (length p) s) p ≡ starts s p
unfolding starts
prefix_is s [] = refl
prefix_is [] (q ∷ p) = refl
prefix_is (c ∷ s) (q ∷ p) = rw (prefix_is s p)

-- whether two texts are the same
starts_self : (s : List ℕ) → starts s s ≡ true
unfolding starts
starts_self [] = refl
starts_self (c ∷ s) = rw (eq-eqb c c refl, starts_self s)

same_self : (s : List ℕ) → same s s ≡ true
unfolding same
same_self s = rw (starts_self s, eq-eqb (length s) (length s) refl)

-- a text that starts with another of its length is that other
starts_eq : (s p : List ℕ) → starts s p ≡ true → length s ≡ length p → s ≡ p
unfolding starts
starts_eq [] [] e h = refl
starts_eq (c ∷ s) [] e h = absurd (omega arith)
starts_eq [] (q ∷ p) e h = absurd (omega arith)
starts_eq (c ∷ s) (q ∷ p) e h =
    let x = and_parts (eqb c q) (starts s p) e in
    ap₂ (λ (a : ℕ) (l : List ℕ). a ∷ l) (eqb-true c q x.0) (starts_eq s p x.1 (omega arith))

same_eq : (s p : List ℕ) → same s p ≡ true → s ≡ p
unfolding same
same_eq s p e =
    let x = and_parts (starts s p) (eqb (length s) (length p)) e in
    starts_eq s p x.0 (eqb-true (length s) (length p) x.1)

pub same_is : (s p : List ℕ) → s ≡ p → true ≡ same s p
same_is s p e = sym (ap (same s) (sym e) ∙ same_self s)

pub same_not : (s p : List ℕ) → (s ≡ p → ⊥) → false ≡ same s p
same_not s p e = by (same s p) refl
  where
    by : (t : Bool) → same s p ≡ t → false ≡ same s p
    by true t = absurd (e (same_eq s p t))
    by false t = sym t

-- as the library compares them
pub same_told : (s p : List ℕ) → true ≡ pointwise eqb s p → s ≡ p
same_told [] [] e = refl
same_told [] (q ∷ p) e = never (sym e)
same_told (c ∷ s) [] e = never (sym e)
same_told (c ∷ s) (q ∷ p) e =
    let x = and_parts (eqb c q) (pointwise eqb s p) (sym e) in
    ap₂ (λ (a : ℕ) (l : List ℕ). a ∷ l) (eqb-true c q x.0) (same_told s p (sym x.1))

told_self : (s : List ℕ) → pointwise eqb s s ≡ true
told_self [] = refl
told_self (c ∷ s) = rw (eq-eqb c c refl, told_self s)

pub same_pointwise : (s p : List ℕ) → pointwise eqb s p ≡ same s p
same_pointwise s p = by (pointwise eqb s p) refl
  where
    by : (t : Bool) → pointwise eqb s p ≡ t → pointwise eqb s p ≡ same s p
    by true t = t ∙ same_is s p (same_told s p (sym t))
    by false t = t ∙ same_not s p (λ e. never (sym t ∙ ap (pointwise eqb s) (sym e) ∙ told_self s))

-- ---- lengths
pub word_shorter : (s : List ℕ) (i : ℕ) → length (word_at s i) ≤ length s
word_shorter s i = omega (arith, shorter (drop i s), length-drop i s)

pub word_first : (s : List ℕ) (e : ℕ) → e ≡ word_end s 0 → take e s ≡ word_at s 0
word_first s e p = let q : word_end s 0 ≡ length (word_at s 0) = omega arith in rw (p, q) (first_part s)

-- the first word as a part of its line
pub first_length : (s : List ℕ) (e : ℕ) → e ≡ word_end s 0 → e ≡ length (take e s)
first_length s e p = sym (length-take-le e s (omega (arith, word_within s 0 (omega arith))))
