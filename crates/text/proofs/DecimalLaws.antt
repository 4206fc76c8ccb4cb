-- Laws of decimal numbers: a turn of each loop, and the answers of a reading. Assumes nothing.
use mathlib.Core.Path.{◌≡◌, refl, sym, ap, ◌∙◌}
use mathlib.Core.List.{List, [], ◌∷◌, ◌++◌, append_assoc}
use Rattle.std.specs.Prelude.{None, Some}
use Prim.Native.Nat.{ℕ, zero, suc, ◌+◌, ◌-◌, ◌*◌, ◌/◌, ◌%◌, ◌^◌, ◌≤◌, ◌<◌}
use native.Mathlib.Omega.{arith}
use native.Mathlib.Nat.{pow-suc}
use native.Mathlib.Numerals.{add-one}
use borrow.Author.Tests.{eq-eqb, ne_eqb, lt-ltb, le-ltb}
use lib.Dec.{eqb, ltb}
use lib.ListN.{length, drop, get_or, set, length-append, length-set}
use lib.Seq.{drop-cons, drop-set-lt, get_or-set_same}
use Rattle.base.proofs.Choosing.{by_test}
use Rattle.text.specs.Hex.{digit_value}
use Rattle.text.specs.Decimal.{digits_from, up_to, decimal_of, digits, decimal_text}

-- ---- reading
-- a number past the limit stays past it
pub past_limit : (limit n : ℕ) (cs : List ℕ) → limit < n → up_to limit (digits_from n cs) ≡ None
unfolding digits_from
past_limit limit n [] h = simp (lt-ltb _ _ h)
past_limit limit n (c ∷ cs) h =
    by_test (λ o. up_to limit o ≡ None) (ltb 9 (digit_value c)) (λ e. refl) (λ e. past_limit limit (n * 10 + digit_value c) cs (omega arith))

pub within_limit : (limit n : ℕ) → n ≤ limit → Some n ≡ up_to limit (digits_from n [])
unfolding digits_from
within_limit limit n h = simp (le-ltb _ _ h)

-- the rest of a line, a character fewer
module _ (s : List ℕ) (i d : ℕ) (h : i < length s) (q : d ≡ digit_value (get_or s i 0)) where
  pub digit_other : (n : ℕ) → 9 < d → digits_from n (drop i s) ≡ None
  unfolding digits_from
  digit_other n k = rw (drop-cons s i 0 h) (simp (← q, lt-ltb _ _ k))

  pub digit_more : (n : ℕ) → d ≤ 9 → digits_from n (drop i s) ≡ digits_from (n * 10 + d) (drop (i + 1) s)
  unfolding digits_from
  digit_more n k = rw (drop-cons s i 0 h, add-one) (simp (← q, le-ltb _ _ k))

-- the first character
pub first_none : (limit : ℕ) (s : List ℕ) → length s ≡ 0 → None ≡ decimal_of limit s
unfolding decimal_of
first_none limit [] h = refl
first_none limit (c ∷ cs) h = absurd (omega arith)

pub first_zero : (limit : ℕ) (s : List ℕ) → get_or s 0 0 ≡ 0x30 → None ≡ decimal_of limit s
unfolding decimal_of
first_zero limit [] h = refl
first_zero limit (c ∷ cs) h = simp (eq-eqb c 0x30 h)

pub first_other : (limit : ℕ) (s : List ℕ) → 0 < length s → (get_or s 0 0 ≡ 0x30 → ⊥) → up_to limit (digits_from 0 s) ≡ decimal_of limit s
unfolding decimal_of
first_other limit [] h k = absurd (omega arith)
first_other limit (c ∷ cs) h k = simp (ne_eqb c 0x30 k)

-- ---- putting: the digits that are left, before those that stand, are the whole
pub digits_none : (k : ℕ) → digits k 0 ≡ []
unfolding digits
digits_none zero = refl
digits_none (suc k) = refl

digits_turn : (l : List ℕ) (k n d : ℕ) → k < length l → 0 < n → d ≡ n % 10 + 0x30
    → digits k (n / 10) ++ drop k (set l k d) ≡ digits (suc k) n ++ drop (suc k) l
unfolding digits
digits_turn l k n d h p q =
    ap (λ (x : List ℕ). digits k (n / 10) ++ x)
    (drop-cons (set l k d) k 0 (rw length-set h) ∙ rw (get_or-set_same l k d 0 h, drop-set-lt (suc k) l k d (omega arith), q))
    ∙ sym (append_assoc (digits k (n / 10)) ((n % 10 + 0x30) ∷ []) (drop (suc k) l))
    ∙ rw (ne_eqb n 0 (λ e. omega arith))

-- what stands in an array from a place on, with the digits of the rest before it
abbrev pub Standing : List ℕ → List ℕ → ℕ → ℕ → Type 0
Standing z l from rest = (from ≤ 20) × (length l ≡ 20) × (rest < 10 ^ from) × (digits from rest ++ drop from l ≡ z)

pub stands_more : (z l : List ℕ) (from rest : ℕ) → Standing z l from rest → 0 < rest → 1 ≤ from
stands_more z l zero rest g h = absurd (let k : rest < 1 = g.2 in omega arith)
stands_more z l (suc k) rest g h = omega arith

pub stands_turn : (z l : List ℕ) (from rest : ℕ) → Standing z l from rest → 0 < rest
    → Standing z (set l (from - 1) (rest % 10 + 0x30)) (from - 1) (rest / 10)
stands_turn z l zero rest g h = absurd (let k : rest < 1 = g.2 in omega arith)
stands_turn z l (suc k) rest g h =
    let e : 10 ^ suc k ≡ 10 ^ k * 10 = pow-suc 10 k in
    let q : suc k - 1 ≡ k = omega arith in
    rw q (
      omega (arith, g.0),
      length-set l k (rest % 10 + 0x30) ∙ g.1,
      omega (arith, g.2),
      digits_turn l k rest (rest % 10 + 0x30) (omega (arith, g.0, g.1)) h refl ∙ g.3,
    )

pub stands_end : (z l : List ℕ) (from rest : ℕ) → Standing z l from rest → rest ≡ 0 → drop from l ≡ z
stands_end z l from rest g e = ap (λ (x : List ℕ). x ++ drop from l) (sym (ap (digits from) e ∙ digits_none from)) ∙ g.3

pub text_zero : (n : ℕ) → n ≡ 0 → 0x30 ∷ [] ≡ decimal_text n
unfolding decimal_text
text_zero n e = simp (eq-eqb _ _ e)

pub text_digits : (n : ℕ) → (n ≡ 0 → ⊥) → digits 20 n ≡ decimal_text n
unfolding decimal_text
text_digits n e = simp (ne_eqb _ _ e)

-- how long it is
digits_length : (k n : ℕ) → length (digits k n) ≤ k
unfolding digits
digits_length zero n = omega arith
digits_length (suc k) n =
    by_test (λ (l : List ℕ). length l ≤ suc k) (eqb n 0) (λ e. omega arith)
    (λ e. omega (arith, digits_length k (n / 10), length-append (digits k (n / 10)) ((n % 10 + 0x30) ∷ [])))

pub decimal_length : (n : ℕ) → length (decimal_text n) ≤ 20
unfolding decimal_text
decimal_length n = by_test (λ (l : List ℕ). length l ≤ 20) (eqb n 0) (λ e. omega arith) (λ e. digits_length 20 n)
