-- A number of 1 or more that is put down in decimal is read back as the same number, and no other text is. Assumes nothing.
use mathlib.Core.Path.{◌≡◌, refl, sym, ap, ap₂, ◌∙◌}
use mathlib.Core.Bool.{Bool, true, false}
use mathlib.Core.List.{List, [], ◌∷◌, ◌++◌, append_assoc, append-nil}
use Rattle.std.specs.Prelude.{Option, None, Some}
use Prim.Native.Nat.{ℕ, zero, suc, ◌+◌, ◌-◌, ◌*◌, ◌/◌, ◌%◌, ◌^◌, ◌≤◌, ◌<◌}
use native.Mathlib.Omega.{arith}
use native.Mathlib.Nat.{pow-suc}
use borrow.Author.Tests.{ne_eqb, eqb-false, le-ltb, ltb-false, leb-true}
use lib.Dec.{eqb, leb, ltb}
use lib.ListN.{length, get_or, length-append}
use Rattle.base.specs.Choice.{choose, within}
use Rattle.base.proofs.Choosing.{by_test, and_left}
use Rattle.text.specs.Hex.{digit_value}
use Rattle.text.specs.Decimal.{digits_from, up_to, decimal_of, digits, decimal_text}
use Rattle.text.proofs.HexLaws.{agree}
use Rattle.text.proofs.DecimalLaws.{digits_none, text_zero, text_digits}

digit_back : (d : ℕ) → d < 10 → digit_value (d + 0x30) ≡ d
unfolding digit_value
digit_back d h = agree (λ x. digit_value (x + 0x30)) (λ x. x) 0 10 tt d (omega arith) h

-- one digit behind others
one_more : (m v c : ℕ) (xs : List ℕ) → digit_value c ≤ 9 → digits_from m xs ≡ Some v → digits_from m (xs ++ (c ∷ [])) ≡ Some (v * 10 + digit_value c)
unfolding digits_from
one_more m v c [] h e =
    let q : m ≡ v = cc in
    rw (le-ltb 9 (digit_value c) h, q)
one_more m v c (x ∷ xs) h e = by (λ k. one_more (m * 10 + digit_value x) v c xs h k) (ltb 9 (digit_value x)) refl
  where
    by : (digits_from (m * 10 + digit_value x) xs ≡ Some v → digits_from (m * 10 + digit_value x) (xs ++ (c ∷ [])) ≡ Some (v * 10 + digit_value c))
        → (t : Bool) → ltb 9 (digit_value x) ≡ t → digits_from m (x ∷ (xs ++ (c ∷ []))) ≡ Some (v * 10 + digit_value c)
    by r true t = absurd (let z : ◌≡◌ {A = ℕ} 0 1 = cc in omega arith)
    by r false t = rw t (r (rw t at e))

less : (k n : ℕ) → n < 10 ^ suc k → n / 10 < 10 ^ k
less k n h = let e : 10 ^ suc k ≡ 10 ^ k * 10 = pow-suc 10 k in omega arith

digits_more : (k n : ℕ) → 0 < n → digits (suc k) n ≡ digits k (n / 10) ++ ((n % 10 + 0x30) ∷ [])
unfolding digits
digits_more k n p = rw (ne_eqb n 0 (λ e. omega arith))

none_said : digits_from 0 [] ≡ Some 0
unfolding digits_from
none_said = refl

digits_zero : (n : ℕ) → digits zero n ≡ []
unfolding digits
digits_zero n = refl

-- what holds of 0 and of every n above it
by_zero : (P : ℕ → Type 0) (n : ℕ) → P 0 → (0 < n → P n) → P n
by_zero P zero z s = z
by_zero P (suc n) z s = s (omega arith)

digits_back : (k n : ℕ) → n < 10 ^ k → digits_from 0 (digits k n) ≡ Some n
digits_back zero n h = let q : n ≡ 0 = omega arith in rw (q, digits_none 0) none_said
digits_back (suc k) n h =
    by_zero (λ m. digits_from 0 (digits (suc k) m) ≡ Some m) n (rw (digits_none (suc k)) none_said)
    (λ p.
    let d : digit_value (n % 10 + 0x30) ≡ n % 10 = digit_back (n % 10) (omega arith) in
    rw (digits_more k n p)
    (one_more 0 (n / 10) (n % 10 + 0x30) (digits k (n / 10)) (omega arith) (digits_back k (n / 10) (less k n h))
    ∙ ap Some (omega arith)))

-- the first is not 0
head_in : (xs ys : List ℕ) → (get_or xs 0 0x30 ≡ 0x30 → ⊥) → get_or (xs ++ ys) 0 0x30 ≡ 0x30 → ⊥
head_in [] ys h e = h refl
head_in (x ∷ xs) ys h e = h e

first_digit : (k n : ℕ) → 0 < n → n < 10 ^ k → get_or (digits k n) 0 0x30 ≡ 0x30 → ⊥
first_digit zero n p h e = omega arith
first_digit (suc k) n p h e =
    by_zero (λ q. n / 10 ≡ q → get_or (digits k q ++ ((n % 10 + 0x30) ∷ [])) 0 0x30 ≡ 0x30 → ⊥) (n / 10)
    (λ q f. let g : n % 10 + 0x30 ≡ 0x30 = (rw (digits_none k) at f) in omega arith)
    (λ m q. head_in (digits k (n / 10)) ((n % 10 + 0x30) ∷ []) (first_digit k (n / 10) m (less k n h)))
    refl (rw (digits_more k n p) at e)

no_zero : (limit : ℕ) (xs : List ℕ) → (get_or xs 0 0x30 ≡ 0x30 → ⊥) → decimal_of limit xs ≡ up_to limit (digits_from 0 xs)
unfolding decimal_of
no_zero limit [] h = absurd (h refl)
no_zero limit (x ∷ xs) h = rw (ne_eqb x 0x30 h)

pub number_back : (limit n : ℕ) → 0 < n → n ≤ limit → n < 10 ^ 20 → decimal_of limit (decimal_text n) ≡ Some n
number_back limit n p l h =
    rw (← text_digits n (λ e. omega arith))
    (no_zero limit (digits 20 n) (first_digit 20 n p h) ∙ ap (up_to limit) (digits_back 20 n h) ∙ rw (le-ltb limit n l))

-- how many digits a number has at most
digits_few : (j k n : ℕ) → n < 10 ^ j → length (digits k n) ≤ j
digits_few j zero n h = omega (arith, ap length (digits_zero n))
digits_few zero (suc k) n h = let q : n ≡ 0 = omega arith in omega (arith, ap length (digits_none (suc k)), ap (λ (m : ℕ). length (digits (suc k) m)) q)
digits_few (suc j) (suc k) n h =
    let i = digits_few j k (n / 10) (less j n h) in
    by_zero (λ m. m ≡ n → length (digits (suc k) m) ≤ suc j) n (λ q. omega (arith, ap length (digits_none (suc k))))
    (λ p q. omega (arith, ap length (digits_more k n p), length-append (digits k (n / 10)) ((n % 10 + 0x30) ∷ []), i)) refl

pub text_few : (j n : ℕ) → 0 < j → n < 10 ^ j → length (decimal_text n) ≤ j
text_few j n h k =
    by_zero (λ m. m ≡ n → length (decimal_text m) ≤ j) n (λ q. omega (arith, ap length (text_zero 0 refl)))
    (λ p q. omega (arith, ap length (text_digits n (λ e. omega arith)), digits_few j 20 n k)) refl

-- ---- and no other text is read as that number
at_least : (c lo hi : ℕ) → within lo hi c ≡ true → lo ≤ c
at_least c lo hi e = leb-true lo c (and_left (leb lo c) (leb c hi) e)

char_back : (c : ℕ) → digit_value c ≤ 9 → c ≡ digit_value c + 0x30
unfolding digit_value
char_back c =
    by_test (λ (v : ℕ). v ≤ 9 → c ≡ v + 0x30) (within 0x30 0x39 c) (λ e h. omega (arith, at_least c 0x30 0x39 e))
    (λ e. by_test (λ (v : ℕ). v ≤ 9 → c ≡ v + 0x30) (within 0x41 0x46 c) (λ f h. absurd (omega (arith, at_least c 0x41 0x46 f)))
    (λ f. by_test (λ (v : ℕ). v ≤ 9 → c ≡ v + 0x30) (within 0x61 0x66 c) (λ g h. absurd (omega (arith, at_least c 0x61 0x66 g))) (λ g h. absurd (omega arith))))

-- a character more
one_read : (m n c : ℕ) (cs : List ℕ) → digits_from m (c ∷ cs) ≡ Some n → (digit_value c ≤ 9) × (digits_from (m * 10 + digit_value c) cs ≡ Some n)
unfolding digits_from
one_read m n c cs e = by (ltb 9 (digit_value c)) refl
  where
    by : (t : Bool) → ltb 9 (digit_value c) ≡ t → (digit_value c ≤ 9) × (digits_from (m * 10 + digit_value c) cs ≡ Some n)
    by true t = absurd (let z : ◌≡◌ {A = ℕ} 0 1 = cc in omega arith)
    by false t = (ltb-false _ _ t, rw t at e)

one_put : (j m d : ℕ) → d ≤ 9 → 0 < m * 10 + d → digits (suc j) (m * 10 + d) ≡ digits j m ++ ((d + 0x30) ∷ [])
one_put j m d h p =
    let q : (m * 10 + d) / 10 ≡ m = omega arith in
    let r : (m * 10 + d) % 10 ≡ d = omega arith in
    digits_more j (m * 10 + d) p ∙ ap₂ (λ (x y : ℕ). digits j x ++ ((y + 0x30) ∷ [])) q r

-- the digits behind those of m
read_put : (cs : List ℕ) (j m n : ℕ) → 0 < m → digits_from m cs ≡ Some n → digits (length cs + j) n ≡ digits j m ++ cs
unfolding digits_from
read_put [] j m n p e =
    let q : m ≡ n = cc in
    let z : 0 + j ≡ j = omega arith in
    ap₂ digits z (sym q) ∙ sym (append-nil (digits j m))
read_put (c ∷ cs) j m n p e =
    let k = one_read m n c cs e in
    let d : ℕ = digit_value c in
    let z : length (c ∷ cs) + j ≡ length cs + suc j = omega arith in
    ap (λ (i : ℕ). digits i n) z
    ∙ read_put cs (suc j) (m * 10 + d) n (omega arith) k.1
    ∙ ap (λ (t : List ℕ). t ++ cs) (one_put j m d k.0 (omega arith))
    ∙ append_assoc (digits j m) ((d + 0x30) ∷ []) cs
    ∙ ap (λ (x : ℕ). digits j m ++ (x ∷ cs)) (sym (char_back c k.0))

all_put : (j n c : ℕ) (cs : List ℕ) → (c ≡ 0x30 → ⊥) → length cs + suc j ≡ 20 → digits_from 0 (c ∷ cs) ≡ Some n → digits 20 n ≡ c ∷ cs
all_put j n c cs h l e =
    let k = one_read 0 n c cs e in
    let f = char_back c k.0 in
    let p : 0 < 0 * 10 + digit_value c = positive f in
    ap (λ (i : ℕ). digits i n) (sym l)
    ∙ read_put cs (suc j) (0 * 10 + digit_value c) n p k.1
    ∙ ap (λ (t : List ℕ). t ++ cs) (one_put j 0 (digit_value c) k.0 p)
    ∙ ap₂ (λ (t : List ℕ) (x : ℕ). (t ++ (x ∷ [])) ++ cs) (digits_none j) (sym f)
  where
    positive : c ≡ digit_value c + 0x30 → 0 < 0 * 10 + digit_value c
    positive f = by_zero (λ (v : ℕ). c ≡ v + 0x30 → 0 < 0 * 10 + v) (digit_value c) (λ q. absurd (h (q ∙ refl))) (λ p q. omega arith) f

up_to_number : (limit n : ℕ) (o : Option ℕ) → up_to limit o ≡ Some n → (o ≡ Some n) × (n ≤ limit)
up_to_number limit n None e = absurd (let z : ◌≡◌ {A = ℕ} 0 1 = cc in omega arith)
up_to_number limit n (Some m) e = by (ltb limit m) refl e
  where
    by : (t : Bool) → ltb limit m ≡ t → choose t None (Some m) ≡ Some n → (Some m ≡ Some n) × (n ≤ limit)
    by true t e = absurd (let z : ◌≡◌ {A = ℕ} 0 1 = cc in omega arith)
    by false t e =
        let q : m ≡ n = cc in
        (ap Some q, omega (arith, ltb-false limit m t))

-- what is read has digits, the first of which is not 0
pub read_number : (limit n : ℕ) (cs : List ℕ) → decimal_of limit cs ≡ Some n → (get_or cs 0 0x30 ≡ 0x30 → ⊥) × (digits_from 0 cs ≡ Some n) × (n ≤ limit)
unfolding decimal_of
read_number limit n [] e = absurd (let z : ◌≡◌ {A = ℕ} 0 1 = cc in omega arith)
read_number limit n (c ∷ cs) e = by (eqb c 0x30) refl
  where
    by : (t : Bool) → eqb c 0x30 ≡ t → (c ≡ 0x30 → ⊥) × (digits_from 0 (c ∷ cs) ≡ Some n) × (n ≤ limit)
    by true t = let f : None ≡ Some n = rw t at e in absurd (let z : ◌≡◌ {A = ℕ} 0 1 = cc in omega arith)
    by false t =
        let f : up_to limit (digits_from 0 (c ∷ cs)) ≡ Some n = rw t at e in
        let k = up_to_number limit n (digits_from 0 (c ∷ cs)) f in
        (eqb-false c 0x30 t, k.0, k.1)

some_digits : (n c : ℕ) (cs : List ℕ) → digits 20 n ≡ c ∷ cs → n ≡ 0 → ⊥
some_digits n c cs d q =
    let f : digits 20 0 ≡ c ∷ cs = rw q at d in
    omega (arith, ap length (sym (digits_none 20) ∙ f))

pub number_only : (limit n : ℕ) (cs : List ℕ) → length cs ≤ 20 → decimal_of limit cs ≡ Some n → cs ≡ decimal_text n
number_only limit n [] l e = absurd ((read_number limit n [] e).0 refl)
number_only limit n (c ∷ cs) l e =
    let k = read_number limit n (c ∷ cs) e in
    let d = all_put (19 - length cs) n c cs k.0 (omega arith) k.1 in
    sym d ∙ text_digits n (some_digits n c cs d)
