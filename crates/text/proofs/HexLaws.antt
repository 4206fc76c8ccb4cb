-- Laws of hex digits: the cases of a digit and of a pair, a turn of the loop, and the answers of a reading.
-- Assumes nothing.
use mathlib.Core.Path.{◌≡◌, refl, sym, ap, ◌∙◌}
use mathlib.Core.Bool.{Bool, true, false}
use mathlib.Core.List.{List, [], ◌∷◌}
use Rattle.std.specs.Prelude.{Option, Some, None, Result, Ok, Err}
use Rattle.std.specs.Char as Char
use Prim.Native.Nat.{ℕ, suc, ◌+◌, ◌*◌, ◌≤◌, ◌<◌}
use native.Mathlib.Omega.{arith}
use native.Mathlib.Nat.{add-zero, add-suc, suc-add}
use native.Mathlib.Numerals.{add-one}
use borrow.Author.Tests.{lt-ltb, le-ltb, ltb-false}
use lib.Dec.{T, eqb, ltb, eqb→eq}
use lib.ListN.{length, set}
use lib.Seq.{sets}
use Rattle.base.proofs.Interval.{all_from, at}
use Rattle.base.proofs.Sets.{sets_front}
use Rattle.base.specs.Choice.{choose}
use Rattle.base.proofs.Choosing.{absurdly}
use Rattle.text.specs.Hex.{digit_value, pair_of, paired, hex_pairs, hex_of, hex_left, stored, told}
use Rattle.text.specs.declared.hex.HexFault.{HexFault}
use Rattle.text.specs.declared.hex.HexFault.TheVariants.{NotHex, NoRoom}

-- two functions that antt computes to be the same over an interval
pub agree : (f g : ℕ → ℕ) (lo n : ℕ) → T (all_from (λ x. eqb (f x) (g x)) lo n) → (a : ℕ) → lo ≤ a → a < lo + n → f a ≡ g a
agree f g lo n t a p q = eqb→eq (f a) (g a) (at (λ x. eqb (f x) (g x)) lo n t a p q)

-- ---- a digit, as the library tells it: antt computes that it is ours, for each byte
same_digit : (c : ℕ) → c < 256 → choose (ltb 15 (Char.digit_value c)) 16 (Char.digit_value c) ≡ digit_value c
unfolding digit_value
same_digit c h = agree (λ x. choose (ltb 15 (Char.digit_value x)) 16 (Char.digit_value x)) digit_value 0 256 tt c (omega arith) (omega arith)

pub digit_same : (c v : ℕ) → c < 256 → v < 16 → v ≡ Char.digit_value c → v ≡ digit_value c
digit_same c v h k q = q ∙ (rw (le-ltb 15 (Char.digit_value c) (omega arith)) at (same_digit c h))

pub digit_past : (base c : ℕ) → c < 256 → base ≤ 16 → (Char.digit_value c < base → ⊥) → digit_value c < base → ⊥
digit_past base c h m n k = by (ltb 15 (Char.digit_value c)) refl
  where
    by : (t : Bool) → ltb 15 (Char.digit_value c) ≡ t → ⊥
    by true t = let e : 16 ≡ digit_value c = rw t at (same_digit c h) in omega arith
    by false t = let e : Char.digit_value c ≡ digit_value c = rw t at (same_digit c h) in n (omega arith)

-- ---- a pair
pub pair_high : (a b : ℕ) → (digit_value a < 16 → ⊥) → None ≡ pair_of a b
unfolding pair_of
pair_high a b n = rw (lt-ltb 15 (digit_value a) (omega arith))

pub pair_low : (a b : ℕ) → digit_value a < 16 → (digit_value b < 16 → ⊥) → None ≡ pair_of a b
unfolding pair_of
pair_low a b h n = rw (le-ltb 15 (digit_value a) (omega arith), lt-ltb 15 (digit_value b) (omega arith))

pub pair_both : (a b : ℕ) → digit_value a < 16 → digit_value b < 16 → Some (digit_value a * 16 + digit_value b) ≡ pair_of a b
unfolding pair_of
pair_both a b h k = rw (le-ltb 15 (digit_value a) (omega arith), le-ltb 15 (digit_value b) (omega arith))

-- ---- what a loop stored, before what the rest gives
pub stored_more : (out : List ℕ) (n b : ℕ) (o : Option (List ℕ)) → stored out n (paired (Some b) o) ≡ stored (set out n b) (n + 1) o
stored_more out n b None = refl
stored_more out n b (Some bs) = rw (add-one, suc-add, add-suc)

pub stored_end : (out : List ℕ) (n : ℕ) → Some (n, out) ≡ stored out n (Some [])
stored_end out n = rw add-zero

-- a turn of the loop: a pair was read, and its byte stored if there is room
pub stored_turn : (a b v n : ℕ) (cs out out' : List ℕ) → Some v ≡ pair_of a b → out' ≡ set out n v
    → stored out' (n + 1) (hex_pairs cs) ≡ stored out n (hex_pairs (a ∷ b ∷ cs))
unfolding hex_pairs
stored_turn a b v n cs out out' p q =
    ap (λ (l : List ℕ). stored l (n + 1) (hex_pairs cs)) q ∙ sym (stored_more out n v (hex_pairs cs))
    ∙ ap (λ (o : Option ℕ). stored out n (paired o (hex_pairs cs))) p

-- ---- the answers, by what a first reading into no room counted
abbrev Answered : Option (List ℕ) → List ℕ → Result ℕ HexFault → List ℕ → Type 0
Answered o buf r out = (r ≡ hex_of (length buf) o) × (out ≡ hex_left o buf)

pub read_not : (o : Option (List ℕ)) (buf : List ℕ) → None ≡ stored [] 0 o → Answered o buf (Err NotHex) buf
read_not None buf e = (refl, refl)
read_not (Some bs) buf e = absurdly (cc)

counts : (buf out : List ℕ) (n m : ℕ) (bs : List ℕ) → Some (n, out) ≡ stored buf m (Some bs) → (n ≡ m + length bs) × (out ≡ sets buf m bs)
counts buf out n m bs e =
    let w : ◌≡◌ {A = ℕ × List ℕ} (n, out) (m + length bs, sets buf m bs) = cc in
    (ap (λ (x : ℕ × List ℕ). x.0) w, ap (λ (x : ℕ × List ℕ). x.1) w)

module _ (buf : List ℕ) (n : ℕ) (l : List ℕ) where
  pub read_long : (o : Option (List ℕ)) → Some (n, l) ≡ stored [] 0 o → length buf < n → Answered o buf (Err NoRoom) buf
  read_long None e h = absurdly (cc)
  read_long (Some bs) e h =
      let k : ltb (length buf) (length bs) ≡ true = lt-ltb _ _ (omega (arith, (counts [] l n 0 bs e).0)) in
      (rw k, rw k)

  pub read_all : (o : Option (List ℕ)) (r : Option ℕ) (out : List ℕ) → Some (n, l) ≡ stored [] 0 o → n ≤ length buf → told r out ≡ stored buf 0 o
      → Answered o buf (Ok n) out
  read_all None r out e h f = absurdly (cc)
  read_all (Some bs) None out e h f = absurdly (cc)
  read_all (Some bs) (Some m) out e h f =
      let q : n ≡ length bs = omega (arith, (counts [] l n 0 bs e).0) in
      let k : ltb (length buf) (length bs) ≡ false = le-ltb _ _ (omega arith) in
      (rw k (ap Ok q), rw k ((counts buf out m 0 bs f).1 ∙ sets_front buf bs (omega arith)))

-- ---- what a caller wants: the bytes that were read are within the room
pub read_within : (m n : ℕ) (o : Option (List ℕ)) → Ok n ≡ hex_of m o → n ≤ m
read_within m n None e = absurdly (cc)
read_within m n (Some bs) e = by (ltb m (length bs)) refl
  where
    by : (t : Bool) → ltb m (length bs) ≡ t → n ≤ m
    by true k = let f : Ok n ≡ Err NoRoom = rw k at e in absurdly (cc)
    by false k =
        let f : Ok n ≡ Ok (length bs) = rw k at e in
        let q : n ≡ length bs = cc in
        omega (arith, ltb-false m (length bs) k)

-- two characters a byte
pub pairs_length : (s bs : List ℕ) → hex_pairs s ≡ Some bs → length s ≡ length bs * 2
unfolding hex_pairs
pairs_length [] bs e = let q : bs ≡ [] = cc in rw q
pairs_length (a ∷ []) bs e = absurdly (cc)
pairs_length (a ∷ b ∷ s) bs e = by (λ o d. pairs_length s o d) (pair_of a b) (hex_pairs s) refl e
  where
    by : ((o : List ℕ) → hex_pairs s ≡ Some o → length s ≡ length o * 2) → (p : Option ℕ) (o : Option (List ℕ)) → hex_pairs s ≡ o
        → paired p o ≡ Some bs → suc (suc (length s)) ≡ length bs * 2
    by r (Some x) None d f = absurdly (cc)
    by r (Some x) (Some o) d f =
        let q : bs ≡ x ∷ o = cc in
        omega (arith, r o d, ap length q)
    by r None o d f = absurdly (cc)
