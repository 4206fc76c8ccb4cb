-- Numbers in registers, low byte first: what is stored is read back, and a number is the same if its registers are.
-- Assumes nothing.
use mathlib.Core.Path.{◌≡◌, refl, sym, ap, ap₂, ◌∙◌}
use mathlib.Core.List.{List}
use Prim.Native.Nat.{ℕ, zero, suc, ◌+◌, ◌*◌, ◌/◌, ◌%◌, ◌^◌, ◌≤◌, ◌<◌}
use native.Mathlib.Nat.{add-zero, add_assoc, pow-suc}
use native.Mathlib.Omega.{arith}
use lib.ListN.{length, get_or}
use lib.Seq.{sets}
use Rattle.base.specs.Bytes.{Bytes}
use Rattle.base.proofs.Bytes.{bytes_nil, bytes_cons}
use Rattle.base.proofs.Stored.{stored_at}
use Rattle.rules.specs.Registers.{low_bytes, low_number}

pub length_low : (w n : ℕ) → length (low_bytes w n) ≡ w
unfolding low_bytes
length_low zero n = refl
length_low (suc w) n = ap suc (length_low w (n / 256))

pub bytes_low : (w n : ℕ) → Bytes (low_bytes w n)
unfolding low_bytes
bytes_low zero n = bytes_nil
bytes_low (suc w) n = bytes_cons (n % 256) (low_bytes w (n / 256)) (omega arith) (bytes_low w (n / 256))

-- registers that hold a number's bytes from a place on hold the number there
low_held : (w i n : ℕ) (q : List ℕ) → ((k : ℕ) → k < w → get_or q (i + k) 0 ≡ get_or (low_bytes w n) k 0) → n < 256 ^ w → low_number q i w ≡ n
unfolding low_bytes low_number
low_held zero i n q f h = omega arith
low_held (suc w) i n q f h =
    let p : n < 256 ^ w * 256 = rw pow-suc at h in
    let first : get_or q i 0 ≡ n % 256 = ap (λ (k : ℕ). get_or q k 0) (sym (add-zero i)) ∙ f 0 (omega arith) in
    let rest : low_number q (i + 1) w ≡ n / 256 =
    low_held w (i + 1) (n / 256) q
    (λ k l. ap (λ (j : ℕ). get_or q j 0) (add_assoc i 1 k ∙ ap (λ (j : ℕ). i + j) (omega arith)) ∙ f (suc k) (omega arith)) (omega arith) in
    ap₂ (λ (x y : ℕ). x + y * 256) first rest ∙ omega arith

pub low_stored : (r : List ℕ) (i w n : ℕ) → n < 256 ^ w → i + w ≤ length r → low_number (sets r i (low_bytes w n)) i w ≡ n
low_stored r i w n h f =
    low_held w i n (sets r i (low_bytes w n))
    (λ k l. stored_at r i (low_bytes w n) k (omega (arith, length_low w n)) (omega (arith, length_low w n))) h

pub low_same : (r s : List ℕ) (i w : ℕ) → ((j : ℕ) → i ≤ j → j < i + w → get_or s j 0 ≡ get_or r j 0) → low_number s i w ≡ low_number r i w
unfolding low_number
low_same r s i zero h = refl
low_same r s i (suc w) h =
    ap₂ (λ (x y : ℕ). x + y * 256) (h i (omega arith) (omega arith))
    (low_same r s (i + 1) w (λ j p q. h j (omega arith) (omega arith)))
