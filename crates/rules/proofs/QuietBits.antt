-- STATUT's masks and bits 4, 3, 2 and 0, for every number and not only for bytes: marks and modes leave them, a sent
-- reply clears them. Assumes nothing.
use mathlib.Core.Path.{◌≡◌, refl, sym, ap, ◌∙◌}
use Prim.Native.Nat.{ℕ, ◌%◌, ◌^◌, ◌<◌}
use native.Mathlib.Omega.{arith}
use lib.Bits.{bit_and, bit_or, and_mod, or_mod, and_le_r}
use Rattle.base.proofs.AllBytes.{same_bytes}

-- they are those of the low byte
low_byte : (x : ℕ) → bit_and x 0x1D ≡ bit_and (x % 2 ^ 8) 0x1D
low_byte x =
    let small : bit_and x 0x1D % 2 ^ 8 ≡ bit_and x 0x1D = omega (arith, and_le_r x 0x1D) in
    sym small ∙ and_mod x 0x1D 8

of_or : (m : ℕ) → m % 2 ^ 8 ≡ m → ((y : ℕ) → y < 256 → bit_and (bit_or y m) 0x1D ≡ bit_and y 0x1D) → (x : ℕ) → bit_and (bit_or x m) 0x1D ≡ bit_and x 0x1D
of_or m e h x =
    low_byte (bit_or x m) ∙ ap (λ (y : ℕ). bit_and y 0x1D) (or_mod x m 8 ∙ ap (bit_or (x % 2 ^ 8)) e) ∙ h (x % 2 ^ 8) (omega arith) ∙ sym (low_byte x)

-- bit 5, bit 1 and bit 7 set
pub quiet_line : (x : ℕ) → bit_and (bit_or x 0x20) 0x1D ≡ bit_and x 0x1D
quiet_line = of_or 0x20 refl (same_bytes (λ x. bit_and (bit_or x 0x20) 0x1D) (λ x. bit_and x 0x1D) tt)

pub quiet_sequence : (x : ℕ) → bit_and (bit_or x 0x02) 0x1D ≡ bit_and x 0x1D
quiet_sequence = of_or 0x02 refl (same_bytes (λ x. bit_and (bit_or x 0x02) 0x1D) (λ x. bit_and x 0x1D) tt)

pub quiet_fallback : (x : ℕ) → bit_and (bit_or x 0x80) 0x1D ≡ bit_and x 0x1D
quiet_fallback = of_or 0x80 refl (same_bytes (λ x. bit_and (bit_or x 0x80) 0x1D) (λ x. bit_and x 0x1D) tt)

-- bit 7 cleared, and bit 7 kept alone
of_and : (m : ℕ) (g : ℕ → ℕ) → m % 2 ^ 8 ≡ m → ((y : ℕ) → y < 256 → bit_and (bit_and y m) 0x1D ≡ g y) → (x : ℕ) → bit_and (bit_and x m) 0x1D ≡ g (x % 2 ^ 8)
of_and m g e h x =
    low_byte (bit_and x m) ∙ ap (λ (y : ℕ). bit_and y 0x1D) (and_mod x m 8 ∙ ap (bit_and (x % 2 ^ 8)) e) ∙ h (x % 2 ^ 8) (omega arith)

pub quiet_run : (x : ℕ) → bit_and (bit_and x 0x7F) 0x1D ≡ bit_and x 0x1D
quiet_run x =
    of_and 0x7F (λ y. bit_and y 0x1D) refl (same_bytes (λ x. bit_and (bit_and x 0x7F) 0x1D) (λ x. bit_and x 0x1D) tt) x ∙ sym (low_byte x)

pub quiet_cleared : (x : ℕ) → bit_and (bit_and x 0x80) 0x1D ≡ 0
quiet_cleared = of_and 0x80 (λ y. 0) refl (same_bytes (λ x. bit_and (bit_and x 0x80) 0x1D) (λ x. 0) tt)
