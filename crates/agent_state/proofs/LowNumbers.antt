-- Numbers in registers, low byte first, as code reads and stores them. Assumes nothing.
use mathlib.Core.Path.{◌≡◌, sym, ap, ◌∙◌}
use mathlib.Core.List.{List}
use Prim.Native.Nat.{ℕ, ◌+◌, ◌-◌, ◌/◌, ◌%◌, ◌≤◌, ◌<◌}
use lib.ListN.{set}
use lib.Seq.{sets}
use Rattle.base.proofs.Fills.{run_turn, left_turn, left_end}
use Rattle.rules.specs.Registers.{low_bytes}

-- one byte stored, the others behind it
pub low_turn : (l e : List ℕ) (at i w n : ℕ) → i < w → sets l (at + i) (low_bytes (w - i) n) ≡ e → sets (set l (at + i) (n % 256)) (at + (i + 1)) (low_bytes (w - (i + 1)) (n / 256)) ≡ e
unfolding low_bytes
low_turn l e at i w n h p =
    run_turn l e at i (n % 256) (low_bytes (w - (i + 1)) (n / 256))
    (ap (λ (k : ℕ). sets l (at + i) (low_bytes k n)) (sym (left_turn w i h)) ∙ p)

pub low_end : (l e : List ℕ) (at i w n : ℕ) → w ≤ i → sets l (at + i) (low_bytes (w - i) n) ≡ e → l ≡ e
unfolding low_bytes
low_end l e at i w n h p = ap (λ (k : ℕ). sets l (at + i) (low_bytes k n)) (sym (left_end w i h)) ∙ p
