-- What a run of stores into the registers does to those that the view shows: a run apart from them keeps them all.
-- Assumes nothing.
use mathlib.Core.Path.{◌≡◌}
use mathlib.Core.List.{List}
use Prim.Native.Nat.{ℕ, ◌+◌, ◌≤◌, ◌<◌}
use native.Mathlib.Omega.{arith}
use lib.ListN.{length}
use lib.Seq.{sets}
use Rattle.rules.specs.Registers.{sid_at, out_rep, tcyc, cnf_rep, cnf_cyc, ground_at, outputs_at}
use Rattle.rules.proofs.LowBytes.{low_same}
use Rattle.demand3.proofs.StoredPlaces.{stored_outside}
use Rattle.demand3.proofs.Views.{registers_of, SameRegisters}

-- ---- a run apart from the view: no register that it touches is shown
abbrev pub Apart : ℕ → ℕ → Type 0
Apart i n = (j : ℕ) → 0x14 ≤ j → j < 0xC0 → (j ≡ 0x19 → ⊥) → (0x1C ≤ j → 0x26 ≤ j) → (0x27 ≤ j → 0x80 ≤ j) → i ≤ j → j < i + n → ⊥

pub apart_same : (r : List ℕ) (i : ℕ) (xs : List ℕ) → Apart i (length xs) → SameRegisters (registers_of (sets r i xs)) (registers_of r)
apart_same r i xs h = record {
  rep = stored_outside r i xs out_rep (h out_rep (omega arith) (omega arith) (λ e. omega arith) (λ l. omega arith) (λ l. omega arith));
  t = stored_outside r i xs tcyc (h tcyc (omega arith) (omega arith) (λ e. omega arith) (λ l. omega arith) (λ l. omega arith));
  n = stored_outside r i xs cnf_cyc (h cnf_cyc (omega arith) (omega arith) (λ e. omega arith) (λ l. omega arith) (λ l. omega arith));
  m = stored_outside r i xs cnf_rep (h cnf_rep (omega arith) (omega arith) (λ e. omega arith) (λ l. omega arith) (λ l. omega arith));
  ground = stored_outside r i xs ground_at (h ground_at (omega arith) (omega arith) (λ e. omega arith) (λ l. omega arith) (λ l. omega arith));
  out = λ j l. stored_outside r i xs (outputs_at + j) (h (outputs_at + j) (omega arith) (omega arith) (λ e. omega arith) (λ l. omega arith) (λ l. omega arith));
  sid = low_same r (sets r i xs) sid_at 3 (λ j p q. stored_outside r i xs j (h j (omega arith) (omega arith) (λ e. omega arith) (λ l. omega arith) (λ l. omega arith)));
}

-- TID; STATUT; AD_REF to CONF; the inputs
pub apart_tid : Apart 0x13 1
apart_tid j p q s c d l u = omega arith

pub apart_status : Apart 0x19 1
apart_status j p q s c d l u = s (omega arith)

pub apart_middle : (i n : ℕ) → 0x1C ≤ i → i + n ≤ 0x26 → Apart i n
apart_middle i n a b j p q s c d l u = omega (arith, c (omega arith))

pub apart_inputs : (n : ℕ) → Apart 0xC0 n
apart_inputs n j p q s c d l u = omega arith
