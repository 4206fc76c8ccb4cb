-- The powers of x that the prover computes, for the two polynomials of the bus; and one step of such a walk. Assumes nothing.
use mathlib.Core.Path.{◌≡◌, refl}
use mathlib.Core.Bool.{Bool, true, false}
use Prim.Native.Nat.{ℕ, suc, ◌-◌}
use borrow.Author.Tests.{eq-eqb}
use lib.Dec.{eqb}
use Rattle.base.specs.Choice.{choose}
use Rattle.base.proofs.Choosing.{never}
use Rattle.crc.specs.Crc.{poly_of, top_bit, crc_bit, Poly, Fcs, Safety}
use Rattle.distance.specs.Powers.{away_for, no_return}
use Rattle.distance.specs.Promise.{bits_seen}

-- 0 < k < 2,176 for the FCS, 0 < k < 151 for the safety CRC
pub no_return_lem : (poly : Poly) → no_return (poly_of poly) (bits_seen poly - 1) ≡ true
unfolding away_for crc_bit top_bit
no_return_lem Fcs = refl
no_return_lem Safety = refl

module _ (p n z : ℕ) (h : away_for p (suc n) z ≡ true) where
  pub not_here : crc_bit p z ≡ p → ⊥
  unfolding away_for
  not_here e = never (rw (eq-eqb (crc_bit p z) p e) at h)

  pub nor_later : away_for p n (crc_bit p z) ≡ true
  unfolding away_for
  nor_later = by (eqb (crc_bit p z) p) h
    where
      by : (t : Bool) → choose t false (away_for p n (crc_bit p z)) ≡ true → away_for p n (crc_bit p z) ≡ true
      by true e = never e
      by false e = e
