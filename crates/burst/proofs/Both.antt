-- Both polynomials of the bus have a constant term and an even number of terms, so both CRCs detect what such CRCs
-- detect. Assumes nothing.
use mathlib.Core.Path.{refl}
use lib.Count.{ones, ones_in}
use lib.Dec.{lit<}
use Rattle.crc.specs.Crc.{poly_of, crc_start, crc_of, Poly, Fcs, Safety}
use Rattle.crc.proofs.Bound.{poly_lt}
use Rattle.burst.specs.Promise.{WithConstant, EvenTerms, SeesBursts, SeesOdd}
use Rattle.burst.proofs.Bursts.{bursts}
use Rattle.burst.proofs.Odd.{odd}

pub with_constant : (poly : Poly) → WithConstant (poly_of poly)
with_constant Fcs = record { terms = poly_lt Fcs; odd = refl }
with_constant Safety = record { terms = poly_lt Safety; odd = refl }

even_terms : (poly : Poly) → EvenTerms (poly_of poly)
unfolding ones ones_in
even_terms Fcs = record { terms = poly_lt Fcs; even = refl }
even_terms Safety = record { terms = poly_lt Safety; even = refl }

pub bus_bursts : (poly : Poly) → SeesBursts (crc_of poly)
unfolding crc_of
bus_bursts poly = bursts (poly_of poly) crc_start (with_constant poly) (lit< tt)

pub bus_odd : (poly : Poly) → SeesOdd (crc_of poly)
unfolding crc_of
bus_odd poly = odd (poly_of poly) crc_start (even_terms poly) (lit< tt)
