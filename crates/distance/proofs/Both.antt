-- Both CRCs of the bus detect two flipped bits, each over as many bits as was walked. Assumes nothing.
use Prim.Native.Nat.{◌-◌}
use Rattle.crc.specs.Crc.{poly_of, crc_start, crc_of, Poly, Fcs, Safety}
use Rattle.burst.proofs.Both.{with_constant}
use Rattle.distance.specs.Promise.{SeesTwo, bits_seen}
use Rattle.distance.proofs.Powers.{no_return_lem}
use Rattle.distance.proofs.Two.{two}

pub bus_two : (poly : Poly) → SeesTwo (bits_seen poly) (crc_of poly)
unfolding crc_of
bus_two Fcs = two (poly_of Fcs) crc_start (bits_seen Fcs - 1) (with_constant Fcs) (no_return_lem Fcs)
bus_two Safety = two (poly_of Safety) crc_start (bits_seen Safety - 1) (with_constant Safety) (no_return_lem Safety)
