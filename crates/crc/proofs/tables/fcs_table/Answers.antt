-- antt tests each of the 256 entries.
use Rattle.std.proofs.Common.{refl}
use Rattle.crc.specs.Crc.{Fcs, poly_of, top_bit, crc_bit, crc_bits, crc_byte, crc_from}
use Rattle.crc.specs.Table.{entry_of}
use Rattle.crc.proofs.Table.{tested, tabled}
use Rattle.crc.proofs.tables.fcs_table.Goals as goal

pub returns : goal.returns
unfolding tested entry_of crc_from crc_byte crc_bits crc_bit top_bit
returns c = tabled (poly_of Fcs) _ refl refl
