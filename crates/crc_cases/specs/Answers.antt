-- The answer to a case of CRCs: 0 asks for the FCS of the bytes, 1 for their safety CRC. Assumes nothing.
use Rattle.std.specs.Prelude.{List, ℕ}
use Rattle.base.specs.Bytes.{bytes_of}
use Rattle.crc.specs.Crc.{Fcs, Safety, crc_of}
use Rattle.cases.specs.Cases.{by_operation}

unfoldable pub crc_answers : ℕ → List ℕ → List ℕ
crc_answers op s = by_operation op (bytes_of 2 (crc_of Fcs s)) (bytes_of 2 (crc_of Safety s))
