-- Document 02, request 9: a cycle's share of the line, in thousandths. Assumes nothing.
use Rattle.std.specs.Prelude.{ℕ, ◌*◌, ◌/◌, ◌%◌}

-- a wire byte is 10 bits; the line carries 12,000 bits in a millisecond
abbrev pub wire_byte : ℕ
wire_byte = 10

abbrev pub line_rate : ℕ
line_rate = 12000

-- "the sent wire bytes ... times 10 bits, times 1,000"
abbrev pub dividend : ℕ → ℕ
dividend bytes = bytes * wire_byte * 1000

-- "divided by TCYC × 12,000 bits"
abbrev pub divisor : ℕ → ℕ
divisor t = t * line_rate

-- "a quotient in thousandths and a remainder below the divisor"
unfoldable pub quotient : ℕ → ℕ → ℕ
quotient bytes t = dividend bytes / divisor t

unfoldable pub remainder : ℕ → ℕ → ℕ
remainder bytes t = dividend bytes % divisor t
