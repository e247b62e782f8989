-- Cyclic redundancy checks of 32 bits, a bit of the message at a time, in the reflected form: the
-- register's lowest bit is the coefficient of the highest power (RFC 3720, 12.1; RFC 9260, appendix A).
use Rattle.std.specs.Prelude.{ℕ, ◌+◌, ◌-◌, ◌*◌, ◌/◌, ◌%◌, ◌^◌, List, map, bit_xor}
use Rattle.std.specs.List.{flat_map, fold, range_with_len}
use Rattle.std.specs.Int.{bit_at}

-- the bits of a byte, the lowest first, as they are sent
unfoldable pub byte_bits : ℕ → List ℕ
byte_bits byte = map (bit_at byte) (range_with_len 0 8)

-- the bits of a message
abbrev pub message_bits : List ℕ → List ℕ
message_bits message = flat_map byte_bits message

-- the register after one more bit of the message: it moves one place down, and where the bit that
-- leaves it differs from the message's, the polynomial is added, which is an exclusive or
abbrev pub after_bit : ℕ → ℕ → ℕ → ℕ
after_bit polynomial register bit = bit_xor (register / 2) ((register + bit) % 2 * polynomial)

-- the register after the bits
abbrev pub after_bits : ℕ → ℕ → List ℕ → ℕ
after_bits polynomial register bits = fold (after_bit polynomial) register bits

-- 32 ones
abbrev pub all_ones : ℕ
all_ones = 2 ^ 32 - 1

-- the check of a message by a polynomial: the register begins with ones alone, and its complement
-- after the message's bits is the check
unfoldable pub crc_of : ℕ → List ℕ → ℕ
crc_of polynomial message = bit_xor (after_bits polynomial all_ones (message_bits message)) all_ones

-- the polynomial of CRC-32C, 1EDC6F41, reflected (RFC 3720, 12.1)
abbrev pub crc32c_polynomial : ℕ
crc32c_polynomial = 0x82F63B78

-- CRC-32C
unfoldable pub crc32c_of : List ℕ → ℕ
crc32c_of message = crc_of crc32c_polynomial message

-- the polynomial of CRC-32, 04C11DB7, reflected (IEEE 802.3, 3.2.9; RFC 1952, 8)
abbrev pub crc32_polynomial : ℕ
crc32_polynomial = 0xEDB88320

-- CRC-32
unfoldable pub crc32_of : List ℕ → ℕ
crc32_of message = crc_of crc32_polynomial message

-- what each byte, taken into an empty register, leaves there
unfoldable pub table_of : ℕ → List ℕ
table_of polynomial = map (λ byte. after_bits polynomial 0 (byte_bits byte)) (range_with_len 0 256)
