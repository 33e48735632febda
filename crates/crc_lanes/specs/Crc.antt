-- D3: The CRC is the reflected CRC-32 of UEFI (polynomial 04C11DB7 hex, all ones at the start, inverted at the end); not the POSIX sum that 004 names.
-- Definitions only.
use Rattle.std.specs.Prelude.{List, [], ◌∷◌, ℕ, zero, suc, ◌*◌, ◌/◌, ◌%◌}
use Rattle.std.specs.Int.Bits.{bit_xor}

-- Reflected: the bits of a byte go in from the lowest, so the state is kept in that order and moves down, and the polynomial is written in it too:
-- EDB88320 is 04C11DB7 with its 32 bits in reverse order.

-- one bit leaves at the low end; where it was 1, the polynomial is added (xor)
unfoldable pub bit_step : ℕ → ℕ
bit_step c = bit_xor (c / 2) (c % 2 * 0xEDB8_8320)

-- that many bits leave
unfoldable pub bit_steps : ℕ → ℕ → ℕ
bit_steps zero c = c
bit_steps (suc n) c = bit_steps n (bit_step c)

-- a byte is added to the low eight bits, which then leave
unfoldable pub crc_byte : ℕ → ℕ → ℕ
crc_byte c b = bit_steps 8 (bit_xor c b)

-- the bytes of a list, one after the other
unfoldable pub crc_update : ℕ → List ℕ → ℕ
crc_update c [] = c
crc_update c (b ∷ bs) = crc_update (crc_byte c b) bs

-- all ones at the start, inverted at the end
unfoldable pub crc32 : List ℕ → ℕ
crc32 bs = bit_xor (crc_update 0xFFFF_FFFF bs) 0xFFFF_FFFF
