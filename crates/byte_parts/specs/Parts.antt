-- A word of ten bytes of three bits, and the three parts of its syndrome (equation 4 of source document 000).
-- Bytes 0 to 6 are data, byte i under powers of T; bytes 7, 8 and 9 are the check bytes of parts 1, 2 and 3. Assumes nothing.
use Rattle.std.specs.Prelude.{ℕ, zero, suc, ◌*◌, ◌/◌, ◌%◌, ◌^◌}
use Rattle.std.specs.Int.Bits.{bit_xor}
use Rattle.byte_parts.specs.declared.Parts.{Parts}
use Rattle.byte_parts.specs.Vectors.{power_t}

-- byte t is bits 3t to 3t + 2
abbrev pub byte_at : ℕ → ℕ → ℕ
byte_at w t = w / 2 ^ (3 * t) % 8

-- the sum over the first n data bytes, byte i under the power `step` times i of T
unfoldable pub sum_to : ℕ → ℕ → ℕ → ℕ
sum_to step zero w = 0
sum_to step (suc i) w = bit_xor (sum_to step i w) (power_t (step * i) (byte_at w i))

-- over all seven
abbrev pub data_sum : ℕ → ℕ → ℕ
data_sum step w = sum_to step 7 w

unfoldable pub parts_of : ℕ → Parts
parts_of w =
    record {
      first = bit_xor (data_sum 0 w) (byte_at w 7);
      second = bit_xor (data_sum 1 w) (byte_at w 8);
      third = bit_xor (data_sum 2 w) (byte_at w 9);
    }
