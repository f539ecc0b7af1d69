-- Turning one bit of bytes: bit p % 8 of byte p / 8, which is binary digit p of the number that they say. Assumes nothing.
use Rattle.std.specs.Prelude.{List, ℕ, ◌/◌, ◌%◌, ◌^◌, get_or, set}
use Rattle.std.specs.Int.Bits.{bit_xor}

unfoldable pub turned : List ℕ → ℕ → List ℕ
turned bytes p = set bytes (p / 8) (bit_xor (get_or bytes (p / 8) 0) (2 ^ (p % 8)))
