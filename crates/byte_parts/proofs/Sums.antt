-- The sums over data bytes, and the parts, are vectors of three bits. Assumes nothing.
use Prim.Native.Nat.{ℕ, zero, suc, ◌*◌, ◌<◌}
use native.Mathlib.Omega.{arith}
use lib.Bits.{xor_lt}
use lib.Dec.{lit<}
use Rattle.byte_parts.specs.Vectors.{power_t}
use Rattle.byte_parts.specs.Parts.{byte_at, sum_to, parts_of}
use Rattle.byte_parts.proofs.Vectors.{power_lt}

pub sum_lt : (step n w : ℕ) → sum_to step n w < 8
unfolding sum_to
sum_lt step zero w = lit< tt
sum_lt step (suc i) w =
    xor_lt 3 (sum_to step i w) (power_t (step * i) (byte_at w i)) (sum_lt step i w) (power_lt (step * i) (byte_at w i) (omega arith))

pub first-lt : (w : ℕ) → (parts_of w).first < 8
unfolding parts_of
first-lt w = xor_lt 3 (sum_to 0 7 w) (byte_at w 7) (sum_lt 0 7 w) (omega arith)

pub second_lt : (w : ℕ) → (parts_of w).second < 8
unfolding parts_of
second_lt w = xor_lt 3 (sum_to 1 7 w) (byte_at w 8) (sum_lt 1 7 w) (omega arith)

pub third_lt : (w : ℕ) → (parts_of w).third < 8
unfolding parts_of
third_lt w = xor_lt 3 (sum_to 2 7 w) (byte_at w 9) (sum_lt 2 7 w) (omega arith)
