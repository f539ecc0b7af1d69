-- T bit by bit, and the bounds of its powers. Assumes nothing.
use mathlib.Core.Path.{◌≡◌, refl, ap, ◌∙◌}
use Prim.Native.Nat.{ℕ, zero, suc, ◌+◌, ◌*◌, ◌/◌, ◌%◌, ◌<◌}
use native.Mathlib.Omega.{arith}
use Rattle.byte_parts.specs.Vectors.{times_t, power_t}

-- T as printed takes (b0, b1, b2) to (b2, b0 + b2, b1)
pub t_by_bits : (b0 b1 b2 : ℕ) → b0 < 2 → b1 < 2 → b2 < 2
    → times_t (b0 + b1 * 2 + b2 * 4) ≡ b2 + (b0 + b2) % 2 * 2 + b1 * 4
unfolding times_t
t_by_bits zero zero zero h0 h1 h2 = refl
t_by_bits zero zero (suc zero) h0 h1 h2 = refl
t_by_bits zero (suc zero) zero h0 h1 h2 = refl
t_by_bits zero (suc zero) (suc zero) h0 h1 h2 = refl
t_by_bits (suc zero) zero zero h0 h1 h2 = refl
t_by_bits (suc zero) zero (suc zero) h0 h1 h2 = refl
t_by_bits (suc zero) (suc zero) zero h0 h1 h2 = refl
t_by_bits (suc zero) (suc zero) (suc zero) h0 h1 h2 = refl
t_by_bits (suc (suc b0)) b1 b2 h0 h1 h2 = absurd (omega arith)
t_by_bits zero (suc (suc b1)) b2 h0 h1 h2 = absurd (omega arith)
t_by_bits (suc zero) (suc (suc b1)) b2 h0 h1 h2 = absurd (omega arith)
t_by_bits zero zero (suc (suc b2)) h0 h1 h2 = absurd (omega arith)
t_by_bits zero (suc zero) (suc (suc b2)) h0 h1 h2 = absurd (omega arith)
t_by_bits (suc zero) zero (suc (suc b2)) h0 h1 h2 = absurd (omega arith)
t_by_bits (suc zero) (suc zero) (suc (suc b2)) h0 h1 h2 = absurd (omega arith)

-- a number below 8 by its bits
pub t_of : (v : ℕ) → v < 8 → times_t v ≡ v / 4 + (v % 2 + v / 4) % 2 * 2 + v / 2 % 2 * 4
t_of v h =
    let e : v ≡ v % 2 + v / 2 % 2 * 2 + v / 4 * 4 = omega arith in
    ap times_t e ∙ t_by_bits (v % 2) (v / 2 % 2) (v / 4) (omega arith) (omega arith) (omega arith)

pub t-lt : (v : ℕ) → v < 8 → times_t v < 8
t-lt v h = omega (arith, t_of v h)

pub power_lt : (i v : ℕ) → v < 8 → power_t i v < 8
unfolding power_t
power_lt zero v h = h
power_lt (suc i) v h = t-lt (power_t i v) (power_lt i v h)
