-- Odd within a set of rows is a sense of odd that exclusive or respects; with all rows in the set it is the odd number of ones. Assumes
-- nothing.
use mathlib.Core.Path.{◌≡◌, refl, ap, ◌∙◌}
use Prim.Native.Nat.{ℕ, zero, suc, ◌/◌, ◌%◌, ◌^◌, ◌<◌, min}
use native.Mathlib.Nat.{mod-eq_of_lt}
use native.Mathlib.Omega.{arith}
use lib.Arith.{bin_ind, digits_mod}
use lib.Bits.{bit_and, bit_xor, differ, and_step, and_shr, and_mask}
use Rattle.parity.specs.Odd.{odd_ones, odd_in, all_rows, Parity}
use Rattle.parity.proofs.Ones.{parity_of_ones}
use Rattle.parity.proofs.Xor.{by_digits, xor_mod2, xor_div2}

and_div2 : (a b : ℕ) → bit_and a b / 2 ≡ bit_and (a / 2) (b / 2)
and_div2 a b = and_shr a b 1

min-lt : (x y : ℕ) → x < 2 → min x y < 2
min-lt x y h = omega arith

and_mod2 : (a b : ℕ) → bit_and a b % 2 ≡ min (a % 2) (b % 2)
and_mod2 a b = ap (λ (x : ℕ). x % 2) (and_step a b) ∙ digits_mod (bit_and (a / 2) (b / 2)) (min-lt (a % 2) (b % 2) (omega arith))

-- on digits
min-differ : (x y z : ℕ) → x < 2 → y < 2 → z < 2 → min (differ x y) z ≡ differ (min x z) (min y z)
min-differ zero y z hx hy hz = let e : 0 ≡ min 0 z = omega arith in ap (λ (t : ℕ). differ t (min y z)) e
min-differ (suc zero) zero zero hx hy hz = refl
min-differ (suc zero) zero (suc zero) hx hy hz = refl
min-differ (suc zero) (suc zero) zero hx hy hz = refl
min-differ (suc zero) (suc zero) (suc zero) hx hy hz = refl
min-differ (suc zero) zero (suc (suc z)) hx hy hz = absurd (omega arith)
min-differ (suc zero) (suc zero) (suc (suc z)) hx hy hz = absurd (omega arith)
min-differ (suc zero) (suc (suc y)) z hx hy hz = absurd (omega arith)
min-differ (suc (suc x)) y z hx hy hz = absurd (omega arith)

-- what lies within the set, of an exclusive or
pub and_xor : (a b m : ℕ) → bit_and (bit_xor a b) m ≡ bit_xor (bit_and a m) (bit_and b m)
and_xor =
    bin_ind (λ (n : ℕ). (b m : ℕ) → bit_and (bit_xor n b) m ≡ bit_xor (bit_and n m) (bit_and b m)) (λ b m. refl)
    (λ n ih b m. by_digits
    (simp (and_div2, xor_div2) (ih (b / 2) (m / 2)))
    (simp (and_mod2, xor_mod2) (min-differ (n % 2) (b % 2) (m % 2) (omega arith) (omega arith) (omega arith))))

-- for any set of rows
pub parity_in : (rows : ℕ) → Parity (odd_in rows)
parity_in rows = record {
  adds = λ a b. ap odd_ones (and_xor a b rows) ∙ parity_of_ones.adds (bit_and a rows) (bit_and b rows);
}

-- with all rows in the set it is the odd number of ones
pub odd_all : (r s : ℕ) → s < 2 ^ r → odd_in (all_rows r) s ≡ odd_ones s
odd_all r s h = ap odd_ones (and_mask s r ∙ mod-eq_of_lt h)
