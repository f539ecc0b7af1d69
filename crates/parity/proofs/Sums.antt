-- Sums over neighbouring numbers: term by term, and of a number's digits. Assumes nothing.
use mathlib.Core.Path.{◌≡◌, refl, sym, ap, ◌∙◌}
use Prim.Native.Nat.{ℕ, zero, suc, ◌+◌, ◌/◌, ◌%◌, ◌^◌, ◌≤◌, ◌<◌}
use native.Mathlib.Omega.{arith}
use native.Mathlib.Numerals.{add-one}
use lib.Pow.{shr-shr}
use lib.Count.{ones_in}
use Rattle.parity.specs.Sums.{sum_from}

pub sum-add : (f g : ℕ → ℕ) (n j : ℕ) → sum_from (λ i. f i + g i) n j ≡ sum_from f n j + sum_from g n j
unfolding sum_from
sum-add f g zero j = refl
sum-add f g (suc n) j = omega (arith, sum-add f g n (suc j))

pub sum_none : (n j : ℕ) → sum_from (λ i. 0) n j ≡ 0
unfolding sum_from
sum_none zero j = refl
sum_none (suc n) j = omega (arith, sum_none n (suc j))

-- no term is above its fellow
pub sum-le : (f g : ℕ → ℕ) (n j : ℕ) → ((i : ℕ) → i < j + n → f i ≤ g i) → sum_from f n j ≤ sum_from g n j
unfolding sum_from
sum-le f g zero j h = omega arith
sum-le f g (suc n) j h = omega (arith, h j (omega arith), sum-le f g n (suc j) (λ i l. h i (omega arith)))

-- each term is its fellow
pub sum_same : (f g : ℕ → ℕ) (n j : ℕ) → ((i : ℕ) → f i ≡ g i) → sum_from f n j ≡ sum_from g n j
unfolding sum_from
sum_same f g zero j h = refl
sum_same f g (suc n) j h = omega (arith, h j, sum_same f g n (suc j) h)

-- the binary digits of x from j on
pub sum_digits : (x n j : ℕ) → sum_from (λ i. x / 2 ^ i % 2) n j ≡ ones_in n (x / 2 ^ j)
unfolding sum_from ones_in
sum_digits x zero j = refl
sum_digits x (suc n) j =
    ap (λ (m : ℕ). x / 2 ^ j % 2 + m)
    (sum_digits x n (suc j) ∙ ap (λ (m : ℕ). ones_in n m) (ap (λ (m : ℕ). x / 2 ^ m) (sym (add-one j)) ∙ sym (shr-shr x j 1)))
