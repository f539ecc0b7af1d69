-- How many records of a size fit: laws of products and quotients by any size. Assumes nothing.
use mathlib.Core.Path.{◌≡◌, sym, ap, ◌∙◌}
use Prim.Native.Nat.{ℕ, suc, ◌+◌, ◌*◌, ◌-◌, ◌/◌, ◌%◌, ◌≤◌, ◌<◌}
use native.Mathlib.Nat.{mul-le-mul_right, add-mul, div-mul-le_self, div-add-mod', mul-div_cancel, mul-mod_left, le-mul_of_pos_right}
use native.Mathlib.Omega.{arith}

-- as many as there are whole ones
pub whole-fits : (size n k : ℕ) → k ≤ n / size → k * size ≤ n
whole-fits size n k h = omega (arith, mul-le-mul_right size h, div-mul-le_self n size)

-- they are no more than there was
pub quotient_back : {n w : ℕ} (size : ℕ) → n < w → n / size * size < w
quotient_back {n} size h = omega (arith, div-mul-le_self n size)

-- without a rest they are all of it
pub no_rest : (size n : ℕ) → n % size ≡ 0 → n / size * size ≡ n
no_rest size n h = omega (arith, div-add-mod' n size)

-- ---- from the one with the number a up to the one with the number b

module _ (size a b : ℕ) (h : a ≤ b) where
  pub run-width : b * size - a * size ≡ (b - a) * size
  run-width =
      let e : a + (b - a) ≡ b = omega arith in
      omega (arith, sym (add-mul a (b - a) size) ∙ ap (λ n. n * size) e)

  pub run-records : 1 ≤ size → (b * size - a * size) / size ≡ b - a
  run-records s = ap (λ n. n / size) run-width ∙ mul-div_cancel (b - a) s

  pub run-whole : (b * size - a * size) % size ≡ 0
  run-whole = ap (λ n. n % size) run-width ∙ mul-mod_left (b - a) size

-- ---- what ends within a bound on whole ones has a number below the bound
pub number_below : (size bound n first i : ℕ) → 1 ≤ size → first * size + n ≤ bound / size * size → i < n / size → first + i < bound
number_below size bound n first i s h l =
    omega (
      arith,
      le-mul_of_pos_right (first + suc i) s,
      add-mul first (suc i) size,
      whole-fits size n (suc i) l,
      div-mul-le_self bound size,
    )
