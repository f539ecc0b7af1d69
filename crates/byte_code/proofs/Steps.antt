-- The rows of `read_by`, each under the tests that lead to it. Assumes nothing.
use mathlib.Core.Path.{◌≡◌, refl}
use mathlib.Core.Bool.{Bool, true, false, cond, ◌&&◌}
use Prim.Native.Nat.{ℕ, zero, suc, ◌+◌, ◌-◌, ◌*◌, ◌≤◌, ◌<◌}
use native.Mathlib.Omega.{arith}
use Rattle.std.specs.Prelude.{Some, None}
use native.Mathlib.Numerals.{add-one}
use lib.Dec.{eqb}
use borrow.Author.Tests.{eq-eqb, eqb-true}
use Rattle.byte_parts.specs.Vectors.{power_t}
use Rattle.byte_parts.specs.declared.Parts.{Parts}
use Rattle.byte_code.specs.Reading.{byte_number, as_read, put_right, both_zero, solves, solution_in, read_by}

-- the tests of steps 1 and 2
abbrev pub zero_syndrome : Parts → Bool
zero_syndrome s = eqb s.first 0 && both_zero s.second s.third

pub record NoCheck (s : Parts) : Type 0 where
  pub some : zero_syndrome s ≡ false
  pub seven : both_zero s.second s.third ≡ false
  pub eight : both_zero s.first s.third ≡ false
  pub nine : both_zero s.first s.second ≡ false

pub row_clean : (s : Parts) (w : ℕ) → zero_syndrome s ≡ true → read_by s w ≡ as_read 0 w
unfolding read_by
row_clean s w h = rw h

pub row_seven : (s : Parts) (w : ℕ) → zero_syndrome s ≡ false → both_zero s.second s.third ≡ true
    → read_by s w ≡ put_right 2 (byte_number 7) s.first w
unfolding read_by
row_seven s w h a = rw (h, a)

pub row_eight : (s : Parts) (w : ℕ) → zero_syndrome s ≡ false → both_zero s.second s.third ≡ false
    → both_zero s.first s.third ≡ true → read_by s w ≡ put_right 2 (byte_number 8) s.second w
unfolding read_by
row_eight s w h a b = rw (h, a, b)

pub row_nine : (s : Parts) (w : ℕ) → zero_syndrome s ≡ false → both_zero s.second s.third ≡ false
    → both_zero s.first s.third ≡ false → both_zero s.first s.second ≡ true → read_by s w ≡ put_right 2 (byte_number 9) s.third w
unfolding read_by
row_nine s w h a b d = rw (h, a, b, d)

pub row_data : (s : Parts) (w i : ℕ) → NoCheck s → solution_in s 7 0 ≡ Some i → read_by s w ≡ put_right 1 (byte_number i) s.first w
unfolding read_by
row_data s w i n e = rw (n.some, n.seven, n.eight, n.nine, e)

pub row_flagged : (s : Parts) (w : ℕ) → NoCheck s → solution_in s 7 0 ≡ None → read_by s w ≡ as_read 3 w
unfolding read_by
row_flagged s w n e = rw (n.some, n.seven, n.eight, n.nine, e)

-- ---- the search of step 3

-- a number of which step 3 asks in vain
pub solves_not : (s : Parts) (i : ℕ) → (power_t i s.first ≡ s.second → power_t (2 * i) s.first ≡ s.third → ⊥) → solves s i ≡ false
solves_not s i h = go (eqb (power_t i s.first) s.second) (eqb (power_t (2 * i) s.first) s.third) refl refl
  where
    go : (a b : Bool) → eqb (power_t i s.first) s.second ≡ a → eqb (power_t (2 * i) s.first) s.third ≡ b
        → eqb (power_t i s.first) s.second && eqb (power_t (2 * i) s.first) s.third ≡ false
    go true true a b = absurd (h (eqb-true _ _ a) (eqb-true _ _ b))
    go true false a b = rw (a, b)
    go false b a e = rw a

-- a turn of it that finds one, one that goes on, and its end
module _ (s : Parts) (n i : ℕ) where
  pub solution_here : i < n → power_t i s.first ≡ s.second → power_t (2 * i) s.first ≡ s.third → solution_in s (n - i) i ≡ Some i
  unfolding solution_in
  solution_here h a b = let e : n - i ≡ suc (n - (i + 1)) = omega arith in rw (e, eq-eqb _ _ a, eq-eqb _ _ b)

  pub solution_next : i < n → solves s i ≡ false → solution_in s (n - i) i ≡ solution_in s (n - (i + 1)) (i + 1)
  unfolding solution_in
  solution_next h t = let e : n - i ≡ suc (n - (i + 1)) = omega arith in rw (e, t, add-one i)

  pub solution_past : n ≤ i → solution_in s (n - i) i ≡ None
  unfolding solution_in
  solution_past h = let e : n - i ≡ 0 = omega arith in rw e

-- what it finds is one of the n numbers from i on
solution_within : (s : Parts) (n i j : ℕ) → solution_in s n i ≡ Some j → j < i + n
unfolding solution_in
solution_within s zero i j e = cc
solution_within s (suc n) i j e = go (solves s i) e (λ f. solution_within s n (suc i) j f)
  where
    go : (t : Bool) → cond t (Some i) (solution_in s n (suc i)) ≡ Some j → (solution_in s n (suc i) ≡ Some j → j < suc i + n)
        → j < i + suc n
    go true e rest = let here : i ≡ j = cc in omega (arith, here)
    go false e rest = omega (arith, rest e)

pub solution_below : (s : Parts) (j : ℕ) → solution_in s 7 0 ≡ Some j → j < 7
solution_below s j e = solution_within s 7 0 j e
