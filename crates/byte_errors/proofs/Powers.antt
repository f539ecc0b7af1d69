-- T is linear, its order is 7, and a sum of two different powers of it is inverted by a power: computed, once. From that: when two powers
-- can agree on a vector. Assumes nothing.
use mathlib.Core.Path.{◌≡◌, refl, sym, ap, ap₂, ◌∙◌}
use mathlib.Core.Logic.{◌≢◌}
use mathlib.Core.Bool.{Bool, true, cond, ◌&&◌, ◌||◌}
use Prim.Native.Nat.{ℕ, zero, suc, ◌+◌, ◌*◌, ◌<◌}
use native.Mathlib.Nat.{add_comm}
use native.Mathlib.Omega.{arith}
use lib.Bits.{bit_xor, xor_lt}
use lib.Dec.{eqb, lit<}
use borrow.Author.Tests.{eqb-true, ne_eqb}
use Rattle.parity.proofs.Xor.{xor_assoc, xor_undo, eq_of_xor_zero, xor_zero_of_eq}
use Rattle.parity.specs.Below.{all_below}
use Rattle.parity.proofs.Tested.{both, all_at}
use Rattle.byte_parts.specs.Vectors.{times_t, power_t}
use Rattle.byte_parts.proofs.Vectors.{power_lt}

-- ---- computed

t_linear : all_below (λ u. all_below (λ v. eqb (times_t (bit_xor u v)) (bit_xor (times_t u) (times_t v))) 8) 8 ≡ true
unfolding all_below times_t
t_linear = refl

t_seven : all_below (λ v. eqb (power_t 7 v) v) 8 ≡ true
unfolding all_below times_t power_t
t_seven = refl

-- how many powers of T take v to 1, of n at most
unfoldable pub turns_to_one : ℕ → ℕ → ℕ
turns_to_one zero v = 0
turns_to_one (suc n) v = cond (eqb v 1) 0 (suc (turns_to_one n (times_t v)))

-- the power of T that inverts the sum of its powers i and j
abbrev pub inverse : ℕ → ℕ → ℕ
inverse i j = turns_to_one 7 (bit_xor (power_t i 1) (power_t j 1))

-- the sum of the powers i and j of T, times a vector
abbrev pub sum_power : ℕ → ℕ → ℕ → ℕ
sum_power i j v = bit_xor (power_t i v) (power_t j v)

abbrev inverts : ℕ → ℕ → ℕ → Bool
inverts i j v = eqb (power_t (inverse i j) (sum_power i j v)) v && eqb (sum_power i j (power_t (inverse i j) v)) v

sums_inverted : all_below (λ i. all_below (λ j. eqb i j || all_below (λ v. inverts i j v) 8) 7) 7 ≡ true
unfolding all_below times_t power_t turns_to_one
sums_inverted = refl

-- ---- as laws

pub t-xor : (u v : ℕ) → u < 8 → v < 8 → times_t (bit_xor u v) ≡ bit_xor (times_t u) (times_t v)
t-xor u v h k = eqb-true _ _ (all_at _ 8 (all_at _ 8 t_linear u h) v k)

-- the order of T divides 7
pub order_seven : (v : ℕ) → v < 8 → power_t 7 v ≡ v
order_seven v h = eqb-true _ _ (all_at _ 8 t_seven v h)

-- a sum of two different powers is inverted, on either side
pub sum_inverted : (i j : ℕ) → i < 7 → j < 7 → i ≢ j → (v : ℕ) → v < 8
    → (power_t (inverse i j) (sum_power i j v) ≡ v) × (sum_power i j (power_t (inverse i j) v) ≡ v)
sum_inverted i j h k d v l =
    let t = all_at _ 8 (rw (ne_eqb i j d) at (all_at _ 7 (all_at _ 7 sums_inverted i h) j k)) v l in
    let b = both (eqb (power_t (inverse i j) (sum_power i j v)) v) (eqb (sum_power i j (power_t (inverse i j) v)) v) t in
    (eqb-true _ _ b.0, eqb-true _ _ b.1)

pub power_none : (v : ℕ) → power_t 0 v ≡ v
unfolding power_t
power_none v = refl

pub power_xor : (i u v : ℕ) → u < 8 → v < 8 → power_t i (bit_xor u v) ≡ bit_xor (power_t i u) (power_t i v)
unfolding power_t
power_xor zero u v h k = refl
power_xor (suc i) u v h k =
    ap times_t (power_xor i u v h k) ∙ t-xor (power_t i u) (power_t i v) (power_lt i u h) (power_lt i v k)

pub power_zero : (i : ℕ) → power_t i 0 ≡ 0
unfolding power_t times_t
power_zero zero = refl
power_zero (suc i) = ap times_t (power_zero i)

pub power_add : (i j v : ℕ) → power_t (i + j) v ≡ power_t i (power_t j v)
unfolding power_t
power_add zero j v = let e : 0 + j ≡ j = omega arith in ap (λ (n : ℕ). power_t n v) e
power_add (suc i) j v =
    let e : suc i + j ≡ suc (i + j) = omega arith in
    ap (λ (n : ℕ). power_t n v) e ∙ ap times_t (power_add i j v)

-- powers commute
power_comm : (i j v : ℕ) → power_t i (power_t j v) ≡ power_t j (power_t i v)
power_comm i j v = sym (power_add i j v) ∙ ap (λ (n : ℕ). power_t n v) (add_comm i j) ∙ power_add j i v

pub power_twice : (i v : ℕ) → power_t (2 * i) v ≡ power_t i (power_t i v)
power_twice i v = let e : 2 * i ≡ i + i = omega arith in ap (λ (n : ℕ). power_t n v) e ∙ power_add i i v

-- ---- where powers agree

-- two different powers agree on nothing but zero
pub power_apart : (i j : ℕ) → i < 7 → j < 7 → i ≢ j → (v : ℕ) → v < 8 → power_t i v ≡ power_t j v → v ≡ 0
power_apart i j h k d v l e =
    sym (sum_inverted i j h k d v l).0 ∙ ap (power_t (inverse i j)) (xor_zero_of_eq (power_t i v) (power_t j v) e) ∙ power_zero (inverse i j)

-- a power takes nothing but zero to zero
pub power_nonzero : (i : ℕ) → (v : ℕ) → v < 8 → power_t i v ≡ 0 → v ≡ 0
unfolding power_t
power_nonzero zero v l e = e
power_nonzero (suc i) v l e = power_nonzero i v l (back (power_t i v) (power_lt i v l) e)
  where
    back : (u : ℕ) → u < 8 → times_t u ≡ 0 → u ≡ 0
    back u k z = sym (order_seven u k) ∙ power_add 6 1 u ∙ ap (power_t 6) z ∙ power_zero 6

-- and no two vectors to the same
pub power_same : (i : ℕ) → (u v : ℕ) → u < 8 → v < 8 → power_t i u ≡ power_t i v → u ≡ v
power_same i u v h k e =
    eq_of_xor_zero u v
    (power_nonzero i (bit_xor u v) (xor_lt 3 u v h k) (power_xor i u v h k ∙ xor_zero_of_eq (power_t i u) (power_t i v) e))

-- the sum of two powers, twice, is the sum of the powers twice as high
pub sum_twice : (i j v : ℕ) → v < 8 → sum_power i j (sum_power i j v) ≡ bit_xor (power_t (2 * i) v) (power_t (2 * j) v)
sum_twice i j v l =
    let a = power_lt i v l in
    let b = power_lt j v l in
    ap₂ bit_xor (power_xor i (power_t i v) (power_t j v) a b) (power_xor j (power_t i v) (power_t j v) a b)
    ∙ crossed (power_t i (power_t i v)) (power_t i (power_t j v)) (power_t j (power_t i v)) (power_t j (power_t j v)) (power_comm i j v)
    ∙ ap₂ bit_xor (sym (power_twice i v)) (sym (power_twice j v))
  where
    -- the two in the middle are the same, and fall out
    crossed : (a b c d : ℕ) → b ≡ c → bit_xor (bit_xor a b) (bit_xor c d) ≡ bit_xor a d
    crossed a b c d e =
        ap (λ (x : ℕ). bit_xor (bit_xor a b) (bit_xor x d)) (sym e) ∙ xor_assoc a b (bit_xor b d) ∙ ap (bit_xor a) (xor_undo b d)

-- two different powers, twice as high, agree on nothing but zero
pub twice_apart : (i j : ℕ) → i < 7 → j < 7 → i ≢ j → (v : ℕ) → v < 8 → power_t (2 * i) v ≡ power_t (2 * j) v → v ≡ 0
twice_apart i j h k d v l e =
    let p = sum_power i j v in
    let pl = xor_lt 3 (power_t i v) (power_t j v) (power_lt i v l) (power_lt j v l) in
    let z = sum_twice i j v l ∙ xor_zero_of_eq (power_t (2 * i) v) (power_t (2 * j) v) e in
    let flat = power_apart i j h k d p pl (eq_of_xor_zero (power_t i p) (power_t j p) z) in
    power_apart i j h k d v l (eq_of_xor_zero (power_t i v) (power_t j v) flat)

-- the order of T is no less than 7
pub order_least : (i v : ℕ) → 0 < i → i < 7 → v < 8 → power_t i v ≡ v → v ≡ 0
unfolding power_t
order_least i v h k l e = power_apart i 0 k (lit< tt) (λ z. omega (arith, z)) v l e
