-- The figures of a sheet: counts become floats exactly, and each quotient is the exact one, rounded once. Assumes nothing.
use mathlib.Core.Path.{◌≡◌, refl, sym, ap, ◌∙◌, subst}
use mathlib.Core.Bool.{Bool, true, false, cond, true≢false}
use Prim.Native.Nat.{ℕ, ◌*◌, ◌≤◌, ◌<◌, zero-le}
use native.Mathlib.Nat.{le_trans, le_of_eq, zero-lt-suc, zero-mul, mul-pos, mul_comm, mul_assoc, mul-mul-mul_comm, mul-one, one-mul}
use native.Mathlib.Nat.{mul-le-mul_left}
use native.Mathlib.Omega.{arith}
use borrow.Author.Tests.{ne_eqb}
use lib.Dec.{T, eqb, lit≤}
use lib.IntN.{pos}
use lib.Ieee as Ieee
use lib.Ieee.{Float, nan, inf, fin, binary64, up, down, round, div, of_int, le}
use lib.Ieee.Back.{round_whole}
use lib.Ieee.Exact.{HasValue, round_exact}
use lib.Ieee.Fits.{down_pos}
use lib.Ieee.Order.{round_mono}
use lib.Ieee.Positive.{num, den, den_pos, first_pos}
use lib.Ieee.Scale.{finite, round_same}
use Rattle.sheet.proofs.Zeros.{round-zero}
use Rattle.sheets.specs.Nearest.{Held, zero_float, one_float}
use Rattle.sheets.proofs.Units.{in_units}

-- ---- a count as a float
pub count_exact : (n : ℕ) → n ≤ 65535 → HasValue (of_int binary64 (pos n)) false n 1
unfolding of_int
count_exact n h = round_whole binary64 false n (le_trans h (lit≤ tt))

-- ---- a quotient of values that are not negative, by a value above zero
-- x is a / b, and y is c / 1
pub div_is : (x y : Float) (a b c : ℕ) → 0 < b → 0 < c → HasValue x false a b → HasValue y false c 1
    → div binary64 x y ≡ round binary64 false a (b * c)
unfolding div
div_is nan y a b c B C v w = absurd v
div_is (inf s) y a b c B C v w = absurd v
div_is (fin true m e) y a b c B C v w = absurd (true≢false v.0)
div_is (fin false m e) nan a b c B C v w = absurd w
div_is (fin false m e) (inf t) a b c B C v w = absurd w
div_is (fin false m e) (fin true n d) a b c B C v w = absurd (true≢false w.0)
div_is (fin false m e) (fin false n d) a b c B C v w =
    let N = n * up d in
    let q : N ≡ c * down d = sym (mul-one N) ∙ w.1 in
    let P : 0 < N = subst (λ (x : ℕ). 0 < x) (sym q) (mul-pos C (down_pos d)) in
    let r = round binary64 false (m * up e * down d) (N * down e) in
    ap (λ t. cond t (cond (eqb m 0) nan (inf false)) r) (ne_eqb n 0 (above n (first_pos n (up d) P)))
    ∙ round_same binary64 false (m * up e * down d) (N * down e) a (b * c) (mul-pos P (down_pos e)) (mul-pos B C)
    (mul-mul-mul_comm (m * up e) (down d) b c
    ∙ ap (λ (x : ℕ). x * (down d * c)) v.1
    ∙ ap (λ (x : ℕ). a * down e * x) (mul_comm (down d) c ∙ sym q)
    ∙ mul_assoc a (down e) N
    ∙ ap (λ (x : ℕ). a * x) (mul_comm (down e) N))
  where
    above : (n : ℕ) → 0 < n → n ≡ 0 → ⊥
    above n h e = omega arith

-- ---- a rounded quotient that lies between zero and a finite value is finite
bounded : (x y : Float) → T (le zero_float x) → T (le x y) → finite y ≡ true → finite x ≡ true
unfolding le
bounded nan y a b h = absurd a
bounded (inf true) y a b h = absurd a
bounded (inf false) nan a b h = absurd b
bounded (inf false) (inf t) a b h = absurd (true≢false (sym h))
bounded (inf false) (fin t n d) a b h = absurd b
bounded (fin s m e) y a b h = refl

-- nothing below zero
pub from_zero : (a c : ℕ) → 0 < c → T (le zero_float (round binary64 false a c))
from_zero a c C =
    subst (λ (x : Float). T (le x (round binary64 false a c))) (round-zero 1 (zero-lt-suc 0))
    (round_mono binary64 0 1 a c (zero-lt-suc 0) C (le_trans (le_of_eq (zero-mul c)) zero-le))

-- ---- the share
round_one : round binary64 false 1 1 ≡ one_float
unfolding round
round_one = refl

pub to_one : (a c : ℕ) → 0 < c → a ≤ c → T (le (round binary64 false a c) one_float)
to_one a c C h =
    subst (λ (x : Float). T (le (round binary64 false a c) x)) round_one
    (round_mono binary64 a c 1 1 C (zero-lt-suc 0) (le_trans (le_of_eq (mul-one a)) (le_trans h (le_of_eq (sym (one-mul c))))))

pub share_finite : (a c : ℕ) → 0 < c → a ≤ c → finite (round binary64 false a c) ≡ true
share_finite a c C h = bounded (round binary64 false a c) one_float (from_zero a c C) (to_one a c C h) refl

pub all_one : (c : ℕ) → 0 < c → round binary64 false c c ≡ one_float
all_one c C = round_same binary64 false c c 1 1 C (zero-lt-suc 0) (mul-one c ∙ sym (one-mul c)) ∙ round_one

pub share_is : (mended words : ℕ) → 0 < words → words ≤ 65535 → mended ≤ words
    → div binary64 (of_int binary64 (pos mended)) (of_int binary64 (pos words)) ≡ round binary64 false mended words
share_is mended words W M h =
    div_is (of_int binary64 (pos mended)) (of_int binary64 (pos words)) mended 1 words (zero-lt-suc 0) W
    (count_exact mended (le_trans h M)) (count_exact words M)
    ∙ ap (λ (x : ℕ). round binary64 false mended x) (one-mul words)

-- ---- hours per station
-- hours above zero have their own fraction for a value
pub own : (x : Float) → finite x ≡ true → Ieee.lt zero_float x ≡ true → HasValue x false (num x) (den x)
unfolding Ieee.lt
own nan h a = absurd (true≢false (sym h))
own (inf s) h a = absurd (true≢false (sym h))
own (fin true m e) h a = absurd (true≢false (sym a))
own (fin false m e) h a = (refl, refl)

-- a value that is held is finite where it is rounded
valued : (x : Float) (s : Bool) (a c : ℕ) → HasValue x s a c → finite x ≡ true
valued nan s a c v = absurd v
valued (inf t) s a c v = absurd v
valued (fin t m e) s a c v = refl

pub station_finite : (x : Float) (c : ℕ) → Held binary64 x → 0 < c → finite (round binary64 false (num x) (den x * c)) ≡ true
station_finite x c k C =
    let u = in_units binary64 x k in
    let r = round binary64 false (num x) (den x) in
    let v : HasValue r false (num x) (den x) =
    round_exact binary64 false (num x) (den x) u.digits u.zeros (den_pos x) u.few u.under u.are in
    let more : den x ≤ den x * c = le_trans (le_of_eq (sym (mul-one (den x)))) (mul-le-mul_left (den x) C) in
    let D : 0 < den x * c = mul-pos (den_pos x) C in
    bounded (round binary64 false (num x) (den x * c)) r (from_zero (num x) (den x * c) D)
    (round_mono binary64 (num x) (den x * c) (num x) (den x) D (den_pos x) (mul-le-mul_left (num x) more))
    (valued r false (num x) (den x) v)

pub station_is : (hours : Float) (devices : ℕ) → finite hours ≡ true → Ieee.lt zero_float hours ≡ true → 0 < devices → devices ≤ 65535
    → div binary64 hours (of_int binary64 (pos devices)) ≡ round binary64 false (num hours) (den hours * devices)
station_is hours devices h a D M =
    div_is hours (of_int binary64 (pos devices)) (num hours) (den hours) devices (den_pos hours) D (own hours h a) (count_exact devices M)
