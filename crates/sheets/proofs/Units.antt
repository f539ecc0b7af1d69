-- A finite value that a format holds, counted in the format's smallest values: a number of the format's digits, with zeros after it.
-- `round` gives such a count too, and where its last kept digit is 0, so is the last bit of the value's pattern. Assumes nothing.
use mathlib.Core.Path.{◌≡◌, sym, ap, ◌∙◌, subst}
use mathlib.Core.Logic.{◌⊎◌, inl, inr}
use mathlib.Core.Bool.{Bool, true, false, ◌&&◌, true≢false}
use Prim.Native.Nat.{ℕ, zero, suc, ◌+◌, ◌-◌, ◌*◌, ◌/◌, ◌%◌, ◌^◌, ◌≤◌, ◌<◌}
use native.Mathlib.Nat.{le_refl, le-suc, le_trans, le_of_eq, le_of_suc-le-suc, lt_of_lt_of_le, lt_of_not-le, lt_irrefl, lt-suc_self}
use native.Mathlib.Nat.{not-le_of_lt, eq-or-lt_of_le, zero-mul, zero-lt-suc, mul-one, mul_assoc, mul-mod_left, mul-div_cancel}
use native.Mathlib.Nat.{mul-le-mul_right, mul_comm, mul_right_comm, mul-lt-mul_of_pos_right, lt_of_mul-lt-mul_right, lt_of_le_of_lt}
use native.Mathlib.Nat.{pow-suc}
use native.Mathlib.Omega.{arith}
use lib.Arith.{lt_of_le-ne}
use lib.Dec.{T, eqb, ltb, leb, ltb→lt, leb→le}
use lib.IntN.{ℤ, pos, negsuc}
use lib.Pow.{pow-add, pow_pos, pow-lt, pow_mono, shl_lt, shl-shr}
use lib.Ieee.{Float, nan, inf, fin, Format, prec, emax, low, up, down, size, fits, to_bits}
use lib.Ieee.Digits.{back, size-lt, size-le}
use lib.Ieee.Fits.{and_l, and_r, two, down_pos}
use lib.Ieee.Exact.{HasValue}
use lib.Ieee.Scale.{finite}
use lib.Ieee.Positive.{num, den}
use Rattle.sheets.specs.Nearest.{Held}

-- x is m * 2 ^ i smallest values, m has no more digits than the format keeps, and all of it is below 2 ^ (emax + 1)
pub record InUnits (f : Format) (x : Float) : Type 0 where
  pub digits : ℕ
  pub zeros : ℕ
  pub few : digits < 2 ^ prec f
  pub under : digits * 2 ^ zeros < 2 ^ (low f + suc (emax f))
  pub are : num x * 2 ^ low f ≡ digits * 2 ^ zeros * den x

-- of what `fits` tests
some_digits : (f : Format) (s : Bool) (m : ℕ) (e : ℤ) → T (fits f (fin s (suc m) e))
    → (suc m < 2 ^ prec f) × (down e ≤ 2 ^ low f) × (suc m * up e < 2 ^ suc (emax f) * down e)
unfolding fits
some_digits f s m e =
    go (eqb (suc m % 2) 1) (ltb (suc m) (2 ^ prec f)) (leb (down e) (2 ^ low f)) (ltb (suc m * up e) (2 ^ suc (emax f) * down e))
    (ltb→lt (suc m) (2 ^ prec f)) (leb→le (down e) (2 ^ low f)) (ltb→lt (suc m * up e) (2 ^ suc (emax f) * down e))
  where
    go : {X Y Z : Type 0} (a b c d : Bool) → (T b → X) → (T c → Y) → (T d → Z) → T (a && b && c && d) → X × Y × Z
    go a b c d x y z t =
        let u = and_l (a && b && c) d t in
        (x (and_r a b (and_l (a && b) c u)), y (and_r (a && b) c u), z (and_r (a && b && c) d t))

-- below 2 ^ t, so below 2 ^ (l + t) smallest values of 2 ^ -l each
below_top : (N D Z l t : ℕ) → N * 2 ^ l ≡ Z * D → N < 2 ^ t * D → Z < 2 ^ (l + t)
below_top N D Z l t e h =
    lt_of_mul-lt-mul_right D
    (lt_of_le_of_lt (le_of_eq (sym e))
    (lt_of_lt_of_le (mul-lt-mul_of_pos_right h (pow_pos l))
    (le_of_eq (mul_right_comm (2 ^ t) D (2 ^ l) ∙ ap (λ (x : ℕ). x * D) (mul_comm (2 ^ t) (2 ^ l) ∙ sym (pow-add 2 l t))))))

-- where a power of two is at most another, so is its exponent
pow-back : (i j : ℕ) → 2 ^ i ≤ 2 ^ j → i ≤ j
pow-back i j h = le_of_suc-le-suc (lt_of_not-le (λ (g : suc j ≤ i). not-le_of_lt (pow-lt g) h))

in_units_of : (f : Format) (x : Float) → T (fits f x) → finite x ≡ true → InUnits f x
in_units_of f nan t h = absurd (true≢false (sym h))
in_units_of f (inf s) t h = absurd (true≢false (sym h))
in_units_of f (fin s zero e) t h =
    record {
      digits = 0;
      zeros = 0;
      few = pow_pos (prec f);
      under = pow_pos (low f + suc (emax f));
      are = ap (λ (x : ℕ). x * 2 ^ low f) (zero-mul (up e)) ∙ zero-mul (2 ^ low f) ∙ sym (zero-mul (down e));
    }
in_units_of f (fin s (suc m) (pos j)) t h =
    let w = some_digits f s m (pos j) t in
    let q : suc m * 2 ^ j * 2 ^ low f ≡ suc m * 2 ^ (j + low f) * 1 =
    mul_assoc (suc m) (2 ^ j) (2 ^ low f)
    ∙ ap (λ (x : ℕ). suc m * x) (sym (pow-add 2 j (low f)))
    ∙ sym (mul-one (suc m * 2 ^ (j + low f))) in
    record {
      digits = suc m;
      zeros = j + low f;
      few = w.0;
      under = below_top (suc m * 2 ^ j) 1 (suc m * 2 ^ (j + low f)) (low f) (suc (emax f)) q w.2;
      are = q;
    }
in_units_of f (fin s (suc m) (negsuc j)) t h =
    let w = some_digits f s m (negsuc j) t in
    let i = low f - suc j in
    let l : i + suc j ≡ low f = back (low f) (suc j) (pow-back (suc j) (low f) w.1) in
    let q : suc m * 1 * 2 ^ low f ≡ suc m * 2 ^ i * 2 ^ suc j =
    ap (λ (x : ℕ). x * 2 ^ low f) (mul-one (suc m))
    ∙ ap (λ (x : ℕ). suc m * x) (ap (λ (x : ℕ). 2 ^ x) (sym l) ∙ pow-add 2 i (suc j))
    ∙ sym (mul_assoc (suc m) (2 ^ i) (2 ^ suc j)) in
    record {
      digits = suc m;
      zeros = i;
      few = w.0;
      under = below_top (suc m * 1) (2 ^ suc j) (suc m * 2 ^ i) (low f) (suc (emax f)) q w.2;
      are = q;
    }

pub in_units : (f : Format) (x : Float) → Held f x → InUnits f x
in_units f x h = in_units_of f x (subst T (sym h.holds) tt) h.ends

-- ---- the last kept digit
size_gt : (n j : ℕ) → 2 ^ j ≤ n → j < size n
size_gt n j h = lt_of_not-le (λ (g : size n ≤ j). not-le_of_lt (lt_of_lt_of_le (size-lt n) (pow_mono g)) h)

-- of a power of two from 2 on
pow_even : (j : ℕ) → 0 < j → 2 ^ j % 2 ≡ 0
pow_even zero h = absurd (lt_irrefl 0 h)
pow_even (suc j) h = ap (λ (x : ℕ). x % 2) (pow-suc 2 j) ∙ mul-mod_left (2 ^ j) 2

times_even : (k x : ℕ) → x % 2 ≡ 0 → k * x % 2 ≡ 0
times_even k x h =
    let e : x ≡ x / 2 * 2 = omega arith in
    ap (λ (z : ℕ). k * z % 2) e ∙ ap (λ (z : ℕ). z % 2) (sym (mul_assoc k (x / 2) 2)) ∙ mul-mod_left (k * (x / 2)) 2

high : (p : ℕ) → 2 ≤ p → 0 < p - 1
high p t = omega arith

-- the p leading digits of q * 2 ^ k are q, or half of it where q is 2 ^ p
leading : (p q k : ℕ) → 2 ≤ p → q < 2 ^ p → (0 < k → 2 ^ (p - 1) ≤ q) → q * 2 ^ k / 2 ^ (size (q * 2 ^ k) - p) ≡ q
leading p q k two most least = ap (λ (x : ℕ). q * 2 ^ k / 2 ^ x) (dropped k least) ∙ shl-shr q k
  where
    nothing : (p z : ℕ) → z ≤ p + 0 → z - p ≡ 0
    nothing p z a = omega arith

    exact : (p k z : ℕ) → 2 ≤ p → z ≤ p + k → p - 1 + k < z → z - p ≡ k
    exact p k z t a b = omega arith

    dropped : (k : ℕ) → (0 < k → 2 ^ (p - 1) ≤ q) → size (q * 2 ^ k) - p ≡ k
    dropped zero g = nothing p (size (q * 2 ^ 0)) (size-le (q * 2 ^ 0) (p + 0) (shl_lt p 0 most))
    dropped (suc k) g =
        let n = q * 2 ^ suc k in
        exact p (suc k) (size n) two (size-le n (p + suc k) (shl_lt p (suc k) most))
        (size_gt n (p - 1 + suc k)
        (le_trans (le_of_eq (pow-add 2 (p - 1) (suc k))) (mul-le-mul_right (2 ^ suc k) (g (zero-lt-suc k)))))

leading_top : (p k : ℕ) → 2 ≤ p → 2 ^ p * 2 ^ k / 2 ^ (size (2 ^ p * 2 ^ k) - p) ≡ 2 ^ (p - 1)
leading_top p k two =
    let n = 2 ^ (p + k) in
    let z : size n - p ≡ suc k =
    all p k (size n) (size-le n (suc (p + k)) (pow-lt (lt-suc_self (p + k)))) (size_gt n (p + k) (le_refl n)) in
    ap (λ (x : ℕ). x / 2 ^ (size x - p)) (sym (pow-add 2 p k))
    ∙ ap (λ (x : ℕ). n / 2 ^ x) z
    ∙ ap (λ (x : ℕ). x / 2 ^ suc k) (ap (λ (x : ℕ). 2 ^ x) (one-over p k two) ∙ pow-add 2 (p - 1) (suc k))
    ∙ shl-shr (2 ^ (p - 1)) (suc k)
  where
    all : (p k z : ℕ) → z ≤ suc (p + k) → p + k < z → z - p ≡ suc k
    all p k z a b = omega arith

    one-over : (p k : ℕ) → 2 ≤ p → p + k ≡ p - 1 + suc k
    one-over p k t = omega arith

-- the last bit of a pattern is the last digit of its digits' field
last_bit : (p k v : ℕ) → 2 ≤ p → (0 + k * 2 ^ (p - 1) + v) % 2 ≡ v % 2
last_bit p k v two =
    let e : 2 ^ (p - 1) % 2 ≡ 0 = pow_even (p - 1) (high p two) in
    let h : k * 2 ^ (p - 1) % 2 ≡ 0 = times_even k (2 ^ (p - 1)) e in
    omega arith

-- of a value that is n smallest values
bits_of : (f : Format) (x : Float) (n : ℕ) → HasValue x false n (2 ^ low f) → to_bits f x % 2 ≡ n / 2 ^ (size n - prec f) % 2
unfolding to_bits
bits_of f nan n v = absurd v
bits_of f (inf s) n v = absurd v
bits_of f (fin true m e) n v = absurd (true≢false v.0)
bits_of f (fin false m e) n v =
    let c : m * up e * 2 ^ low f / down e ≡ n = ap (λ (x : ℕ). x / down e) v.1 ∙ mul-div_cancel n (down_pos e) in
    ap (λ (x : ℕ). (0 + (size x - prec f) * 2 ^ (prec f - 1) + x / 2 ^ (size x - prec f)) % 2) c
    ∙ last_bit (prec f) (size n - prec f) (n / 2 ^ (size n - prec f)) (two f)

pub last_digit : (f : Format) (x : Float) (q k : ℕ) → HasValue x false (q * 2 ^ k) (2 ^ low f) → q < 2 ^ prec f
    → (0 < k → 2 ^ (prec f - 1) ≤ q) → to_bits f x % 2 ≡ q % 2
last_digit f x q k v most least =
    bits_of f x (q * 2 ^ k) v ∙ ap (λ (n : ℕ). n % 2) (leading (prec f) q k (two f) most least)

pub even_digit : (f : Format) (x : Float) (q k : ℕ) → HasValue x false (q * 2 ^ k) (2 ^ low f) → q ≤ 2 ^ prec f
    → (0 < k → 2 ^ (prec f - 1) ≤ q) → q % 2 ≡ 0 → to_bits f x % 2 ≡ 0
even_digit f x q k v most least even = go (eq-or-lt_of_le most)
  where
    go : (q ≡ 2 ^ prec f) ⊎ (q < 2 ^ prec f) → to_bits f x % 2 ≡ 0
    go (inl e) =
        bits_of f x (q * 2 ^ k) v
        ∙ ap (λ (x : ℕ). x * 2 ^ k / 2 ^ (size (x * 2 ^ k) - prec f) % 2) e
        ∙ ap (λ (x : ℕ). x % 2) (leading_top (prec f) k (two f))
        ∙ pow_even (prec f - 1) (high (prec f) (two f))
    go (inr l) = last_digit f x q k v l least ∙ even

-- an odd number of at most 2 ^ p is below it
pub odd_below : (p z : ℕ) → 2 ≤ p → z % 2 ≡ 1 → z ≤ 2 ^ p → z < 2 ^ p
odd_below p z two odd h =
    let e : 2 ^ p % 2 ≡ 0 = pow_even p (le_trans (zero-lt-suc 0) (le_trans (le-suc 1) two)) in
    lt_of_le-ne h (λ (q : z ≡ 2 ^ p). let r : z % 2 ≡ 2 ^ p % 2 = ap (λ (x : ℕ). x % 2) q in omega arith)
