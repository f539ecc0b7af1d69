-- The parts of a syndrome are linear, and those of an error within one byte are told by its place and pattern. Assumes nothing.
use mathlib.Core.Path.{◌≡◌, refl, sym, ap, ap₂, ◌∙◌}
use mathlib.Core.Logic.{◌≢◌, ⊎_elim}
use Prim.Native.Nat.{ℕ, zero, suc, ◌+◌, ◌-◌, ◌*◌, ◌/◌, ◌%◌, ◌^◌, ◌≤◌, ◌<◌}
use native.Mathlib.Nat.{mul_assoc, div-eq_of_lt, lt_of_lt_of_le}
use native.Mathlib.Omega.{arith}
use lib.Bits.{bit_xor, xor_shr, xor_mod, xor_zero_r}
use lib.Pow.{pow-add, pow_mono, shl_lt, shl-shr}
use Rattle.parity.proofs.Xor.{xor_swap}
use Rattle.parity.proofs.Ones.{below_or_not}
use Rattle.byte_parts.specs.declared.Parts.{Parts}
use Rattle.byte_parts.specs.Vectors.{power_t}
use Rattle.byte_parts.specs.Parts.{byte_at, sum_to, parts_of}
use Rattle.byte_errors.proofs.Powers.{power_none, power_xor, power_zero}

-- ---- linear

pub byte_xor : (a b t : ℕ) → byte_at (bit_xor a b) t ≡ bit_xor (byte_at a t) (byte_at b t)
byte_xor a b t = ap (λ (x : ℕ). x % 8) (xor_shr a b (3 * t)) ∙ xor_mod (a / 2 ^ (3 * t)) (b / 2 ^ (3 * t)) 3

pub sum-xor : (step n a b : ℕ) → sum_to step n (bit_xor a b) ≡ bit_xor (sum_to step n a) (sum_to step n b)
unfolding sum_to
sum-xor step zero a b = refl
sum-xor step (suc i) a b =
    let p = power_t (step * i) in
    ap₂ bit_xor (sum-xor step i a b)
    (ap p (byte_xor a b i) ∙ power_xor (step * i) (byte_at a i) (byte_at b i) (omega arith) (omega arith))
    ∙ xor_swap (sum_to step i a) (sum_to step i b) (p (byte_at a i)) (p (byte_at b i))

-- part by part
abbrev pub xor_parts : Parts → Parts → Parts
xor_parts s r =
    record { first = bit_xor s.first r.first; second = bit_xor s.second r.second; third = bit_xor s.third r.third }

pub parts_xor : (a b : ℕ) → parts_of (bit_xor a b) ≡ xor_parts (parts_of a) (parts_of b)
unfolding parts_of
parts_xor a b = rw (part 0 7, part 1 8, part 2 9)
  where
    part : (step t : ℕ)
        → bit_xor (sum_to step 7 (bit_xor a b)) (byte_at (bit_xor a b) t)
        ≡ bit_xor (bit_xor (sum_to step 7 a) (byte_at a t)) (bit_xor (sum_to step 7 b) (byte_at b t))
    part step t =
        ap₂ bit_xor (sum-xor step 7 a b) (byte_xor a b t) ∙ xor_swap (sum_to step 7 a) (sum_to step 7 b) (byte_at a t) (byte_at b t)

-- ---- a pattern in one byte

-- it fits where its byte does
pub pattern_lt : (n v t : ℕ) → v < 8 → 3 + 3 * t ≤ n → v * 2 ^ (3 * t) < 2 ^ n
pattern_lt n v t h l = lt_of_lt_of_le (shl_lt {a = v} 3 (3 * t) h) (pow_mono {i = 3 + 3 * t} {j = n} l)

-- the byte itself
pub pattern_here : (v t : ℕ) → v < 8 → byte_at (v * 2 ^ (3 * t)) t ≡ v
pattern_here v t h = let e = shl-shr v (3 * t) in omega arith

-- the bytes below it, and those above it
pattern_below : (v t s : ℕ) → s < t → byte_at (v * 2 ^ (3 * t)) s ≡ 0
pattern_below v t s h =
    let d = t - suc s in
    let q = 2 ^ (3 * d) in
    let e : 3 * t ≡ (3 * d + 3) + 3 * s = omega arith in
    let f : 2 ^ (3 * t) ≡ (q * 8) * 2 ^ (3 * s) =
    ap (λ (n : ℕ). 2 ^ n) e ∙ pow-add 2 (3 * d + 3) (3 * s) ∙ ap (λ (x : ℕ). x * 2 ^ (3 * s)) (pow-add 2 (3 * d) 3) in
    let g = ap (λ (x : ℕ). v * x) f ∙ sym (mul_assoc v (q * 8) (2 ^ (3 * s))) in
    let r = ap (λ (x : ℕ). x / 2 ^ (3 * s)) g ∙ shl-shr (v * (q * 8)) (3 * s) ∙ sym (mul_assoc v q 8) in
    omega arith

pattern_above : (v t s : ℕ) → v < 8 → t < s → byte_at (v * 2 ^ (3 * t)) s ≡ 0
pattern_above v t s h l = ap (λ (x : ℕ). x % 8) (div-eq_of_lt (pattern_lt (3 * s) v t h (omega arith)))

pub pattern_elsewhere : (v t s : ℕ) → v < 8 → s ≢ t → byte_at (v * 2 ^ (3 * t)) s ≡ 0
pattern_elsewhere v t s h d =
    ⊎_elim (λ (l : s < t). pattern_below v t s l) (λ (l : t ≤ s). pattern_above v t s h (omega (arith, d))) (below_or_not s t)

-- which adds nothing to the sum at another byte
adds_none : (step i v t : ℕ) → v < 8 → i ≢ t → power_t (step * i) (byte_at (v * 2 ^ (3 * t)) i) ≡ 0
adds_none step i v t h d = ap (power_t (step * i)) (pattern_elsewhere v t i h d) ∙ power_zero (step * i)

-- the sum over n data bytes: nothing where the byte is not among them
sum_past : (step n v t : ℕ) → v < 8 → n ≤ t → sum_to step n (v * 2 ^ (3 * t)) ≡ 0
unfolding sum_to
sum_past step zero v t h l = refl
sum_past step (suc i) v t h l =
    ap₂ bit_xor (sum_past step i v t h (omega arith)) (adds_none step i v t h (λ e. omega (arith, e)))

pub sum_among : (step n v t : ℕ) → v < 8 → t < n → sum_to step n (v * 2 ^ (3 * t)) ≡ power_t (step * t) v
unfolding sum_to
sum_among step zero v t h l = absurd (omega arith)
sum_among step (suc i) v t h l =
    ⊎_elim
    (λ (b : t < i).
    ap₂ bit_xor (sum_among step i v t h b) (adds_none step i v t h (λ e. omega (arith, e)))
    ∙ xor_zero_r (power_t (step * t) v))
    (λ (b : i ≤ t). let e : i ≡ t = omega arith in rw e
    (ap₂ bit_xor (sum_past step t v t h (omega arith)) (ap (power_t (step * t)) (pattern_here v t h))))
    (below_or_not t i)

-- ---- the parts of such a pattern

abbrev pub three_parts : ℕ → ℕ → ℕ → Parts
three_parts a b c = record { first = a; second = b; third = c }

-- in a data byte: under the powers of T
pub parts_data : (v t : ℕ) → v < 8 → t < 7 → parts_of (v * 2 ^ (3 * t)) ≡ three_parts v (power_t t v) (power_t (2 * t) v)
unfolding parts_of
parts_data v t h l =
    let z : 0 * t ≡ 0 = omega arith in
    let o : 1 * t ≡ t = omega arith in
    rw (
      part 0 7 (omega arith) ∙ ap (λ (n : ℕ). power_t n v) z ∙ power_none v,
      part 1 8 (omega arith) ∙ ap (λ (n : ℕ). power_t n v) o,
      part 2 9 (omega arith),
    )
  where
    part : (step c : ℕ) → 7 ≤ c → bit_xor (sum_to step 7 (v * 2 ^ (3 * t))) (byte_at (v * 2 ^ (3 * t)) c) ≡ power_t (step * t) v
    part step c g =
        ap₂ bit_xor (sum_among step 7 v t h l) (pattern_elsewhere v t c h (λ e. omega (arith, e))) ∙ xor_zero_r (power_t (step * t) v)

-- in a check byte: its part alone
check_part : (step v t c : ℕ) → v < 8 → 7 ≤ t
    → bit_xor (sum_to step 7 (v * 2 ^ (3 * t))) (byte_at (v * 2 ^ (3 * t)) c) ≡ byte_at (v * 2 ^ (3 * t)) c
check_part step v t c h l = ap (λ (x : ℕ). bit_xor x (byte_at (v * 2 ^ (3 * t)) c)) (sum_past step 7 v t h l)

parts_check : (v t : ℕ) → v < 8 → 7 ≤ t
    → parts_of (v * 2 ^ (3 * t)) ≡ three_parts (byte_at (v * 2 ^ (3 * t)) 7) (byte_at (v * 2 ^ (3 * t)) 8) (byte_at (v * 2 ^ (3 * t)) 9)
unfolding parts_of
parts_check v t h l = rw (check_part 0 v t 7 h l, check_part 1 v t 8 h l, check_part 2 v t 9 h l)

pub parts_seven : (v : ℕ) → v < 8 → parts_of (v * 2 ^ (3 * 7)) ≡ three_parts v 0 0
parts_seven v h =
    parts_check v 7 h (omega arith) ∙ rw (pattern_here v 7 h, pattern_above v 7 8 h (omega arith), pattern_above v 7 9 h (omega arith))

pub parts_eight : (v : ℕ) → v < 8 → parts_of (v * 2 ^ (3 * 8)) ≡ three_parts 0 v 0
parts_eight v h =
    parts_check v 8 h (omega arith) ∙ rw (pattern_below v 8 7 (omega arith), pattern_here v 8 h, pattern_above v 8 9 h (omega arith))

pub parts_nine : (v : ℕ) → v < 8 → parts_of (v * 2 ^ (3 * 9)) ≡ three_parts 0 0 v
parts_nine v h =
    parts_check v 9 h (omega arith) ∙ rw (pattern_below v 9 7 (omega arith), pattern_below v 9 8 (omega arith), pattern_here v 9 h)
