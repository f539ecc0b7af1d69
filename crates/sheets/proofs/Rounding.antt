-- `round` gives the value of its format that is nearest to the fraction, of two as near the even one, and no other value is that.
-- Assumes nothing.
use mathlib.Core.Path.{◌≡◌, refl, sym, ap, ap₂, ◌∙◌, subst}
use mathlib.Core.Logic.{◌≢◌}
use mathlib.Core.Bool.{Bool, true, false, not, ◌&&◌, true≢false}
use Prim.Native.Nat.{ℕ, zero, suc, ◌+◌, ◌-◌, ◌*◌, ◌/◌, ◌%◌, ◌^◌, ◌≤◌, ◌<◌, compare}
use native.Mathlib.Nat.{le_trans, le_of_eq, le_antisymm, lt_of_lt_of_le, mul-pos, mul_comm, mul_assoc, mul_right_comm, mul-le-mul_right}
use native.Mathlib.Nat.{mul-lt-mul_of_pos_right, le_of_mul-le-mul_right, le-div_iff_mul-le, div-div-eq-div-mul, zero-mul, add-mul}
use native.Mathlib.Nat.{mul-sub, eq_of_mul-eq-mul_right}
use native.Mathlib.Omega.{arith}
use borrow.Author.Tests.{leb-true, leb-false, eq-eqb, eqb-true, not-false}
use lib.Dec.{T, leb, eqb}
use lib.IntN.{ℤ}
use lib.Pow.{pow-add, pow_pos, pow_mono, shl_lt}
use lib.Ieee as Ieee
use lib.Ieee.{Float, nan, inf, fin, Format, prec, low, up, down, size, round}
use lib.Ieee.Bits.{is_true}
use lib.Ieee.Digits.{back, size_reaches}
use lib.Ieee.Fits.{kept-lt, nearest-le, round-fits, down_pos, two, two-le_pos}
use lib.Ieee.Exact.{HasValue}
use lib.Ieee.Nearest.{nearest-ge}
use lib.Ieee.Order.{drop, kept}
use lib.Ieee.Scale.{finite, grid, round_val, round_under}
use lib.Ieee.Positive.{den}
use Rattle.sheets.specs.Nearest.{apart, off, Nearest}
use Rattle.sheets.proofs.Multiples.{Tied, closest_near, closest_tied}
use Rattle.sheets.proofs.Units.{InUnits, in_units, last_digit, even_digit, odd_below}

-- ---- n / c, of which `round` keeps p digits: `kept` with `drop` zeros after it, so a multiple of `step` by c

abbrev step : ℕ → ℕ → ℕ → ℕ
step p n c = c * 2 ^ drop p n c

step-pos : (p n c : ℕ) → 0 < c → 0 < step p n c
step-pos p n c C = mul-pos C (pow_pos (drop p n c))

-- where digits are dropped, n / c has p digits before them
reach : (p n c : ℕ) → 0 < p → 0 < c → 0 < drop p n c → 2 ^ (p - 1) * step p n c ≤ n
reach p n c P C K =
    let k = drop p n c in
    let j = p - 1 in
    le_trans (le_of_eq (ap (λ (x : ℕ). 2 ^ j * x) (mul_comm c (2 ^ k)) ∙ sym (mul_assoc (2 ^ j) (2 ^ k) c)))
    (le_trans (le_of_eq (ap (λ (x : ℕ). x * c) (sym (pow-add 2 j k))))
    ((le-div_iff_mul-le C).0 (size_reaches (n / c) (j + k) (short (size (n / c)) p P K))))
  where
    short : (z p : ℕ) → 0 < p → 0 < z - p → p - 1 + (z - p) < z
    short z p a b = omega arith

whole_least : (p n c : ℕ) → 0 < p → 0 < c → 0 < drop p n c → 2 ^ (p - 1) ≤ n / step p n c
whole_least p n c P C K = (le-div_iff_mul-le (step-pos p n c C)).1 (reach p n c P C K)

whole-most : (p n c : ℕ) → n / step p n c < 2 ^ p
whole-most p n c = subst (λ (x : ℕ). x < 2 ^ p) (div-div-eq-div-mul n c (2 ^ drop p n c)) (kept-lt p (n / c))

kept_least : (p n c : ℕ) → 0 < p → 0 < c → 0 < drop p n c → 2 ^ (p - 1) ≤ kept p n c
kept_least p n c P C K =
    let u = step p n c in
    le_trans (whole_least p n c P C K) (nearest-ge (n / u) (compare (n % u * 2) u))

kept-most : (p n c : ℕ) → kept p n c ≤ 2 ^ p
kept-most p n c = let u = step p n c in le_trans (nearest-le (n / u) (compare (n % u * 2) u)) (whole-most p n c)

regroup : (q k c : ℕ) → q * 2 ^ k * c ≡ q * (c * 2 ^ k)
regroup q k c = mul_assoc q (2 ^ k) c ∙ ap (λ (x : ℕ). q * x) (mul_comm (2 ^ k) c)

-- a number of p digits with i zeros after them ends in as many zeros as are dropped, or lies below all that `round` may give
data Placed (p n c m i : ℕ) : Type 0 where
  among : (z : ℕ) → m * 2 ^ i ≡ z * 2 ^ drop p n c → Placed p n c m i
  below : m * 2 ^ i * c < 2 ^ (p - 1) * step p n c → 2 ^ (p - 1) * step p n c ≤ n → Placed p n c m i

placed : (p n c m i : ℕ) → 0 < p → 0 < c → m < 2 ^ p → Placed p n c m i
placed p n c m i P C M = go (leb (drop p n c) i) refl
  where
    room : (p i k : ℕ) → 0 < p → i < k → p + i ≤ p - 1 + k
    room p i k P h = omega arith

    above : (i k : ℕ) → i < k → 0 < k
    above i k h = omega arith

    go : (t : Bool) → leb (drop p n c) i ≡ t → Placed p n c m i
    go true e =
        let k = drop p n c in
        among (m * 2 ^ (i - k))
        (ap (λ (x : ℕ). m * 2 ^ x) (sym (back i k (leb-true k i e)))
        ∙ ap (λ (x : ℕ). m * x) (pow-add 2 (i - k) k)
        ∙ sym (mul_assoc m (2 ^ (i - k)) (2 ^ k)))
    go false e =
        let k = drop p n c in
        let l = leb-false k i e in
        below
        (lt_of_lt_of_le (mul-lt-mul_of_pos_right (lt_of_lt_of_le (shl_lt p i M) (pow_mono (room p i k P l))) C)
        (le_of_eq (ap (λ (x : ℕ). x * c) (pow-add 2 (p - 1) k) ∙ regroup (2 ^ (p - 1)) k c)))
        (reach p n c P C (above i k l))

-- none of them is nearer to n / c
grid_near : (p n c m i : ℕ) → 0 < p → 0 < c → m < 2 ^ p → apart (kept p n c * 2 ^ drop p n c * c) n ≤ apart (m * 2 ^ i * c) n
grid_near p n c m i P C M =
    le_trans (le_of_eq (ap (λ (x : ℕ). apart x n) (regroup (kept p n c) (drop p n c) c))) (go (placed p n c m i P C M))
  where
    further : (q w y n : ℕ) → apart q n ≤ apart w n → w ≤ n → y < w → apart q n ≤ apart y n
    further q w y n a b d = omega arith

    go : Placed p n c m i → apart (kept p n c * step p n c) n ≤ apart (m * 2 ^ i * c) n
    go (among z e) =
        le_trans (closest_near n (step p n c) z (step-pos p n c C))
        (le_of_eq (ap (λ (x : ℕ). apart x n) (sym (ap (λ (x : ℕ). x * c) e ∙ regroup z (drop p n c) c))))
    go (below a b) =
        let u = step p n c in
        further (kept p n c * u) (2 ^ (p - 1) * u) (m * 2 ^ i * c) n (closest_near n u (2 ^ (p - 1)) (step-pos p n c C)) b a

-- another that is as near is a multiple beside the one kept
record Beside (p n c y : ℕ) : Type 0 where
  pub multiple : ℕ
  pub is : y ≡ multiple * 2 ^ drop p n c
  pub tied : Tied (n / step p n c) (kept p n c) multiple

grid_tied : (p n c m i : ℕ) → 0 < p → 0 < c → m < 2 ^ p → m * 2 ^ i ≢ kept p n c * 2 ^ drop p n c
    → apart (kept p n c * 2 ^ drop p n c * c) n ≡ apart (m * 2 ^ i * c) n → Beside p n c (m * 2 ^ i)
grid_tied p n c m i P C M o h =
    go (placed p n c m i P C M) (ap (λ (x : ℕ). apart x n) (sym (regroup (kept p n c) (drop p n c) c)) ∙ h)
  where
    further : (q w y n : ℕ) → apart q n ≤ apart w n → w ≤ n → y < w → apart q n ≡ apart y n → ⊥
    further q w y n a b d e = omega arith

    go : Placed p n c m i → apart (kept p n c * step p n c) n ≡ apart (m * 2 ^ i * c) n → Beside p n c (m * 2 ^ i)
    go (among z e) h =
        record {
          multiple = z;
          is = e;
          tied =
              closest_tied n (step p n c) z (step-pos p n c C) (λ (s : z ≡ kept p n c). o (e ∙ ap (λ (x : ℕ). x * 2 ^ drop p n c) s))
              (h ∙ ap (λ (x : ℕ). apart x n) (ap (λ (x : ℕ). x * c) e ∙ regroup z (drop p n c) c));
        }
    go (below a b) h =
        let u = step p n c in
        absurd (further (kept p n c * u) (2 ^ (p - 1) * u) (m * 2 ^ i * c) n (closest_near n u (2 ^ (p - 1)) (step-pos p n c C)) b a h)

-- zero is one of them, n away from n / c: where what is kept is not zero, it is nearer
from_zero : (p n c : ℕ) → 0 < p → 0 < c → apart (kept p n c * 2 ^ drop p n c * c) n ≤ n
from_zero p n c P C = le_trans (grid_near p n c 0 0 P C (pow_pos p)) (nothing n (0 * 2 ^ 0 * c) (zero-mul c))
  where
    nothing : (n x : ℕ) → x ≡ 0 → apart x n ≤ n
    nothing n x e = omega arith

only_zero : (p n c : ℕ) → 0 < c → apart (kept p n c * 2 ^ drop p n c * c) n ≡ n → kept p n c ≡ 0
only_zero p n c C h = go (kept p n c) refl
  where
    nothing : (n x : ℕ) → x ≡ 0 → n ≡ apart x n
    nothing n x e = omega arith

    go : (q : ℕ) → kept p n c ≡ q → kept p n c ≡ 0
    go zero e = e
    go (suc q) e =
        let u = step p n c in
        let t =
        closest_tied n u 0 (step-pos p n c C) (λ (z : 0 ≡ kept p n c). let y = z ∙ e in omega arith)
        (ap (λ (x : ℕ). apart x n) (sym (regroup (kept p n c) (drop p n c) c)) ∙ h ∙ nothing n (0 * u) (zero-mul u)) in
        let o = t.odd in
        absurd (omega arith)

-- ---- from counts of smallest values to values
apart-mul : (a b k : ℕ) → apart a b * k ≡ apart (a * k) (b * k)
apart-mul a b k = add-mul (a - b) (b - a) k ∙ ap₂ ◌+◌ (part a b) (part b a)
  where
    part : (a b : ℕ) → (a - b) * k ≡ a * k - b * k
    part a b = mul_comm (a - b) k ∙ mul-sub k a b ∙ ap₂ ◌-◌ (mul_comm k a) (mul_comm k b)

-- how far N / D, which is Z / L, lies from a / c; and how far its negative does
plus : (N D Z a c L : ℕ) → N * L ≡ Z * D → apart (N * c) (a * D) * L ≡ apart (Z * c) (a * L) * D
plus N D Z a c L h =
    apart-mul (N * c) (a * D) L
    ∙ ap₂ apart (mul_right_comm N c L ∙ ap (λ (x : ℕ). x * c) h ∙ mul_right_comm Z D c) (mul_right_comm a D L)
    ∙ sym (apart-mul (Z * c) (a * L) D)

minus : (N D Z a c L : ℕ) → N * L ≡ Z * D → (N * c + a * D) * L ≡ (Z * c + a * L) * D
minus N D Z a c L h =
    add-mul (N * c) (a * D) L
    ∙ ap₂ ◌+◌ (mul_right_comm N c L ∙ ap (λ (x : ℕ). x * c) h ∙ mul_right_comm Z D c) (mul_right_comm a D L)
    ∙ sym (add-mul (Z * c) (a * L) D)

-- X / d against Y / e, which are S / L and R / L
cross : (X Y S R d e L : ℕ) → 0 < L → X * L ≡ S * d → Y * L ≡ R * e → S ≤ R → X * e ≤ Y * d
cross X Y S R d e L l x y h =
    le_of_mul-le-mul_right
    (le_trans (le_of_eq (mul_right_comm X e L ∙ ap (λ (z : ℕ). z * e) x ∙ mul_right_comm S d e))
    (le_trans (mul-le-mul_right d (mul-le-mul_right e h)) (le_of_eq (ap (λ (z : ℕ). z * d) (sym y) ∙ mul_right_comm Y L d))))
    l

cross_same : (X Y S R d e L : ℕ) → 0 < d → 0 < e → X * L ≡ S * d → Y * L ≡ R * e → X * e ≡ Y * d → S ≡ R
cross_same X Y S R d e L D E x y h =
    eq_of_mul-eq-mul_right e E S R
    (eq_of_mul-eq-mul_right d D (S * e) (R * e)
    (mul_right_comm S e d
    ∙ ap (λ (z : ℕ). z * e) (sym x)
    ∙ mul_right_comm X L e
    ∙ ap (λ (z : ℕ). z * L) h
    ∙ mul_right_comm Y d L
    ∙ ap (λ (z : ℕ). z * d) y))

same_cross : (X Y S d e L : ℕ) → 0 < L → X * L ≡ S * d → Y * L ≡ S * e → X * e ≡ Y * d
same_cross X Y S d e L l x y =
    eq_of_mul-eq-mul_right L l (X * e) (Y * d)
    (mul_right_comm X e L
    ∙ ap (λ (z : ℕ). z * e) x
    ∙ mul_right_comm S d e
    ∙ ap (λ (z : ℕ). z * d) (sym y)
    ∙ mul_right_comm Y L d)

-- values that differ are of different counts
no_other : (n : ℕ) (d : ℤ) (m : ℕ) (e : ℤ) → Ieee.ne (fin false n d) (fin false m e) ≡ true → n * up d * down e ≢ m * up e * down d
unfolding Ieee.ne
no_other n d m e h q = go (eqb (n * up d * down e) (m * up e * down d)) (eq-eqb (n * up d * down e) (m * up e * down d) q) h
  where
    go : (t : Bool) → t ≡ true → not (t && true) ≡ true → ⊥
    go true a b = true≢false (sym b)
    go false a b = true≢false (sym a)

no_zero : (n : ℕ) (d : ℤ) (m : ℕ) (e : ℤ) → Ieee.ne (fin true n d) (fin false m e) ≡ true → n * up d ≡ 0 → m * up e ≡ 0 → ⊥
unfolding Ieee.ne
no_zero n d m e h q r =
    let x : n * up d * down e ≡ 0 = ap (λ (z : ℕ). z * down e) q ∙ zero-mul (down e) in
    let y : m * up e * down d ≡ 0 = ap (λ (z : ℕ). z * down d) r ∙ zero-mul (down d) in
    go (eqb (n * up d * down e) (m * up e * down d)) (eqb (n * up d * down e) 0)
    (eq-eqb (n * up d * down e) (m * up e * down d) (x ∙ sym y)) (eq-eqb (n * up d * down e) 0 x) h
  where
    go : (s t : Bool) → s ≡ true → t ≡ true → not (s && t) ≡ true → ⊥
    go true true a b h = true≢false (sym h)
    go true false a b h = true≢false (sym b)
    go false t a b h = true≢false (sym a)

ne_turned : (n : ℕ) (d : ℤ) (m : ℕ) (e : ℤ) → Ieee.ne (fin false n d) (fin false m e) ≡ true
    → Ieee.ne (fin false m e) (fin false n d) ≡ true
unfolding Ieee.ne
ne_turned n d m e h = go (eqb (m * up e * down d) (n * up d * down e)) refl
  where
    go : (t : Bool) → eqb (m * up e * down d) (n * up d * down e) ≡ t → not (eqb (m * up e * down d) (n * up d * down e) && true) ≡ true
    go true q = absurd (no_other n d m e h (sym (eqb-true (m * up e * down d) (n * up d * down e) q)))
    go false q = ap (λ t. not (t && true)) q

-- ---- x has the value that `round` gives

near : (f : Format) (x : Float) (a c : ℕ) → 0 < c → HasValue x false (grid f a c) (2 ^ low f)
    → (y : Float) → InUnits f y → finite y ≡ true → off x a c * den y ≤ off y a c * den x
near f nan a c C v y w h = absurd v
near f (inf s) a c C v y w h = absurd v
near f (fin true m e) a c C v y w h = absurd (true≢false v.0)
near f (fin false m e) a c C v nan w h = absurd (true≢false (sym h))
near f (fin false m e) a c C v (inf s) w h = absurd (true≢false (sym h))
near f (fin false m e) a c C v (fin false n d) w h =
    let l = 2 ^ low f in
    let g = grid f a c in
    let z = w.digits * 2 ^ w.zeros in
    cross (apart (m * up e * c) (a * down e)) (apart (n * up d * c) (a * down d)) (apart (g * c) (a * l)) (apart (z * c) (a * l))
    (down e) (down d) l (pow_pos (low f)) (plus (m * up e) (down e) g a c l v.1) (plus (n * up d) (down d) z a c l w.are)
    (grid_near (prec f) (a * l) c w.digits w.zeros (two-le_pos (prec f) (two f)) C w.few)
near f (fin false m e) a c C v (fin true n d) w h =
    let l = 2 ^ low f in
    let g = grid f a c in
    let z = w.digits * 2 ^ w.zeros in
    cross (apart (m * up e * c) (a * down e)) (n * up d * c + a * down d) (apart (g * c) (a * l)) (z * c + a * l)
    (down e) (down d) l (pow_pos (low f)) (plus (m * up e) (down e) g a c l v.1) (minus (n * up d) (down d) z a c l w.are)
    (beyond (apart (g * c) (a * l)) (z * c) (a * l) (from_zero (prec f) (a * l) c (two-le_pos (prec f) (two f)) C))
  where
    beyond : (g z n : ℕ) → g ≤ n → g ≤ z + n
    beyond g z n h = omega arith

-- another value that is as near: the last digit kept is 0, and the other value's last bit is 1
record Rival (f : Format) (a c : ℕ) (y : Float) : Type 0 where
  pub even : kept (prec f) (a * 2 ^ low f) c % 2 ≡ 0
  pub odd : Ieee.to_bits f y % 2 ≡ 1

rival : (f : Format) (x : Float) (a c : ℕ) → 0 < c → HasValue x false (grid f a c) (2 ^ low f)
    → (y : Float) → InUnits f y → finite y ≡ true → Ieee.ne y x ≡ true → off x a c * den y ≡ off y a c * den x
    → Rival f a c y × (Ieee.ne x y ≡ true)
rival f nan a c C v y w h o q = absurd v
rival f (inf s) a c C v y w h o q = absurd v
rival f (fin true m e) a c C v y w h o q = absurd (true≢false v.0)
rival f (fin false m e) a c C v nan w h o q = absurd (true≢false (sym h))
rival f (fin false m e) a c C v (inf s) w h o q = absurd (true≢false (sym h))
rival f (fin false m e) a c C v (fin false n d) w h o q =
    let p = prec f in
    let P = two-le_pos p (two f) in
    let l = 2 ^ low f in
    let g = grid f a c in
    let z = w.digits * 2 ^ w.zeros in
    let differ : z ≢ g =
    λ (s : z ≡ g). no_other n d m e o
    (same_cross (n * up d) (m * up e) g (down d) (down e) l (pow_pos (low f)) (w.are ∙ ap (λ (x : ℕ). x * down d) s) v.1) in
    let b =
    grid_tied p (a * l) c w.digits w.zeros P C w.few differ
    (cross_same (apart (m * up e * c) (a * down e)) (apart (n * up d * c) (a * down d)) (apart (g * c) (a * l)) (apart (z * c) (a * l))
    (down e) (down d) l (down_pos e) (down_pos d)
    (plus (m * up e) (down e) g a c l v.1) (plus (n * up d) (down d) z a c l w.are) q) in
    let t = b.tied in
    let odd =
    last_digit f (fin false n d) b.multiple (drop p (a * l) c) (refl, w.are ∙ ap (λ (x : ℕ). x * down d) b.is)
    (odd_below p b.multiple (two f) t.odd (le_trans t.most (whole-most p (a * l) c)))
    (λ (K : 0 < drop p (a * l) c). le_trans (whole_least p (a * l) c P C K) t.least)
    ∙ t.odd in
    (record { even = t.even; odd = odd }, ne_turned n d m e o)
rival f (fin false m e) a c C v (fin true n d) w h o q =
    let p = prec f in
    let l = 2 ^ low f in
    let g = grid f a c in
    let z = w.digits * 2 ^ w.zeros in
    let s =
    cross_same (apart (m * up e * c) (a * down e)) (n * up d * c + a * down d) (apart (g * c) (a * l)) (z * c + a * l)
    (down e) (down d) l (down_pos e) (down_pos d)
    (plus (m * up e) (down e) g a c l v.1) (minus (n * up d) (down d) z a c l w.are) q in
    let r = level (apart (g * c) (a * l)) (z * c) (a * l) s (from_zero p (a * l) c (two-le_pos p (two f)) C) in
    let k : g ≡ 0 = ap (λ (x : ℕ). x * 2 ^ drop p (a * l) c) (only_zero p (a * l) c C r.0) ∙ zero-mul (2 ^ drop p (a * l) c) in
    let j : z ≡ 0 = eq_of_mul-eq-mul_right c C z 0 (r.1 ∙ sym (zero-mul c)) in
    absurd (no_zero n d m e o (nothing (n * up d) (down d) z w.are j) (nothing (m * up e) (down e) g v.1 k))
  where
    level : (g z n : ℕ) → g ≡ z + n → g ≤ n → (g ≡ n) × (z ≡ 0)
    level g z n e h = (omega arith, omega arith)

    nothing : (N D Z : ℕ) → N * 2 ^ low f ≡ Z * D → Z ≡ 0 → N ≡ 0
    nothing N D Z x k =
        eq_of_mul-eq-mul_right (2 ^ low f) (pow_pos (low f)) N 0 (x ∙ ap (λ (y : ℕ). y * D) k ∙ zero-mul D ∙ sym (zero-mul (2 ^ low f)))

-- ---- `round`
value : (f : Format) (a c : ℕ) → finite (round f false a c) ≡ true → HasValue (round f false a c) false (grid f a c) (2 ^ low f)
value f a c h = round_val f a c (round_under f a c (subst T (sym h) tt))

pub round-nearest : (f : Format) (a c : ℕ) → 0 < c → finite (round f false a c) ≡ true → Nearest f (round f false a c) a c
round-nearest f a c C h =
    let p = prec f in
    let n = a * 2 ^ low f in
    let x = round f false a c in
    let v = value f a c h in
    record {
      held = record { holds = is_true (Ieee.fits f x) (round-fits f false a c); ends = h };
      near = λ y k. near f x a c C v y (in_units f y k) k.ends;
      even = λ y k o q.
          even_digit f x (kept p n c) (drop p n c) v (kept-most p n c) (kept_least p n c (two-le_pos p (two f)) C)
          (rival f x a c C v y (in_units f y k) k.ends o q).0.even;
    }

equal : (x y : Float) → Ieee.ne x y ≡ false → Ieee.eq x y ≡ true
unfolding Ieee.ne
equal x y h = not-false (Ieee.eq x y) h

-- no other value is nearest
pub nearest-only : (f : Format) (a c : ℕ) → 0 < c → finite (round f false a c) ≡ true
    → (y : Float) → Nearest f y a c → Ieee.eq y (round f false a c) ≡ true
nearest-only f a c C h y s = go (Ieee.ne y x) refl
  where
    x : Float
    x = round f false a c

    go : (t : Bool) → Ieee.ne y x ≡ t → Ieee.eq y x ≡ true
    go true o =
        let r = round-nearest f a c C h in
        let q = le_antisymm (r.near y s.held) (s.near x r.held) in
        let k = rival f x a c C (value f a c h) y (in_units f y s.held) s.held.ends o q in
        let e = s.even x r.held k.1 (sym q) in
        let d = k.0.odd in
        absurd (omega arith)
    go false o = equal y x o
