-- Triangular is what it says row by row. Assumes nothing.
use mathlib.Core.Path.{◌≡◌, refl, sym, ap, ◌∙◌}
use mathlib.Core.Logic.{◌↔◌, inl, inr, ⊎_elim}
use mathlib.Core.List.{List}
use Prim.Native.Nat.{ℕ, zero, suc, ◌+◌, ◌-◌, ◌*◌, ◌/◌, ◌%◌, ◌^◌, ◌≤◌, ◌<◌}
use native.Mathlib.Nat.{mod-eq_of_lt, mod-lt, div-eq_of_lt, div_self, div-le_self, div-add-mod', mod-one}
use native.Mathlib.Omega.{arith}
use lib.Bits.{bit_xor, xor_mod, xor_shr}
use lib.ListN.{length}
use lib.Pow.{pow_pos, pow-lt, mod-pow-add, shr-shr}
use Rattle.parity.proofs.Ones.{below_or_not}
use Rattle.parity.proofs.Xor.{eq_of_xor_zero, xor_zero_of_eq}
use Rattle.columns.specs.Mix.{column}
use Rattle.columns.specs.Bits.{bit_at}
use Rattle.row_judge.specs.Rule.{Lower, Upper, Triangular}
use Rattle.families.specs.ByRows.{ByRows}

-- the lowest m + 1 digits: digit m, and those below it
split : (c m : ℕ) → c % 2 ^ suc m ≡ bit_at c m * 2 ^ m + c % 2 ^ m
split c m = let e : suc m ≡ 1 + m = omega arith in ap (λ (i : ℕ). c % 2 ^ i) e ∙ mod-pow-add c 1 m

digit : (c j : ℕ) → bit_at c j < 2
digit c j = omega arith

-- digits below m that are all 0
zero_digits : (c m : ℕ) → ((j : ℕ) → j < m → bit_at c j ≡ 0) → c % 2 ^ m ≡ 0
zero_digits c zero h = mod-one c
zero_digits c (suc m) h =
    let b = ap (λ (x : ℕ). x * 2 ^ m) (h m (omega arith)) in
    omega (arith, split c m, b, zero_digits c m (λ j l. h j (omega arith)))

digits_zero : (c m : ℕ) → c % 2 ^ m ≡ 0 → (j : ℕ) → j < m → bit_at c j ≡ 0
digits_zero c zero h j l = absurd (omega arith)
digits_zero c (suc m) h j l = go (bit_at c m) (digit c m) refl (λ s. digits_zero c m (omega (arith, split c m)) j s)
  where
    go : (b : ℕ) → b < 2 → bit_at c m ≡ b → (j < m → bit_at c j ≡ 0) → bit_at c j ≡ 0
    go zero u e rest = ⊎_elim rest (λ (s : m ≤ j). let q : j ≡ m = omega arith in ap (bit_at c) q ∙ e) (below_or_not j m)
    go (suc zero) u e rest = absurd (omega (arith, split c m, ap (λ (x : ℕ). x * 2 ^ m) e, pow_pos m))
    go (suc (suc b)) u e rest = absurd (omega arith)

-- ---- rows before the diagonal

-- without the one on its diagonal it has nothing up to there: the lowest p + 1 digits are 2 ^ p
diagonal_low : (p : ℕ) → 2 ^ p % 2 ^ suc p ≡ 2 ^ p
diagonal_low p = mod-eq_of_lt (pow-lt {i = p} {j = suc p} (omega arith))

low_of : (c p : ℕ) → bit_xor c (2 ^ p) % 2 ^ suc p ≡ 0 → c % 2 ^ suc p ≡ 2 ^ p
low_of c p h =
    eq_of_xor_zero (c % 2 ^ suc p) (2 ^ p) (ap (bit_xor (c % 2 ^ suc p)) (sym (diagonal_low p)) ∙ sym (xor_mod c (2 ^ p) (suc p)) ∙ h)

low-is : (c p : ℕ) → c % 2 ^ suc p ≡ 2 ^ p → bit_xor c (2 ^ p) % 2 ^ suc p ≡ 0
low-is c p h = xor_mod c (2 ^ p) (suc p) ∙ xor_zero_of_eq (c % 2 ^ suc p) (2 ^ p % 2 ^ suc p) (h ∙ sym (diagonal_low p))

-- digit p is 1, and the digits below are 0
low_rows : (c p : ℕ) → c % 2 ^ suc p ≡ 2 ^ p → (bit_at c p ≡ 1) × (c % 2 ^ p ≡ 0)
low_rows c p h = go (bit_at c p) (digit c p) refl
  where
    small : c % 2 ^ p < 2 ^ p
    small = mod-lt c (pow_pos p)

    go : (b : ℕ) → b < 2 → bit_at c p ≡ b → (bit_at c p ≡ 1) × (c % 2 ^ p ≡ 0)
    go zero u e = absurd (omega (arith, split c p, ap (λ (x : ℕ). x * 2 ^ p) e, small))
    go (suc zero) u e = (e, omega (arith, split c p, ap (λ (x : ℕ). x * 2 ^ p) e))
    go (suc (suc b)) u e = absurd (omega arith)

rows-low : (c p : ℕ) → bit_at c p ≡ 1 → c % 2 ^ p ≡ 0 → c % 2 ^ suc p ≡ 2 ^ p
rows-low c p d z = omega (arith, split c p, ap (λ (x : ℕ). x * 2 ^ p) d)

-- ---- rows after the diagonal

-- without the one on its diagonal it has nothing from there on: c / 2 ^ p is 1
one_there : (p : ℕ) → 2 ^ p / 2 ^ p ≡ 1
one_there p = div_self (pow_pos p)

high_of : (c p : ℕ) → bit_xor c (2 ^ p) < 2 ^ p → c / 2 ^ p ≡ 1
high_of c p h =
    eq_of_xor_zero (c / 2 ^ p) 1
    (ap (bit_xor (c / 2 ^ p)) (sym (one_there p)) ∙ sym (xor_shr c (2 ^ p) p) ∙ div-eq_of_lt h)

high_is : (c p : ℕ) → c / 2 ^ p ≡ 1 → bit_xor c (2 ^ p) < 2 ^ p
high_is c p h =
    let z : bit_xor c (2 ^ p) / 2 ^ p ≡ 0 = xor_shr c (2 ^ p) p ∙ xor_zero_of_eq (c / 2 ^ p) (2 ^ p / 2 ^ p) (h ∙ sym (one_there p)) in
    omega (arith, div-add-mod' (bit_xor c (2 ^ p)) (2 ^ p), ap (λ (x : ℕ). x * 2 ^ p) z, mod-lt (bit_xor c (2 ^ p)) (pow_pos p))

-- digit j past p is digit j - p - 1 of what stands past p
digit_past : (c p j : ℕ) → p < j → bit_at c j ≡ bit_at (c / 2 ^ p / 2) (j - suc p)
digit_past c p j h =
    let e : p + suc (j - suc p) ≡ j = omega arith in
    let two : suc (j - suc p) ≡ 1 + (j - suc p) = omega arith in
    sym (ap (λ (x : ℕ). x % 2)
    (shr-shr (c / 2 ^ p) 1 (j - suc p) ∙ ap (λ (i : ℕ). c / 2 ^ p / 2 ^ i) (sym two)
    ∙ shr-shr c p (suc (j - suc p)) ∙ ap (λ (i : ℕ). c / 2 ^ i) e))

high-rows : (c p : ℕ) → c / 2 ^ p ≡ 1 → (bit_at c p ≡ 1) × ((j : ℕ) → p < j → bit_at c j ≡ 0)
high-rows c p h = (ap (λ (x : ℕ). x % 2) h, λ j l. digit_past c p j l ∙ ap (λ (x : ℕ). bit_at (x / 2) (j - suc p)) h ∙ none (j - suc p))
  where
    none : (i : ℕ) → bit_at (1 / 2) i ≡ 0
    none i = ap (λ (x : ℕ). x % 2) (div-eq_of_lt (pow_pos i))

rows-high : (c p m : ℕ) → c < 2 ^ m → bit_at c p ≡ 1 → ((j : ℕ) → p < j → bit_at c j ≡ 0) → c / 2 ^ p ≡ 1
rows-high c p m l d h =
    let x = c / 2 ^ p / 2 in
    let less : c / 2 ^ p ≤ c = div-le_self c (2 ^ p) in
    let small : x < 2 ^ m = omega arith in
    let low : x % 2 ^ m ≡ 0 = zero_digits x m (λ i u.
    let e : p + suc i - suc p ≡ i = omega arith in
    sym (ap (bit_at x) e) ∙ sym (digit_past c p (p + suc i) (omega arith)) ∙ h (p + suc i) (omega arith)) in
    let z : x ≡ 0 = sym (mod-eq_of_lt small) ∙ low in
    omega arith

-- ---- all columns

lower_rows : (checks : List ℕ) → Lower checks → ByRows checks
lower_rows checks l = record {
  diagonal = λ p h. (low_rows (column checks p) p (low_of (column checks p) p (l p h))).0;
  corner = inl (λ p j h u. digits_zero (column checks p) p (low_rows (column checks p) p (low_of (column checks p) p (l p h))).1 j u);
}

upper_rows : (checks : List ℕ) → Upper checks → ByRows checks
upper_rows checks l = record {
  diagonal = λ p h. (high-rows (column checks p) p (high_of (column checks p) p (l p h))).0;
  corner = inr (λ p j h u. (high-rows (column checks p) p (high_of (column checks p) p (l p h))).1 j u);
}

-- of columns of m digits
pub by_rows : (checks : List ℕ) (m : ℕ) → ((p : ℕ) → p < length checks → column checks p < 2 ^ m) → Triangular checks ↔ ByRows checks
by_rows checks m below = (
  ⊎_elim (lower_rows checks) (upper_rows checks),
  λ b. ⊎_elim
      (λ low. inl (λ p h. low-is (column checks p) p
      (rows-low (column checks p) p (b.diagonal p h) (zero_digits (column checks p) p (λ j u. low p j h u)))))
      (λ high. inr (λ p h. high_is (column checks p) p
      (rows-high (column checks p) p m (below p h) (b.diagonal p h) (λ j u. high p j h u))))
      b.corner,
)
