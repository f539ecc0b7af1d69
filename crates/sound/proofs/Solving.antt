-- Triangular check columns reach every syndrome once, and flipping what is missed solves for them, whichever corner is empty.
-- Why: with a one on each diagonal, what is missed after a turn is the mix of the columns without their diagonals, so each turn shrinks
-- it by a row. Assumes nothing.
use mathlib.Core.Path.{◌≡◌, refl, sym, ap, ap₂, ◌∙◌}
use mathlib.Core.Logic.{inl, ⊎_elim}
use mathlib.Core.List.{List, [], ◌∷◌}
use Prim.Native.Nat.{ℕ, zero, suc, ◌+◌, ◌-◌, ◌*◌, ◌/◌, ◌%◌, ◌^◌, ◌≤◌, ◌<◌, zero-le, suc-le-suc}
use native.Mathlib.Nat.{add-zero, zero-add, zero-mul, mul-one, le_refl, mod-one, mod-eq_of_lt, pow-suc}
use native.Mathlib.Omega.{arith}
use lib.Arith.{lt-one}
use lib.Bits.{bit_xor, xor_self, xor_comm, xor_zero_r, xor_lt, xor_mod, xor_shifted}
use lib.ListN.{length}
use lib.Pow.{pow_pos, pow_mono, mod-mod-pow, mod-pow-add}
use Rattle.parity.proofs.Xor.{xor_assoc, xor_swap, eq_of_xor_zero, xor_zero_of_eq}
use Rattle.columns.specs.Mix.{column, mix, taken, singles}
use Rattle.columns.proofs.Linear.{mix-xor, mix-zero}
use Rattle.columns.proofs.Singles.{length-singles, single_at}
use Rattle.columns.proofs.Words.{mix-lt}
use Rattle.columns.specs.Solving.{missing, solve_from, solve}
use Rattle.faults.specs.Faults.{off_diagonal}
use Rattle.row_judge.specs.Rule.{Lower, Upper, Triangular}
use Rattle.columns.specs.Sound.{Reaches}

-- ---- one turn: the columns without their diagonals

-- triangular from row j on: a one on each diagonal, and nothing in a row before it; or nothing in a row after it
abbrev beside_from : List ℕ → ℕ → ℕ → ℕ
beside_from cs j p = bit_xor (column cs p) (2 ^ (j + p))

abbrev LowerFrom : List ℕ → ℕ → Type 0
LowerFrom cs j = (p : ℕ) → p < length cs → beside_from cs j p % 2 ^ suc (j + p) ≡ 0

abbrev UpperFrom : List ℕ → ℕ → Type 0
UpperFrom cs j = (p : ℕ) → p < length cs → beside_from cs j p < 2 ^ (j + p)

lower_from : (cs : List ℕ) → Lower cs → LowerFrom cs 0
lower_from cs l p h = rw (zero-add p) (l p h)

upper_from : (cs : List ℕ) → Upper cs → UpperFrom cs 0
upper_from cs l p h = rw (zero-add p) (l p h)

-- a word's part on the diagonals, digit by digit
diagonal : (d w j : ℕ) → d < 2 → (d + 2 * w) * 2 ^ j ≡ bit_xor (taken d (2 ^ j)) (w * 2 ^ suc j)
diagonal zero w j h = omega (arith, ap (λ (x : ℕ). w * x) (pow-suc 2 j))
diagonal (suc zero) w j h =
    let s = pow-suc 2 j in
    let small : 2 ^ j < 2 ^ suc j = omega (arith, pow_pos j) in
    omega (arith, ap (λ (x : ℕ). w * x) s, xor_comm (2 ^ j) (w * 2 ^ suc j), xor_shifted w (suc j) (2 ^ j) small)
diagonal (suc (suc d)) w j h = absurd (omega arith)

taken-xor : (d c e : ℕ) → bit_xor (taken d c) (taken d e) ≡ taken d (bit_xor c e)
taken-xor zero c e = refl
taken-xor (suc d) c e = refl

-- what the columns without their diagonals give, taken apart at the first
turn-cons : (c : ℕ) (cs : List ℕ) (w j : ℕ)
    → bit_xor (mix (c ∷ cs) w) (w * 2 ^ j) ≡ bit_xor (taken (w % 2) (bit_xor c (2 ^ j))) (bit_xor (mix cs (w / 2)) (w / 2 * 2 ^ suc j))
unfolding mix
turn-cons c cs w j =
    let whole : w ≡ w % 2 + 2 * (w / 2) = omega arith in
    ap (bit_xor (bit_xor (taken (w % 2) c) (mix cs (w / 2)))) (ap (λ (x : ℕ). x * 2 ^ j) whole ∙ diagonal (w % 2) (w / 2) j (omega arith))
    ∙ xor_swap (taken (w % 2) c) (mix cs (w / 2)) (taken (w % 2) (2 ^ j)) (w / 2 * 2 ^ suc j)
    ∙ ap (λ (x : ℕ). bit_xor x (bit_xor (mix cs (w / 2)) (w / 2 * 2 ^ suc j))) (taken-xor (w % 2) c (2 ^ j))

-- the tail of a triangular list is one, a row further on
shift : (j p : ℕ) → j + suc p ≡ suc j + p
shift j p = omega arith

taken-zero : (d x m : ℕ) → x % m ≡ 0 → 0 % m ≡ 0 → taken d x % m ≡ 0
taken-zero zero x m h z = z
taken-zero (suc d) x m h z = h

-- multiples of 2 ^ m
none_mod : (m : ℕ) → 0 % 2 ^ m ≡ 0
none_mod m = mod-eq_of_lt (pow_pos m)

mod_both : (m x y : ℕ) → x % 2 ^ m ≡ 0 → y % 2 ^ m ≡ 0 → bit_xor x y % 2 ^ m ≡ 0
mod_both m x y h k = xor_mod x y m ∙ ap₂ bit_xor h k

mod_less : (m x : ℕ) → x % 2 ^ suc m ≡ 0 → x % 2 ^ m ≡ 0
mod_less m x h =
    let e : 1 + m ≡ suc m = omega arith in
    sym (mod-mod-pow x 1 m) ∙ ap (λ (t : ℕ). t % 2 ^ m) (ap (λ (k : ℕ). x % 2 ^ k) e ∙ h) ∙ none_mod m

halves : (w i : ℕ) → w % 2 ^ suc i ≡ 0 → (w % 2 ≡ 0) × (w / 2 % 2 ^ i ≡ 0)
halves w i h =
    let e : suc i ≡ i + 1 = omega arith in
    let s : w % 2 ^ (i + 1) ≡ w / 2 % 2 ^ i * 2 + w % 2 = mod-pow-add w i 1 in
    let z : w % 2 ^ (i + 1) ≡ 0 = ap (λ (k : ℕ). w % 2 ^ k) (sym e) ∙ h in
    (omega arith, omega arith)

lower_tail : (c : ℕ) (cs : List ℕ) (j : ℕ) → LowerFrom (c ∷ cs) j → LowerFrom cs (suc j)
lower_tail c cs j l p h = rw (shift j p) at (l (suc p) (suc-le-suc h))

upper_tail : (c : ℕ) (cs : List ℕ) (j : ℕ) → UpperFrom (c ∷ cs) j → UpperFrom cs (suc j)
upper_tail c cs j l p h = rw (shift j p) at (l (suc p) (suc-le-suc h))

half_lt : (w : ℕ) (cs : List ℕ) → w < 2 ^ suc (length cs) → w / 2 < 2 ^ length cs
half_lt w cs h = omega (arith, pow-suc 2 (length cs))

-- rows before the diagonal are empty: a multiple of 2 ^ i becomes one of 2 ^ (i + 1)
turn_lower : (cs : List ℕ) (j w i : ℕ) → LowerFrom cs j → w < 2 ^ length cs → w % 2 ^ i ≡ 0
    → bit_xor (mix cs w) (w * 2 ^ j) % 2 ^ suc (j + i) ≡ 0
unfolding mix
turn_lower [] j w i l h d =
    let z : w * 2 ^ j ≡ 0 = omega (arith, ap (λ (x : ℕ). x * 2 ^ j) (lt-one h)) in
    ap (λ (x : ℕ). x % 2 ^ suc (j + i)) z ∙ none_mod (suc (j + i))
turn_lower (c ∷ cs) j w zero l h d =
    let first : bit_xor c (2 ^ j) % 2 ^ suc j ≡ 0 = rw (add-zero j) at (l 0 (suc-le-suc zero-le)) in
    let rest = turn_lower cs (suc j) (w / 2) 0 (lower_tail c cs j l) (half_lt w cs h) (mod-one (w / 2)) in
    let more : bit_xor (mix cs (w / 2)) (w / 2 * 2 ^ suc j) % 2 ^ suc (suc j) ≡ 0 = rw (add-zero (suc j)) at rest in
    rw (turn-cons c cs w j, add-zero j)
    (mod_both (suc j) (taken (w % 2) (bit_xor c (2 ^ j))) (bit_xor (mix cs (w / 2)) (w / 2 * 2 ^ suc j))
    (taken-zero (w % 2) (bit_xor c (2 ^ j)) (2 ^ suc j) first (none_mod (suc j)))
    (mod_less (suc j) (bit_xor (mix cs (w / 2)) (w / 2 * 2 ^ suc j)) more))
turn_lower (c ∷ cs) j w (suc i) l h d =
    let hs = halves w i d in
    let rest = turn_lower cs (suc j) (w / 2) i (lower_tail c cs j l) (half_lt w cs h) hs.1 in
    rw (turn-cons c cs w j, hs.0, shift j i) rest

taken-lt : (d x m : ℕ) → x < m → taken d x < m
taken-lt zero x m h = omega arith
taken-lt (suc d) x m h = h

-- rows after the diagonal are empty: a number of i + 1 digits becomes one of i
turn_upper : (cs : List ℕ) (j w i : ℕ) → UpperFrom cs j → w < 2 ^ length cs → w < 2 ^ suc i → bit_xor (mix cs w) (w * 2 ^ j) < 2 ^ (j + i)
unfolding mix
turn_upper [] j w i l h d =
    let z : w * 2 ^ j ≡ 0 = omega (arith, ap (λ (x : ℕ). x * 2 ^ j) (lt-one h)) in
    rw z (pow_pos (j + i))
turn_upper (c ∷ cs) j w zero l h d =
    let first : bit_xor c (2 ^ j) < 2 ^ j = rw (add-zero j) at (l 0 (suc-le-suc zero-le)) in
    let none : w / 2 ≡ 0 = omega arith in
    let gone : bit_xor (mix cs (w / 2)) (w / 2 * 2 ^ suc j) ≡ 0 =
    ap (λ (v : ℕ). bit_xor (mix cs v) (v * 2 ^ suc j)) none ∙ ap₂ bit_xor (mix-zero cs) (zero-mul (2 ^ suc j)) in
    rw (turn-cons c cs w j, add-zero j, gone, xor_zero_r (taken (w % 2) (bit_xor c (2 ^ j))))
    (taken-lt (w % 2) (bit_xor c (2 ^ j)) (2 ^ j) first)
turn_upper (c ∷ cs) j w (suc i) l h d =
    let first : bit_xor c (2 ^ j) < 2 ^ j = rw (add-zero j) at (l 0 (suc-le-suc zero-le)) in
    let rest = turn_upper cs (suc j) (w / 2) i (upper_tail c cs j l) (half_lt w cs h) (omega (arith, pow-suc 2 (suc i))) in
    rw (turn-cons c cs w j, shift j i)
    (xor_lt (suc j + i) (taken (w % 2) (bit_xor c (2 ^ j))) (bit_xor (mix cs (w / 2)) (w / 2 * 2 ^ suc j))
    (taken-lt (w % 2) (bit_xor c (2 ^ j)) (2 ^ (suc j + i)) (omega (arith, pow_mono {i = j} {j = suc j + i} (omega arith))))
    rest)

-- ---- any way of shrinking solves

module _ (checks : List ℕ) (below : (p : ℕ) → p < length checks → column checks p < 2 ^ length checks) (Shrunk : ℕ → ℕ → Type 0)
    (start : (e : ℕ) → e < 2 ^ length checks → Shrunk 0 e)
    (turn : (i e : ℕ) → i < length checks → e < 2 ^ length checks → Shrunk i e → Shrunk (suc i) (bit_xor (mix checks e) e))
    (end : (e : ℕ) → e < 2 ^ length checks → Shrunk (length checks) e → e ≡ 0) where
  solved_from : (s n i c : ℕ) → s < 2 ^ length checks → c < 2 ^ length checks → i + n ≡ length checks → Shrunk i (missing checks s c)
      → (mix checks (solve_from checks s n c) ≡ s) × (solve_from checks s n c < 2 ^ length checks)
  unfolding solve_from
  solved_from s zero i c hs hc e sh =
      let r = length checks in
      let m : missing checks s c < 2 ^ r = xor_lt r (mix checks c) s (mix-lt checks c r below) hs in
      let at : i ≡ r = omega arith in
      (eq_of_xor_zero (mix checks c) s (end (missing checks s c) m (rw at at sh)), hc)
  solved_from s (suc n) i c hs hc e sh =
      let r = length checks in
      let m : missing checks s c < 2 ^ r = xor_lt r (mix checks c) s (mix-lt checks c r below) hs in
      let next : bit_xor (mix checks (missing checks s c)) (missing checks s c) ≡ missing checks s (bit_xor c (missing checks s c)) =
      sym (xor_assoc (mix checks (missing checks s c)) (mix checks c) s)
      ∙ ap (λ (x : ℕ). bit_xor x s)
      (xor_comm (mix checks (missing checks s c)) (mix checks c) ∙ sym (mix-xor checks c (missing checks s c))) in
      solved_from s n (suc i) (bit_xor c (missing checks s c)) hs (xor_lt r c (missing checks s c) hc m) (omega arith)
      (rw next at (turn i (missing checks s c) (omega arith) m sh))

  -- what gives nothing never shrinks, so it is nothing
  fixed : (e n : ℕ) → e < 2 ^ length checks → mix checks e ≡ 0 → n ≤ length checks → Shrunk n e
  fixed e zero h z l = start e h
  fixed e (suc n) h z l = rw z at (turn n e l h (fixed e n h z (omega arith)))

  solves_each : (s : ℕ) → s < 2 ^ length checks → (mix checks (solve checks s) ≡ s) × (solve checks s < 2 ^ length checks)
  unfolding solve
  solves_each s h = solved_from s (length checks) 0 0 h (pow_pos (length checks)) (zero-add (length checks))
      (start (missing checks s 0) (xor_lt (length checks) (mix checks 0) s (mix-lt checks 0 (length checks) below) h))

  solves_once : (c d : ℕ) → c < 2 ^ length checks → d < 2 ^ length checks → mix checks c ≡ mix checks d → c ≡ d
  solves_once c d h l e =
      let r = length checks in
      let z : mix checks (bit_xor c d) ≡ 0 = mix-xor checks c d ∙ xor_zero_of_eq (mix checks c) (mix checks d) e in
      let x = xor_lt r c d h l in
      eq_of_xor_zero c d (end (bit_xor c d) x (fixed (bit_xor c d) r x z (le_refl r)))

-- ---- both corners

module _ (checks : List ℕ) (below : (p : ℕ) → p < length checks → column checks p < 2 ^ length checks) where
  -- i turns on, what is missed is a multiple of 2 ^ i; or it has i digits fewer
  abbrev Multiple : ℕ → ℕ → Type 0
  Multiple i e = e % 2 ^ i ≡ 0

  abbrev Narrow : ℕ → ℕ → Type 0
  Narrow i e = e < 2 ^ (length checks - i)

  reaches_lower : Lower checks → Reaches checks (length checks)
  reaches_lower l = record {
    solved = solves_each checks below Multiple (λ e h. mod-one e) turn end;
    once = solves_once checks below Multiple (λ e h. mod-one e) turn end;
  }
    where
      turn : (i e : ℕ) → i < length checks → e < 2 ^ length checks → Multiple i e → Multiple (suc i) (bit_xor (mix checks e) e)
      turn i e h u d = rw (mul-one e, zero-add i) at (turn_lower checks 0 e i (lower_from checks l) u d)

      end : (e : ℕ) → e < 2 ^ length checks → Multiple (length checks) e → e ≡ 0
      end e h d = sym (mod-eq_of_lt h) ∙ d

  reaches_upper : Upper checks → Reaches checks (length checks)
  reaches_upper l = record {
    solved = solves_each checks below Narrow start turn end;
    once = solves_once checks below Narrow start turn end;
  }
    where
      start : (e : ℕ) → e < 2 ^ length checks → Narrow 0 e
      start e h = let z : length checks - 0 ≡ length checks = omega arith in rw z h

      turn : (i e : ℕ) → i < length checks → e < 2 ^ length checks → Narrow i e → Narrow (suc i) (bit_xor (mix checks e) e)
      turn i e h u d =
          let s : length checks - i ≡ suc (length checks - suc i) = omega arith in
          rw (mul-one e, zero-add (length checks - suc i))
          at (turn_upper checks 0 e (length checks - suc i) (upper_from checks l) u (rw s at d))

      end : (e : ℕ) → e < 2 ^ length checks → Narrow (length checks) e → e ≡ 0
      end e h d = let z : length checks - length checks ≡ 0 = omega arith in lt-one (rw z at d)

  -- TRIANGULAR CHECK COLUMNS reach every syndrome, once, and `solve` finds the check bits
  pub triangular_reaches : Triangular checks → Reaches checks (length checks)
  triangular_reaches = ⊎_elim reaches_lower reaches_upper

-- single ones are triangular
pub singles_triangular : (r : ℕ) → Triangular (singles r)
singles_triangular r =
    inl (λ p h.
    let n = length-singles r in
    let e : column (singles r) p ≡ 2 ^ p = single_at r p (omega arith) in
    let z : off_diagonal (singles r) p ≡ 0 = ap (λ (x : ℕ). bit_xor x (2 ^ p)) e ∙ xor_self (2 ^ p) in
    ap (λ (x : ℕ). x % 2 ^ suc p) z ∙ none_mod (suc p))
