-- Pigeonhole: numbers below n that all differ are no more than n. Assumes nothing.
use mathlib.Core.Path.{◌≡◌, sym, ap, ◌∙◌}
use mathlib.Core.Logic.{◌≢◌}
use Prim.Native.Nat.{ℕ, zero, suc, ◌+◌, ◌-◌, ◌≤◌, ◌<◌, min, zero-le, suc-le-suc}
use native.Mathlib.Nat.{le_refl, not-suc-le-zero}
use native.Mathlib.Omega.{arith}

-- past v a number moves down by one; and up again
abbrev pub down : ℕ → ℕ → ℕ
down v x = x - min 1 (x - v)

abbrev pub up : ℕ → ℕ → ℕ
up v x = x + min 1 (suc x - v)

pub up-down : (v x : ℕ) → x ≢ v → up v (down v x) ≡ x
up-down v x h = omega arith

-- m numbers below n that all differ are no more than n: leave out the last, and those past it move down
pub apart_below : (m n : ℕ) (f : ℕ → ℕ) → ((i : ℕ) → i < m → f i < n) → ((i j : ℕ) → i < m → j < m → f i ≡ f j → i ≡ j) → m ≤ n
apart_below zero n f below apart = zero-le
apart_below (suc m) zero f below apart = absurd (not-suc-le-zero (below m (le_refl (suc m))))
apart_below (suc m) (suc n) f below apart =
    let last : (i : ℕ) → i < m → f i ≢ f m = λ i l e. let same = apart i m (omega arith) (omega arith) e in omega arith in
    suc-le-suc
    (apart_below m n (λ i. down (f m) (f i))
    (λ i l. omega (arith, last i l, below i (omega arith), below m (omega arith)))
    (λ i j l k e. apart i j (omega arith) (omega arith)
    (sym (up-down (f m) (f i) (last i l)) ∙ ap (up (f m)) e ∙ up-down (f m) (f j) (last j k))))
