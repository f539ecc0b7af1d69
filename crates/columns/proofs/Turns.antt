-- The turns of the loop that solves: one more, and none left. Assumes nothing.
use mathlib.Core.Path.{◌≡◌}
use mathlib.Core.List.{List}
use Prim.Native.Nat.{ℕ, suc, ◌+◌, ◌-◌, ◌≤◌, ◌<◌}
use native.Mathlib.Omega.{arith}
use lib.Bits.{bit_xor}
use Rattle.columns.specs.Solving.{missing, solve_from}

pub solve-turn : (checks : List ℕ) (s n i c : ℕ) → i < n
    → solve_from checks s (n - i) c ≡ solve_from checks s (n - (i + 1)) (bit_xor c (missing checks s c))
unfolding solve_from
solve-turn checks s n i c h =
    let e : n - i ≡ suc (n - (i + 1)) = omega arith in
    rw e

pub solve_end : (checks : List ℕ) (s n i c : ℕ) → n ≤ i → solve_from checks s (n - i) c ≡ c
unfolding solve_from
solve_end checks s n i c h =
    let e : n - i ≡ 0 = omega arith in
    rw e
