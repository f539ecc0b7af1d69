-- How many values the table of a byte has, by its halves or whole, and what that is in so many tables. Assumes nothing.
use mathlib.Core.Path.{◌≡◌}
use mathlib.Core.Bool.{Bool, true, false}
use Prim.Native.Nat.{ℕ, suc, ◌+◌, ◌*◌, ◌/◌, ◌%◌, ◌≤◌}
use native.Mathlib.Omega.{arith}
use Rattle.tables.specs.Tables.{values_in}

pub values_none : (h : Bool) → values_in h * 0 ≡ 0
values_none true = omega arith
values_none false = omega arith

pub values_step : (h : Bool) (m : ℕ) → values_in h * suc m ≡ values_in h * m + values_in h
values_step true m = omega arith
values_step false m = omega arith

pub values_up : (h : Bool) (m n : ℕ) → m ≤ n → values_in h * m ≤ values_in h * n
values_up true m n l = omega arith
values_up false m n l = omega arith

pub values_both : (h : Bool) (m n : ℕ) → values_in h * (m + n) ≡ values_in h * m + values_in h * n
values_both true m n = omega arith
values_both false m n = omega arith

-- tables without a rest, and how many they are
pub values_whole : (h : Bool) (l : ℕ) → l % values_in h ≡ 0 → values_in h * (l / values_in h) ≡ l
values_whole true l e = omega arith
values_whole false l e = omega arith

pub values_parts : (h : Bool) (l m : ℕ) → l ≡ values_in h * m → (l / values_in h ≡ m) × (l % values_in h ≡ 0)
values_parts true l m e = (omega arith, omega arith)
values_parts false l m e = (omega arith, omega arith)
