-- The float that is nearest to a fraction, of two as near the even one: said by comparing it with every float, and not by how it is found.
-- Assumes nothing.
use Rattle.std.specs.Prelude.{◌≡◌, true, false, ℕ, ◌+◌, ◌-◌, ◌*◌, ◌%◌, ◌≤◌, pos, Float}
use Rattle.std.specs.Float.Ieee as Ieee
use Rattle.std.specs.Float.{nan, inf, fin, Format}
use Rattle.std.specs.Float.Ieee.{up, down}
use Rattle.std.specs.Float.Ieee.Scale.{finite}
use Rattle.std.specs.Float.Ieee.Positive.{den}

-- how far apart two numbers are
abbrev pub apart : ℕ → ℕ → ℕ
apart a b = (a - b) + (b - a)

-- How far a finite x lies from the fraction a / c, counted in parts of 1 / (den x * c). The size of x is num x / den x.
abbrev pub off : Float → ℕ → ℕ → ℕ
off nan a c = 0
off (inf s) a c = 0
off (fin false m e) a c = apart (m * up e * c) (a * down e)
off (fin true m e) a c = m * up e * c + a * down e

-- a finite value that the format f holds
pub record Held (f : Format) (x : Float) : Type 0 where
  pub holds : Ieee.fits f x ≡ true
  pub ends : finite x ≡ true

-- x lies as near to a / c as every value that f holds; and where another lies as near, the last of x's bits is 0
pub record Nearest (f : Format) (x : Float) (a c : ℕ) : Type 0 where
  pub held : Held f x
  pub near : (y : Float) → Held f y → off x a c * den y ≤ off y a c * den x
  pub even : (y : Float) → Held f y → Ieee.ne y x ≡ true → off x a c * den y ≡ off y a c * den x → Ieee.to_bits f x % 2 ≡ 0

-- x does, and no other number does
pub record NearestOnly (f : Format) (x : Float) (a c : ℕ) : Type 0 where
  pub nearest : Nearest f x a c
  pub only : (y : Float) → Nearest f y a c → Ieee.eq y x ≡ true

-- plus zero, and one
abbrev pub zero_float : Float
zero_float = fin false 0 (pos 0)

abbrev pub one_float : Float
one_float = fin false 1 (pos 0)
