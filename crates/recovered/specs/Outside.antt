-- In how many places two words differ, some places aside. Assumes nothing.
use Rattle.std.specs.Prelude.{cond, List, ℕ}
use Rattle.std.specs.Int.Bits.{differ}
use Rattle.parity.specs.Sums.{sum_from}
use Rattle.columns.specs.Bits.{bit_at}
use Rattle.reach.specs.Places.{stands}

-- 1 where place p is not bad and u and w differ in it, else 0
abbrev pub differs_at : List ℕ → ℕ → ℕ → ℕ → ℕ
differs_at bad u w p = cond (stands p bad) 0 (differ (bit_at u p) (bit_at w p))

-- in how many of n places, the bad ones aside, u and w differ
abbrev pub differing : ℕ → List ℕ → ℕ → ℕ → ℕ
differing n bad u w = sum_from (differs_at bad u w) n 0
