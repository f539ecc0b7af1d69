-- The check columns 1, 2, 4, ..: how many there are, and which stands where. Assumes nothing.
use mathlib.Core.Path.{◌≡◌, refl, ap, ◌∙◌}
use mathlib.Core.List.{List, ◌++◌}
use Prim.Native.Nat.{ℕ, zero, suc, ◌+◌, ◌-◌, ◌^◌, ◌≤◌, ◌<◌}
use native.Mathlib.Nat.{le_of_suc-le-suc, not-suc-le-zero, add-zero, zero-add}
use native.Mathlib.Omega.{arith}
use lib.ListN.{length, length-append, get_or-append}
use lib.Seq.{get_or-append-add}
use Rattle.columns.specs.Mix.{column, singles_from, singles}

length_from : (j r : ℕ) → length (singles_from j r) ≡ r
unfolding singles_from
length_from j zero = refl
length_from j (suc r) = ap suc (length_from (suc j) r)

from_at : (j r i : ℕ) → i < r → column (singles_from j r) i ≡ 2 ^ (j + i)
unfolding singles_from
from_at j zero i h = absurd (not-suc-le-zero h)
from_at j (suc r) zero h = rw (add-zero j)
from_at j (suc r) (suc i) h = from_at (suc j) r i (le_of_suc-le-suc h) ∙ ap (λ (n : ℕ). 2 ^ n) (omega arith)

pub length-singles : (r : ℕ) → length (singles r) ≡ r
unfolding singles
length-singles r = length_from 0 r

pub single_at : (r j : ℕ) → j < r → column (singles r) j ≡ 2 ^ j
unfolding singles
single_at r j h = from_at 0 r j h ∙ ap (λ (n : ℕ). 2 ^ n) (zero-add j)

-- ---- data columns with the check columns behind them

module _ (cs : List ℕ) (r : ℕ) where
  pub length-joined : length (cs ++ singles r) ≡ length cs + r
  length-joined = omega (arith, length-append cs (singles r), length-singles r)

  pub data_at : (i : ℕ) → i < length cs → column (cs ++ singles r) i ≡ column cs i
  data_at i h = get_or-append cs (singles r) 0 i h

  pub check_at : (j : ℕ) → j < r → column (cs ++ singles r) (length cs + j) ≡ 2 ^ j
  check_at j h = get_or-append-add cs (singles r) j 0 ∙ single_at r j h

  pub check_past : (p : ℕ) → length cs ≤ p → p < length cs + r → column (cs ++ singles r) p ≡ 2 ^ (p - length cs)
  check_past p h l =
      let e : p ≡ length cs + (p - length cs) = omega arith in
      ap (column (cs ++ singles r)) e ∙ check_at (p - length cs) (omega arith)
