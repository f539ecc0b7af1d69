-- What is asked of each column of a code that is to be accepted, in either family. Assumes nothing.
use Rattle.std.specs.Prelude.{Bool, false, cond, not, ◌||◌, List, ℕ, ◌-◌, ◌^◌, eqb, ltb, leb, length, take, drop}
use Rattle.std.specs.Int.Bits.{bit_and}
use Rattle.std.specs.Int.Count.{ones}
use Rattle.parity.specs.Odd.{is_odd}
use Rattle.parity.specs.Below.{all_below}
use Rattle.columns.specs.Mix.{column, place_in}
use Rattle.row_judge.specs.Judge.{no_set, not_triangular}

-- k and r within the limits of an edition
abbrev pub in_limits : ℕ → ℕ → ℕ → Bool
in_limits most k r = cond (eqb k 0) false (cond (ltb most k) false (cond (ltb r 3) false (leb r 16)))

-- by itself: below 2 ^ r, odd within the rows, and no single one unless these may stand
abbrev pub fine_column : ℕ → ℕ → Bool → ℕ → Bool
fine_column r rows singles c = cond (leb (2 ^ r) c) false (cond (is_odd (bit_and c rows)) (singles || not (eqb (ones c) 1)) false)

-- and with the others: no earlier one equals it
abbrev pub settled_at : List ℕ → ℕ → ℕ → Bool → ℕ → Bool
settled_at cs r rows singles i = cond (ltb (place_in cs (column cs i)) i) false (fine_column r rows singles (column cs i))

-- all columns of a list
abbrev pub all_settled : List ℕ → ℕ → ℕ → Bool → Bool
all_settled cs r rows singles = all_below (settled_at cs r rows singles) (length cs)

-- a code with a chosen set of rows has a set, and check columns with an empty corner
abbrev pub shaped_rows : List ℕ → ℕ → ℕ → ℕ → Bool
shaped_rows places n r rows = cond (no_set r rows) false (not (not_triangular (drop (n - r) (take n places))))
