-- The rule of codes with a chosen set of rows, and what each answer of their judge says of a code. Assumes nothing.
use Rattle.std.specs.Prelude.{◌≡◌, ◌≢◌, ◌⊎◌, List, ℕ, suc, ◌-◌, ◌%◌, ◌^◌, ◌≤◌, ◌<◌, length, take, drop, Ok, Err}
use Rattle.parity.specs.Odd.{odd_in}
use Rattle.columns.specs.Mix.{column}
use Rattle.judge.specs.Rule.{Sized, Limits, Empty, LeftAt}
use Rattle.row_judge.specs.Judge.{JudgedRows}
use Rattle.row_judge.specs.declared.RowFlaw.TheVariants.{NoData, NoChecks, TooWide, NoRows, Repeated, NotTriangular, EvenColumn, Leftover}
use Rattle.faults.specs.Faults.{off_diagonal}

-- ---- the rule's parts

-- each column is below 2 ^ r
abbrev pub Narrow : List ℕ → ℕ → Type 0
Narrow cs r = (i : ℕ) → i < length cs → column cs i < 2 ^ r

-- a set of some of the r rows, and none other
pub record SetOfRows (r rows : ℕ) : Type 0 where
  pub some : rows ≢ 0
  pub within : rows < 2 ^ r

-- no column is zero, and no two are equal
pub record Differ (cs : List ℕ) : Type 0 where
  pub some : (i : ℕ) → i < length cs → column cs i ≢ 0
  pub apart : (p q : ℕ) → p < length cs → q < length cs → column cs p ≡ column cs q → p ≡ q

-- check columns with a one on each diagonal, and for all alike nothing in a row before it; or nothing in a row after it
abbrev pub Lower : List ℕ → Type 0
Lower checks = (p : ℕ) → p < length checks → off_diagonal checks p % 2 ^ suc p ≡ 0

abbrev pub Upper : List ℕ → Type 0
Upper checks = (p : ℕ) → p < length checks → off_diagonal checks p < 2 ^ p

abbrev pub Triangular : List ℕ → Type 0
Triangular checks = Lower checks ⊎ Upper checks

-- each column has an odd number of ones within the set
abbrev pub OddWithin : List ℕ → ℕ → Type 0
OddWithin cs rows = (i : ℕ) → i < length cs → odd_in rows (column cs i) ≡ 1

-- THE RULE of n columns, the first k of them data columns
pub record Chosen (cs : List ℕ) (k r rows : ℕ) : Type 0 where
  pub narrow : Narrow cs r
  pub set : SetOfRows r rows
  pub differ : Differ cs
  pub triangular : Triangular (drop k cs)
  pub odd : OddWithin cs rows

-- a code that keeps the limits and the rule, and has nothing past its n columns
pub record KeptRows (most : ℕ) (places : List ℕ) (n r rows : ℕ) : Type 0 where
  pub limits : Limits most (n - r) r
  pub rule : Chosen (take n places) (n - r) r rows
  pub empty : Empty places n

-- ---- the rows of the table

-- 3: place i is the first whose column is 2 ^ r or more
pub record FirstWide (cs : List ℕ) (r i : ℕ) : Type 0 where
  pub inside : i < length cs
  pub wide : 2 ^ r ≤ column cs i
  pub before : (j : ℕ) → j < i → column cs j < 2 ^ r

-- 20, by its reasons
abbrev pub NoSetOfRows : ℕ → ℕ → Type 0
NoSetOfRows r rows = (rows ≡ 0) ⊎ (2 ^ r ≤ rows)

abbrev pub ZeroOrAgain : List ℕ → Type 0
ZeroOrAgain cs = (i : ℕ) × (i < length cs) × ((column cs i ≡ 0) ⊎ ((j : ℕ) × (j < i) × (column cs j ≡ column cs i)))

abbrev pub SomeEven : List ℕ → ℕ → Type 0
SomeEven cs rows = (i : ℕ) × (i < length cs) × (odd_in rows (column cs i) ≡ 0)

-- what an answer of the judge says of a code: its row of the table holds, and no earlier one
abbrev pub SaysOfRows : ℕ → List ℕ → ℕ → ℕ → ℕ → JudgedRows → Type 0
SaysOfRows most places n r rows (Err NoData) = (n ≤ r) ⊎ (most < n - r)
SaysOfRows most places n r rows (Err NoChecks) = Sized most (n - r) × ((r < 3) ⊎ (16 < r))
SaysOfRows most places n r rows (Err (TooWide i)) = Limits most (n - r) r × FirstWide (take n places) r i
SaysOfRows most places n r rows (Err NoRows) = Limits most (n - r) r × Narrow (take n places) r × NoSetOfRows r rows
SaysOfRows most places n r rows (Err Repeated) = Limits most (n - r) r × Narrow (take n places) r × SetOfRows r rows × ZeroOrAgain (take n places)
SaysOfRows most places n r rows (Err NotTriangular) = Limits most (n - r) r × Narrow (take n places) r × SetOfRows r rows
    × Differ (take n places) × (¬ (Triangular (drop (n - r) (take n places))))
SaysOfRows most places n r rows (Err EvenColumn) = Limits most (n - r) r × Narrow (take n places) r × SetOfRows r rows
    × Differ (take n places) × Triangular (drop (n - r) (take n places)) × SomeEven (take n places) rows
SaysOfRows most places n r rows (Err (Leftover i)) = Limits most (n - r) r × Chosen (take n places) (n - r) r rows × LeftAt places n i
SaysOfRows most places n r rows (Ok u) = Limits most (n - r) r × Chosen (take n places) (n - r) r rows × Empty places n
