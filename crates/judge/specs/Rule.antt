-- Hsiao's rule, and what each answer of the judge says of a code. Assumes nothing.
use Rattle.std.specs.Prelude.{◌≡◌, ◌≢◌, ◌⊎◌, List, ◌++◌, ℕ, ◌^◌, ◌≤◌, ◌<◌, length, take, Ok, Err}
use Rattle.std.specs.Int.Count.{ones}
use Rattle.parity.specs.Odd.{odd_ones}
use Rattle.columns.specs.Mix.{column, singles}
use Rattle.columns.specs.Rule.{Good}
use Rattle.judge.specs.Judge.{Judged}
use Rattle.judge.specs.declared.Flaw.TheVariants.{NoData, NoChecks, TooWide, EvenColumn, SingleOne, Repeated, Leftover}

-- the n columns of a code: the data columns, then the check columns 1, 2, 4, .. 2 ^ (r - 1)
abbrev pub matrix : List ℕ → ℕ → List ℕ
matrix columns r = columns ++ singles r

-- THE RULE: each data column is below 2 ^ r, and all n columns differ and have an odd number of ones
pub record Hsiao (columns : List ℕ) (r : ℕ) : Type 0 where
  pub below : (i : ℕ) → i < length columns → column columns i < 2 ^ r
  pub good : Good odd_ones (matrix columns r)

-- the limits on k and r
pub record Sized (most k : ℕ) : Type 0 where
  pub some : 1 ≤ k
  pub few : k ≤ most

pub record Limits (most k r : ℕ) : Type 0 where
  pub sized : Sized most k
  pub least : 3 ≤ r
  pub top : r ≤ 16

-- the places past k are empty
abbrev pub Empty : List ℕ → ℕ → Type 0
Empty columns k = (i : ℕ) → k ≤ i → i < length columns → column columns i ≡ 0

-- a code that keeps the limits and the rule, and has nothing past its data columns
pub record Kept (most : ℕ) (columns : List ℕ) (k r : ℕ) : Type 0 where
  pub limits : Limits most k r
  pub rule : Hsiao (take k columns) r
  pub empty : Empty columns k

-- ---- rows 3 to 6 of the table, for the column at place i

abbrev pub WideAt : List ℕ → ℕ → ℕ → Type 0
WideAt columns r i = 2 ^ r ≤ column columns i

abbrev pub EvenAt : List ℕ → ℕ → Type 0
EvenAt columns i = odd_ones (column columns i) ≡ 0

abbrev pub SingleAt : List ℕ → ℕ → Type 0
SingleAt columns i = ones (column columns i) ≡ 1

abbrev pub AgainAt : List ℕ → ℕ → Type 0
AgainAt columns i = (j : ℕ) × (j < i) × (column columns j ≡ column columns i)

-- none of them holds
pub record FineAt (columns : List ℕ) (r i : ℕ) : Type 0 where
  pub narrow : ¬ (WideAt columns r i)
  pub odd : ¬ (EvenAt columns i)
  pub many : ¬ (SingleAt columns i)
  pub new : ¬ (AgainAt columns i)

-- place i is the lowest of the k data columns that can be bad
pub record Lowest (columns : List ℕ) (r i : ℕ) : Type 0 where
  pub inside : i < length columns
  pub before : (j : ℕ) → j < i → FineAt columns r j

-- row 21: place i is the first past k that is not 0
pub record LeftAt (columns : List ℕ) (k i : ℕ) : Type 0 where
  pub past : k ≤ i
  pub inside : i < length columns
  pub full : column columns i ≢ 0
  pub before : (j : ℕ) → k ≤ j → j < i → column columns j ≡ 0

-- what an answer of the judge says of the data columns
abbrev pub SaysOfColumns : List ℕ → ℕ → Judged → Type 0
SaysOfColumns columns r (Ok u) = Hsiao columns r
SaysOfColumns columns r (Err NoData) = ⊥
SaysOfColumns columns r (Err NoChecks) = ⊥
SaysOfColumns columns r (Err (TooWide i)) = Lowest columns r i × WideAt columns r i
SaysOfColumns columns r (Err (EvenColumn i)) = Lowest columns r i × (¬ (WideAt columns r i)) × EvenAt columns i
SaysOfColumns columns r (Err (SingleOne i)) = Lowest columns r i × (¬ (WideAt columns r i)) × (¬ (EvenAt columns i)) × SingleAt columns i
SaysOfColumns columns r (Err (Repeated i)) = Lowest columns r i × (¬ (WideAt columns r i))
    × (¬ (EvenAt columns i)) × (¬ (SingleAt columns i)) × AgainAt columns i
SaysOfColumns columns r (Err (Leftover i)) = ⊥

-- what an answer of the judge says of a code: its row of the table holds, and no earlier one
abbrev pub SaysOfCode : ℕ → List ℕ → ℕ → ℕ → Judged → Type 0
SaysOfCode most columns k r (Err NoData) = (k ≡ 0) ⊎ (most < k)
SaysOfCode most columns k r (Err NoChecks) = Sized most k × ((r < 3) ⊎ (16 < r))
SaysOfCode most columns k r (Ok u) = Limits most k r × SaysOfColumns (take k columns) r (Ok tt) × Empty columns k
SaysOfCode most columns k r (Err (TooWide i)) = Limits most k r × SaysOfColumns (take k columns) r (Err (TooWide i))
SaysOfCode most columns k r (Err (EvenColumn i)) = Limits most k r × SaysOfColumns (take k columns) r (Err (EvenColumn i))
SaysOfCode most columns k r (Err (SingleOne i)) = Limits most k r × SaysOfColumns (take k columns) r (Err (SingleOne i))
SaysOfCode most columns k r (Err (Repeated i)) = Limits most k r × SaysOfColumns (take k columns) r (Err (Repeated i))
SaysOfCode most columns k r (Err (Leftover i)) = Limits most k r × SaysOfColumns (take k columns) r (Ok tt) × LeftAt columns k i
