-- THE MAKER'S ORDER (02's request 101): all columns of three ones, then of five, then of seven and so on; within a count the smaller number
-- first. Assumes nothing.
use Rattle.std.specs.Prelude.{Bool, cond, List, [], ◌∷◌, ◌++◌, ℕ, zero, suc, ◌+◌, ◌-◌, ◌/◌, ◌^◌, eqb, set, take}
use Rattle.std.specs.Int.Count.{ones}

-- of the n numbers from a on, those that pass f, the smaller first; and of the numbers below n
unfoldable pub passing_from : (ℕ → Bool) → ℕ → ℕ → List ℕ
passing_from f zero a = []
passing_from f (suc n) a = cond (f a) (a ∷ passing_from f n (suc a)) (passing_from f n (suc a))

abbrev pub passing : (ℕ → Bool) → ℕ → List ℕ
passing f n = passing_from f n 0

-- the numbers below 2 ^ r with just c ones
abbrev pub with_ones : ℕ → ℕ → List ℕ
with_ones r c = passing (λ x. eqb (ones x) c) (2 ^ r)

-- those with c ones, then with c + 2, and so on: n counts
unfoldable pub by_ones : ℕ → ℕ → ℕ → List ℕ
by_ones r zero c = []
by_ones r (suc n) c = with_ones r c ++ by_ones r n (c + 2)

-- every odd count from three up to r
abbrev pub in_order : ℕ → List ℕ
in_order r = by_ones r ((r - 1) / 2) 3

-- the columns that are made
abbrev pub made_columns : ℕ → ℕ → List ℕ
made_columns k r = take k (in_order r)

-- ---- put into places

-- the numbers xs, put into the places from i on as long as there are places
unfoldable pub put_from : List ℕ → ℕ → List ℕ → List ℕ
put_from places i [] = places
put_from places i (x ∷ xs) = put_from (set places i x) (suc i) xs
