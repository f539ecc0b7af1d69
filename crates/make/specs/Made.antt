-- What the maker answers: 02's request 101. Assumes nothing.
use Rattle.std.specs.Prelude.{cond, ◌||◌, List, ◌++◌, ℕ, zero, suc, ◌-◌, ◌^◌, eqb, ltb, length, replicate, Result, Ok, Err}
use Rattle.make.specs.declared.Unmade.{Unmade}
use Rattle.make.specs.declared.Unmade.TheVariants.{DataBits, CheckBits, ColumnRoom}
use Rattle.make.specs.declared.Made.{Made}
use Rattle.make.specs.declared.WideMade.{WideMade}
use Rattle.order.specs.Order.{made_columns}

-- the list, and zeros up to `most` places
abbrev pub padded_to : ℕ → List ℕ → List ℕ
padded_to most cs = cs ++ replicate (most - length cs) 0

-- a code of at most `most` data bits: 1, 2, then 15 where k is over 2 ^ (r - 1) - r; else 0
unfoldable pub make_number : ℕ → ℕ → ℕ → ℕ
make_number most k r =
    cond (eqb k 0 || ltb most k) 1
    (cond (ltb r 3 || ltb 16 r) 2
    (cond (ltb (2 ^ (r - 1) - r) k) 15 0))

-- the numbers of what no code can be made with, and of an answer
abbrev pub number_of : Unmade → ℕ
number_of DataBits = 1
number_of CheckBits = 2
number_of ColumnRoom = 15

abbrev pub number_in : {A : Type 0} → Result A Unmade → ℕ
number_in (Ok a) = 0
number_in (Err unmade) = number_of unmade

-- its places, by that number: the columns in order and zeros past them; all zeros where it is refused
abbrev pub places_by : ℕ → ℕ → ℕ → ℕ → List ℕ
places_by zero most k r = padded_to most (made_columns k r)
places_by (suc n) most k r = replicate most 0

-- the answer of any edition, put together by `put` from number, places, k and r: a refusal hands back a code of k 0 and r 0
abbrev pub making_in : {A : Type 0} → (ℕ → List ℕ → ℕ → ℕ → A) → ℕ → ℕ → ℕ → ℕ → A
making_in put most zero k r = put 0 (places_by 0 most k r) k r
making_in put most (suc n) k r = put (suc n) (places_by (suc n) most k r) 0 0

-- as codes are handed about, in 64 places
abbrev pub made_with : ℕ → List ℕ → ℕ → ℕ → Made
made_with number columns k r = record { number = number; code = record { columns = columns; k = k; r = r } }

-- a refusal
abbrev pub refused_made : Unmade → Made
refused_made unmade = made_with (number_of unmade) (replicate 64 0) 0 0

abbrev pub making_by : ℕ → ℕ → ℕ → Made
making_by n k r = making_in made_with 64 n k r

abbrev pub make_of : ℕ → ℕ → Made
make_of k r = making_by (make_number 64 k r) k r

-- and in 128
abbrev pub wide_made_with : ℕ → List ℕ → ℕ → ℕ → WideMade
wide_made_with number columns k r = record { number = number; code = record { columns = columns; k = k; r = r } }

abbrev pub refused_wide : Unmade → WideMade
refused_wide unmade = wide_made_with (number_of unmade) (replicate 128 0) 0 0

abbrev pub make_wide : ℕ → ℕ → WideMade
make_wide k r = making_in wide_made_with 128 (make_number 128 k r) k r
