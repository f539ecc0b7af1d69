-- Vectors of three bits and the matrix T of source document 000. A vector is a number below 8, its lowest bit the top of the vector; sums
-- are without carry. Assumes nothing.
use Rattle.std.specs.Prelude.{List, [], ◌∷◌, ℕ, zero, suc, ◌+◌, ◌*◌, ◌/◌, ◌%◌}
use Rattle.std.specs.Int.Bits.{differ}

-- T as printed, row by row
abbrev pub rows_of_t : List (List ℕ)
rows_of_t =
    (0 ∷ 0 ∷ 1 ∷ [])
    ∷ (1 ∷ 0 ∷ 1 ∷ [])
    ∷ (0 ∷ 1 ∷ 0 ∷ [])
    ∷ []

-- a row times a vector: the sum of the bits of v where the row has a 1
abbrev pub row_times : List ℕ → ℕ → ℕ
row_times [] v = 0
row_times (one ∷ row) v = differ (one * (v % 2)) (row_times row (v / 2))

-- rows times a vector: the first row gives the top of the product
abbrev pub rows_times : List (List ℕ) → ℕ → ℕ
rows_times [] v = 0
rows_times (row ∷ rows) v = row_times row v + 2 * rows_times rows v

-- T times a vector
unfoldable pub times_t : ℕ → ℕ
times_t v = rows_times rows_of_t v

-- the i-th power of T, times a vector
unfoldable pub power_t : ℕ → ℕ → ℕ
power_t zero v = v
power_t (suc i) v = times_t (power_t i v)
