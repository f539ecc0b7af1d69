-- The sample code: source document 002, figure 2, its top row as bit 0. Assumes nothing.
use Rattle.std.specs.Prelude.{List, [], ◌∷◌, ◌++◌, ℕ, ◌-◌, length, replicate}
use Rattle.code.specs.declared.Code.{Code}

-- a code of these columns, 0 in the places past them
abbrev pub code_of : List ℕ → ℕ → Code
code_of columns r = record { columns = columns ++ replicate (64 - length columns) 0; k = length columns; r = r }

abbrev pub sample_code : Code
sample_code = code_of (28 ∷ 26 ∷ 25 ∷ 22 ∷ 21 ∷ 19 ∷ 14 ∷ 13 ∷ []) 5
