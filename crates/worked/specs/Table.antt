-- Document 01, "The sample code, worked": the items marked P, as one table; cards as 02's request 105 has them, those that stay and those
-- that it amends; behind them the totals of 02's request 101. Each row names a question and the answer that the exported function is to
-- give; `right` asks whether its definition gives it. Assumes nothing.
use Rattle.std.specs.Prelude.{Bool, true, false, ◌&&◌, List, [], ◌∷◌, ◌++◌, ℕ, ◌-◌, eqb, ℤ, pos, negsuc, length, replicate}
use Rattle.std.specs.Int.Bits.{bit_xor}
use Rattle.code.specs.declared.Code.{Code}
use Rattle.code.specs.Rule.{matrix_of}
use Rattle.code.specs.Sample.{code_of, sample_code}
use Rattle.balance.specs.Balance.{all_ones}
use Rattle.entry_back.specs.Entry.{same_bytes}
use Rattle.desk.specs.Answers.{judgement_of, rows_of, written_of, read_of, explained_of, cards_of, made_of}

-- columns 7 and 11 with r 4
abbrev pub two : Code
two = code_of (7 ∷ 11 ∷ []) 4

-- bytes that a caller lends, with something in them: n times 170
abbrev pub lent : ℕ → List ℕ
lent n = replicate n 170

-- what is asked, and the answer
pub data Case : Type 0 where
  -- number and told place
  judged : (code : Code) (number told : ℕ) → Case
  -- all ones of the matrix
  weighed : (code : Code) (ones : ℕ) → Case
  -- number, told place, and the first r balances; the other rows are 0
  balanced : (code : Code) (number told : ℕ) (rows : List ℤ) → Case
  -- the check bits of the data
  written : (code : Code) (low check : ℕ) → Case
  -- the syndrome of a word as the check bits written give it; its verdict, its place, the word handed back and the syndrome (02's request 106)
  syndrome : (code : Code) (low high s : ℕ) → Case
  reads : (code : Code) (low high verdict place data₁ check₁ s : ℕ) → Case
  -- a list of explanations, in a lent buffer of this size: number, told, length, and the bytes afterwards
  listed : (code : Code) (low high limit size number told entries : ℕ) (bytes : List ℕ) → Case
  -- number, told place, card and mask
  carded : (code : Code) (b number told card mask : ℕ) → Case
  -- a code made for k and r: number, and all ones of its matrix
  made : (k r number ones : ℕ) → Case

abbrev pub sameℤ : ℤ → ℤ → Bool
sameℤ (pos a) (pos b) = eqb a b
sameℤ (pos a) (negsuc b) = false
sameℤ (negsuc a) (pos b) = false
sameℤ (negsuc a) (negsuc b) = eqb a b

abbrev pub same_rows : List ℤ → List ℤ → Bool
same_rows [] [] = true
same_rows [] (y ∷ ys) = false
same_rows (x ∷ xs) [] = false
same_rows (x ∷ xs) (y ∷ ys) = sameℤ x y && same_rows xs ys

-- the answer is the one that the definitions give
unfoldable pub right : Case → Bool
right (judged code number told) = eqb (judgement_of code).number number && eqb (judgement_of code).told told
right (weighed code n) = eqb (all_ones (matrix_of code)) n
right (balanced code number told rows) =
    eqb (rows_of code).number number && eqb (rows_of code).told told
    && same_rows (rows_of code).rows (rows ++ replicate (16 - length rows) (pos 0))
right (written code low check) =
    eqb (written_of code low).number 0 && eqb (written_of code low).told 0 && eqb (written_of code low).check check
right (syndrome code low high s) = eqb (bit_xor (written_of code low).check high) s
right (reads code low high verdict place data₁ check₁ s) =
    eqb (read_of code low high).number 0 && eqb (read_of code low high).told 0
    && eqb (read_of code low high).verdict verdict && eqb (read_of code low high).place place
    && eqb (read_of code low high).«data» data₁ && eqb (read_of code low high).check check₁
    && eqb (read_of code low high).syndrome s
right (listed code low high limit size number told entries bytes) =
    eqb (explained_of code low high limit (lent size)).answer.number number
    && eqb (explained_of code low high limit (lent size)).answer.told told
    && eqb (explained_of code low high limit (lent size)).answer.length entries
    && same_bytes (explained_of code low high limit (lent size)).list bytes
right (carded code b number told card mask) =
    eqb (cards_of code b).number number && eqb (cards_of code b).told told
    && eqb (cards_of code b).card card && eqb (cards_of code b).mask mask
right (made k r number n) = eqb (made_of k r).number number && eqb (all_ones (matrix_of (made_of k r).code)) n

unfoldable pub all_right : List Case → Bool
all_right [] = true
all_right (c ∷ cs) = right c && all_right cs

unfoldable pub table : List Case
table =
    judged sample_code 0 0
    ∷ weighed sample_code 29
    ∷ balanced sample_code 0 0 (negsuc 3 ∷ negsuc 3 ∷ pos 1 ∷ pos 1 ∷ pos 6 ∷ [])
    ∷ written sample_code 0x01 28
    ∷ written sample_code 0xFF 12
    ∷ written sample_code 0xA5 27
    ∷ reads sample_code 0xA5 27 0 255 0xA5 27 0
    ∷ syndrome sample_code 0xA4 27 28
    ∷ reads sample_code 0xA4 27 1 0 0xA5 27 28
    ∷ reads sample_code 0xA5 26 2 8 0xA5 27 1
    ∷ syndrome sample_code 0xA6 27 6
    ∷ reads sample_code 0xA6 27 3 255 0xA6 27 6
    ∷ listed sample_code 0xA6 27 2 13 0 0 5 (0 ∷ 1 ∷ 3 ∷ 12 ∷ 4 ∷ 5 ∷ 6 ∷ 11 ∷ 9 ∷ 10 ∷ lent 3)
    ∷ listed sample_code 0xA6 27 1 0 0 0 0 []
    ∷ listed sample_code 0xA6 27 1 3 0 0 0 (lent 3)
    ∷ listed sample_code 0xA6 27 2 9 10 5 0 (lent 9)
    ∷ syndrome sample_code 0xA6 26 7
    ∷ reads sample_code 0xA6 26 4 255 0xA6 26 7
    ∷ listed sample_code 0xA6 26 0 0 0 0 0 []
    ∷ listed sample_code 0xA6 26 1 0 0 0 0 []
    ∷ listed sample_code 0xA6 26 2 4 0 0 0 (lent 4)
    ∷ carded sample_code 2 0 0 0 0
    ∷ carded sample_code 3 9 0 1 7
    ∷ carded sample_code 4 9 0 0 11
    ∷ carded two 3 9 0 1 7
    ∷ carded two 4 9 0 1 7
    ∷ made 16 6 0 54
    ∷ made 24 6 0 86
    ∷ made 32 7 0 103
    ∷ made 48 7 0 177
    ∷ made 64 8 0 216
    ∷ made 58 7 15 0
    ∷ []
