-- The finder of bad places: from two reads after a pattern and its complement were written, the places where the two agree, as ones in a
-- word; and row 7 of the refusals. Assumes nothing.
use Rattle.std.specs.Prelude.{cond, List, ℕ, ◌-◌, ◌^◌, length, Result, Ok, Err}
use Rattle.std.specs.Int.Bits.{bit_xor}
use Rattle.code.specs.declared.Opened.{Opened}
use Rattle.code.specs.declared.Refusal.{Refusal}
use Rattle.code.specs.Opened.{Standing, only, columns_of}
use Rattle.word.specs.declared.Word.{Word}
use Rattle.word.specs.Word.{as_number, in_parts, stray_in}
use Rattle.finder.specs.declared.Found.{Found}

-- a word of n places with a one in each
abbrev pub every_place : ℕ → ℕ
every_place n = 2 ^ n - 1

-- THE PLACES WHERE TWO WORDS of n places AGREE, as ones: the complement of their exclusive or (document 000)
abbrev pub agreeing : ℕ → ℕ → ℕ → ℕ
agreeing n a b = bit_xor (every_place n) (bit_xor a b)

-- two words exclusive-ored, part by part
abbrev pub xor_words : Word → Word → Word
xor_words a b = record { low = bit_xor a.low b.low; high = bit_xor a.high b.high; check = bit_xor a.check b.check }

-- ---- the answer

abbrev pub refused_found : Refusal → Found
refused_found f = record { number = f.number; told = f.told; word = record { low = 0; high = 0; check = 0 } }

-- a stray bit in either read is 7
unfoldable pub find_in : List ℕ → ℕ → Word → Word → Found
find_in cs k first second =
    cond (stray_in (length cs) k first) (refused_found (only 7))
    (cond (stray_in (length cs) k second) (refused_found (only 7))
    (record { number = 0; told = 0; word = in_parts k (agreeing (length cs) (as_number k first) (as_number k second)) }))

-- an answer, or the refusal told as one
abbrev pub answered : Result Found Refusal → Found
answered (Ok a) = a
answered (Err f) = refused_found f

-- how the code stands decides first
abbrev pub find_as : Standing → Opened → Word → Word → Found
find_as (Ok u) o first second = find_in (columns_of o) o.k first second
find_as (Err f) o first second = refused_found f

abbrev pub find_of : Opened → Word → Word → Found
find_of o first second = find_as o.standing o first second
