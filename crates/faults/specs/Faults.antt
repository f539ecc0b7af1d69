-- What may be wrong at a place of a list of columns, and the first place where it is. Assumes nothing.
use Prim.{Unit}
use Rattle.std.specs.Prelude.{Bool, cond, not, ◌||◌, List, ℕ, zero, suc, ◌-◌, ◌%◌, ◌^◌, ◌≤◌, eqb, ltb, leb, length, Option, Some, None}
use Rattle.std.specs.Int.Bits.{bit_xor}
use Rattle.parity.specs.Odd.{odd_in}
use Rattle.columns.specs.Mix.{column, place_in}
use Rattle.faults.specs.declared.Fault.{Fault}
use Rattle.faults.specs.declared.Fault.TheVariants.{Wide, Again, NotLower, NotUpper, Even, Full}

-- check column p without the one on its diagonal, row p
abbrev pub off_diagonal : List ℕ → ℕ → ℕ
off_diagonal checks p = bit_xor (column checks p) (2 ^ p)

-- in turn: it is 2 ^ r or more; it is zero or equals an earlier one; as a check column it has no one on its diagonal or a one in a row
-- before it; or one in a row after it; it has an even number of ones within the set of rows; it is not 0
abbrev pub fault_at : Fault → List ℕ → ℕ → Bool
fault_at (Wide r) cs i = leb (2 ^ r) (column cs i)
fault_at Again cs i = eqb (column cs i) 0 || ltb (place_in cs (column cs i)) i
fault_at NotLower cs i = not (eqb (off_diagonal cs i % 2 ^ suc i) 0)
fault_at NotUpper cs i = leb (2 ^ i) (off_diagonal cs i)
fault_at (Even rows) cs i = eqb (odd_in rows (column cs i)) 0
fault_at Full cs i = not (eqb (column cs i) 0)

-- the first of the n places from i on with this fault, or i + n where none has it
unfoldable pub first_from : Fault → List ℕ → ℕ → ℕ → ℕ
first_from f cs zero i = i
first_from f cs (suc n) i = cond (fault_at f cs i) i (first_from f cs n (suc i))

-- from place i up to the end of the list
unfoldable pub first_past : Fault → List ℕ → ℕ → ℕ
first_past f cs i = first_from f cs (length cs - i) i

-- that place, where the list has one
abbrev pub found_past : Fault → List ℕ → ℕ → Option ℕ
found_past f cs i = cond (ltb (first_past f cs i) (length cs)) (Some (first_past f cs i)) None

-- of the whole list
abbrev pub first_in : Fault → List ℕ → ℕ
first_in f cs = first_past f cs 0

abbrev pub some_in : Fault → List ℕ → Bool
some_in f cs = ltb (first_in f cs) (length cs)

-- rows that a column of 16 bits can have
abbrev pub InReach : Fault → List ℕ → Type 0
InReach (Wide r) cs = r ≤ 16
InReach Again cs = Unit
InReach NotLower cs = length cs ≤ 16
InReach NotUpper cs = length cs ≤ 16
InReach (Even rows) cs = Unit
InReach Full cs = Unit
