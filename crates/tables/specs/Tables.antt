-- Byte tables: for each byte of a record, what each of its 256 values adds to the syndrome; or, quicker to fill, what each of the 16 values
-- of either half adds. Assumes nothing.
use Rattle.std.specs.Prelude.{Bool, cond, List, [], ◌∷◌, ◌++◌, ℕ, zero, suc, ◌+◌, ◌*◌, ◌/◌, ◌%◌, get_or, take, drop}
use Rattle.std.specs.Int.Bits.{bit_xor}
use Rattle.columns.specs.Mix.{mix}
use Rattle.record.specs.Layout.{check_size}

-- f 0, f 1, .. f (n - 1)
unfoldable pub up_to : (ℕ → ℕ) → ℕ → List ℕ
up_to f zero = []
up_to f (suc n) = up_to f n ++ (f n ∷ [])

-- the table of a byte whose columns come first in a list: by its halves, or whole
abbrev pub byte_table : Bool → List ℕ → List ℕ
byte_table halves cs = cond halves (up_to (mix (take 4 cs)) 16 ++ up_to (mix (take 4 (drop 4 cs))) 16) (up_to (mix (take 8 cs)) 256)

-- its values
abbrev pub values_in : Bool → ℕ
values_in halves = cond halves 32 256

-- the tables of m bytes, one behind the other
unfoldable pub tables : Bool → List ℕ → ℕ → List ℕ
tables halves cs zero = []
tables halves cs (suc m) = tables halves cs m ++ byte_table halves (drop (8 * m) cs)

-- those of a record with d bytes of data: the first k columns are its data bits', the others its check bits'
abbrev pub tables_of : Bool → List ℕ → ℕ → ℕ → List ℕ
tables_of halves cs k d = tables halves (take k cs) d ++ tables halves (drop k cs) check_size

-- what the byte b says in its table, which begins at a place
abbrev pub byte_says : Bool → List ℕ → ℕ → ℕ → ℕ
byte_says halves table at b = cond halves (bit_xor (get_or table (at + b % 16) 0) (get_or table (at + 16 + b / 16) 0)) (get_or table (at + b) 0)

-- the exclusive or of what the first m bytes say in their tables
unfoldable pub lookups : Bool → List ℕ → List ℕ → ℕ → ℕ
lookups halves table bytes zero = 0
lookups halves table bytes (suc j) = bit_xor (lookups halves table bytes j) (byte_says halves table (values_in halves * j) (get_or bytes j 0))
