-- The first walk: a mark for each record, and the list of those that have one. Assumes nothing.
use Rattle.std.specs.Prelude.{◌≡◌, Bool, ◌≢◌, List, ℕ, ◌+◌, ◌-◌, ◌*◌, ◌/◌, ◌%◌, ◌^◌, ◌≤◌, ◌<◌, length, get_or}
use Rattle.std.specs.Int.Bits.{bit_or, bit_and}
use Rattle.word.specs.declared.Word.{Word}
use Rattle.record.specs.Layout.{record_size}
use Rattle.record.specs.Run.{record_at}
use Rattle.record.specs.Journal.{needed_of}
use Rattle.at_record.specs.Outcome.{word_in}
use Rattle.tables.specs.Tables.{values_in, lookups}

-- the bits from k on, of w
abbrev pub above : ℕ → ℕ → ℕ
above w k = 2 ^ w - 2 ^ k

-- those that are stray in a word of n places, k of them data
abbrev pub stray_bits : ℕ → ℕ → Word
stray_bits n k = record { low = above 64 k; high = above 64 (k - 64); check = above 16 (n - k) }

-- the mark of a word: its syndrome, and its stray bits
abbrev pub mark_by : ℕ → Word → Word → ℕ
mark_by s w strays =
    bit_or (bit_or (bit_or s (bit_and w.low strays.low)) (bit_and w.high strays.high)) (bit_and w.check strays.check)

-- and of a record, by tables
unfoldable pub mark_of : Bool → List ℕ → ℕ → Word → List ℕ → ℕ
mark_of halves table d strays rec = mark_by (lookups halves table rec (record_size d)) (word_in d rec) strays

-- what the list says of the record x, whose syndrome is s
abbrev pub said_of : ℕ → ℕ → ℕ
said_of s x = 65536 * s + x

-- tables for records with d bytes of data, which say words of two halves
pub record Tabled (halves : Bool) (d : ℕ) (table : List ℕ) : Type 0 where
  pub least : 8 ≤ d
  pub most : d ≤ 16
  pub whole : length table ≡ values_in halves * record_size d

-- what is said names a record of the first n: by `mark` it is not clean, i before it are not, and `syndrome` is its own
pub record Due (size : ℕ) (mark syndrome : List ℕ → ℕ) (run : List ℕ) (n i said : ℕ) : Type 0 where
  pub inside : said % 65536 < n
  pub marked : mark (record_at size run (said % 65536)) ≢ 0
  pub order : needed_of size mark run (said % 65536) ≡ i
  pub told : said / 65536 ≡ syndrome (record_at size run (said % 65536))

-- the first `bad` elements of the list say the records that are not clean, in their order
abbrev pub ListedBy : ℕ → (List ℕ → ℕ) → (List ℕ → ℕ) → List ℕ → ℕ → List ℕ → ℕ → Type 0
ListedBy size mark syndrome run n list bad = (i : ℕ) → i < bad → Due size mark syndrome run n i (get_or list i 0)

abbrev pub Listed : Bool → ℕ → List ℕ → Word → List ℕ → ℕ → List ℕ → ℕ → Type 0
Listed halves d table strays run n list bad =
    ListedBy (record_size d) (mark_of halves table d strays) (λ rec. lookups halves table rec (record_size d)) run n list bad
