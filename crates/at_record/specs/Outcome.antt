-- What a pass finds at a record, and what it leaves there: document 01, "Images, journal and tally". Assumes nothing.
use Rattle.std.specs.Prelude.{List, ℕ, ◌+◌, ◌-◌, ◌*◌, ◌≤◌, length, take, drop}
use Rattle.record.specs.Bytes.{number_of}
use Rattle.record.specs.Layout.{record_bytes, check_in, Entry}
use Rattle.word.specs.declared.Word.{Word}
use Rattle.verdict.specs.declared.Verdict.{Verdict}
use Rattle.verdict.specs.declared.Verdict.TheVariants.{Clean, Data, Check, Even, Odd, Stray}
use Rattle.word.specs.Word.{joined, flipped_in}
use Rattle.word.specs.declared.Sight.{Sight}
use Rattle.word.specs.Verdicts.{read_in, syndrome_in}
use Rattle.verdict.specs.Verdicts.{finding_of}

-- what records are read with: the n columns of a code, k of them data columns, its set of rows, and the bytes of data in a record
pub record Reader : Type 0 where
  pub columns : List ℕ
  pub k : ℕ
  pub rows : ℕ
  pub d : ℕ

abbrev pub reader : List ℕ → ℕ → ℕ → ℕ → Reader
reader cs k rows d = record { columns = cs; k = k; rows = rows; d = d }

-- records with d bytes of data hold k data bits, and say words of two halves
pub record Held (d k : ℕ) : Type 0 where
  pub least : 8 ≤ d
  pub most : d ≤ 16
  pub data_held : k ≤ 8 * d

-- as many columns as a code has, and as many bytes as hold its data
pub record Ready (f : Reader) : Type 0 where
  pub parts : f.k ≤ length f.columns
  pub checks : length f.columns ≤ f.k + 16
  pub held : Held f.d f.k

-- ---- a record as a word, and a word as a record

-- the word that a record with d bytes of data says: its first eight bytes are the low half, those up to d the high one
abbrev pub word_in : ℕ → List ℕ → Word
word_in d rec = record { low = number_of (take 8 rec); high = number_of (take (d - 8) (drop 8 rec)); check = check_in d rec }

abbrev pub record_of : ℕ → Word → List ℕ
record_of d w = record_bytes d (joined w.low w.high) w.check

-- ---- what is found

unfoldable pub seen : Reader → List ℕ → Verdict
seen f rec = read_in f.rows f.columns f.k (word_in f.d rec)

-- its syndrome; a stray word's counts as 0
unfoldable pub syndrome_of : Reader → List ℕ → ℕ
syndrome_of f rec = syndrome_in f.columns f.k (word_in f.d rec)

-- both
abbrev pub sight : Reader → List ℕ → Sight
sight f rec = record { verdict = seen f rec; syndrome = syndrome_of f rec }

-- a record as a verdict leaves it: verdicts 1 and 2 are mended, the place that they name flipped
abbrev pub left_by : ℕ → ℕ → Verdict → List ℕ → List ℕ
left_by d k Clean rec = rec
left_by d k (Data p) rec = record_of d (flipped_in k p (word_in d rec))
left_by d k (Check p) rec = record_of d (flipped_in k p (word_in d rec))
left_by d k Even rec = rec
left_by d k Odd rec = rec
left_by d k Stray rec = rec

-- the entry of the record with the number n, whose syndrome is s, by a pass with this stamp
abbrev pub entry_by : ℕ → ℕ → ℕ → ℕ → Verdict → ℕ → List ℕ → Entry
entry_by d k stamp n v s rec =
    record {
      stamp = stamp;
      number = n;
      verdict = (finding_of v).verdict;
      place = (finding_of v).place;
      syndrome = s;
      before = rec;
      after = left_by d k v rec;
    }

-- ---- of a record

unfoldable pub verdict_of : Reader → List ℕ → ℕ
verdict_of f rec = (finding_of (seen f rec)).verdict

unfoldable pub left_of : Reader → List ℕ → List ℕ
left_of f rec = left_by f.d f.k (seen f rec) rec

unfoldable pub entry_of : Reader → ℕ → ℕ → List ℕ → Entry
entry_of f stamp n rec = entry_by f.d f.k stamp n (seen f rec) (syndrome_of f rec) rec
