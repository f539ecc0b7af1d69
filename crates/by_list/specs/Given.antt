-- What the second walk is given: what the plain pass asks of a run, guesses, and the list of the first walk. Assumes nothing.
use Rattle.std.specs.Prelude.{◌≡◌, List, ℕ, ◌≤◌, length, take, drop}
use Rattle.std.specs.Int.Bits.{bit_xor}
use Rattle.columns.specs.Mix.{mix}
use Rattle.record.specs.Layout.{record_size, records_in, data_in, check_in}
use Rattle.at_record.specs.Outcome.{Reader, verdict_of}
use Rattle.over_run.specs.Whole.{needed_by, RunFits}
use Rattle.guess.specs.Guess.{Guessed}
use Rattle.marks.specs.Marks.{ListedBy}

-- what the columns of a record's bits mix to: without stray bits its syndrome
unfoldable pub mixed_of : Reader → List ℕ → ℕ
mixed_of f rec = bit_xor (mix (take f.k f.columns) (data_in f.d rec)) (mix (drop f.k f.columns) (check_in f.d rec))

pub record Given (f : Reader) (guesses list : List ℕ) (bad : ℕ) (run : List ℕ) (first : ℕ) (journal : List ℕ) : Type 0 where
  pub fits : RunFits f run first journal
  pub guessed : Guessed f.columns guesses
  pub count : bad ≡ needed_by f run
  pub inside : bad ≤ length list
  pub listed : ListedBy (record_size f.d) (verdict_of f) (mixed_of f) run (records_in f.d run) list bad
