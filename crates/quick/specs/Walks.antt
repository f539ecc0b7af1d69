-- What the two walks of the quick pass are given. Assumes nothing.
use Rattle.std.specs.Prelude.{◌≡◌, List, ℕ, ◌≤◌, length}
use Rattle.record.specs.Layout.{record_size, records_in}
use Rattle.at_record.specs.Outcome.{Reader, Ready, verdict_of}
use Rattle.over_run.specs.Whole.{needed_by, RunFits}
use Rattle.marks.specs.Marks.{ListedBy}
use Rattle.by_list.specs.Given.{mixed_of}

-- columns of a code, and a list with room for as many records as a run has
pub record FirstFits (f : Reader) (run list : List ℕ) : Type 0 where
  pub ready : Ready f
  pub numbered : records_in f.d run ≤ 65536
  pub room : records_in f.d run ≤ length list

-- the first `bad` elements of the list say the records that need an entry, in their order, each with what its columns mix to
abbrev pub ListedIn : Reader → List ℕ → List ℕ → ℕ → Type 0
ListedIn f run list bad = ListedBy (record_size f.d) (verdict_of f) (mixed_of f) run (records_in f.d run) list bad

-- a list of the records of a run that are not clean
pub record Found (f : Reader) (list : List ℕ) (bad : ℕ) (run : List ℕ) : Type 0 where
  pub count : bad ≡ needed_by f run
  pub inside : bad ≤ length list
  pub listed : ListedIn f run list bad

-- what the plain pass asks of a run, and the list of its records that are not clean
pub record Listing (f : Reader) (list : List ℕ) (bad : ℕ) (run : List ℕ) (first : ℕ) (journal : List ℕ) : Type 0 where
  pub fits : RunFits f run first journal
  pub count : bad ≡ needed_by f run
  pub inside : bad ≤ length list
  pub listed : ListedIn f run list bad
