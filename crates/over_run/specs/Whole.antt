-- All records of a run that is lent alone: the entries that they need, their tally, what is left of them, and their entries. Assumes
-- nothing.
use Rattle.std.specs.Prelude.{◌≡◌, List, ℕ, ◌+◌, ◌*◌, ◌%◌, ◌≤◌, length}
use Rattle.record.specs.declared.Tally.{Tally}
use Rattle.record.specs.Layout.{record_size, entry_size, image_limit, records_in, Entry}
use Rattle.record.specs.Run.{gather}
use Rattle.record.specs.Tally.{tally_of}
use Rattle.record.specs.Journal.{needed_of, entries_of}
use Rattle.at_record.specs.Outcome.{Reader, Ready, verdict_of, left_of, entry_of}

-- how many entries they need; their tally; what is left of them; their entries, with the pass's stamp, where the first record has the
-- number `first`
abbrev pub needed_by : Reader → List ℕ → ℕ
needed_by f run = needed_of (record_size f.d) (verdict_of f) run (records_in f.d run)

abbrev pub tally_in : Reader → List ℕ → Tally
tally_in f run = tally_of (record_size f.d) (verdict_of f) run (records_in f.d run)

abbrev pub left_in : Reader → List ℕ → List ℕ
left_in f run = gather (record_size f.d) (λ i. left_of f) run (records_in f.d run)

abbrev pub entries_by : Reader → ℕ → ℕ → List ℕ → List Entry
entries_by f stamp first run = entries_of (record_size f.d) (verdict_of f) (entry_of f stamp) first run (records_in f.d run)

-- records and nothing else, numbered within an image, and a journal with room for their entries
pub record RunFits (f : Reader) (run : List ℕ) (first : ℕ) (journal : List ℕ) : Type 0 where
  pub ready : Ready f
  pub whole : length run % record_size f.d ≡ 0
  pub numbered : first * record_size f.d + length run ≤ image_limit f.d
  pub room : entry_size f.d * needed_by f run ≤ length journal
