-- What the program makes of a run under the sample code: document 01, the last item of "The sample code, worked". Assumes nothing.
use Rattle.std.specs.Prelude.{List, ℕ, ◌*◌, ◌/◌, ◌-◌, ◌≤◌, length}
use Rattle.record.specs.declared.Tally.{Tally}
use Rattle.record.specs.Layout.{data_size, entry_size, in_bytes}
use Rattle.code.specs.Opened.{opened_of}
use Rattle.code.specs.Sample.{sample_code}
use Rattle.at_record.specs.Outcome.{Reader}
use Rattle.pass.specs.Pass.{reader_of, left_run, noted_run, tally_run}
use Rattle.asked.specs.Pass.{room_in}
use Rattle.asked.specs.Asked.{Image, Run}
use Rattle.report.specs.declared.Totals.{Totals}
use Rattle.report.specs.Text.{line_size, journal_text}

-- what the program reads records with
abbrev pub sample_reader : Reader
sample_reader = reader_of (opened_of sample_code) data_size

-- ---- the run from the record a up to b: its tally, the image afterwards, the lines of its entries, whose stamp is 0

unfoldable pub run_tally : List ℕ → ℕ → ℕ → Tally
run_tally image a b = tally_run sample_reader image a b

unfoldable pub run_left : List ℕ → ℕ → ℕ → List ℕ
run_left image a b = left_run sample_reader image a b

unfoldable pub run_text : List ℕ → ℕ → ℕ → List ℕ
run_text image a b = journal_text (in_bytes (noted_run sample_reader 0 image a b))

-- the most records of a run, so that no buffer passes 64 KiB
abbrev pub run_size : ℕ
run_size = 65536 / entry_size data_size

-- a run that can be passed over, with room for an entry and a line of each of its records
pub record Ready (image : List ℕ) (a b : ℕ) (journal lines : List ℕ) : Type 0 where
  pub records : Image data_size image
  pub run : Run data_size image a b
  pub room : b - a ≤ room_in data_size journal
  pub space : line_size * room_in data_size journal ≤ length lines

-- the counts of a tally, as the sums of several
abbrev pub as_totals : Tally → Totals
as_totals t = record { clean = t.clean; «data» = t.«data»; check = t.check; even = t.even; odd = t.odd; stray = t.stray }
