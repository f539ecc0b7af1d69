-- THE PROGRAM'S PROMISES: what it prints run by run is what the whole image gives (document 01, "Every image prints so"), and what its
-- lines say. Assumes nothing.
use Rattle.std.specs.Prelude.{◌≡◌, List, ◌++◌, ℕ, ◌≤◌, ◌<◌, length}
use Rattle.record.specs.Bytes.{byte_span}
use Rattle.record.specs.Layout.{data_size, record_size, number_size, syndrome_size, Entry, entry_bytes, records_in}
use Rattle.report.specs.Text.{decimal_of, said_from, entry_line, line_of}
use Rattle.report.specs.Totals.{added_to}
use Rattle.mend.specs.Mend.{run_tally, run_left, run_text, as_totals}

-- After the records below b those up to c are passed over, on the image as that left it: the lines of both runs, one behind the other,
-- are those of all records below c; so are the sums of both tallies, and the image afterwards. So a long image may go run by run.
abbrev pub RunByRun : Type 0
RunByRun =
    (image : List ℕ) (b c : ℕ) → b ≤ c → c ≤ records_in data_size image
    → (run_text image 0 c ≡ run_text image 0 b ++ run_text (run_left image 0 b) b c)
    × (as_totals (run_tally image 0 c) ≡ added_to (as_totals (run_tally image 0 b)) (run_tally (run_left image 0 b) b c))
    × (run_left image 0 c ≡ run_left (run_left image 0 b) b c)

-- The line of an entry's bytes is the entry's record number, verdict, place and syndrome, in decimal.
abbrev pub LinesSay : Type 0
LinesSay =
    (e : Entry) → e.number < byte_span number_size → e.syndrome < byte_span syndrome_size
    → length e.before ≡ record_size data_size → length e.after ≡ record_size data_size
    → line_of (entry_bytes e) ≡ entry_line e.number e.verdict e.place e.syndrome

-- The digits that are printed for a number say it.
abbrev pub DigitsSay : Type 0
DigitsSay = (n : ℕ) → said_from 0 (decimal_of n) ≡ n
