-- The words that the demands on any order of passes use; runs, orders and entries themselves are crate orders' own. Assumes nothing.
use Rattle.std.specs.Prelude.{List, ℕ}
use Rattle.code.specs.declared.Code.{Code}
use Rattle.code.specs.Opened.{opened_of}
use Rattle.record.specs.Layout.{data_size, Entry}
use Rattle.asked.specs.declared.Pass.{Pass}
use Rattle.asked.specs.Pass.{State}
use Rattle.pass.specs.Pass.{reader_of}
use Rattle.orders.specs.Orders.{Ends, needed_by_all, Separate, OrderOf, passes_after}
use Rattle.desk.specs.Answers.{passed_of}
use Rattle.demands.specs.Definitions.{record_of, verdict_of, place_for, syndrome_for}

-- how many entries all the runs need under this code
abbrev pub needed_for_all : Code → List ℕ → List Ends → ℕ
needed_for_all code image runs = needed_by_all (reader_of (opened_of code) data_size) image runs

-- runs of an image of records with 8 bytes of data, no record in two of them, and journal room for the entries of all
abbrev pub RunsApart : Code → List Ends → State → Type 0
RunsApart code runs s = Separate (reader_of (opened_of code) data_size) runs s

-- an order of the runs: a pass for each, with stamps that do not go back
abbrev pub InSomeOrder : List Ends → State → List Pass → Type 0
InSomeOrder runs s passes = OrderOf data_size runs s passes

-- image, journal and count in use after these passes under one code, each told the count in use
abbrev pub after_all : Code → List Pass → State → State
after_all code passes s = passes_after (passed_of code) passes s

-- the entry of a record that is left as it was read, by a pass with this stamp
abbrev pub as_it_was : Code → List ℕ → ℕ → ℕ → Entry
as_it_was code image i stamp =
    record {
      stamp = stamp;
      number = i;
      verdict = verdict_of code image i;
      place = place_for code image i;
      syndrome = syndrome_for code image i;
      before = record_of image i;
      after = record_of image i;
    }
