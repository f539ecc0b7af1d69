-- Passes under one code over runs apart, in any order (02's request 113). Over any function that answers a pass, so the words serve every
-- family and every size of records. Assumes nothing.
use Prim.{Unit}
use Rattle.std.specs.Prelude.{◌≡◌, List, [], ◌∷◌, map, ℕ, ◌+◌, ◌-◌, ◌≤◌, ◌<◌}
use Rattle.record.specs.declared.Tally.{Tally}
use Rattle.record.specs.Bytes.{byte_span}
use Rattle.record.specs.Layout.{stamp_size, Entry}
use Rattle.record.specs.Journal.{entries_from}
use Rattle.at_record.specs.Outcome.{Reader}
use Rattle.asked.specs.declared.Pass.{Pass}
use Rattle.asked.specs.Pass.{State, room_in}
use Rattle.pass.specs.Pass.{After, needed_run}
use Rattle.asked.specs.Asked.{Image, Run, GoesOn}
use Rattle.passes.specs.Twice.{state_in}
use Rattle.orders.specs.Lists.{Each, EachTwo, Rearranged}

-- ---- runs

-- a run's ends: from the record `start` up to the record `end`, which is not counted
pub record Ends : Type 0 where
  pub start : ℕ
  pub end : ℕ

abbrev pub ends_of : Pass → Ends
ends_of p = record { start = p.start; end = p.end }

-- the record i lies in the run
abbrev pub InRun : Ends → ℕ → Type 0
InRun r i = (r.start ≤ i) × (i < r.end)

-- no record lies in both
abbrev pub Apart : Ends → Ends → Type 0
Apart r t = (i : ℕ) → InRun r i → InRun t i → ⊥

-- how many entries all the runs need
unfoldable pub needed_by_all : Reader → List ℕ → List Ends → ℕ
needed_by_all f image [] = 0
needed_by_all f image (r ∷ rs) = needed_run f image r.start r.end + needed_by_all f image rs

-- runs of one image apart from each other, and journal room for the entries of all
pub record Separate (f : Reader) (runs : List Ends) (s : State) : Type 0 where
  pub records : Image f.d s.image
  pub within : Each (λ r. Run f.d s.image r.start r.end) runs
  pub apart : EachTwo Apart runs
  pub room : s.used + needed_by_all f s.image runs ≤ room_in f.d s.journal

-- ---- passes

-- the second has no lower stamp
abbrev pub NotBefore : Pass → Pass → Type 0
NotBefore p q = p.stamp ≤ q.stamp

-- stamps of four bytes that do not go back: none is below the last used entry's, none below that of an earlier pass
pub record StampsGoOn (d : ℕ) (s : State) (passes : List Pass) : Type 0 where
  pub small : Each (λ p. p.stamp < byte_span stamp_size) passes
  pub goes_on : Each (λ p. GoesOn d p.stamp s.journal s.used) passes
  pub rises : EachTwo NotBefore passes

-- an order of the runs: a pass for each of them, with stamps that do not go back
pub record OrderOf (d : ℕ) (runs : List Ends) (s : State) (passes : List Pass) : Type 0 where
  pub rearranged : Rearranged runs (map ends_of passes)
  pub stamps : StampsGoOn d s passes

-- what passes leave, one after the other, each told the count in use; `now` answers a pass
unfoldable pub passes_after : (Pass → State → After) → List Pass → State → State
passes_after now [] s = s
passes_after now (p ∷ ps) s = passes_after now ps (state_in s (now p s))

-- none of them is refused
unfoldable pub AllDone : (Pass → State → After) → List Pass → State → Type 0
AllDone now [] s = Unit
AllDone now (p ∷ ps) s = ((now p s).answer.number ≡ 0) × AllDone now ps (state_in s (now p s))

-- the tally that each run is given
unfoldable pub tallies_given : (Pass → State → After) → List Pass → State → List (Ends × Tally)
tallies_given now [] s = []
tallies_given now (p ∷ ps) s = (ends_of p, (now p s).answer.tally) ∷ tallies_given now ps (state_in s (now p s))

-- ---- entries

-- those that were written between the state s and the state t, as the journal says them
abbrev pub entries_since : ℕ → State → State → List Entry
entries_since d s t = entries_from d t.journal s.used (t.used - s.used)

-- an entry, its stamp set aside
abbrev pub unstamped : Entry → Entry
unstamped e =
    record {
      stamp = 0;
      number = e.number;
      verdict = e.verdict;
      place = e.place;
      syndrome = e.syndrome;
      before = e.before;
      after = e.after;
    }

-- the same entries but for their order and stamps
abbrev pub SameEntries : List Entry → List Entry → Type 0
SameEntries es fs = Rearranged (map unstamped es) (map unstamped fs)

-- ---- a record that two runs share: what a pass makes of it, by its verdict

-- 0, 1 or 2: it is clean, or mended
abbrev pub LeftClean : ℕ → Type 0
LeftClean v = v ≤ 2

-- 3, 4 or 5: it stays unmended
abbrev pub Unmended : ℕ → Type 0
Unmended v = 3 ≤ v
