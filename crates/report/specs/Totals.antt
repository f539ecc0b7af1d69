-- The counts of several runs, added up. Assumes nothing.
use Rattle.std.specs.Prelude.{ℕ, ◌+◌, ◌^◌, ◌≤◌}
use Rattle.record.specs.declared.Tally.{Tally}
use Rattle.report.specs.declared.Totals.{Totals}

abbrev pub no_totals : Totals
no_totals = record { clean = 0; «data» = 0; check = 0; even = 0; odd = 0; stray = 0 }

-- a run's tally is added
abbrev pub added_to : Totals → Tally → Totals
added_to t run =
    record {
      clean = t.clean + run.clean;
      «data» = t.«data» + run.«data»;
      check = t.check + run.check;
      even = t.even + run.even;
      odd = t.odd + run.odd;
      stray = t.stray + run.stray;
    }

-- far above any sum of runs
abbrev pub total_limit : ℕ
total_limit = 2 ^ 62

-- no count is above the limit
pub record Within (limit : ℕ) (t : Totals) : Type 0 where
  pub clean : t.clean ≤ limit
  pub «data» : t.«data» ≤ limit
  pub check : t.check ≤ limit
  pub even : t.even ≤ limit
  pub odd : t.odd ≤ limit
  pub stray : t.stray ≤ limit
