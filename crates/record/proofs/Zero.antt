-- A tally by default is that of no words. Assumes nothing.
use mathlib.Core.Path.{◌≡◌}
use Rattle.record.specs.declared.Tally.{Tally}
use Rattle.record.specs.Tally.{zero_tally}

pub all_zero : (t : Tally)
    → (t.clean ≡ 0) × ((t.«data» ≡ 0) × ((t.check ≡ 0) × ((t.even ≡ 0) × ((t.odd ≡ 0) × (t.stray ≡ 0))))) → t ≡ zero_tally
all_zero t e =
    λ i. record {
      clean = e.0 i;
      «data» = e.1.0 i;
      check = e.1.1.0 i;
      even = e.1.1.1.0 i;
      odd = e.1.1.1.1.0 i;
      stray = e.1.1.1.1.1 i;
    }
