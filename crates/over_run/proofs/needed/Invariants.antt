-- `over_run::needed` meets its contract. The invariant: the count is what the records before i need. Assumes nothing.
use mathlib.Core.Path.{◌≡◌}
use Rattle.record.specs.Layout.{record_size}
use Rattle.record.specs.Journal.{needed_of}
use Rattle.at_record.specs.Outcome.{verdict_of}
use Rattle.at_record.specs.Under.{under}
use Rattle.over_run.proofs.needed.Given as goal

abbrev pub invariant-loop-i : goal.invariant-loop-i
invariant-loop-i l =
    let f = under l.reader in
    l.count ≡ needed_of (record_size f.d) (verdict_of f) l.run l.i
