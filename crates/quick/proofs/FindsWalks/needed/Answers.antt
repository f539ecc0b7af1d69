-- The quick walks' first one leaves a list of what it counted. Assumes nothing.
use native.Mathlib.Omega.{arith}
use Rattle.record.specs.Layout.{record_size, records_in}
use Rattle.runs.proofs.Journal.{needed_or_clean}
use Rattle.at_record.specs.Outcome.{verdict_of}
use Rattle.at_record.specs.Under.{under}
use Rattle.quick.proofs.FindsWalks.needed.Goals as goal

pub returns-clause-walk : goal.returns-clause-walk
returns-clause-walk g c =
    let f = under c.args.reader in
    let run = c.args.run.now in
    let e = c.first_walk-self.ensures in
    record {
      count = e.value;
      inside =
          omega (
            arith,
            e.value,
            needed_or_clean (record_size f.d) (verdict_of f) run (records_in f.d run),
            c.requires.room,
            c.first_walk-self.auto.list,
          );
      listed = e.listed_in;
    }
