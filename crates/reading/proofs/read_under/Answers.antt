-- `reading::read_under` meets its contract: the verdict on a word names a place of it. Assumes nothing.
use mathlib.Core.Path.{sym, ap, subst}
use native.Mathlib.Omega.{arith}
use lib.Seq.{length-take-le}
use Rattle.code.specs.Opened.{columns_of}
use Rattle.verdict.specs.Places.{NamesPlace}
use Rattle.word.proofs.Named.{reading_names}
use Rattle.reading.proofs.read_under.Goals as goal

pub reading_by-requires-clause-names_place : goal.reading_by-requires-clause-names_place
reading_by-requires-clause-names_place c =
    let o = c.args.opened.now in
    subst (NamesPlace o.k) (sym (ap (λ x. x.verdict) c.read_in-sight.ensures))
    (reading_names (columns_of o) o.k (omega (arith, length-take-le o.n o.columns, c.requires.checks)) o.rows c.args.word)
