-- `at_record::RecordReader::look` meets its contract. Assumes nothing.
use mathlib.Core.Path.{ap, ◌∙◌}
use Rattle.word.specs.Verdicts.{sight_of}
use Rattle.at_record.specs.Outcome.{seen, syndrome_of}
use Rattle.at_record.proofs.RecordReader.look.Goals as goal

pub returns : goal.returns
unfolding seen syndrome_of
returns c =
    let a = c.args in
    let f = a.self.now in
    c.read_in.ensures ∙ ap (sight_of f.rows f.columns.now f.form.k) c.word_in.ensures
