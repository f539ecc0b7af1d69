-- `marks::look_at` meets its contract. Assumes nothing.
use mathlib.Core.Path.{ap, ap₂, ◌∙◌}
use Prim.Native.Nat.{ℕ}
use Rattle.word.specs.declared.Word.{Word}
use Rattle.tables.specs.Tables.{lookups}
use Rattle.marks.specs.Marks.{mark_by, mark_of}
use Rattle.marks.proofs.look_at.Goals as goal

pub returns-clause-mark_value : goal.returns-clause-mark_value
unfolding mark_of
returns-clause-mark_value c =
    let l = c.args in
    let said = c.looks-s.ensures ∙ ap (lookups l.halves l.table.now c.args.rec.now) c.requires.rec_len in
    c.mark.ensures ∙ ap₂ (λ (x : ℕ) (v : Word). mark_by x v l.strays) said c.word_in-word.ensures
