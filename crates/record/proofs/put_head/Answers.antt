-- `record::put_head` meets its contract: two numbers are written, two bytes behind them, and a third number. Assumes nothing.
use mathlib.Core.Path.{ap, ◌∙◌}
use borrow.Author.Rules.{rules}
use Rattle.record.specs.Bytes.{bytes_of}
use Rattle.record.proofs.Head.{head_written}
use Rattle.record.proofs.put_head.Goals as goal

pub returns : goal.returns
returns c =
    let a = c.args in
    head_written a.head.now _ _ _ a.stamp a.n a.verdict a.place a.syndrome c.requires
    (c.put_number.ensures ∙ ap (λ k. bytes_of k a.stamp) (search rules))
    (c.put_number-2.ensures ∙ ap (λ k. bytes_of k a.n) (search rules))
    (c.put_number-3.ensures ∙ ap (λ k. bytes_of k a.syndrome) (search rules))
