use mathlib.Core.Path.{refl, sym, ap₂, ◌∙◌}
use mathlib.Core.Bool.{◌&&◌, and_comm}
use Rattle.parity.specs.Below.{all_below}
use Rattle.quick_judge.specs.Quick.{settled_at}
use Rattle.quick_judge.proofs.Accepts.{all_step}
use Rattle.quick_judge.proofs.Asked.all_settled.Goals as goal

pub loop-i-init : goal.loop-i-init
unfolding all_below
loop-i-init c = refl

pub loop-i-preserved : goal.loop-i-preserved
loop-i-preserved c =
    let a = c.args in
    let f = settled_at a.columns.now a.self.r a.self.rows a.self.singles in
    ap₂ ◌&&◌ c.loop-i.invariant c.settled-ok.ensures ∙ and_comm (all_below f c.loop-i.i) (f c.loop-i.i) ∙ sym (all_step f c.loop-i.i)
