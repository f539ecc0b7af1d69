use mathlib.Core.Path.{refl, sym, ap, ◌∙◌}
use Prim.Native.Nat.{ℕ, ◌*◌}
use lib.ListN.{get_or}
use Rattle.tables.specs.Tables.{byte_says, lookups}
use Rattle.tables.proofs.Lookups.{lookups-step}
use Rattle.tables.proofs.looks.Goals as goal

pub loop-j-init : goal.loop-j-init
unfolding lookups
loop-j-init c = refl

pub loop-j-preserved : goal.loop-j-preserved
loop-j-preserved c =
    let a = c.args in
    let l = c.loop-j in
    let said = c.says-s.ensures
    ∙ ap (λ (n : ℕ). byte_says a.halves a.table.now (n * l.j) (get_or a.bytes.now l.j 0)) c.values-size.ensures in
    rw (l.invariant, said) (sym (lookups-step a.halves a.table.now a.bytes.now l.j))
