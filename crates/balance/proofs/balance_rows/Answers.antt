use mathlib.Core.Path.{refl, ◌∙◌}
use native.Mathlib.Omega.{arith}
use lib.ListN.{length-set}
use mir.Syntax.{w32}
use mir.Facts.{to_z-of_z}
use Rattle.balance.specs.Balance.{balances_from}
use Rattle.balance.proofs.Balancing.{rows_stored}
use Rattle.balance.proofs.balance_rows.Goals as goal

pub loop-j-init : goal.loop-j-init
unfolding balances_from
loop-j-init c = (refl, refl)

pub loop-j-preserved : goal.loop-j-preserved
loop-j-preserved c =
    let kept = to_z-of_z {w = w32} {z = c.balance_at.result} (record { sfits = c.balance_at.type_inv }) in (
      simp length-set c.loop-j.invariant.0,
      rows_stored c.args.columns.now c.args.r _ _ _ (omega arith) c.loop-j.invariant.1 (kept ∙ c.balance_at.ensures),
    )
