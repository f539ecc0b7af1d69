use mathlib.Core.Path.{◌≡◌, refl}
use Prim.Native.Nat.{ℕ, ◌+◌}
use native.Mathlib.Omega.{arith}
use borrow.Author.Rules.{rules}
use lib.ListN.{length-set}
use Rattle.columns.specs.Mix.{column}
use Rattle.tables.specs.Tables.{up_to}
use Rattle.tables.proofs.UpTo.{up_to-turn}
use Rattle.tables.proofs.copy_eight.Goals as goal

pub loop-i-init : goal.loop-i-init
unfolding up_to
loop-i-init c = (refl, refl)

pub loop-i-preserved : goal.loop-i-preserved
loop-i-preserved c =
    let a = c.args in
    let l = c.loop-i in
    let here : c.unwrap_or.result ≡ column a.columns.now (a.at + l.i) = search rules in (
      simp length-set l.invariant.0,
      rw here (up_to-turn (λ (j : ℕ). column a.columns.now (a.at + j)) l.eight l.i (omega arith) l.invariant.1),
    )
