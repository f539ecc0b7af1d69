-- `balance::balance_at` meets its contract. Both numbers are below 2 ^ 31, so their difference fits an i32. Assumes nothing.
use mathlib.Core.Path.{◌∙◌, ap₂}
use Prim.Native.Nat.{ℕ, ◌*◌}
use native.Mathlib.Omega.{arith}
use borrow.Author.Tests.{lt-ltb, le-ltb}
use lib.IntN.{pos, ◌-ℤ◌}
use Rattle.balance.specs.Balance.{balance_at}
use Rattle.balance.proofs.Balancing.{times_most, diff_is}
use Rattle.balance.proofs.balance_at.Goals as goal

pub returns-then-row-r : goal.returns-then-row-r
unfolding balance_at
returns-then-row-r c = simp (le-ltb c.args.row c.args.r (omega arith))

pub returns : goal.returns
unfolding balance_at
returns c =
    let a = c.args in
    simp (lt-ltb a.row a.r (omega arith))
    (diff_is (a.r * c.row_ones.result) c.all_ones-all.result
    (omega (arith, times_most a.r c.row_ones.result (omega arith) (omega arith))) (omega arith)
    ∙ ap₂ (λ (own all : ℕ). pos (a.r * own) -ℤ pos all) c.row_ones.ensures.0 c.all_ones-all.ensures.0)
