-- `balance::balanced` meets its contract: how the code stands decides. Assumes nothing.
use mathlib.Core.Path.{sym, ap, ◌∙◌}
use Rattle.balance.specs.Balance.{balances_by}
use Rattle.balance.proofs.balanced.Goals as goal

pub returns : goal.returns
returns c =
    (λ i. record { number = 0; told = 0; rows = c.balance_rows-rows.ensures i })
    ∙ sym (ap (λ s. balances_by s c.args.opened) (c.in_ok-opened.was))
