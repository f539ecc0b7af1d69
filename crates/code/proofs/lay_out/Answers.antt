-- `code::lay_out` meets its contract: the given columns, and the single ones behind them. Assumes nothing.
use mathlib.Core.Path.{◌≡◌, sym, ap, ◌∙◌}
use mathlib.Core.List.{List}
use Prim.Native.Nat.{ℕ}
use lib.ListN.{length, take}
use Rattle.columns.proofs.Singles.{length-joined}
use Rattle.judge.specs.Rule.{matrix}
use Rattle.code.specs.Opened.{padded}
use Rattle.code.proofs.Laying.{laid_columns, laid_out_lem}
use Rattle.code.proofs.lay_out.Goals as goal

pub returns : goal.returns
returns c =
    let a = c.args in
    let given : List ℕ = a.columns.now in
    let front : take (length given) c.lay_given.new.all ≡ given =
    ap (take (length given)) c.lay_given.ensures ∙ laid_columns given
    in
    laid_out_lem (matrix given a.singles) a.k a.rows _ _
    (c.lay_singles.ensures ∙ ap (λ (cs : List ℕ). padded (matrix cs a.singles)) front)
    (sym (length-joined given a.singles))
