-- `tables::fill_byte` meets its contract. Assumes nothing.
use mathlib.Core.Path.{sym, ap, ◌∙◌}
use mathlib.Core.List.{List}
use Prim.Native.Nat.{ℕ, ◌+◌}
use lib.ListN.{drop}
use lib.Seq.{get_or-drop}
use Rattle.columns.specs.Mix.{column}
use Rattle.tables.proofs.UpTo.{up_to-at}
use Rattle.tables.proofs.Octets.{byte_alike}
use Rattle.tables.proofs.fill_byte.Goals as goal

-- some are past the end
pub returns-else-end-columns : goal.returns-else-end-columns
returns-else-end-columns c =
    let a = c.args in
    let cs : List ℕ = a.columns.now in
    c.fill_eight-else-end-columns.ensures
    ∙ byte_alike a.halves c.copy_eight.result (drop a.at cs)
    (λ i h.
    ap (λ (l : List ℕ). column l i) c.copy_eight.ensures
    ∙ up_to-at (λ (j : ℕ). column cs (a.at + j)) 8 i h
    ∙ sym (get_or-drop a.at cs i 0))
