-- `make::make` meets its contract: the columns that are made, and the code that they are handed back in. Assumes nothing.
use mathlib.Core.Path.{ap, ◌∙◌}
use mathlib.Core.List.{List}
use Prim.Native.Nat.{ℕ}
use Rattle.make.specs.Made.{made_with, making_by}
use Rattle.make.proofs.make.Goals as goal

pub returns-in-Ok : goal.returns-in-Ok
returns-in-Ok c =
    let a = c.args in
    let made = c.in-Ok.ensures in
    ap (λ (cs : List ℕ). made_with 0 cs a.k a.r) made.columns ∙ ap (λ (n : ℕ). making_by n a.k a.r) made.number
