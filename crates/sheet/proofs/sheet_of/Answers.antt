-- `sheet::sheet_of` meets its contract: its two rows, from what the figures are or that there are none. Assumes nothing.
use Rattle.std.proofs.Common.{true, false, sym, ap, ◌∙◌}
use Rattle.sheet.specs.Sheets.{asked, within}
use Rattle.sheet.proofs.Exactly.{row, some_figures, no_figures}
use Rattle.sheet.proofs.sheet_of.Goals as goal

pub returns-in-Some : goal.returns-in-Some
returns-in-Some c =
    let a = c.args in
    let q = asked a.hours a.devices a.words a.mended a.limit in
    let f = some_figures q c.in-Some.sheet (sym c.sheet.ensures ∙ c.in-Some.is) in
    let yes = c.within.ensures ∙ ap (λ s. within a.limit s.share) f.1 in
    (λ i. record { number = 0; told = 0; yes = yes i; sheet = f.1 i }) ∙ sym (row q true f.0)

pub returns-in-None : goal.returns-in-None
returns-in-None c =
    let a = c.args in
    let q = asked a.hours a.devices a.words a.mended a.limit in
    sym (row q false (no_figures q (sym c.sheet.ensures ∙ c.in-None.is)))
