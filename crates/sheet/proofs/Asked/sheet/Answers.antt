-- `sheet::Asked::sheet` meets its contract: the counts fit a u16, since they are tested. Assumes nothing.
use Rattle.std.proofs.Common.{cond, sym, ap, ◌∙◌, arith, Some, None}
use Rattle.sheet.specs.Sheets.{figures}
use Rattle.sheet.proofs.Asking.{stands-says}
use Rattle.sheet.proofs.Asked.sheet.Goals as goal

pub overflow_cast-self : goal.overflow_cast-self
overflow_cast-self c =
    let s = stands-says c.args.self (sym c.stands.ensures ∙ c.if-not-stands.false) in
    record { fits = omega arith }

pub overflow_cast-self-2 : goal.overflow_cast-self-2
overflow_cast-self-2 c =
    let s = stands-says c.args.self (sym c.stands.ensures ∙ c.if-not-stands.false) in
    record { fits = omega arith }

pub overflow_cast-self-3 : goal.overflow_cast-self-3
overflow_cast-self-3 c =
    let s = stands-says c.args.self (sym c.stands.ensures ∙ c.if-not-stands.false) in
    record { fits = omega arith }

pub returns-then-not-stands : goal.returns-then-not-stands
returns-then-not-stands c = ap (λ t. cond t (Some (figures c.args.self)) None) (sym c.if-not-stands.true ∙ c.stands.ensures)

pub returns : goal.returns
returns c =
    let q = c.args.self in
    (λ i. Some (record { device = q.hours; station = c.station_hours.ensures i; share = c.share_of.ensures i }))
    ∙ ap (λ t. cond t (Some (figures c.args.self)) None) (sym c.if-not-stands.false ∙ c.stands.ensures)
