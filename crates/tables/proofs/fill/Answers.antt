use mathlib.Core.Path.{◌≡◌, refl, ap, ◌∙◌}
use Prim.Native.Nat.{ℕ, ◌+◌, ◌*◌, ◌-◌, ◌/◌}
use native.Mathlib.Omega.{arith}
use lib.ListN.{length}
use Rattle.record.proofs.Over.{over_all}
use Rattle.tables.specs.Tables.{values_in, tables}
use Rattle.tables.proofs.Widths.{values_whole}
use Rattle.tables.proofs.Lookups.{length-tables, tables_next}
use Rattle.tables.proofs.fill.Goals as goal

pub loop-j-init : goal.loop-j-init
unfolding tables
loop-j-init c = refl

pub loop-j-preserved : goal.loop-j-preserved
loop-j-preserved c =
    let a = c.args in
    let m = c.loop-j in
    let size = c.values-size.result in
    let n : size * m.j + size - size * m.j ≡ size = omega arith in
    tables_next a.halves a.columns.now a.table.now m.table c.fill_byte.new.table
    m.j _ _ m.invariant (ap (λ (n : ℕ). n * m.j) c.values-size.ensures) (n ∙ c.values-size.ensures)
    c.fill_byte.ensures

pub returns : goal.returns
returns c =
    let a = c.args in
    let m = c.loop-j in
    let e : m.j ≡ length a.table.now / values_in a.halves = omega (arith, ap (λ (n : ℕ). length a.table.now / n) c.values-size.ensures) in
    let all = length-tables a.halves a.columns.now m.j
    ∙ ap (λ (n : ℕ). values_in a.halves * n) e ∙ values_whole a.halves (length a.table.now) c.requires in
    rw (← e) (m.invariant ∙ over_all (tables a.halves a.columns.now m.j) a.table.now all)
