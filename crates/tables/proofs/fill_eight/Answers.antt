-- `tables::fill_eight` meets its contract. Assumes nothing.
use mathlib.Core.Path.{◌≡◌, sym, ap, ap₂, ◌∙◌}
use mathlib.Core.Bool.{Bool}
use mathlib.Core.List.{List, ◌++◌}
use Prim.Native.Nat.{ℕ, ◌^◌, ◌≤◌}
use native.Mathlib.Omega.{arith}
use lib.ListN.{length, take, drop, length-drop}
use lib.Seq.{length-take-le}
use Rattle.columns.specs.Mix.{mix}
use Rattle.tables.specs.Tables.{up_to, byte_table, values_in}
use Rattle.tables.proofs.UpTo.{length-up_to}
use Rattle.tables.proofs.Lookups.{halves_filled}
use Rattle.tables.proofs.fill_eight.Goals as goal

-- the values of the next four columns, in a list of eight
four_mixed : (n : ℕ) (cs t : List ℕ) → length cs ≡ 8 → n ≤ 4 → t ≡ up_to (mix (take 4 (drop n cs))) (2 ^ length (take 4 (drop n cs)))
    → t ≡ up_to (mix (take 4 (drop n cs))) 16
four_mixed n cs t e h f = f ∙ ap (λ m. up_to (mix (take 4 (drop n cs))) (2 ^ m)) (length-take-le 4 (drop n cs) (omega (arith, length-drop n cs)))

pub returns-then-halves : goal.returns-then-halves
returns-then-halves c =
    let cs : List ℕ = c.args.eight.now in
    let low = four_mixed 0 cs c.fill_values.new.table c.requires.0 (omega arith) c.fill_values.ensures in
    let high = four_mixed 4 cs c.fill_values-then-halves.new.table c.requires.0 (omega arith) c.fill_values-then-halves.ensures in
    halves_filled c.args.table.now c.fill_values.new.table c.fill_values-then-halves.new.table
    (c.requires.1 ∙ ap (λ (h : Bool). values_in h) c.if-halves.true)
    (ap length low ∙ length-up_to (mix (take 4 cs)) 16)
    (ap length high ∙ length-up_to (mix (take 4 (drop 4 cs))) 16)
    ∙ ap₂ ◌++◌ low high
    ∙ sym (ap (λ (h : Bool). byte_table h cs) c.if-halves.true)
