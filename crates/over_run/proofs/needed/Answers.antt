use mathlib.Core.Path.{◌≡◌, ap, ◌∙◌}
use mathlib.Core.List.{List}
use Prim.Native.Nat.{ℕ, ◌*◌}
use native.Mathlib.Nat.{div-le_self}
use native.Mathlib.Omega.{arith}
use borrow.Author.Rules.{rules}
use lib.ListN.{length, take, drop}
use Rattle.record.specs.Layout.{record_size}
use Rattle.record.specs.Run.{record_at, add_up}
use Rattle.runs.proofs.Journal.{needed_clean, needed_more, needed_or_clean}
use Rattle.verdict.specs.declared.Finding.{Finding}
use Rattle.verdict.specs.Verdicts.{finding_of}
use Rattle.word.specs.declared.Sight.{Sight}
use Rattle.at_record.specs.Outcome.{Reader, seen, sight, verdict_of}
use Rattle.at_record.specs.Under.{under}
use Rattle.over_run.proofs.needed.Goals as goal
use Rattle.over_run.proofs.needed.Goals.{then-finding-ne0, else-finding-ne0}

-- the verdict that is found is the record's
found : (f : Reader) (run : List ℕ) (i n : ℕ) (s : Sight) (g : Finding) → n ≡ record_size f.d
    → s ≡ sight f (take n (drop (i * record_size f.d) run)) → g ≡ finding_of s.verdict
    → g.verdict ≡ verdict_of f (record_at (record_size f.d) run i)
unfolding verdict_of
found f run i n s g m e h =
    ap (λ x. x.verdict) h
    ∙ ap (λ v. (finding_of v).verdict) (ap (λ x. x.verdict) e ∙ ap (λ k. seen f (take k (drop (i * record_size f.d) run))) m)

pub loop-i-init : goal.loop-i-init
unfolding add_up
loop-i-init c = search rules

pub overflow_add-count : goal.overflow_add-count
overflow_add-count c =
    let run = c.args.run.now in
    let f = under c.args.reader in
    let size = record_size f.d in
    record { fits = omega (arith, div-le_self (length run) size, needed_or_clean size (verdict_of f) run c.loop-i.i) }

pub loop-i-preserved : goal.loop-i-preserved
loop-i-preserved c =
    let run = c.args.run.now in
    let f = under c.args.reader in
    let size = record_size f.d in
    let i = c.loop-i.i in
    let v = found f run i _ c.look-sight.result c.from-finding.result (omega arith) c.look-sight.ensures c.from-finding.ensures in
    elim c.if-finding-ne0.branch [
      | then-finding-ne0 w ↦ omega (arith, needed_more size (verdict_of f) run i (λ z. omega (arith, w.if-finding-ne0.true, v, z)), w.count-is)
      | else-finding-ne0 w ↦ omega (arith, needed_clean size (verdict_of f) run i (omega (arith, w.if-finding-ne0.false, v)), w.count-is)
    ]
