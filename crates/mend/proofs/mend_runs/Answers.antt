-- `mend::mend_runs` meets its contract: a run more, and the last. Assumes nothing.
use Rattle.std.proofs.Common.{◌≡◌, ℕ, ◌+◌, ◌≤◌, List, ap₂, ◌∙◌, arith}
use Rattle.record.specs.Layout.{data_size, records_in}
use Rattle.report.specs.Totals.{added_to}
use Rattle.mend.specs.Mend.{run_tally, run_left, as_totals}
use Rattle.mend.proofs.Runs.{left_none, totals_none, totals_within, left_next, totals_next}
use Rattle.mend.proofs.mend_runs.Goals as goal
use Rattle.mend.proofs.mend_runs.Goals.{After-added-totals}

pub loop-start-init : goal.loop-start-init
loop-start-init c =
    let image = c.args.image.now in
    let z = c.default-totals.ensures in record {
      within = omega arith;
      left = left_none image;
      totals = (λ i. record {
        clean = z.0 i;
        «data» = z.1.0 i;
        check = z.1.1.0 i;
        even = z.1.1.1.0 i;
        odd = z.1.1.1.1.0 i;
        stray = z.1.1.1.1.1 i;
      }) ∙ totals_none image;
    }

pub added-totals-requires : goal.added-totals-requires
added-totals-requires c =
    rw c.loop-start.invariant.totals (totals_within c.args.image.now c.loop-start.start (omega (arith, c.requires.image.short)))

-- what a run more leaves, and the sums with it
ran : (c : After-added-totals) (end : ℕ) → c.min-end.result ≡ end → c.loop-start.start ≤ end → end ≤ records_in data_size c.args.image.now
    → (c.mend_run-tally.new.image ≡ run_left c.args.image.now 0 end)
    × (c.added-totals.result ≡ as_totals (run_tally c.args.image.now 0 end))
ran c end e up within =
    let image = c.args.image.now in
    let start = c.loop-start.start in
    let m = c.loop-start.invariant in
    let run = c.mend_run-tally.ensures in (
      run.image_after ∙ ap₂ (λ (l : List ℕ) (n : ℕ). run_left l start n) m.left e ∙ left_next image start end up within,
      c.added-totals.ensures
          ∙ ap₂ added_to m.totals (run.value ∙ ap₂ (λ (l : List ℕ) (n : ℕ). run_tally l start n) m.left e)
          ∙ totals_next image start end up within,
    )

pub loop-start-preserved : goal.loop-start-preserved
loop-start-preserved c =
    let r = ran (goal.at.loop-start-preserved c).After-added-totals (c.loop-start.start + 2184) (omega (arith, c.min-end.ensures)) (omega arith) (omega arith) in
    record { within = omega arith; left = r.0; totals = r.1 }

pub returns-2 : goal.returns-2
returns-2 c =
    let r = ran (goal.at.returns-2 c).After-added-totals (records_in data_size c.args.image.now) (omega (arith, c.min-end.ensures)) (omega arith) (omega arith) in
    record { value = r.1; image_after = r.0 }

pub returns : goal.returns
returns c =
    let m = c.loop-start.invariant in
    let e : c.loop-start.start ≡ records_in data_size c.args.image.now = omega (arith, m.within) in
    record { value = rw e at m.totals; image_after = rw e at m.left }
