-- `mend::mend_run` meets its contract: the pass is done, and the lines are those of the entries that it wrote. Assumes nothing.
use mathlib.Core.Path.{◌≡◌, sym, ap, ◌∙◌}
use mathlib.Core.List.{List}
use Prim.Native.Nat.{ℕ, ◌*◌, ◌≤◌}
use native.Mathlib.Omega.{arith}
use lib.ListN.{take, length-take}
use lib.Seq.{length-take-le}
use Rattle.record.specs.Layout.{data_size, entry_size, in_bytes}
use Rattle.record.specs.Run.{over}
use Rattle.code.specs.Opened.{opened_of}
use Rattle.pass.specs.Pass.{noted_run, needed_run}
use Rattle.asked.specs.Pass.{room_in}
use Rattle.report.specs.Text.{journal_text}
use Rattle.mend.specs.Mend.{sample_reader, run_tally, run_left}
use Rattle.mend.proofs.Runs.{outcome, few_entries, few_records, run_text_lem}
use Rattle.mend.proofs.mend_run.Goals as goal
use Rattle.mend.proofs.mend_run.Goals.{After-pass-answer}

-- what the pass answered, and left behind
passed : (c : After-pass-answer) → let a = c.args in let p = c.pass-answer in
    (p.result.tally ≡ run_tally a.image.now a.start a.end)
    × (p.result.used ≡ needed_run sample_reader a.image.now a.start a.end)
    × (p.new.image ≡ run_left a.image.now a.start a.end)
    × (p.new.journal ≡ over (in_bytes (noted_run sample_reader 0 a.image.now a.start a.end)) a.journal.now)
passed c =
    let a = c.args in
    let p = c.pass-answer in
    outcome a.image.now a.start a.end a.journal.now a.lines.now c.requires c.open_code-opened.result p.result p.new.image p.new.journal
    (c.open_code-opened.ensures.value ∙ ap opened_of c.sample_code.ensures) (p.ensures.value, (p.ensures.image_after, p.ensures.journal_after))

-- the entries that it wrote are no more than the journal has room for
few : (c : After-pass-answer) → c.pass-answer.result.used ≤ room_in data_size c.args.journal.now
few c = let a = c.args in omega (arith, (passed c).1, few_entries a.image.now a.start a.end a.journal.now a.lines.now c.requires)

pub overflow_mul-used : goal.overflow_mul-used
overflow_mul-used c =
    let a = c.args in
    let p = (goal.at.overflow_mul-used c).After-pass-answer in
    omega (arith, (passed p).1, few_records a.image.now a.start a.end a.journal.now a.lines.now c.requires)

pub slice_bounds-journal_text-end : goal.slice_bounds-journal_text-end
slice_bounds-journal_text-end c = omega (arith, few (goal.at.slice_bounds-journal_text-end c).After-pass-answer)

pub slice_bounds-journal_text-end-2 : goal.slice_bounds-journal_text-end-2
slice_bounds-journal_text-end-2 c =
    sym (length-take-le _ _ (omega (arith, few (goal.at.slice_bounds-journal_text-end-2 c).After-pass-answer)))

pub journal_text-size-requires : goal.journal_text-size-requires
journal_text-size-requires c =
    simp length-take (omega (arith, c.requires.space, few (goal.at.journal_text-size-requires c).After-pass-answer))

pub returns : goal.returns
returns c =
    let a = c.args in
    let p = c.pass-answer in
    let w = passed (goal.at.returns c).After-pass-answer in
    record {
      value = w.0;
      image_after = w.2;
      lines_after = c.journal_text-size.ensures.out_after
          ∙ ap (λ (n : ℕ). over (journal_text (take (entry_size data_size * n) p.new.journal)) a.lines.now) w.1
          ∙ ap (λ (l : List ℕ). over l a.lines.now)
          (run_text_lem a.image.now a.start a.end a.journal.now a.lines.now c.requires p.new.journal w.3);
    }
