use Rattle.std.proofs.Common.{◌≡◌, ℕ, ◌*◌, ◌/◌, ◌∷◌, [], length, sym, ap, ◌∙◌, refl, arith, length-append, length-drop}
use Rattle.record.specs.Layout.{data_size, entry_size}
use Rattle.record.specs.Run.{gather, over}
use Rattle.report.specs.Text.{journal_text}
use Rattle.report.proofs.Written.{fronted}
use Rattle.report.proofs.Lines.{lines_to, lines_short, next_entry, lines_step}
use Rattle.report.proofs.journal_text.Goals as goal

pub loop-entry-init : goal.loop-entry-init
unfolding gather
loop-entry-init c =
    let from = c.chunks_exact-entry-items.ensures in
    rw c.into_iter-entry-iterator.ensures.into_iter_gives (record {
      can_next = omega (arith, from.size);
      ends = tt;
      size = from.size;
      left = from.rest;
      inside = omega arith;
      lines = refl;
      at = refl;
    })

pub put_entry_line-at-requires-clause-line_size_in_bounds : goal.put_entry_line-at-requires-clause-line_size_in_bounds
put_entry_line-at-requires-clause-line_size_in_bounds c =
    let m = c.loop-entry.invariant in
    let s = c.in-Some.ensures.steps in
    let j = c.args.journal.now in
    let k = length c.loop-entry.yielded in
    let e = next_entry j c.in-Some.entry.now _ k (entry_size data_size) (omega arith) (sym m.left ∙ s.1.0) (s.1.1 ∙ m.size) in
    omega (arith, e.2, m.at, lines_short j (λ i. omega (arith, c.type_inv.journal i)) k)

pub loop-entry-preserved : goal.loop-entry-preserved
loop-entry-preserved c =
    let m = c.loop-entry.invariant in
    let s = c.in-Some.ensures.steps in
    let j = c.args.journal.now in
    let k = length c.loop-entry.yielded in
    let put = c.put_entry_line-at in
    let e = next_entry j c.in-Some.entry.now _ k (entry_size data_size) (omega arith) (sym m.left ∙ s.1.0) (s.1.1 ∙ m.size) in
    let q = lines_step j c.args.out.now c.loop-entry.out put.new.out c.in-Some.entry.now k c.loop-entry.at put.result e.0 m.lines m.at
    (put.ensures.value, put.ensures.out_after) in
    rw (length-append c.loop-entry.yielded (c.in-Some.entry ∷ [])) (record {
      can_next = omega (arith, s.0, m.can_next);
      ends = tt;
      size = s.0 ∙ m.size;
      left = e.1;
      inside = e.2;
      lines = q.0;
      at = q.1;
    })

pub returns : goal.returns
unfolding journal_text
returns c =
    let m = c.loop-entry.invariant in
    let s = c.in-None.ensures.steps in
    let j = c.args.journal.now in
    let k = length c.loop-entry.yielded in
    let e : k ≡ length j / entry_size data_size =
    omega (arith, m.inside, s.1.0, m.size, ap length m.left, length-drop (k * entry_size data_size) j) in
    let first = c.args.out.now in
    let w = fronted c.loop-entry.at (journal_text j) first c.loop-entry.out
    (m.at ∙ ap (λ (k : ℕ). length (lines_to j k)) e) (m.lines ∙ ap (λ (k : ℕ). over (lines_to j k) first) e) in
    record { value = w.0; out_after = w.1.0; held = w.1.1 }
