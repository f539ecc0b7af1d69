use mathlib.Core.Path.{◌≡◌, refl, sym, ap, ap₂, subst, ◌∙◌}
use mathlib.Core.Logic.{◌≢◌}
use mathlib.Core.List.{List}
use Prim.Native.Nat.{ℕ, suc, ◌+◌, ◌*◌, ◌-◌, ◌^◌, ◌≤◌, ◌<◌}
use native.Mathlib.Nat.{mul-zero}
use native.Mathlib.Omega.{arith}
use lib.ListN.{length, take, drop}
use Rattle.record.specs.declared.Tally.{Tally}
use Rattle.record.specs.Layout.{record_size, head_size, entry_size, in_bytes, records_in, image_limit}
use Rattle.record.specs.Run.{record_at, gather, add_up, over}
use Rattle.record.specs.Tally.{counted_of, tally_of}
use Rattle.record.proofs.Over.{over_all}
use Rattle.record.proofs.Zero.{all_zero}
use Rattle.runs.proofs.Tallies.{tally_step}
use Rattle.runs.proofs.Journal.{needed_clean, entries-clean}
use Rattle.verdict.specs.Places.{NamesPlace}
use Rattle.verdict.specs.declared.Finding.{Finding}
use Rattle.verdict.specs.Verdicts.{finding_of}
use Rattle.word.specs.declared.Sight.{Sight}
use Rattle.at_record.specs.Outcome.{Reader, sight, verdict_of, entry_of}
use Rattle.at_record.specs.Under.{under}
use Rattle.runs.proofs.Sizes.{whole-fits, no_rest, number_below}
use Rattle.at_record.proofs.Outcomes.{seen_names}
use Rattle.over_run.specs.Whole.{needed_by}
use Rattle.over_run.proofs.Turns.{left_to, count_to, length-left_to, here, left_next, left-clean, entries_next, entry-room, used-next}
use Rattle.over_run.proofs.pass_run.Goals as goal
use Rattle.over_run.proofs.pass_run.Goals.{then-found-ne0, else-found-ne0}

-- a record that is reached lies within the run, and its number within the limit
fits : (d i : ℕ) (run : List ℕ) → i < records_in d run → suc i * record_size d ≤ length run
fits d i run l = whole-fits (record_size d) (length run) (suc i) l

numbered : (d i first : ℕ) (run : List ℕ) → first * record_size d + length run ≤ image_limit d → i < records_in d run → first + i < 65535
numbered d i first run h l = number_below (record_size d) 65535 (length run) first i (omega arith) h l

module _ (f : Reader) (run : List ℕ) (i n : ℕ) (now : List ℕ) (s : Sight) (l : i < records_in f.d run)
    (e : now ≡ over (left_to f run i) run) (m : n ≡ record_size f.d) (h : s ≡ sight f (take n (drop (i * record_size f.d) now))) where
  abbrev rec : List ℕ
  rec = record_at (record_size f.d) run i

  -- where it is looked at, it is still as it was, so what is found is what it was
  as_it_was : take n (drop (i * record_size f.d) now) ≡ rec
  as_it_was = here f run i (fits f.d i run l) now n e m

  found : s ≡ sight f rec
  found = h ∙ ap (sight f) as_it_was

  verdict_found : (g : Finding) → g ≡ finding_of s.verdict → g.verdict ≡ verdict_of f rec
  unfolding verdict_of
  verdict_found g k = ap (λ x. x.verdict) k ∙ ap (λ x. (finding_of x.verdict).verdict) found

  not_clean : (g : Finding) → g ≡ finding_of s.verdict → g.verdict ≢ 0 → verdict_of f rec ≢ 0
  not_clean g k w z = w (verdict_found g k ∙ z)

  -- there is room for its entry
  room_left : (g : Finding) (journal : List ℕ) (used : ℕ) → g ≡ finding_of s.verdict → g.verdict ≢ 0
      → entry_size f.d * needed_by f run ≤ length journal → used ≡ entry_size f.d * count_to f run i
      → used + entry_size f.d ≤ length journal
  room_left g journal used k w room u = entry-room f run i (fits f.d i run l) journal used room l u (not_clean g k w)

  -- the tally with the record counted
  tally_next : (g : Finding) (t u : Tally) → g ≡ finding_of s.verdict → i < 65535 → t ≡ tally_of (record_size f.d) (verdict_of f) run i
      → u ≡ counted_of t g.verdict → u ≡ tally_of (record_size f.d) (verdict_of f) run (i + 1)
  tally_next g t u k b q r =
      r ∙ ap₂ counted_of q (verdict_found g k) ∙ tally_step (record_size f.d) (verdict_of f) run i (omega arith)

pub loop-i-init : goal.loop-i-init
unfolding gather add_up in_bytes
loop-i-init c =
    record {
      left = refl;
      entered = refl;
      in_use = sym (mul-zero (entry_size c.args.reader.form.d));
      same_length = refl;
      counted = all_zero c.default-tally.result c.default-tally.ensures;
    }

pub overflow_add-to : goal.overflow_add-to
overflow_add-to c =
    let m = c.loop-i in
    let a = c.args in
    let k = room_left (under a.reader) a.run.now m.i _ m.run c.look-sight.result (omega arith) m.invariant.left (omega arith)
    c.look-sight.ensures c.from-finding.result a.journal.now m.used c.from-finding.ensures (λ z. omega arith)
    c.requires.room m.invariant.in_use in
    let least : length a.journal.now < 2 ^ 64 = omega arith in
    record { fits = omega arith }

pub slice_bounds-enter-end-then-found-ne0 : goal.slice_bounds-enter-end-then-found-ne0
slice_bounds-enter-end-then-found-ne0 c =
    let m = c.loop-i in
    let a = c.args in
    let k = room_left (under a.reader) a.run.now m.i _ m.run c.look-sight.result (omega arith) m.invariant.left (omega arith)
    c.look-sight.ensures c.from-finding.result a.journal.now m.used c.from-finding.ensures (λ z. omega arith)
    c.requires.room m.invariant.in_use in
    omega arith

pub enter-requires-clause-names_place : goal.enter-requires-clause-names_place
enter-requires-clause-names_place c =
    let m = c.loop-i in
    let a = c.args in
    let f = under a.reader in
    let s = found f a.run.now m.i _ m.run c.look-sight.result (omega arith) m.invariant.left (omega arith) c.look-sight.ensures in
    subst (NamesPlace f.k) (sym (ap (λ x. x.verdict) s)) (seen_names f c.requires.ready (record_at (record_size f.d) a.run.now m.i))

pub loop-i-preserved : goal.loop-i-preserved
loop-i-preserved c =
    let a = c.args in
    let m = c.loop-i in
    let run = a.run.now in
    let f = under a.reader in
    let size = record_size f.d in
    let sight_at = c.look-sight.result in
    let g = c.from-finding.result in
    let k = c.from-finding.ensures in
    let l : m.i < records_in f.d run = omega arith in
    let n : m.i * size + size - m.i * size ≡ size = omega arith in
    let within = fits f.d m.i run l in
    let s = found f run m.i _ m.run sight_at l m.invariant.left n c.look-sight.ensures in
    let counted = tally_next f run m.i _ m.run sight_at l m.invariant.left n c.look-sight.ensures g m.tally c.counted-tally.result k
    (omega (arith, numbered f.d m.i a.first run c.requires.numbered l)) m.invariant.counted c.counted-tally.ensures in
    let same : length c.if-found-ne0.run ≡ length run = c.if-found-ne0.auto.run ∙ m.invariant.same_length in
    elim c.if-found-ne0.branch [
      | then-found-ne0 w ↦
          let v = not_clean f run m.i _ m.run sight_at l m.invariant.left n c.look-sight.ensures g k (λ z. omega (arith, w.if-found-ne0.true, z)) in
          record {
            left =
                w.run-is
                ∙ left_next f run m.i within m.run _ m.invariant.left n w.enter.new.rec sight_at.verdict (ap (λ x. x.verdict) s)
                w.enter.ensures.rec_after;
            entered =
                w.journal-is
                ∙ entries_next f run m.i within a.stamp a.first a.journal.now m.journal w.enter.new.entry m.used
                (m.used + (head_size + 2 * size) - m.used) sight_at _ v m.invariant.entered m.invariant.in_use (omega arith) s
                (here f run m.i within m.run _ m.invariant.left n) w.enter.ensures.after;
            in_use = w.used-is ∙ omega (arith, used-next f run m.i within m.used m.invariant.in_use v);
            same_length = same;
            counted = counted;
          }
      | else-found-ne0 w ↦
          let clean : verdict_of f (record_at size run m.i) ≡ 0 =
          omega (arith, w.if-found-ne0.false, verdict_found f run m.i _ m.run sight_at l m.invariant.left n c.look-sight.ensures g k) in
          record {
            left = w.run-is ∙ left-clean f run m.i within m.run m.invariant.left clean;
            entered =
                w.journal-is ∙ m.invariant.entered
                ∙ ap (λ p. over (in_bytes p) a.journal.now)
                (sym (entries-clean size (verdict_of f) run m.i (entry_of f a.stamp) a.first clean));
            in_use = w.used-is ∙ m.invariant.in_use ∙ ap (λ x. entry_size f.d * x) (sym (needed_clean size (verdict_of f) run m.i clean));
            same_length = same;
            counted = counted;
          }
    ]

pub returns-clause-run_after : goal.returns-clause-run_after
returns-clause-run_after c =
    let m = c.loop-i in
    let run = c.args.run.now in
    let f = under c.args.reader in
    let e : m.i ≡ records_in f.d run = omega arith in
    let end = ap (λ n. n * record_size f.d) e ∙ no_rest (record_size f.d) (length run) c.requires.whole in
    rw (← e) (m.invariant.left ∙ over_all (left_to f run m.i) run (length-left_to f run m.i (omega arith) ∙ end))
