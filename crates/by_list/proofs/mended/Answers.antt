use mathlib.Core.Path.{◌≡◌, refl, sym, ap, ap₂, subst, ◌∙◌}
use mathlib.Core.List.{List}
use Prim.Native.Nat.{ℕ, suc, ◌+◌, ◌*◌, ◌-◌, ◌/◌, ◌%◌, ◌≤◌, ◌<◌}
use native.Mathlib.Nat.{mul-zero}
use native.Mathlib.Omega.{arith}
use borrow.Author.Rules.{rules}
use lib.ListN.{length, get_or, take, drop}
use Rattle.record.specs.declared.Tally.{Tally}
use Rattle.record.specs.Layout.{record_size, head_size, entry_size, in_bytes, records_in}
use Rattle.record.specs.Run.{record_at, gather, add_up}
use Rattle.record.specs.Tally.{counted_of, count_of}
use Rattle.record.proofs.Over.{over_all}
use Rattle.runs.proofs.Sizes.{whole-fits, no_rest, number_below}
use Rattle.runs.proofs.Run.{fits_less}
use Rattle.runs.proofs.Journal.{needed_more, needed_or_clean}
use Rattle.verdict.specs.Places.{NamesPlace}
use Rattle.verdict.specs.declared.Finding.{Finding}
use Rattle.verdict.specs.Verdicts.{finding_of}
use Rattle.word.specs.declared.Sight.{Sight}
use Rattle.at_record.specs.Outcome.{Reader, seen, sight, verdict_of}
use Rattle.at_record.specs.Under.{under}
use Rattle.at_record.proofs.Outcomes.{seen_names}
use Rattle.over_run.proofs.Turns.{left_to, count_to, length-left_to, here, left_next, entries_next, used-next}
use Rattle.marks.specs.Marks.{Due}
use Rattle.over_run.specs.Whole.{tally_in, left_in}
use Rattle.by_list.specs.Given.{mixed_of, Given}
use Rattle.by_list.proofs.Walked.{tally_to, Walked, Reached, tally_end, tally_next, walked_due, walked_end}
use Rattle.by_list.proofs.mended.Goals as goal

-- the number that the list says at i, and the place of the record that has it
abbrev said : List ℕ → ℕ → ℕ
said list i = get_or list i 0 % 65536

abbrev width : ℕ → ℕ → ℕ
width size x = x * size + size - x * size

whole : (size : ℕ) (run : List ℕ) → length run / size * size ≤ length run
whole size run = whole-fits size (length run) (length run / size) (omega arith)

-- in a turn, with what was given and what the invariant says
module _ {f : Reader} {guesses list : List ℕ} {bad : ℕ} {run : List ℕ} {first : ℕ} {journal : List ℕ}
    (p : Given f guesses list bad run first journal) {stamp i : ℕ} {run' journal' : List ℕ} {tally : Tally}
    (r : Reached f stamp first run journal (records_in f.d run) i run' journal' tally) (l : i < bad) where
  due : Due (record_size f.d) (verdict_of f) (mixed_of f) run (records_in f.d run) i (get_or list i 0)
  due = p.listed i l

  -- what the plain pass has done before that record
  passed : Walked f stamp first run journal (records_in f.d run) (said list i) run' journal' tally
  passed =
      walked_due f run (records_in f.d run) (whole (record_size f.d) run) stamp first journal run' journal' tally i r (said list i)
      due.inside due.marked due.order

  fits : suc (said list i) * record_size f.d ≤ length run
  fits = fits_less (record_size f.d) (length run) (records_in f.d run) (said list i) (whole (record_size f.d) run) due.inside

  numbered : first + said list i < 65535
  numbered = number_below (record_size f.d) 65535 (length run) first (said list i) (omega arith) p.fits.numbered due.inside

  -- as many bytes are used as its entries before that have
  used_is : (used : ℕ) → used ≡ entry_size f.d * i → used ≡ entry_size f.d * count_to f run (said list i)
  used_is used u = u ∙ ap (λ m. entry_size f.d * m) (sym due.order)

  -- the record is still as it was
  as_it_was_lem : take (width (record_size f.d) (said list i)) (drop (said list i * record_size f.d) run')
      ≡ record_at (record_size f.d) run (said list i)
  as_it_was_lem = here f run (said list i) fits run' (width (record_size f.d) (said list i)) passed.image (omega arith)

  -- so what is found is what it was
  found : (s : Sight) → s ≡ sight f (take (width (record_size f.d) (said list i)) (drop (said list i * record_size f.d) run'))
      → s ≡ sight f (record_at (record_size f.d) run (said list i))
  found s e = e ∙ ap (sight f) as_it_was_lem

  verdict-is : (s : Sight) → s ≡ sight f (record_at (record_size f.d) run (said list i))
      → s.verdict ≡ seen f (record_at (record_size f.d) run (said list i))
  verdict-is s e = ap (λ x. x.verdict) e

  verdict-found : (s : Sight) (g : Finding) → s ≡ sight f (record_at (record_size f.d) run (said list i)) → g ≡ finding_of s.verdict
      → g.verdict ≡ verdict_of f (record_at (record_size f.d) run (said list i))
  unfolding verdict_of
  verdict-found s g e h = ap (λ x. x.verdict) h ∙ ap (λ v. (finding_of v).verdict) (verdict-is s e)

  tally_found : (v : ℕ) (t : Tally) → v ≡ verdict_of f (record_at (record_size f.d) run (said list i)) → t ≡ counted_of tally v
      → t ≡ tally_to f run (records_in f.d run) (said list i + 1)
  tally_found v t e h =
      h ∙ ap₂ counted_of passed.counts e ∙ tally_next f run (records_in f.d run) (said list i) (omega (arith, numbered)) due.marked

pub overflow_sub-tally : goal.overflow_sub-tally
overflow_sub-tally c =
    let a = c.args in
    omega (
      arith,
      c.requires.count,
      needed_or_clean (record_size a.reader.form.d) (verdict_of (under a.reader)) a.run.now
          (records_in a.reader.form.d a.run.now),
    )

pub loop-both-init : goal.loop-both-init
unfolding gather add_up in_bytes
loop-both-init c =
    let a = c.args in
    let n : ℕ = records_in a.reader.form.d a.run.now in
    let verdict = verdict_of (under a.reader) in
    let clean : n - length a.list.now ≡ count_of (record_size a.reader.form.d) verdict 0 a.run.now n =
    omega (arith, c.requires.count, needed_or_clean (record_size a.reader.form.d) verdict a.run.now n) in
    let z = c.default-tally.ensures in
    record {
      used = sym (mul-zero (entry_size a.reader.form.d));
      long = refl;
      reached = record {
        at = 0;
        inside = omega arith;
        order = refl;
        walked = record {
          image = refl;
          entries = refl;
          counts = λ j. record {
            clean = clean j;
            «data» = z.1.0 j;
            check = z.1.1.0 j;
            even = z.1.1.1.0 j;
            odd = z.1.1.1.1.0 j;
            stray = z.1.1.1.1.1 j;
          };
        };
      };
    }

pub sight_by-sight-requires-clause-s_value : goal.sight_by-sight-requires-clause-s_value
sight_by-sight-requires-clause-s_value c =
    let a = c.args in
    let p = c.requires in
    let r = c.loop-both.invariant.reached in
    let l = c.loop-both-test.true in
    (due p r l).told ∙ sym (ap (mixed_of (under a.reader)) (as_it_was_lem p r l))

pub enter-requires-clause-names_place : goal.enter-requires-clause-names_place
enter-requires-clause-names_place c =
    let a = c.args in
    let p = c.requires in
    let r = c.loop-both.invariant.reached in
    let l = c.loop-both-test.true in
    let f = under a.reader in
    let s = found p r l c.sight_by-sight.result c.sight_by-sight.ensures in
    subst (NamesPlace a.reader.form.k) (sym (verdict-is p r l c.sight_by-sight.result s))
    (seen_names f p.fits.ready (record_at (record_size a.reader.form.d) a.run.now (said a.list.now c.loop-both.both-index)))

pub loop-both-preserved : goal.loop-both-preserved
loop-both-preserved c =
    let a = c.args in
    let p = c.requires in
    let m = c.loop-both in
    let r = m.invariant.reached in
    let l = c.loop-both-test.true in
    let f = under a.reader in
    let size : ℕ = record_size a.reader.form.d in
    let x : ℕ = said a.list.now m.both-index in
    let run : List ℕ = a.run.now in
    let d = due p r l in
    let w = passed p r l in
    let s = found p r l c.sight_by-sight.result c.sight_by-sight.ensures in
    let v = verdict-found p r l c.sight_by-sight.result c.from-finding.result s c.from-finding.ensures in
    let used = used_is p r l m.used m.invariant.used in
    let order : count_to f run (x + 1) ≡ m.both-index + 1 = needed_more size (verdict_of f) run x d.marked ∙ ap (λ k. k + 1) d.order in
    record {
      used = omega (arith, used-next f run x (fits p r l) m.used used d.marked, ap (λ k. entry_size a.reader.form.d * k) order);
      long = search rules;
      reached = record {
        at = x + 1;
        inside = omega (arith, d.inside);
        order = order;
        walked = record {
          image =
              left_next f run x (fits p r l) m.run (width size x) w.image (omega arith) c.enter.new.rec
              c.sight_by-sight.result.verdict (verdict-is p r l c.sight_by-sight.result s) c.enter.ensures.rec_after;
          entries =
              entries_next f run x (fits p r l) a.stamp a.first a.journal.now m.journal c.enter.new.entry
              m.used (m.used + (head_size + 2 * size) - m.used)
              c.sight_by-sight.result _ d.marked w.entries used (omega arith) s (as_it_was_lem p r l) c.enter.ensures.after;
          counts = tally_found p r l c.from-finding.result.verdict c.counted-tally.result v c.counted-tally.ensures;
        };
      };
    }

-- at the end all is as the plain pass leaves it
module _ {f : Reader} {guesses list : List ℕ} {run : List ℕ} {first : ℕ} {journal : List ℕ}
    (p : Given f guesses list (length list) run first journal) {stamp i : ℕ} {run' journal' : List ℕ} {tally : Tally}
    (r : Reached f stamp first run journal (records_in f.d run) i run' journal' tally) (none : length list ≤ i) (most : i ≤ length list) where
  ended : Walked f stamp first run journal (records_in f.d run) (records_in f.d run) run' journal' tally
  ended =
      walked_end f run (records_in f.d run) (whole (record_size f.d) run) stamp first journal run' journal' tally i r
      (omega (arith, p.count))

  ended_tally : tally ≡ tally_in f run
  ended_tally = ended.counts ∙ tally_end f run (records_in f.d run)

  ended_run : run' ≡ left_in f run
  ended_run =
      ended.image
      ∙ over_all (left_to f run (records_in f.d run)) run
      (length-left_to f run (records_in f.d run) (whole (record_size f.d) run) ∙ no_rest (record_size f.d) (length run) p.fits.whole)

pub returns-clause-value : goal.returns-clause-value
returns-clause-value c = ended_tally c.requires c.loop-both.invariant.reached c.loop-both-test.false c.loop-both.auto.both-index-end

pub returns-clause-run_after : goal.returns-clause-run_after
returns-clause-run_after c = ended_run c.requires c.loop-both.invariant.reached c.loop-both-test.false c.loop-both.auto.both-index-end

pub returns-clause-journal_after : goal.returns-clause-journal_after
returns-clause-journal_after c =
    (ended c.requires c.loop-both.invariant.reached c.loop-both-test.false c.loop-both.auto.both-index-end).entries
