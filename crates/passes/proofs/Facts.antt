-- What a pass changes and what it leaves: a refused one nothing, a done one the mended records of its run and the journal behind the entries
-- in use. Over records of any size, under any opened code. Assumes nothing.
use mathlib.Core.Path.{◌≡◌, refl, sym, ap, ap₂, ◌∙◌}
use mathlib.Core.Logic.{◌≢◌, ◌⊎◌, ⊎_elim}
use mathlib.Core.List.{List}
use Prim.Native.Nat.{ℕ, suc, ◌+◌, ◌*◌, ◌-◌, ◌≤◌, ◌<◌}
use native.Mathlib.Nat.{add-zero, mul_comm, add-mul, mul-le-mul_right}
use native.Mathlib.Omega.{arith}
use lib.ListN.{length, take, drop, length-drop, take-append-drop}
use Rattle.record.specs.Layout.{record_size, entry_size, Entry, entry_bytes, in_bytes}
use Rattle.record.specs.Run.{record_at, gather, add_up, from_record}
use Rattle.record.specs.Tally.{zero_tally}
use Rattle.record.specs.Journal.{unclean}
use Rattle.runs.proofs.Run.{record_drop}
use Rattle.runs.proofs.Tallies as tallies
use Rattle.runs.proofs.Journal.{length-entries, count_entries, needed_or_clean}
use Rattle.runs.proofs.Image as runs
use Rattle.code.specs.declared.Opened.{Opened}
use Rattle.std.specs.Prelude.{Ok}
use Rattle.verdict.specs.declared.Verdict.{Verdict}
use Rattle.verdict.specs.declared.Verdict.TheVariants.{Clean, Data, Check, Even, Odd, Stray}
use Rattle.verdict.specs.Verdicts.{finding_of}
use Rattle.reading.specs.Reading.{mended_by}
use Rattle.at_record.specs.Outcome.{Reader, word_in, record_of, seen, syndrome_of, left_by, verdict_of, left_of, entry_of}
use Rattle.asked.specs.declared.Pass.{Pass}
use Rattle.asked.specs.Pass.{State, pass_over, room_in}
use Rattle.pass.specs.Pass.{After, noted_run, needed_run, count_run, tally_run, behind, reader_of, after_pass}
use Rattle.asked.specs.Asked.{Askable}
use Rattle.runs.proofs.Sizes.{whole-fits, run-width}
use Rattle.at_record.proofs.Entered.{verdict-top}
use Rattle.at_record.proofs.Outcomes.{length-left_of, length-entry_of, kept}
use Rattle.over_run.proofs.Turns.{entries_rise}
use Rattle.pass.proofs.Cases.{done_with}
use Rattle.pass.proofs.Answers.{answer-done}
use Rattle.passes.proofs.Rows.{Ended, ended, done-asked, done-is}
use Rattle.passes.proofs.Entries.{entry_of_lem, entry_at}
use Rattle.passes.proofs.Behind.{take_behind, past_behind, length-behind, record_behind}

-- ---- one record

pub neither : (v : ℕ) → v ≢ 1 → v ≢ 2 → (v ≡ 1) ⊎ (v ≡ 2) → ⊥
neither v x y = ⊎_elim x y

-- it is mended to the word that reading hands back where the verdict is 1 or 2
left_mended : (d k : ℕ) (v : Verdict) (rec : List ℕ) → ((finding_of v).verdict ≡ 1) ⊎ ((finding_of v).verdict ≡ 2)
    → left_by d k v rec ≡ record_of d (mended_by v k (word_in d rec))
left_mended d k Clean rec h = absurd (neither 0 (omega arith) (omega arith) h)
left_mended d k (Data p) rec h = refl
left_mended d k (Check p) rec h = refl
left_mended d k Even rec h = absurd (neither 3 (omega arith) (omega arith) h)
left_mended d k Odd rec h = absurd (neither 4 (omega arith) (omega arith) h)
left_mended d k Stray rec h = absurd (neither 5 (omega arith) (omega arith) h)

module _ (f : Reader) where
  mended : (rec : List ℕ) → (verdict_of f rec ≡ 1) ⊎ (verdict_of f rec ≡ 2)
      → left_of f rec ≡ record_of f.d (mended_by (seen f rec) f.k (word_in f.d rec))
  unfolding verdict_of left_of
  mended rec h = left_mended f.d f.k (seen f rec) rec h

  pub verdict-le : (rec : List ℕ) → verdict_of f rec ≤ 5
  unfolding verdict_of
  verdict-le rec = verdict-top (seen f rec)

  entry-told : (stamp n : ℕ) (rec : List ℕ)
      → entry_of f stamp n rec
      ≡ record {
        stamp = stamp;
        number = n;
        verdict = (finding_of (seen f rec)).verdict;
        place = (finding_of (seen f rec)).place;
        syndrome = syndrome_of f rec;
        before = rec;
        after = left_of f rec;
      }
  unfolding entry_of left_of
  entry-told stamp n rec = refl

-- ---- a run that is passed over

module _ (f : Reader) (image : List ℕ) (a b : ℕ) (up : a ≤ b) (fits : b * record_size f.d ≤ length image) where
  abbrev size : ℕ
  size = record_size f.d

  abbrev run : List ℕ
  run = from_record size a image

  run_fits : (b - a) * size ≤ length run
  run_fits = simp length-drop (omega (arith, run-width size a b up, mul-le-mul_right size up))

  -- how many bytes the entries have, and how many they are
  pub length-noted_run : (stamp : ℕ) → length (in_bytes (noted_run f stamp image a b)) ≡ entry_size f.d * needed_run f image a b
  length-noted_run stamp =
      length-entries size (verdict_of f) (entry_of f stamp) a run (entry_size f.d) (length-entry_of f stamp) (b - a) run_fits

  pub count-noted_run : (stamp : ℕ) → length (noted_run f stamp image a b) ≡ needed_run f image a b
  count-noted_run stamp = count_entries size (verdict_of f) (entry_of f stamp) a run (b - a) run_fits

  -- each of the run's records has one of the six verdicts, and one of the five that are no 0 where it needs an entry
  pub six_counts : count_run f image a b 0 + count_run f image a b 1 + count_run f image a b 2 + count_run f image a b 3
      + count_run f image a b 4 + count_run f image a b 5 ≡ b - a
  six_counts = tallies.six_add_up size (verdict_of f) (verdict-le f) run (b - a)

  pub five_counts : needed_run f image a b
      ≡ count_run f image a b 1 + count_run f image a b 2 + count_run f image a b 3 + count_run f image a b 4 + count_run f image a b 5
  five_counts = omega (arith, six_counts, needed_or_clean size (verdict_of f) run (b - a))

  -- the entry of the record i, among the run's entries
  at-run : (i : ℕ) → a ≤ i → record_at size run (i - a) ≡ record_at size image i
  at-run i l = let e : a + (i - a) ≡ i = omega arith in record_drop size image a (i - a) ∙ ap (record_at size image) e

  module _ (i : ℕ) (l : a ≤ i) (u : i < b) (v : verdict_of f (record_at size image i) ≢ 0) where
    not_clean : verdict_of f (record_at size run (i - a)) ≢ 0
    not_clean z = v (ap (verdict_of f) (sym (at-run i l)) ∙ z)

    entry-within : (stamp : ℕ)
        → record_at (entry_size f.d) (in_bytes (noted_run f stamp image a b)) (needed_run f image a i)
        ≡ entry_bytes (entry_of f stamp i (record_at size image i))
    entry-within stamp =
        let e : a + (i - a) ≡ i = omega arith in
        entry_at size (verdict_of f) run (entry_of f stamp) (entry_size f.d) (length-entry_of f stamp) a (b - a) (i - a) run_fits
        (omega arith) not_clean
        ∙ ap entry_bytes (ap₂ (entry_of f stamp) e (at-run i l))

    entry-room : (stamp : ℕ) → suc (needed_run f image a i) * entry_size f.d ≤ length (in_bytes (noted_run f stamp image a b))
    entry-room stamp =
        let rise = entries_rise size (verdict_of f) run (i - a) (b - a) (omega arith) not_clean in
        omega (
          arith,
          length-noted_run stamp,
          mul-le-mul_right (entry_size f.d) rise,
          mul_comm (entry_size f.d) (needed_run f image a b),
        )

  whose : (m : ℕ) → m < needed_run f image a b
      → (i : ℕ) × (a ≤ i) × (i < b) × (verdict_of f (record_at size image i) ≢ 0) × (needed_run f image a i ≡ m)
  whose m h =
      let w = entry_of_lem size (verdict_of f) run (b - a) m h in
      let e : a + w.0 - a ≡ w.0 = omega arith in (
        a + w.0,
        omega arith,
        omega (arith, w.1),
        λ z. w.2 (ap (verdict_of f) (record_drop size image a w.0) ∙ z),
        ap (add_up size (unclean (verdict_of f)) run) e ∙ w.3,
      )

-- ---- a done pass

module _ (o : Opened) (d : ℕ) (p : Pass) (s : State)
    (taken : o.standing ≡ Ok tt) (zero-told : (after_pass o d p s).answer.number ≡ 0) where
  abbrev f : Reader
  f = reader_of o d

  abbrev now : After
  now = after_pass o d p s

  abbrev a : ℕ
  a = p.start

  abbrev b : ℕ
  b = p.end

  abbrev needed : ℕ
  needed = needed_run f s.image a b

  abbrev left : ℕ → List ℕ → List ℕ
  left i = left_of f

  left_each : (i : ℕ) (rec : List ℕ) → length rec ≡ record_size d → length (left i rec) ≡ record_size d
  left_each i = length-left_of f

  is-done : now ≡ done_with f p s
  is-done = done-is o d p s taken zero-told

  pub asked : Askable d p s
  asked = (done-asked o d p s taken zero-told).0

  pub rising : a ≤ b
  rising = asked.run.rising

  pub fits : b * record_size d ≤ length s.image
  fits = whole-fits (record_size d) (length s.image) b asked.run.within

  -- the entries in use lie in the journal, and the new ones behind them
  pub in_use : s.used * entry_size d ≤ length s.journal
  in_use = whole-fits (entry_size d) (length s.journal) s.used asked.counted

  pub in_use_after : s.used + needed ≤ room_in d s.journal
  in_use_after = omega (arith, (done-asked o d p s taken zero-told).1, asked.counted)

  pub room_after : (s.used + needed) * entry_size d ≤ length s.journal
  room_after = whole-fits (entry_size d) (length s.journal) (s.used + needed) in_use_after

  -- THE IMAGE: what lies before the run stays, and what lies after it
  pub before_stays : take (a * record_size d) now.image ≡ take (a * record_size d) s.image
  before_stays =
      ap (λ x. take (a * record_size d) x.image) is-done ∙ runs.before_stays (record_size d) left left_each s.image a b rising fits

  pub after_stays : drop (b * record_size d) now.image ≡ drop (b * record_size d) s.image
  after_stays =
      ap (λ x. drop (b * record_size d) x.image) is-done ∙ runs.after_stays (record_size d) left left_each s.image a b rising fits

  pub length_image : length now.image ≡ length s.image
  length_image = ap (λ x. length x.image) is-done ∙ runs.length-over_run (record_size d) left left_each s.image a b rising fits

  -- the entry of the record i, where it has one
  abbrev pub entered : ℕ → Entry
  entered i =
      let rec = record_at (record_size d) s.image i in
      record {
        stamp = p.stamp;
        number = i;
        verdict = (finding_of (seen f rec)).verdict;
        place = (finding_of (seen f rec)).place;
        syndrome = syndrome_of f rec;
        before = rec;
        after = record_at (record_size d) now.image i;
      }

  -- each record of the run is as its verdict leaves it
  module _ (i : ℕ) (l : a ≤ i) (u : i < b) where
    abbrev rec : List ℕ
    rec = record_at (record_size d) s.image i

    pub record-left : record_at (record_size d) now.image i ≡ left_of f rec
    record-left =
        ap (λ x. record_at (record_size d) x.image i) is-done
        ∙ runs.record_within (record_size d) left left_each s.image a b rising fits i l u

    -- only records of verdict 1 and 2 change, each to the word that reading hands back
    pub unmended-stays : verdict_of f rec ≢ 1 → verdict_of f rec ≢ 2 → record_at (record_size d) now.image i ≡ rec
    unmended-stays x y = record-left ∙ kept f rec x y

    pub mended_is : (verdict_of f rec ≡ 1) ⊎ (verdict_of f rec ≡ 2)
        → record_at (record_size d) now.image i ≡ record_of d (mended_by (seen f rec) o.k (word_in d rec))
    mended_is v = record-left ∙ mended f rec v

    -- THE JOURNAL: a record that is not clean has its entry behind those in use and those of the run's records before it, with the pass's
    -- stamp and its bytes before and after
    pub entry-is : verdict_of f rec ≢ 0
        → record_at (entry_size d) now.journal (s.used + needed_run f s.image a i) ≡ entry_bytes (entered i)
    entry-is v =
        let g = finding_of (seen f rec) in
        let m = needed_run f s.image a i in
        ap (λ x. record_at (entry_size d) x.journal (s.used + m)) is-done
        ∙ record_behind (entry_size d) s.used (in_bytes (noted_run f p.stamp s.image a b)) s.journal m in_use
        (entry-room f s.image a b rising fits i l u v p.stamp)
        ∙ entry-within f s.image a b rising fits i l u v p.stamp
        ∙ ap entry_bytes (entry-told f p.stamp i rec
        ∙ ap (λ z. record {
          stamp = p.stamp;
          number = i;
          verdict = g.verdict;
          place = g.place;
          syndrome = syndrome_of f rec;
          before = rec;
          after = z;
        }) (sym record-left))

  -- and each entry is that of such a record
  pub entry_whose : (m : ℕ) → m < needed
      → (i : ℕ) × (a ≤ i) × (i < b) × (verdict_of f (record_at (record_size d) s.image i) ≢ 0) × (needed_run f s.image a i ≡ m)
  entry_whose = whose f s.image a b rising fits

  -- what lies before the entries stays, and what lies past them
  abbrev bytes : List ℕ
  bytes = in_bytes (noted_run f p.stamp s.image a b)

  long : length bytes ≡ needed * entry_size d
  long = length-noted_run f s.image a b rising fits p.stamp ∙ mul_comm (entry_size d) needed

  pub length_journal : length now.journal ≡ length s.journal
  length_journal =
      ap (λ x. length x.journal) is-done
      ∙ length-behind (s.used * entry_size d) bytes s.journal in_use
      (omega (arith, long, room_after, add-mul s.used needed (entry_size d)))

  pub used_stay : take (s.used * entry_size d) now.journal ≡ take (s.used * entry_size d) s.journal
  used_stay =
      ap (λ x. take (s.used * entry_size d) x.journal) is-done ∙ take_behind (s.used * entry_size d) bytes s.journal in_use

  pub journal_stays : drop ((s.used + needed) * entry_size d) now.journal ≡ drop ((s.used + needed) * entry_size d) s.journal
  journal_stays =
      let e = add-mul s.used needed (entry_size d) in
      ap (λ x. drop ((s.used + needed) * entry_size d) x.journal) is-done
      ∙ ap (λ n. drop n (behind (s.used * entry_size d) bytes s.journal)) e
      ∙ past_behind (s.used * entry_size d) bytes s.journal in_use (needed * entry_size d) long
      ∙ ap (λ n. drop n s.journal) (sym e)

  -- the count in use afterwards
  pub used_is : now.answer.used ≡ s.used + needed
  used_is = ap (λ x. x.answer.used) is-done

  -- THE TALLY: each count is the number of the run's records with that verdict
  pub tally_is : now.answer.tally ≡ tally_run f s.image a b
  tally_is = ap (λ x. x.answer.tally) is-done

  -- the six add up to the run's length, and five of them to the number of entries
  pub six_add_up : let t = now.answer.tally in t.clean + t.«data» + t.check + t.even + t.odd + t.stray ≡ b - a
  six_add_up = rw tally_is (six_counts f s.image a b rising fits)

  pub five_add_up : let t = now.answer.tally in needed ≡ t.«data» + t.check + t.even + t.odd + t.stray
  five_add_up = rw tally_is (five_counts f s.image a b rising fits)

-- ---- a pass with any answer: bytes outside the run stay, entries in use stay, and image and journal keep their lengths

module _ (o : Opened) (d : ℕ) (p : Pass) (s : State) where
  abbrev outcome : After
  outcome = after_pass o d p s

  -- what a refused pass keeps, and a done one
  either : (P : After → Type 0) → (o.standing ≡ Ok tt → outcome.answer.number ≡ 0 → P outcome)
      → ((x : After) → x.image ≡ s.image → x.journal ≡ s.journal → P x) → P outcome
  either P done-so same = go (ended o d p s)
    where
      go : Ended o d p s → P outcome
      go (Ended.by_code g e h) = same outcome (ap (λ x. x.image) h) (ap (λ x. x.journal) h)
      go (Ended.refused number told n h) = same outcome (ap (λ x. x.image) h) (ap (λ x. x.journal) h)
      go (Ended.finished e h) = done-so e (ap (λ x. x.answer.number) h)

  pub outside_before : take (p.start * record_size d) outcome.image ≡ take (p.start * record_size d) s.image
  outside_before =
      either (λ x. take (p.start * record_size d) x.image ≡ take (p.start * record_size d) s.image) (before_stays o d p s)
      (λ x e h. ap (take (p.start * record_size d)) e)

  pub outside_after : drop (p.end * record_size d) outcome.image ≡ drop (p.end * record_size d) s.image
  outside_after =
      either (λ x. drop (p.end * record_size d) x.image ≡ drop (p.end * record_size d) s.image) (after_stays o d p s)
      (λ x e h. ap (drop (p.end * record_size d)) e)

  pub used_entries_stay : take (s.used * entry_size d) outcome.journal ≡ take (s.used * entry_size d) s.journal
  used_entries_stay =
      either (λ x. take (s.used * entry_size d) x.journal ≡ take (s.used * entry_size d) s.journal) (used_stay o d p s)
      (λ x e h. ap (take (s.used * entry_size d)) h)

  pub same_length : (length outcome.image ≡ length s.image) × (length outcome.journal ≡ length s.journal)
  same_length =
      either (λ x. (length x.image ≡ length s.image) × (length x.journal ≡ length s.journal))
      (λ t z. (length_image o d p s t z, length_journal o d p s t z)) (λ x e h. (ap length e, ap length h))

-- ---- a run with equal ends is done: no byte changes, the count in use stays, and the tally is all zero

pub empty_run : (o : Opened) (d : ℕ) (a stamp : ℕ) (s : State) → o.standing ≡ Ok tt → Askable d (pass_over a a stamp) s
    → after_pass o d (pass_over a a stamp) s
    ≡ record { answer = record { number = 0; told = 0; used = s.used; tally = zero_tally }; image = s.image; journal = s.journal }
unfolding add_up gather in_bytes
empty_run o d a stamp s taken q =
    let z : a - a ≡ 0 = omega arith in
    answer-done o d (pass_over a a stamp) s taken q (rw z (omega arith))
    ∙ rw z
    (λ i. record {
      answer = record { number = 0; told = 0; used = add-zero s.used i; tally = zero_tally };
      image = take-append-drop (a * record_size d) s.image i;
      journal = take-append-drop (s.used * entry_size d) s.journal i;
    })
