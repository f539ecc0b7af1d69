-- A PASS UNDONE BACKWARDS: putting the entries of a pass back, from the last to the first, restores the image that it was given; so it is
-- for any passes, done or refused. Assumes nothing.
use Prim.{Unit}
use mathlib.Core.Path.{◌≡◌, refl, sym, ap, ap₂, subst, ◌∙◌}
use mathlib.Core.Bool.{Bool, true, false, cond, ◌&&◌}
use mathlib.Core.Logic.{◌≢◌}
use mathlib.Core.List.{List, [], ◌∷◌}
use Prim.Native.Nat.{ℕ, zero, suc, ◌+◌, ◌-◌, ◌*◌, ◌/◌, ◌≤◌, ◌<◌}
use native.Mathlib.Nat.{add-zero, add-suc, sub_self, mul-le-mul_right}
use native.Mathlib.Numerals.{add-one}
use native.Mathlib.Omega.{arith}
use borrow.Author.Tests.{eqb-true, eqb-false, lt-ltb}
use lib.Dec.{eqb, ltb}
use lib.ListN.{length, take-append-drop}
use Rattle.record.specs.Bytes.{byte_span}
use Rattle.record.specs.Layout.{record_size, number_size, entry_size, Entry, entry_in, records_in}
use Rattle.record.specs.Run.{record_at, gather, add_up, from_record}
use Rattle.record.specs.Journal.{needed_of, entry_at, put_record}
use Rattle.runs.proofs.Run.{record_length, record_drop, record_take, fits_less}
use Rattle.runs.proofs.Journal.{needed_clean, needed_more}
use Rattle.runs.proofs.Entries.{record_said}
use Rattle.runs.proofs.Image.{length-over_run}
use Rattle.code.specs.declared.Opened.{Opened}
use Rattle.std.specs.Prelude.{Ok}
use Rattle.at_record.specs.Outcome.{Reader, verdict_of, left_of}
use Rattle.at_record.proofs.Outcomes.{length-left_of, clean_kept}
use Rattle.runs.proofs.Sizes.{number_below}
use Rattle.asked.specs.declared.Pass.{Pass}
use Rattle.asked.specs.Pass.{State}
use Rattle.pass.specs.Pass.{After, left_run, needed_run, reader_of, after_pass}
use Rattle.passes.specs.Twice.{state_after, Step, steps_after}
use Rattle.passes.proofs.Rows.{Ended, ended, done-is}
use Rattle.passes.proofs.Facts.{asked, rising, fits, entered, entry-is, record-left, used_stay}
use Rattle.passes.proofs.Applied.{put_same, left_here, left_step}
use Rattle.passes.proofs.Stamps.{Known, refused_stays, used-after}
use Rattle.put_back.proofs.Backwards.{back_step}
use Rattle.entry_back.specs.Entry.{same_bytes, matches, undone}
use Rattle.put_back.specs.Back.{back_from}
use Rattle.history.proofs.Putting.{same_bytes_lem, record_put, put_put, length_put}

-- journals that agree on the entries in use
back_alike : (d : ℕ) (j k : List ℕ) (n c : ℕ) (image : List ℕ)
    → ((i : ℕ) → i < n → record_at (entry_size d) j i ≡ record_at (entry_size d) k i) → back_from d j n c image ≡ back_from d k n c image
unfolding back_from
back_alike d j k zero c image h = refl
back_alike d j k (suc n) c image h =
    let e : entry_at d j n ≡ entry_at d k n = ap (entry_in d) (h n (omega arith)) in
    ap (λ x. cond (matches d x image) (back_from d j n (suc c) (undone d x image)) (record { image = image; count = c; stopped = true })) e
    ∙ ap (λ b. cond (matches d (entry_at d k n) image) b (record { image = image; count = c; stopped = true }))
    (back_alike d j k n (suc c) (undone d (entry_at d k n) image) (λ i l. h i (omega arith)))

-- ---- a done pass

module _ (o : Opened) (d : ℕ) (p : Pass) (s : State)
    (taken : o.standing ≡ Ok tt) (zero-told : (after_pass o d p s).answer.number ≡ 0) where
  abbrev f : Reader
  f = reader_of o d

  abbrev now : After
  now = after_pass o d p s

  abbrev size : ℕ
  size = record_size d

  abbrev a : ℕ
  a = p.start

  -- the run's first n records as they are left, and how many entries they have
  abbrev left : ℕ → List ℕ
  left n = left_run f s.image a (a + n)

  abbrev count : ℕ → ℕ
  count n = needed_of size (verdict_of f) (from_record size a s.image) n

  module _ (n : ℕ) (inside : a + n < p.end) where
    abbrev rec : List ℕ
    rec = record_at size s.image (a + n)

    fit : suc (a + n) * size ≤ length s.image
    fit = fits_less size (length s.image) p.end (a + n) (fits o d p s taken zero-told) inside

    long : length rec ≡ size
    long = record_length size s.image (a + n) fit

    few : a + n < byte_span number_size
    unfolding byte_span
    few =
        let q = asked o d p s taken zero-told in
        let l : a + n < records_in d s.image = omega (arith, q.run.within) in
        omega (arith, number_below size 65535 (length s.image) 0 (a + n) (omega arith) (omega (arith, q.records.short)) l)

    here : record_at size (from_record size a s.image) n ≡ rec
    here = record_drop size s.image a n

    length-left : length (left n) ≡ length s.image
    length-left =
        length-over_run size (λ i. left_of f) (λ i. length-left_of f) s.image a (a + n) (omega arith) (omega (arith, fit, mul-le-mul_right size (le_step (a + n))))
      where
        le_step : (m : ℕ) → m ≤ suc m
        le_step m = omega arith

    stands : record_at size (left n) (a + n) ≡ rec
    stands = left_here f p.stamp s.image a (a + n) (omega arith) (omega (arith, length-left, fit, next_le))
      where
        next_le : (a + n) * size ≤ suc (a + n) * size
        next_le = let h : a + n ≤ suc (a + n) = omega arith in mul-le-mul_right size h

    next : left (suc n) ≡ put_record size (left n) (a + n) (left_of f rec)
    next = ap (left_run f s.image a) (add-suc a n) ∙ left_step f p.stamp s.image a (a + n) (omega arith) fit

    fit-left : suc (a + n) * size ≤ length (left n)
    fit-left = rw length-left fit

    -- a clean record is left as it is
    clean-next : verdict_of f rec ≡ 0 → left (suc n) ≡ left n
    clean-next v = next ∙ ap (put_record size (left n) (a + n)) (clean_kept f rec v ∙ sym stands) ∙ put_same size (left n) (a + n)

    -- any other has its entry, which is put back
    module _ (v : verdict_of f rec ≢ 0) where
      abbrev m : ℕ
      m = s.used + count n

      abbrev e : Entry
      e = entered o d p s taken zero-told (a + n)

      index : needed_run f s.image a (a + n) ≡ count n
      index = let z : a + n - a ≡ n = omega arith in ap (add_up size _ (from_record size a s.image)) z

      after_is : e.after ≡ left_of f rec
      after_is = record-left o d p s taken zero-told (a + n) (omega arith) inside

      read : ((entry_at d now.journal m).number ≡ a + n)
          × ((entry_at d now.journal m).before ≡ rec)
          × ((entry_at d now.journal m).after ≡ left_of f rec)
      read =
          let bytes = ap (λ i. record_at (entry_size d) now.journal (s.used + i)) (sym index)
          ∙ entry-is o d p s taken zero-told (a + n) (omega arith) inside v in
          let said = record_said d e few long (ap length after_is ∙ length-left_of f rec long) in (
            ap (λ l. (entry_in d l).number) bytes ∙ said.0,
            ap (λ l. (entry_in d l).before) bytes ∙ said.1,
            ap (λ l. (entry_in d l).after) bytes ∙ said.2 ∙ after_is,
          )

      long-left : length (left (suc n)) ≡ length s.image
      long-left =
          ap length next ∙ length_put size (left n) (a + n) (left_of f rec) fit-left (length-left_of f rec long) ∙ length-left

      holds : record_at size (left (suc n)) (a + n) ≡ left_of f rec
      holds =
          ap (λ l. record_at size l (a + n)) next
          ∙ record_put size (left n) (a + n) (left_of f rec) fit-left (length-left_of f rec long)

      within : a + n < records_in d (left (suc n))
      within = omega (arith, ap (λ k. k / size) long-left, (asked o d p s taken zero-told).run.within)

      matched : matches d (entry_at d now.journal m) (left (suc n)) ≡ true
      matched =
          ap₂ (λ i x. ltb i (records_in d (left (suc n))) && same_bytes (record_at size (left (suc n)) i) x) read.0 read.2
          ∙ ap₂ (λ x y. x && y) (lt-ltb (a + n) (records_in d (left (suc n))) within)
          (ap (λ l. same_bytes l (left_of f rec)) holds ∙ same_bytes_lem (left_of f rec))

      undone-is : undone d (entry_at d now.journal m) (left (suc n)) ≡ left n
      undone-is =
          ap₂ (put_record size (left (suc n))) read.0 read.1
          ∙ ap (λ l. put_record size l (a + n) rec) next
          ∙ put_put size (left n) (a + n) (left_of f rec) fit-left (length-left_of f rec long) rec
          ∙ ap (put_record size (left n) (a + n)) (sym stands)
          ∙ put_same size (left n) (a + n)

  -- the run's entries are put back, from the last to the first
  back-run : (n : ℕ) → a + n ≤ p.end → (c : ℕ)
      → back_from d now.journal (s.used + count n) c (left n) ≡ back_from d now.journal s.used (c + count n) s.image
  unfolding add_up gather
  back-run zero h c =
      let none : left 0 ≡ s.image = rw (add-zero a, sub_self a) (take-append-drop (a * size) s.image) in
      λ i. back_from d now.journal (add-zero s.used i) (sym (add-zero c) i) (none i)
  back-run (suc n) h c = go (eqb (verdict_of f (rec n inside)) 0) refl (back-run n (omega arith))
    where
      inside : a + n < p.end
      inside = omega arith

      go : (b : Bool) → eqb (verdict_of f (rec n inside)) 0 ≡ b
          → ((k : ℕ) → back_from d now.journal (s.used + count n) k (left n) ≡ back_from d now.journal s.used (k + count n) s.image)
          → back_from d now.journal (s.used + count (suc n)) c (left (suc n))
          ≡ back_from d now.journal s.used (c + count (suc n)) s.image
      go true b ih =
          let v = eqb-true _ _ b in
          let same : count (suc n) ≡ count n =
          ap count (sym (add-one n))
          ∙ needed_clean size (verdict_of f) (from_record size a s.image) n (ap (verdict_of f) (here n inside) ∙ v) in
          ap₂ (λ k l. back_from d now.journal (s.used + k) c l) same (clean-next n inside v)
          ∙ ih c
          ∙ ap (λ k. back_from d now.journal s.used (c + k) s.image) (sym same)
      go false b ih =
          let v = eqb-false _ _ b in
          let more : count (suc n) ≡ count n + 1 =
          ap count (sym (add-one n))
          ∙ needed_more size (verdict_of f) (from_record size a s.image) n (λ z. v (ap (verdict_of f) (sym (here n inside)) ∙ z)) in
          let top : s.used + count (suc n) ≡ suc (s.used + count n) = omega (arith, more) in
          let sum : suc c + count n ≡ c + count (suc n) = omega (arith, more) in
          ap (λ k. back_from d now.journal k c (left (suc n))) top
          ∙ back_step d now.journal (s.used + count n) c (left (suc n)) (matched n inside v)
          ∙ ap (back_from d now.journal (s.used + count n) (suc c)) (undone-is n inside v)
          ∙ ih (suc c)
          ∙ ap (λ k. back_from d now.journal s.used k s.image) sum

  abbrev needed : ℕ
  needed = needed_run f s.image a p.end

  -- all of them, and the journal's used entries are as they were
  pub back_pass : (c : ℕ)
      → back_from d now.journal (s.used + needed) c now.image ≡ back_from d s.journal s.used (c + needed) s.image
  back_pass c =
      let up = rising o d p s taken zero-told in
      let whole : a + (p.end - a) ≡ p.end = omega arith in
      let image : now.image ≡ left (p.end - a) =
      ap (λ x. x.image) (done-is o d p s taken zero-told) ∙ ap (left_run f s.image a) (sym whole) in
      let used = s.used * entry_size d in
      ap (back_from d now.journal (s.used + needed) c) image
      ∙ back-run (p.end - a) (omega arith) c
      ∙ back_alike d now.journal s.journal s.used (c + needed) s.image
      (λ i l.
      let inside : suc i * entry_size d ≤ used = mul-le-mul_right (entry_size d) l in
      sym (record_take (entry_size d) used now.journal i inside)
      ∙ ap (λ x. record_at (entry_size d) x i) (used_stay o d p s taken zero-told)
      ∙ record_take (entry_size d) used s.journal i inside)

-- ---- any passes

-- putting everything in use back gives the image `first`, whatever was put back before
abbrev pub Restores : ℕ → State → List ℕ → Type 0
Restores d s first =
    (c : ℕ) → back_from d s.journal s.used c s.image ≡ record { image = first; count = c + s.used; stopped = false }

pub step_restores : (o : Opened) (d : ℕ) (p : Pass) (s : State) (first : List ℕ) → Known o → Restores d s first
    → Restores d (state_after o d p s) first
step_restores o d p s first known r = go (ended o d p s)
  where
    go : Ended o d p s → Restores d (state_after o d p s) first
    go (Ended.by_code g e h) = subst (λ x. Restores d x first) (sym (refused_stays o d p s g.number g.told (known g e) h)) r
    go (Ended.refused number told n h) = subst (λ x. Restores d x first) (sym (refused_stays o d p s number told (λ z. omega arith) h)) r
    go (Ended.finished e h) =
        let zero-told = ap (λ x. x.answer.number) h in
        let m = needed_run (reader_of o d) s.image p.start p.end in
        let used = used-after o d p s e zero-told in
        λ c.
        let sum : c + m + s.used ≡ c + (state_after o d p s).used = omega (arith, used) in
        ap (λ k. back_from d (after_pass o d p s).journal k c (after_pass o d p s).image) used
        ∙ back_pass o d p s e zero-told c
        ∙ r (c + m)
        ∙ ap (λ k. record { image = first; count = k; stopped = false }) sum

unfoldable pub AllKnown : List Step → Type 0
AllKnown [] = Unit
AllKnown (x ∷ xs) = Known x.under × AllKnown xs

pub steps_restore : (d : ℕ) (xs : List Step) (s : State) (first : List ℕ) → AllKnown xs → Restores d s first
    → Restores d (steps_after d xs s) first
unfolding steps_after AllKnown
steps_restore d [] s first k r = r
steps_restore d (x ∷ xs) s first k r =
    steps_restore d xs (state_after x.under d x.pass s) first k.1 (step_restores x.under d x.pass s first k.0 r)
