-- A RECORD THAT TWO RUNS SHARE, under one accepted code with sound columns: mended by the first pass it is clean to a later one, and
-- unmended it is entered again. Other passes under that code, done or refused, may come between. Assumes nothing.
use mathlib.Core.Path.{◌≡◌, refl, sym, ap, subst, ◌∙◌}
use mathlib.Core.Logic.{◌≢◌, ◌⊎◌, inl, inr, ⊎_elim}
use mathlib.Core.List.{List, [], ◌∷◌, Memᴰ}
use Prim.Native.Nat.{ℕ, zero, suc, ◌-◌, ◌*◌, ◌≤◌, ◌<◌}
use native.Mathlib.Omega.{arith}
use lib.ListN.{length}
use Rattle.record.specs.Bytes.{byte_span, AllBytes}
use Rattle.record.specs.Layout.{record_size, stamp_size, syndrome_size, Entry}
use Rattle.record.specs.Run.{record_at}
use Rattle.record.specs.Journal.{entries_from}
use Rattle.runs.proofs.Numbers.{bytes-part}
use Rattle.runs.proofs.Run.{fits_less, record_length}
use Rattle.code.specs.declared.Opened.{Opened}
use Rattle.std.specs.Prelude.{Ok}
use Rattle.code.specs.Opened.{Laid, SoundOpened}
use Rattle.at_record.specs.Outcome.{Reader, Held, syndrome_of, verdict_of, left_of, entry_of}
use Rattle.at_record.proofs.Outcomes.{kept}
use Rattle.asked.specs.declared.Pass.{Pass}
use Rattle.asked.specs.Pass.{State}
use Rattle.pass.specs.Pass.{After, noted_run, needed_run, reader_of, after_pass}
use Rattle.passes.specs.Twice.{state_in, verdict_again}
use Rattle.passes.proofs.Rows.{Ended, ended}
use Rattle.passes.proofs.Facts.{before_stays, after_stays, fits, record-left}
use Rattle.passes.proofs.Mended as mended
use Rattle.passes.proofs.Stamps.{used-after}
use Rattle.passes.proofs.Applied.{new-read}
use Rattle.orders.specs.Orders.{ends_of, InRun, passes_after, entries_since, LeftClean, Unmended}
use Rattle.orders.proofs.Image.{outside_same, where_lies}
use Rattle.orders.proofs.Noted.{run-has, run-whose}

-- ---- a record that a pass would leave as it is stays, whatever passes come

module _ (o : Opened) (d i : ℕ) where
  abbrev reads : Reader
  reads = reader_of o d

  abbrev at : State → List ℕ
  at s = record_at (record_size d) s.image i

  pass_keeps : (p : Pass) (s : State) → left_of reads (at s) ≡ at s → at (state_in s (after_pass o d p s)) ≡ at s
  pass_keeps p s h = go (ended o d p s)
    where
      go : Ended o d p s → at (state_in s (after_pass o d p s)) ≡ at s
      go (Ended.by_code g e x) = ap (λ y. record_at (record_size d) y.image i) x
      go (Ended.refused number told n x) = ap (λ y. record_at (record_size d) y.image i) x
      go (Ended.finished e x) =
          let z = ap (λ y. y.answer.number) x in
          ⊎_elim (λ (u : InRun (ends_of p) i). record-left o d p s e z i u.0 (omega (arith, u.1)) ∙ h)
          (outside_same (record_size d) s.image (after_pass o d p s).image p.start p.end
          (before_stays o d p s e z) (after_stays o d p s e z) i)
          (where_lies (ends_of p) i)

  passes_keep : (ps : List Pass) (s : State) → left_of reads (at s) ≡ at s → at (passes_after (after_pass o d) ps s) ≡ at s
  unfolding passes_after
  passes_keep [] s h = refl
  passes_keep (p ∷ ps) s h =
      let e = pass_keeps p s h in
      passes_keep ps (state_in s (after_pass o d p s)) (ap (left_of reads) e ∙ h ∙ sym e) ∙ e

-- ---- verdicts 0 to 2 are clean the second time, the others stay

again_clean : (v : ℕ) → LeftClean v → verdict_again v ≡ 0
again_clean zero h = refl
again_clean (suc zero) h = refl
again_clean (suc (suc zero)) h = refl
again_clean (suc (suc (suc v))) h = absurd (omega arith)

-- ---- the entries of a done pass

module _ (o : Opened) (d : ℕ) (taken : o.standing ≡ Ok tt)
    (narrow : (rec : List ℕ) → syndrome_of (reader_of o d) rec < byte_span syndrome_size) (p : Pass) (s : State)
    (done : (after_pass o d p s).answer.number ≡ 0) (small : p.stamp < byte_span stamp_size) where
  abbrev f : Reader
  f = reader_of o d

  abbrev new : List Entry
  new = entries_since d s (state_in s (after_pass o d p s))

  new_is : new ≡ noted_run f p.stamp s.image p.start p.end
  new_is =
      let n = needed_run f s.image p.start p.end in
      let count : (state_in s (after_pass o d p s)).used - s.used ≡ n = omega (arith, used-after o d p s taken done) in
      ap (entries_from d (after_pass o d p s).journal s.used) count ∙ new-read o p s d taken done narrow small

  module _ (i : ℕ) where
    abbrev rec : List ℕ
    rec = record_at (record_size d) s.image i

    clean-lacks : verdict_of f rec ≡ 0 → (e : Entry) → Memᴰ e new → e.number ≢ i
    unfolding entry_of
    clean-lacks v e m z =
        let w = run-whose f p.stamp s.image p.start p.end e (subst (λ l. Memᴰ e l) new_is m) in
        let same : w.0 ≡ i = sym (ap (λ x. x.number) w.2) ∙ z in
        w.1 (ap (λ n. verdict_of f (record_at (record_size d) s.image n)) same ∙ v)

    unclean-has : InRun (ends_of p) i → verdict_of f rec ≢ 0 → Memᴰ (entry_of f p.stamp i rec) new
    unclean-has u v = rw new_is (run-has f p.stamp s.image p.start p.end i u.0 (omega (arith, u.1)) v)

-- ---- the two passes

module _ (o : Opened) (d : ℕ) (sound : SoundOpened o) (laid : Laid o) (held : Held d o.k) (taken : o.standing ≡ Ok tt)
    (p q : Pass) (between : List Pass) (s : State) (wide : (o.k ≤ 64) ⊎ AllBytes s.image) where
  abbrev g : Reader
  g = reader_of o d

  abbrev now : Pass → State → After
  now = after_pass o d

  abbrev size : ℕ
  size = record_size d

  -- what the later pass works on
  abbrev later : State
  later = passes_after now between (state_in s (now p s))

  module _ (first : (now p s).answer.number ≡ 0) (i : ℕ) (in-first : InRun (ends_of p) i) where
    abbrev old : List ℕ
    old = record_at size s.image i

    narrow-old : (o.k ≤ 64) ⊎ AllBytes old
    narrow-old = ⊎_elim (λ h. inl h) (λ (h : AllBytes s.image). inr (bytes-part (i * size) size s.image h)) wide

    long-old : length old ≡ size
    long-old =
        let below : i < p.end = omega (arith, in-first.1) in
        record_length size s.image i (fits_less size (length s.image) p.end i (fits o d p s taken first) below)

    -- it stands as the first pass left it
    stands : record_at size later.image i ≡ left_of g old
    stands =
        let here = record-left o d p s taken first i in-first.0 (omega (arith, in-first.1)) in
        passes_keep o d i between (state_in s (now p s))
        (ap (left_of g) here ∙ mended.left-again o d sound laid held taken old narrow-old long-old ∙ sym here) ∙ here

    found_again : verdict_of g (record_at size later.image i) ≡ verdict_again (verdict_of g old)
    found_again = ap (verdict_of g) stands ∙ mended.verdict-again o d sound laid held taken old narrow-old long-old

    -- MENDED, IT IS CLEAN to the later pass
    pub mended_clean : LeftClean (verdict_of g old) → verdict_of g (record_at size later.image i) ≡ 0
    mended_clean h = found_again ∙ again_clean (verdict_of g old) h

    -- unmended, it is as it was
    pub unmended-same : Unmended (verdict_of g old) → record_at size later.image i ≡ old
    unmended-same h = stands ∙ kept g old (λ z. omega arith) (λ z. omega arith)

    module _ (narrow : (rec : List ℕ) → syndrome_of g rec < byte_span syndrome_size)
        (second : (now q later).answer.number ≡ 0) (small : q.stamp < byte_span stamp_size) where
      pub mended-not-entered : LeftClean (verdict_of g old) → (e : Entry)
          → Memᴰ e (entries_since d later (state_in later (now q later))) → e.number ≢ i
      mended-not-entered h = clean-lacks o d taken narrow q later second small i (mended_clean h)

      -- UNMENDED, IT IS ENTERED AGAIN, by both passes but for the stamp
      pub unmended-again : Unmended (verdict_of g old) → p.stamp < byte_span stamp_size → InRun (ends_of q) i
          → Memᴰ (entry_of g p.stamp i old) (entries_since d s (state_in s (now p s)))
          × Memᴰ (entry_of g q.stamp i old) (entries_since d later (state_in later (now q later)))
      unmended-again h tiny in-second =
          let same = unmended-same h in (
            unclean-has o d taken narrow p s first tiny i in-first (λ z. omega arith),
            subst (λ r. Memᴰ (entry_of g q.stamp i r) (entries_since d later (state_in later (now q later)))) same
                (unclean-has o d taken narrow q later second small i in-second
                (λ z. let e = ap (verdict_of g) same in omega (arith, h, e, z))),
          )
