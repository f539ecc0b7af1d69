-- WHAT A PASS DOES IS ITS LIST OF ENTRIES: read back from the journal they are those that the pass noted, and the image as it is left is the
-- image with them applied in their order. Assumes nothing.
use Prim.{Unit, tt}
use mathlib.Core.Path.{◌≡◌, refl, sym, ap, ap₂, ◌∙◌}
use mathlib.Core.Bool.{Bool, true, false, cond}
use mathlib.Core.List.{List, [], ◌∷◌, ◌++◌, append_assoc}
use Prim.Native.Nat.{ℕ, zero, suc, ◌+◌, ◌*◌, ◌-◌, ◌≤◌, ◌<◌}
use native.Mathlib.Nat.{add-zero, sub_self, suc-mul}
use native.Mathlib.Omega.{arith}
use borrow.Author.Tests.{eqb-true}
use lib.Dec.{eqb}
use lib.ListN.{length, take, drop, length-append, take-append-drop}
use lib.Seq.{take_at, drop_at, drop-drop, length-take-le}
use Rattle.record.specs.Bytes.{byte_span}
use Rattle.record.specs.Layout.{record_size, stamp_size, number_size, syndrome_size, entry_size, image_limit, Entry, entry_bytes, entry_in, in_bytes, records_in}
use Rattle.record.specs.Run.{record_at, gather, from_record, over_run}
use Rattle.record.specs.Journal.{noted, entries_from, put_record, applied, applied_all}
use Rattle.runs.proofs.Run.{record_length, record_drop}
use Rattle.runs.proofs.Entries.{entry-back, length-entry}
use Rattle.runs.proofs.Image.{after_stays, run-split}
use Rattle.code.specs.declared.Opened.{Opened}
use Rattle.std.specs.Prelude.{Ok}
use Rattle.at_record.specs.Outcome.{Reader, syndrome_of, verdict_of, left_of, entry_of}
use Rattle.at_record.proofs.Outcomes.{length-left_of, clean_kept}
use Rattle.runs.proofs.Sizes.{number_below}
use Rattle.asked.specs.declared.Pass.{Pass}
use Rattle.asked.specs.Pass.{State}
use Rattle.pass.specs.Pass.{After, left_run, noted_run, needed_run, reader_of, after_pass}
use Rattle.passes.proofs.Rows.{done-is}
use Rattle.passes.proofs.Facts.{asked, rising, fits, in_use, count-noted_run}

-- ---- entries applied

applied-append : (d : ℕ) (es fs : List Entry) (image : List ℕ) → applied_all d (es ++ fs) image ≡ applied_all d fs (applied_all d es image)
unfolding applied_all
applied-append d [] fs image = refl
applied-append d (e ∷ es) fs image = applied-append d es fs (applied d e image)

-- a record put in its own place
pub put_same : (size : ℕ) (image : List ℕ) (n : ℕ) → put_record size image n (record_at size image n) ≡ image
put_same size image n =
    ap (λ m. take (n * size) image ++ (record_at size image n ++ drop m image)) (suc-mul n size)
    ∙ ap (λ l. take (n * size) image ++ (record_at size image n ++ l)) (sym (drop-drop size (n * size) image))
    ∙ ap (λ l. take (n * size) image ++ l) (take-append-drop size (drop (n * size) image))
    ∙ take-append-drop (n * size) image

-- a run of one record
one_run : (size : ℕ) (f : ℕ → List ℕ → List ℕ) (image : List ℕ) (b : ℕ)
    → over_run size f image b (suc b) ≡ put_record size image b (f b (record_at size image b))
unfolding gather
one_run size f image b =
    let e : suc b - b ≡ 1 = omega arith in
    rw (e, add-zero b)
    (ap (λ l. take (b * size) image ++ (f b l ++ drop (suc b * size) image))
    (record_drop size image b 0 ∙ ap (record_at size image) (add-zero b)))

module _ (f : Reader) (stamp : ℕ) (image : List ℕ) (a : ℕ) where
  abbrev d : ℕ
  d = f.d

  abbrev size : ℕ
  size = record_size d

  -- the entries of the first n records of the run
  abbrev entries : ℕ → List Entry
  entries n = gather size (λ i. noted (verdict_of f) (entry_of f stamp) (a + i)) (from_record size a image) n

  abbrev left : ℕ → List ℕ → List ℕ
  left i = left_of f

  left_each : (i : ℕ) (rec : List ℕ) → length rec ≡ size → length (left i rec) ≡ size
  left_each i = length-left_of f

  -- one record more: clean, it stays; else its entry is applied
  one_more : (now : List ℕ) (b : ℕ) (rec : List ℕ) → record_at size now b ≡ rec
      → put_record size now b (left_of f (record_at size now b)) ≡ applied_all d (noted (verdict_of f) (entry_of f stamp) b rec) now
  unfolding noted applied_all entry_of left_of
  one_more now b rec e = go (eqb (verdict_of f rec) 0) refl
    where
      go : (c : Bool) → eqb (verdict_of f rec) 0 ≡ c
          → put_record size now b (left_of f (record_at size now b)) ≡ applied_all d (cond c [] (entry_of f stamp b rec ∷ [])) now
      go true h = ap (put_record size now b) (clean_kept f (record_at size now b) (ap (verdict_of f) e ∙ eqb-true _ _ h)) ∙ put_same size now b
      go false h = ap (λ l. put_record size now b (left_of f l)) e

  -- up to the record b, and that one too
  pub left_here : (b : ℕ) → a ≤ b → b * size ≤ length image → record_at size (left_run f image a b) b ≡ record_at size image b
  left_here b h fit = ap (take size) (after_stays size left left_each image a b h fit)

  pub left_step : (b : ℕ) → a ≤ b → suc b * size ≤ length image
      → left_run f image a (suc b) ≡ put_record size (left_run f image a b) b (left_of f (record_at size image b))
  left_step b h fit =
      sym (run-split size image a b (suc b) h (omega arith) left left_each fit)
      ∙ one_run size left (left_run f image a b) b
      ∙ ap (λ l. put_record size (left_run f image a b) b (left_of f l)) (left_here b h (omega (arith, suc-mul b size)))

  left_is : (n : ℕ) → (a + n) * size ≤ length image → left_run f image a (a + n) ≡ applied_all d (entries n) image
  unfolding gather applied_all
  left_is zero h = rw (add-zero a, sub_self a) (take-append-drop (a * size) image)
  left_is (suc n) h =
      let b : ℕ = a + n in
      let e : a + suc n ≡ suc b = omega arith in
      let fits-b : b * size ≤ length image = omega (arith, suc-mul b size, ap (λ m. m * size) e) in
      let fits_next : suc b * size ≤ length image = omega (arith, ap (λ m. m * size) e) in
      let now : List ℕ = left_run f image a b in
      let here : record_at size now b ≡ record_at size (from_record size a image) n =
      ap (take size) (after_stays size left left_each image a b (omega arith) fits-b) ∙ sym (record_drop size image a n) in
      ap (left_run f image a) e
      ∙ sym (run-split size image a b (suc b) (omega arith) (omega arith) left left_each fits_next)
      ∙ one_run size left now b
      ∙ one_more now b (record_at size (from_record size a image) n) here
      ∙ ap (applied_all d (noted (verdict_of f) (entry_of f stamp) b (record_at size (from_record size a image) n))) (left_is n fits-b)
      ∙ sym (applied-append d (entries n) (noted (verdict_of f) (entry_of f stamp) b (record_at size (from_record size a image) n)) image)

  pub left-applied : (b : ℕ) → a ≤ b → b * size ≤ length image → left_run f image a b ≡ applied_all d (noted_run f stamp image a b) image
  left-applied b h fit =
      let e : a + (b - a) ≡ b = omega arith in
      ap (left_run f image a) (sym e) ∙ left_is (b - a) (rw e fit)

-- ---- entries read back from the bytes of a journal

-- an entry that fits its bytes
pub record Enters (d : ℕ) (e : Entry) : Type 0 where
  pub stamp_fits : e.stamp < byte_span stamp_size
  pub number_fits : e.number < byte_span number_size
  pub syndrome-fits : e.syndrome < byte_span syndrome_size
  pub before_fits : length e.before ≡ record_size d
  pub after-fits : length e.after ≡ record_size d

unfoldable pub AllEnter : ℕ → List Entry → Type 0
AllEnter d [] = Unit
AllEnter d (e ∷ es) = Enters d e × AllEnter d es

all_append : (d : ℕ) (es fs : List Entry) → AllEnter d es → AllEnter d fs → AllEnter d (es ++ fs)
unfolding AllEnter
all_append d [] fs x y = y
all_append d (e ∷ es) fs x y = (x.0, all_append d es fs x.1 y)

entries-read : (d : ℕ) (es : List Entry) (front rest : List ℕ) (m : ℕ) → length front ≡ m * entry_size d → AllEnter d es
    → entries_from d (front ++ (in_bytes es ++ rest)) m (length es) ≡ es
unfolding entries_from AllEnter in_bytes
entries-read d [] front rest m h v = refl
entries-read d (e ∷ es) front rest m h v =
    let size : ℕ = entry_size d in
    let more : List ℕ = in_bytes es in
    let q = v.0 in
    let long : length (entry_bytes e) ≡ size = length-entry e ∙ omega (arith, q.before_fits, q.after-fits) in
    let here : record_at size (front ++ (entry_bytes e ++ more ++ rest)) m ≡ entry_bytes e =
    ap (take size) (drop_at front (entry_bytes e ++ more ++ rest) (m * size) h ∙ append_assoc (entry_bytes e) more rest)
    ∙ take_at (entry_bytes e) (more ++ rest) size long in
    let group : front ++ (entry_bytes e ++ more ++ rest) ≡ front ++ entry_bytes e ++ (more ++ rest) = simp append_assoc in
    ap₂ (λ x xs. x ∷ xs)
    (ap (entry_in d) here ∙ entry-back d e q.stamp_fits q.number_fits q.syndrome-fits q.before_fits q.after-fits)
    (ap (λ l. entries_from d l (suc m) (length es)) group
    ∙ entries-read d es (front ++ entry_bytes e) rest (suc m) (omega (arith, length-append front (entry_bytes e), h, long, suc-mul m size))
    v.1)

module _ (f : Reader) (stamp : ℕ) (image : List ℕ) (a : ℕ) (small : stamp < byte_span stamp_size)
    (narrow : (rec : List ℕ) → syndrome_of f rec < byte_span syndrome_size) where
  -- the entries of a run fit where its records do
  all_noted : (n : ℕ) → (a + n) * record_size f.d ≤ length image → (a + n) < 65536 → AllEnter f.d (entries f stamp image a n)
  unfolding gather AllEnter noted byte_span entry_of left_of
  all_noted zero h l = tt
  all_noted (suc n) h l =
      let size : ℕ = record_size f.d in
      let e : a + suc n ≡ suc (a + n) = omega arith in
      let rec : List ℕ = record_at size (from_record size a image) n in
      let fit : suc (a + n) * size ≤ length image = omega (arith, ap (λ m. m * size) e) in
      let long : length rec ≡ size = ap length (record_drop size image a n) ∙ record_length size image (a + n) fit in
      let one : Enters f.d (entry_of f stamp (a + n) rec) = record {
        stamp_fits = small;
        number_fits = omega arith;
        syndrome-fits = narrow rec;
        before_fits = long;
        after-fits = length-left_of f rec long;
      } in
      all_append f.d (entries f stamp image a n) (cond (eqb (verdict_of f rec) 0) [] (entry_of f stamp (a + n) rec ∷ []))
      (all_noted n (omega (arith, suc-mul (a + n) size)) (omega arith)) (go (eqb (verdict_of f rec) 0) one)
    where
      go : (c : Bool) {x : Entry} → Enters f.d x → AllEnter f.d (cond c [] (x ∷ []))
      go true y = tt
      go false y = (y, tt)

-- ---- a done pass

module _ (o : Opened) (p : Pass) (s : State) (d : ℕ)
    (taken : o.standing ≡ Ok tt) (zero-told : (after_pass o d p s).answer.number ≡ 0)
    (narrow : (rec : List ℕ) → syndrome_of (reader_of o d) rec < byte_span syndrome_size) where
  abbrev now : After
  now = after_pass o d p s

  abbrev needed : ℕ
  needed = needed_run (reader_of o d) s.image p.start p.end

  abbrev new : List Entry
  new = noted_run (reader_of o d) p.stamp s.image p.start p.end

  pub new_fit : p.stamp < byte_span stamp_size → AllEnter d new
  new_fit small =
      let up = rising o d p s taken zero-told in
      let within = fits o d p s taken zero-told in
      let size = record_size d in
      let q = asked o d p s taken zero-told in
      let e : p.start + (p.end - p.start) ≡ p.end = omega arith in
      let few : p.end < 65536 = few_records p.end q.run.within q.records.short in
      all_noted (reader_of o d) p.stamp s.image p.start small narrow (p.end - p.start) (rw e within) (rw e few)
    where
      few_records : (n : ℕ) → n ≤ records_in d s.image → length s.image ≤ image_limit d → n < 65536
      few_records zero h l = omega arith
      few_records (suc n) h l =
          omega (arith, number_below (record_size d) 65535 (length s.image) 0 n (omega arith) (omega arith) h)

  -- read back from the journal, behind those that were in use, the new entries are those that the pass noted
  pub new-read : p.stamp < byte_span stamp_size → entries_from d now.journal s.used needed ≡ new
  new-read small =
      let size = entry_size d in
      let up = rising o d p s taken zero-told in
      let within = fits o d p s taken zero-told in
      let count = count-noted_run (reader_of o d) s.image p.start p.end up within p.stamp in
      ap₂ (λ x n. entries_from d x.journal s.used n) (done-is o d p s taken zero-told) (sym count)
      ∙ entries-read d new (take (s.used * size) s.journal) (drop (length (in_bytes new)) (drop (s.used * size) s.journal)) s.used
      (length-take-le (s.used * size) s.journal (in_use o d p s taken zero-told)) (new_fit small)

  -- and the image as it is left is the image with them applied
  pub image_applied : now.image ≡ applied_all d new s.image
  image_applied =
      ap (λ x. x.image) (done-is o d p s taken zero-told)
      ∙ left-applied (reader_of o d) p.stamp s.image p.start p.end (rising o d p s taken zero-told) (fits o d p s taken zero-told)
