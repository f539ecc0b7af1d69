-- WHERE A PUT-BACK ENDS: at the first entry from the last that does not match, or when all are put back; those behind it are put back, and
-- every record that none of them names is as it was. Assumes nothing.
use mathlib.Core.Path.{◌≡◌, refl, sym, ap, subst, ◌∙◌}
use mathlib.Core.Bool.{Bool, true, false, true≢false}
use mathlib.Core.Logic.{◌≢◌, ◌⊎◌, ◌↔◌, inl, inr}
use mathlib.Core.List.{List}
use Prim.Native.Nat.{ℕ, zero, suc, ◌+◌, ◌-◌, ◌*◌, ◌≤◌, ◌<◌}
use native.Mathlib.Nat.{add-zero, zero-add, sub-zero, sub_self}
use native.Mathlib.Omega.{arith}
use borrow.Author.Tests.{ltb-true}
use lib.Dec.{ltb}
use lib.ListN.{length}
use Rattle.parity.proofs.Ones.{below_or_not}
use Rattle.parity.proofs.Tested.{both}
use Rattle.record.specs.Layout.{record_size, head_size, entry_size, Entry, records_in}
use Rattle.record.specs.Run.{record_at}
use Rattle.record.proofs.Over.{part_length}
use Rattle.runs.proofs.Run.{record_length, fits_less}
use Rattle.runs.proofs.Sizes.{whole-fits}
use Rattle.asked.specs.Pass.{room_in}
use Rattle.entry_back.specs.Entry.{same_bytes, matches, undone}
use Rattle.entry_back.proofs.Matching.{inside}
use Rattle.put_back.specs.declared.PutBack.{PutBack}
use Rattle.put_back.specs.Back.{back_from, Returned, returned_by}
use Rattle.put_back.proofs.Backwards.{back_step, back-stop}
use Rattle.history.specs.History.{Matches, from_last, last_back, LastMatch, StopsAt}
use Rattle.history.proofs.Putting.{same_bytes_lem, same_list, length_put, others_stay}

-- ---- one entry

data Tested (d : ℕ) (e : Entry) (image : List ℕ) : Type 0 where
  yes : Matches d e image → Tested d e image
  no : ¬ (Matches d e image) → Tested d e image

module _ (d : ℕ) (e : Entry) (image : List ℕ) where
  abbrev rec : List ℕ
  rec = record_at (record_size d) image e.number

  -- the test is on exactly where the entry matches
  pub matched : Matches d e image → matches d e image ≡ true
  matched m = inside d e image m.inside true (ap (λ l. same_bytes l e.after) m.holds ∙ same_bytes_lem e.after)

  shown : matches d e image ≡ true → Matches d e image
  shown h =
      let b = both (ltb e.number (records_in d image)) (same_bytes rec e.after) h in
      record { inside = ltb-true _ _ b.0; holds = same_list rec e.after b.1 }

  differing : ¬ (Matches d e image) → matches d e image ≡ false
  differing n = go (matches d e image) refl
    where
      go : (b : Bool) → matches d e image ≡ b → matches d e image ≡ false
      go true h = absurd (n (shown h))
      go false h = h

  tested : Tested d e image
  tested = go (matches d e image) refl
    where
      go : (b : Bool) → matches d e image ≡ b → Tested d e image
      go true h = Tested.yes (shown h)
      go false h = Tested.no (λ m. true≢false (sym (matched m) ∙ h))

-- ---- n entries in use

module _ (d : ℕ) (journal : List ℕ) (n c : ℕ) (image : List ℕ) where
  abbrev done : ℕ → List ℕ
  done m = last_back d journal n m image

  -- those that match are put back, one after the other
  put_back : (m : ℕ) → m ≤ n → LastMatch d journal n m image
      → back_from d journal n c image ≡ back_from d journal (n - m) (c + m) (done m)
  unfolding last_back
  put_back zero h l = λ i. back_from d journal (sym (sub-zero n) i) (sym (add-zero c) i) image
  put_back (suc m) h l =
      let top : n - m ≡ suc (n - suc m) = omega arith in
      let sum : suc (c + m) ≡ c + suc m = omega arith in
      put_back m (omega arith) (λ i v. l i (omega arith))
      ∙ ap (λ k. back_from d journal k (c + m) (done m)) top
      ∙ back_step d journal (n - suc m) (c + m) (done m) (matched d (from_last d journal n m) (done m) (l m (omega arith)))
      ∙ ap (λ k. back_from d journal (n - suc m) k (done (suc m))) sum

  pub all_back_lem : LastMatch d journal n n image
      → back_from d journal n c image ≡ record { image = done n; count = c + n; stopped = false }
  unfolding back_from
  all_back_lem l = put_back n (omega arith) l ∙ ap (λ k. back_from d journal k (c + n) (done n)) (sub_self n)

  pub stops_back : (m : ℕ) → StopsAt d journal n m image
      → back_from d journal n c image ≡ record { image = done m; count = c + m; stopped = true }
  stops_back m s =
      let h = s.some in
      let top : n - m ≡ suc (n - suc m) = omega arith in
      put_back m (omega arith) s.behind
      ∙ ap (λ k. back_from d journal k (c + m) (done m)) top
      ∙ back-stop d journal (n - suc m) (c + m) (done m) (differing d (from_last d journal n m) (done m) s.differs)

-- it ends at one of them, or at none
module _ (d : ℕ) (journal : List ℕ) (n : ℕ) (image : List ℕ) where
  pub ends : LastMatch d journal n n image ⊎ ((m : ℕ) × StopsAt d journal n m image)
  ends = up_to n (omega arith)
    where
      next : (m : ℕ) → m < n → LastMatch d journal n m image → Tested d (from_last d journal n m) (last_back d journal n m image)
          → LastMatch d journal n (suc m) image ⊎ ((k : ℕ) × StopsAt d journal n k image)
      next m h l (Tested.no differs) = inr (m, record { some = h; behind = l; differs = differs })
      next m h l (Tested.yes y) = inl (λ i v. go i v (below_or_not i m))
        where
          go : (i : ℕ) → i < suc m → (i < m) ⊎ (m ≤ i) → Matches d (from_last d journal n i) (last_back d journal n i image)
          go i v (inl u) = l i u
          go i v (inr u) =
              let e : m ≡ i = omega arith in
              subst (λ k. Matches d (from_last d journal n k) (last_back d journal n k image)) e y

      up_to : (m : ℕ) → m ≤ n → LastMatch d journal n m image ⊎ ((k : ℕ) × StopsAt d journal n k image)
      up_to zero h = inl (λ i v. absurd (omega arith))
      up_to (suc m) h = go (up_to m (omega arith))
        where
          go : LastMatch d journal n m image ⊎ ((k : ℕ) × StopsAt d journal n k image)
              → LastMatch d journal n (suc m) image ⊎ ((k : ℕ) × StopsAt d journal n k image)
          go (inl l) = next m h l (tested d (from_last d journal n m) (last_back d journal n m image))
          go (inr s) = inr s

-- ---- the answer

-- all put back, or stopped behind m of them
abbrev pub all_back : ℕ → PutBack
all_back n = record { number = 0; told = 0; count = n }

abbrev pub stopped_behind : ℕ → PutBack
stopped_behind m = record { number = 18; told = 0; count = m }

module _ (d : ℕ) (journal : List ℕ) (n : ℕ) (image : List ℕ) where
  abbrev a : Returned
  a = returned_by (back_from d journal n 0 image)

  all_answer : LastMatch d journal n n image → a ≡ record { answer = all_back n; image = last_back d journal n n image }
  all_answer l =
      ap returned_by (all_back_lem d journal n 0 image l)
      ∙ ap (λ k. record { answer = all_back k; image = last_back d journal n n image }) (zero-add n)

  stopped_answer : (m : ℕ) → StopsAt d journal n m image
      → a ≡ record { answer = stopped_behind m; image = last_back d journal n m image }
  stopped_answer m s =
      ap returned_by (stops_back d journal n 0 image m s)
      ∙ ap (λ k. record { answer = stopped_behind k; image = last_back d journal n m image }) (zero-add m)

  -- done and 18 are not the same answer, and 18 counts
  not_stopped : (m : ℕ) → stopped_behind m ≡ all_back n → ⊥
  not_stopped m e = let z : ◌≡◌ {A = ℕ} 18 0 = ap (λ (x : PutBack). x.number) e in omega arith

  pub done_exactly : (a.answer ≡ all_back n) ↔ LastMatch d journal n n image
  done_exactly = (λ e. go e (ends d journal n image), λ l. ap (λ x. x.answer) (all_answer l))
    where
      go : a.answer ≡ all_back n → LastMatch d journal n n image ⊎ ((m : ℕ) × StopsAt d journal n m image) → LastMatch d journal n n image
      go e (inl l) = l
      go e (inr s) = absurd (not_stopped s.0 (sym (ap (λ x. x.answer) (stopped_answer s.0 s.1)) ∙ e))

  pub stopped_exactly : (m : ℕ) → (a.answer ≡ stopped_behind m) ↔ StopsAt d journal n m image
  stopped_exactly m = (λ e. go e (ends d journal n image), λ s. ap (λ x. x.answer) (stopped_answer m s))
    where
      go : a.answer ≡ stopped_behind m → LastMatch d journal n n image ⊎ ((k : ℕ) × StopsAt d journal n k image)
          → StopsAt d journal n m image
      go e (inl l) = absurd (not_stopped m (sym e ∙ ap (λ x. x.answer) (all_answer l)))
      go e (inr s) =
          let same = ap (λ (x : PutBack). x.count) (sym (ap (λ x. x.answer) (stopped_answer s.0 s.1)) ∙ e) in
          subst (λ k. StopsAt d journal n k image) same s.1

  pub one_of_two : (a.answer ≡ all_back n) ⊎ ((m : ℕ) × (a.answer ≡ stopped_behind m))
  one_of_two = go (ends d journal n image)
    where
      go : LastMatch d journal n n image ⊎ ((m : ℕ) × StopsAt d journal n m image)
          → (a.answer ≡ all_back n) ⊎ ((m : ℕ) × (a.answer ≡ stopped_behind m))
      go (inl l) = inl (ap (λ x. x.answer) (all_answer l))
      go (inr s) = inr (s.0, ap (λ x. x.answer) (stopped_answer s.0 s.1))

  -- as many as are told are put back, and each of them matched
  pub told_back : (a.image ≡ last_back d journal n a.answer.count image) × (a.answer.count ≤ n)
      × LastMatch d journal n a.answer.count image
  told_back = go (ends d journal n image)
    where
      by : (m : ℕ) (answer : PutBack) → answer.count ≡ m → a ≡ record { answer = answer; image = last_back d journal n m image } → m ≤ n
          → LastMatch d journal n m image
          → (a.image ≡ last_back d journal n a.answer.count image) × (a.answer.count ≤ n)
          × LastMatch d journal n a.answer.count image
      by m answer c e h l =
          let k : a.answer.count ≡ m = ap (λ (x : Returned). x.answer.count) e ∙ c in (
            ap (λ (x : Returned). x.image) e ∙ ap (λ i. last_back d journal n i image) (sym k),
            omega (arith, k),
            subst (λ i. LastMatch d journal n i image) (sym k) l,
          )

      go : LastMatch d journal n n image ⊎ ((m : ℕ) × StopsAt d journal n m image)
          → (a.image ≡ last_back d journal n a.answer.count image) × (a.answer.count ≤ n)
          × LastMatch d journal n a.answer.count image
      go (inl l) = by n (all_back n) refl (all_answer l) (omega arith) l
      go (inr s) = let h = s.1.some in by s.0 (stopped_behind s.0) refl (stopped_answer s.0 s.1) (omega arith) s.1.behind

-- ---- what is left as it was

module _ (d : ℕ) (journal : List ℕ) (n : ℕ) (image : List ℕ) (counted : n ≤ room_in d journal) where
  abbrev size : ℕ
  size = record_size d

  -- the bytes as read of an entry in use are a record's
  read_length : (m : ℕ) → m < n → length (from_last d journal n m).before ≡ size
  read_length m h =
      let bytes = record_at (entry_size d) journal (n - suc m) in
      let fits = fits_less (entry_size d) (length journal) n (n - suc m) (whole-fits (entry_size d) (length journal) n counted) (omega arith) in
      part_length head_size size bytes (omega (arith, record_length (entry_size d) journal (n - suc m) fits))

  module _ (m : ℕ) (h : m < n) (matches-there : Matches d (from_last d journal n m) (last_back d journal n m image)) where
    abbrev here : List ℕ
    here = last_back d journal n m image

    abbrev e : Entry
    e = from_last d journal n m

    fits : suc e.number * size ≤ length here
    fits = whole-fits size (length here) (suc e.number) matches-there.inside

    next-length : length (undone d e here) ≡ length here
    next-length = length_put size here e.number e.before fits (read_length m h)

    next-others : (i : ℕ) → i ≢ e.number → record_at size (undone d e here) i ≡ record_at size here i
    next-others i apart = others_stay size here e.number e.before fits (read_length m h) i apart

  pub length_stays : (m : ℕ) → m ≤ n → LastMatch d journal n m image → length (last_back d journal n m image) ≡ length image
  unfolding last_back
  length_stays zero h l = refl
  length_stays (suc m) h l = next-length m h (l m (omega arith)) ∙ length_stays m (omega arith) (λ i v. l i (omega arith))

  pub unnamed_stay : (m : ℕ) → m ≤ n → LastMatch d journal n m image → (i : ℕ)
      → ((k : ℕ) → k < m → (from_last d journal n k).number ≢ i) → record_at size (last_back d journal n m image) i ≡ record_at size image i
  unfolding last_back
  unnamed_stay zero h l i apart = refl
  unnamed_stay (suc m) h l i apart =
      next-others m h (l m (omega arith)) i (λ z. apart m (omega arith) (sym z))
      ∙ unnamed_stay m (omega arith) (λ k v. l k (omega arith)) i (λ k v. apart k (omega arith))
