-- THE PROMISE OF THE PUT-BACK: after any passes from an empty journal, done or refused, each under its own code and told the true count in
-- use, putting all entries back restores the first image. Assumes nothing.
use mathlib.Core.Path.{◌≡◌, refl, sym, ap, subst, ◌∙◌}
use mathlib.Core.Bool.{true, false}
use mathlib.Core.Logic.{◌⊎◌, inl, inr}
use mathlib.Core.List.{List, [], ◌∷◌}
use Prim.Native.Nat.{ℕ, ◌+◌, ◌/◌, ◌%◌, ◌≤◌, ◌<◌}
use native.Mathlib.Nat.{zero-add}
use native.Mathlib.Omega.{arith}
use lib.ListN.{length}
use Rattle.parity.proofs.Ones.{below_or_not}
use Rattle.record.specs.Layout.{record_size, entry_size, image_limit}
use Rattle.code.specs.declared.Opened.{Opened}
use Rattle.asked.specs.declared.Pass.{Pass}
use Rattle.asked.specs.Pass.{State, no_image, room_in}
use Rattle.asked.specs.Asked.{Image}
use Rattle.asked.proofs.Cases.{not_one, an_image}
use Rattle.passes.specs.Twice.{state_after, Step, steps_after}
use Rattle.passes.proofs.Rows.{Ended, ended}
use Rattle.passes.proofs.Facts.{asked, in_use_after, length_image, length_journal}
use Rattle.passes.proofs.Alike.{same_image}
use Rattle.passes.proofs.Stamps.{Known, refused_stays, used-after}
use Rattle.put_back.specs.Back.{back_from, returned_by, put_back_of}
use Rattle.put_back.proofs.Answers.{back_none, back-all}
use Rattle.history.proofs.Undone.{AllKnown, steps_restore}

-- ---- what stays within its bounds

-- image and journal keep their lengths, and the count in use lies within the room
pub record Within (d : ℕ) (s t : State) : Type 0 where
  pub image_long : length t.image ≡ length s.image
  pub counted : t.used ≤ room_in d t.journal
  pub journal_long : length t.journal ≡ length s.journal

step-within : (o : Opened) (d : ℕ) (p : Pass) (s : State) → Known o → s.used ≤ room_in d s.journal → Within d s (state_after o d p s)
step-within o d p s known counted = go (ended o d p s)
  where
    kept : state_after o d p s ≡ s → Within d s (state_after o d p s)
    kept e = subst (Within d s) (sym e) (record { image_long = refl; counted = counted; journal_long = refl })

    go : Ended o d p s → Within d s (state_after o d p s)
    go (Ended.by_code g e h) = kept (refused_stays o d p s g.number g.told (known g e) h)
    go (Ended.refused number told n h) = kept (refused_stays o d p s number told (λ z. omega arith) h)
    go (Ended.finished e h) =
        let zero-told = ap (λ x. x.answer.number) h in
        let long = length_journal o d p s e zero-told in
        record {
          image_long = length_image o d p s e zero-told;
          counted = omega (arith, used-after o d p s e zero-told, in_use_after o d p s e zero-told, ap (λ n. n / entry_size d) long);
          journal_long = long;
        }

pub steps_within : (d : ℕ) (xs : List Step) (s : State) → AllKnown xs → s.used ≤ room_in d s.journal → Within d s (steps_after d xs s)
unfolding steps_after AllKnown
steps_within d [] s k counted = record { image_long = refl; counted = counted; journal_long = refl }
steps_within d (x ∷ xs) s k counted =
    let first = step-within x.under d x.pass s k.0 counted in
    let rest = steps_within d xs (state_after x.under d x.pass s) k.1 first.counted in
    record {
      image_long = rest.image_long ∙ first.image_long;
      counted = rest.counted;
      journal_long = rest.journal_long ∙ first.journal_long;
    }

-- over bytes that are no image every pass is refused
step_stays : (o : Opened) (d : ℕ) (p : Pass) (s : State) → Known o → ¬ (Image d s.image) → state_after o d p s ≡ s
step_stays o d p s known none = go (ended o d p s)
  where
    go : Ended o d p s → state_after o d p s ≡ s
    go (Ended.by_code g e h) = refused_stays o d p s g.number g.told (known g e) h
    go (Ended.refused number told n h) = refused_stays o d p s number told (λ z. omega arith) h
    go (Ended.finished e h) = absurd (none (asked o d p s e (ap (λ x. x.answer.number) h)).records)

steps_stay : (d : ℕ) (xs : List Step) (s : State) → AllKnown xs → ¬ (Image d s.image) → steps_after d xs s ≡ s
unfolding steps_after AllKnown
steps_stay d [] s k none = refl
steps_stay d (x ∷ xs) s k none =
    ap (steps_after d xs) (step_stays x.under d x.pass s k.0 none) ∙ steps_stay d xs s k.1 none

-- the test for an image says which it is
data Told (d : ℕ) (image : List ℕ) : Type 0 where
  whole : Image d image → Told d image
  none : ¬ (Image d image) → no_image d image ≡ true → Told d image

told : (d : ℕ) (image : List ℕ) → Told d image
told d image = by_length (below_or_not (image_limit d) (length image)) (below_or_not 0 (length image % record_size d))
  where
    by_length : (image_limit d < length image) ⊎ (length image ≤ image_limit d)
        → (0 < length image % record_size d) ⊎ (length image % record_size d ≤ 0) → Told d image
    by_length (inl h) m = none (λ i. omega (arith, i.short)) (not_one d image (inr h))
    by_length (inr h) (inl m) = none (λ i. omega (arith, i.whole)) (not_one d image (inl (λ e. omega arith)))
    by_length (inr h) (inr m) = whole (record { whole = omega arith; short = h })

-- ---- THE PROMISE, from an empty journal

module _ (d : ℕ) (xs : List Step) (s : State) (known : AllKnown xs) (empty : s.used ≡ 0) where
  abbrev t : State
  t = steps_after d xs s

  -- all entries in use are put back
  all_back_lem : back_from d t.journal t.used 0 t.image ≡ record { image = s.image; count = t.used; stopped = false }
  unfolding back_from
  all_back_lem =
      steps_restore d xs s s.image known
      (λ c. ap (λ k. back_from d s.journal k c s.image) empty
      ∙ ap (λ k. record { image = s.image; count = k; stopped = false }) (start c)) 0
      ∙ ap (λ k. record { image = s.image; count = k; stopped = false }) (zero-add t.used)
    where
      start : (c : ℕ) → c ≡ c + s.used
      start c = omega (arith, empty)

  bounded : Within d s t
  bounded = steps_within d xs s known (omega (arith, empty))

  whole_back : Image d s.image
      → put_back_of d t.image t.journal t.used ≡ record { answer = record { number = 0; told = 0; count = t.used }; image = s.image }
  whole_back i =
      let long = bounded.image_long in
      back-all d t.image t.journal t.used (an_image d t.image (same_image d s.image t.image long i)) bounded.counted
      ∙ ap returned_by all_back_lem

  -- the first image is restored; where it was one, all entries in use are put back
  pub restored : ((put_back_of d t.image t.journal t.used).image ≡ s.image)
      × (Image d s.image → (put_back_of d t.image t.journal t.used).answer ≡ record { number = 0; told = 0; count = t.used })
  restored = go (told d s.image)
    where
      go : Told d s.image → ((put_back_of d t.image t.journal t.used).image ≡ s.image)
          × (Image d s.image → (put_back_of d t.image t.journal t.used).answer ≡ record { number = 0; told = 0; count = t.used })
      go (Told.whole i) = (ap (λ r. r.image) (whole_back i), λ i. ap (λ r. r.answer) (whole_back i))
      go (Told.none n same) =
          let e = steps_stay d xs s known n in (
            ap (λ u. (put_back_of d u.image u.journal u.used).image) e ∙ ap (λ r. r.image) (back_none d s.image s.journal s.used same),
            λ i. absurd (n i),
          )
