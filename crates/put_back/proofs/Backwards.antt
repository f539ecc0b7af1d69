-- One entry more: it is put back, or the put-back stops there. Assumes nothing.
use mathlib.Core.Bool.{true≢false}
use Rattle.std.proofs.Common.{◌≡◌, Bool, true, false, cond, List, ℕ, suc, ◌-◌, ◌≤◌, ◌<◌, refl, sym, ap, ◌∙◌, arith}
use Rattle.std.specs.Prelude.{Option, Some, None, is_some, unwrap_or}
use Rattle.record.specs.Layout.{Entry}
use Rattle.record.specs.Journal.{entry_at}
use Rattle.entry_back.specs.Entry.{matches, undone, step_of, stepped_image}
use Rattle.put_back.specs.Back.{back_from}

module _ (d : ℕ) (journal : List ℕ) (n c : ℕ) (image : List ℕ) where
  pub back_step : matches d (entry_at d journal n) image ≡ true
      → back_from d journal (suc n) c image ≡ back_from d journal n (suc c) (undone d (entry_at d journal n) image)
  unfolding back_from
  back_step h = rw h

  pub back-stop : matches d (entry_at d journal n) image ≡ false
      → back_from d journal (suc n) c image ≡ record { image = image; count = c; stopped = true }
  unfolding back_from
  back-stop h = rw h

-- the reader's step from a place behind which `used - place` others are put back: what it found, where it led to, and what it left
module _ (d used place : ℕ) (journal image : List ℕ) (some : 0 < place) (within : place ≤ used) (lent : List ℕ) (same : lent ≡ journal) where
  abbrev e : Entry
  e = entry_at d journal (place - 1)

  whole : back_from d journal place (used - place) image ≡ back_from d journal (suc (place - 1)) (used - place) image
  whole =
      let top : place ≡ suc (place - 1) = omega arith in
      ap (λ n. back_from d journal n (used - place) image) top

  module _ (found : Option ℕ) (told : found ≡ step_of d lent place image) (next : ℕ) (led : next ≡ unwrap_or found place)
      (after : List ℕ) (left : after ≡ stepped_image d lent place image) where
    tested : (b : Bool) → matches d e image ≡ b
        → (found ≡ cond b (Some (place - 1)) None) × (after ≡ cond b (undone d e image) image)
    tested b m = (
      told ∙ ap (λ j. step_of d j place image) same ∙ ap (λ z. cond z (Some (place - 1)) None) m,
      left ∙ ap (λ j. stepped_image d j place image) same ∙ ap (λ z. cond z (undone d e image) image) m,
    )

    -- where it found one, what is left to put back gives what it gave
    pub went : is_some found ≡ true
        → (next < place) × (back_from d journal next (used - next) after ≡ back_from d journal place (used - place) image)
    went h = go (matches d e image) refl
      where
        go : (b : Bool) → matches d e image ≡ b
            → (next < place) × (back_from d journal next (used - next) after ≡ back_from d journal place (used - place) image)
        go true m =
            let t = tested true m in
            let n : next ≡ place - 1 = led ∙ ap (λ f. unwrap_or f place) t.0 in
            let count : used - next ≡ suc (used - place) = omega arith in (
              omega arith,
              (λ i. back_from d journal (n i) (count i) (t.1 i))
                  ∙ sym (whole ∙ back_step d journal (place - 1) (used - place) image m),
            )
        go false m = absurd (true≢false (sym h ∙ ap is_some (tested false m).0))

    -- and where it did not, the put-back ends there
    pub stood : is_some found ≡ false
        → back_from d journal place (used - place) image ≡ record { image = after; count = used - next; stopped = true }
    stood h = go (matches d e image) refl
      where
        go : (b : Bool) → matches d e image ≡ b
            → back_from d journal place (used - place) image ≡ record { image = after; count = used - next; stopped = true }
        go true m = absurd (true≢false (sym (ap is_some (tested true m).0) ∙ h))
        go false m =
            let t = tested false m in
            let n : next ≡ place = led ∙ ap (λ f. unwrap_or f place) t.0 in
            whole ∙ back-stop d journal (place - 1) (used - place) image m
            ∙ (λ i. record { image = sym t.1 i; count = used - sym n i; stopped = true })
