-- Which row of "When the desk says no" refuses a pass before its records are looked at, from what its tests say. Assumes nothing.
use mathlib.Core.Path.{◌≡◌}
use mathlib.Core.Bool.{true, false, or-true, and-false}
use mathlib.Core.List.{List}
use mathlib.Core.Logic.{◌⊎◌, inl, inr, ⊎_elim}
use Prim.Native.Nat.{ℕ, ◌%◌, ◌≤◌, ◌<◌}
use native.Mathlib.Omega.{arith}
use borrow.Author.Tests.{eq-eqb, ne_eqb, lt-ltb, le-ltb}
use lib.ListN.{length}
use Rattle.parity.proofs.Ones.{below_or_not}
use Rattle.record.specs.Layout.{record_size, image_limit, records_in}
use Rattle.asked.specs.declared.Pass.{Pass}
use Rattle.asked.specs.Pass.{State, no_image, room_in, last_stamp, wrong_in}
use Rattle.asked.specs.Asked.{Image, NoImage, Run, NoRun, GoesBack, Askable}

-- ---- bytes that are an image, and bytes that are none

module _ (d : ℕ) (image : List ℕ) where
  pub not_one : NoImage d image → no_image d image ≡ true
  not_one (inl n) = simp (ne_eqb _ _ n, or-true)
  not_one (inr h) = simp (lt-ltb _ _ h)

  pub an_image : Image d image → no_image d image ≡ false
  an_image i = simp (le-ltb _ _ i.short, eq-eqb _ _ i.whole)

-- ---- the number that refuses a pass before its records are looked at

module _ (d : ℕ) (p : Pass) (s : State) where
  pub none_lent : no_image d s.image ≡ true → wrong_in d p s ≡ 12
  unfolding wrong_in
  none_lent h = rw h

  module _ (i : no_image d s.image ≡ false) where
    pub turned_round : p.end < p.start → wrong_in d p s ≡ 14
    unfolding wrong_in
    turned_round t = rw i (simp (lt-ltb _ _ t))

    pub past : records_in d s.image < p.end → wrong_in d p s ≡ 14
    unfolding wrong_in
    past u = rw i (simp (lt-ltb _ _ u, or-true))

    module _ (t : p.start ≤ p.end) (u : p.end ≤ records_in d s.image) where
      pub over-used : room_in d s.journal < s.used → wrong_in d p s ≡ 17
      unfolding wrong_in
      over-used v = rw i (simp (le-ltb _ _ t, le-ltb _ _ u, lt-ltb _ _ v))

      module _ (v : s.used ≤ room_in d s.journal) where
        pub back : 0 < s.used → p.stamp < last_stamp d s.journal s.used → wrong_in d p s ≡ 16
        unfolding wrong_in
        back x y = rw i (simp (le-ltb _ _ t, le-ltb _ _ u, le-ltb _ _ v, lt-ltb _ _ x, lt-ltb _ _ y))

        pub none-used : s.used ≤ 0 → wrong_in d p s ≡ 0
        unfolding wrong_in
        none-used x = rw i (simp (le-ltb _ _ t, le-ltb _ _ u, le-ltb _ _ v, le-ltb _ _ x))

        pub on : last_stamp d s.journal s.used ≤ p.stamp → wrong_in d p s ≡ 0
        unfolding wrong_in
        on y = rw i (simp (le-ltb _ _ t, le-ltb _ _ u, le-ltb _ _ v, le-ltb _ _ y, and-false))

  pub wrong_12 : NoImage d s.image → wrong_in d p s ≡ 12
  wrong_12 h = none_lent (not_one d s.image h)

  module _ (i : Image d s.image) where
    pub wrong-14 : NoRun d s.image p.start p.end → wrong_in d p s ≡ 14
    wrong-14 h = ⊎_elim (turned_round (an_image d s.image i)) (past (an_image d s.image i)) h

    module _ (r : Run d s.image p.start p.end) where
      pub wrong-17 : room_in d s.journal < s.used → wrong_in d p s ≡ 17
      wrong-17 h = over-used (an_image d s.image i) r.rising r.within h

      pub wrong-16 : s.used ≤ room_in d s.journal → GoesBack d p.stamp s.journal s.used → wrong_in d p s ≡ 16
      wrong-16 h g = back (an_image d s.image i) r.rising r.within h g.some g.below

  pub wrong_none : Askable d p s → wrong_in d p s ≡ 0
  wrong_none q =
      let i = q.records in
      let r = q.run in
      ⊎_elim (λ (z : s.used ≡ 0). none-used (an_image d s.image i) r.rising r.within q.counted (omega arith))
      (on (an_image d s.image i) r.rising r.within q.counted) q.goes_on

-- ---- one of the rows holds

pub data Wrong (d : ℕ) (p : Pass) (s : State) : Type 0 where
  no-image : NoImage d s.image → Wrong d p s
  no_run : Image d s.image → NoRun d s.image p.start p.end → Wrong d p s
  too_many : Image d s.image → Run d s.image p.start p.end → room_in d s.journal < s.used → Wrong d p s
  goes_back : Image d s.image → Run d s.image p.start p.end → s.used ≤ room_in d s.journal
      → GoesBack d p.stamp s.journal s.used → Wrong d p s
  none : Askable d p s → Wrong d p s

module _ (d : ℕ) (p : Pass) (s : State) where
  stamp_row : Image d s.image → Run d s.image p.start p.end → s.used ≤ room_in d s.journal
      → (0 < s.used) ⊎ (s.used ≤ 0)
      → (p.stamp < last_stamp d s.journal s.used) ⊎ (last_stamp d s.journal s.used ≤ p.stamp) → Wrong d p s
  stamp_row i r n (inr z) y = none (record { records = i; run = r; counted = n; goes_on = inl (omega arith) })
  stamp_row i r n (inl x) (inl y) = goes_back i r n (record { some = x; below = y })
  stamp_row i r n (inl x) (inr y) = none (record { records = i; run = r; counted = n; goes_on = inr y })

  used_row : Image d s.image → Run d s.image p.start p.end
      → (room_in d s.journal < s.used) ⊎ (s.used ≤ room_in d s.journal) → Wrong d p s
  used_row i r (inl h) = too_many i r h
  used_row i r (inr h) = stamp_row i r h (below_or_not 0 s.used) (below_or_not p.stamp (last_stamp d s.journal s.used))

  run_row : Image d s.image → (p.end < p.start) ⊎ (p.start ≤ p.end)
      → (records_in d s.image < p.end) ⊎ (p.end ≤ records_in d s.image) → Wrong d p s
  run_row i (inl h) u = no_run i (inl h)
  run_row i (inr h) (inl u) = no_run i (inr u)
  run_row i (inr h) (inr u) = used_row i (record { rising = h; within = u }) (below_or_not (room_in d s.journal) s.used)

  image_row : (image_limit d < length s.image) ⊎ (length s.image ≤ image_limit d)
      → (0 < length s.image % record_size d) ⊎ (length s.image % record_size d ≤ 0) → Wrong d p s
  image_row (inl h) m = no-image (inr h)
  image_row (inr h) (inl m) = no-image (inl (λ e. omega arith))
  image_row (inr h) (inr m) =
      run_row (record { whole = omega arith; short = h }) (below_or_not p.end p.start) (below_or_not (records_in d s.image) p.end)

  pub wrong_row : Wrong d p s
  wrong_row = image_row (below_or_not (image_limit d) (length s.image)) (below_or_not 0 (length s.image % record_size d))

  -- a pass that none of them refuses
  pub right_askable : wrong_in d p s ≡ 0 → Askable d p s
  right_askable z = go wrong_row
    where
      go : Wrong d p s → Askable d p s
      go (no-image h) = absurd (omega (arith, wrong_12 d p s h, z))
      go (no_run i h) = absurd (omega (arith, wrong-14 d p s i h, z))
      go (too_many i r h) = absurd (omega (arith, wrong-17 d p s i r h, z))
      go (goes_back i r n h) = absurd (omega (arith, wrong-16 d p s i r n h, z))
      go (none q) = q
