-- The maker's answer in plain numbers: 1, 2, 15 and 0 exactly, what a refusal hands back, and a code written out. Assumes nothing.
use mathlib.Core.Path.{◌≡◌, refl}
use mathlib.Core.Bool.{false, or-true}
use mathlib.Core.Logic.{◌⊎◌, ◌↔◌, inl, inr, ⊎_elim}
use mathlib.Core.List.{◌∷◌}
use Prim.Native.Nat.{ℕ, suc, ◌-◌, ◌^◌, ◌≤◌, ◌<◌}
use native.Mathlib.Omega.{arith}
use borrow.Author.Tests.{eq-eqb, ne_eqb, lt-ltb, le-ltb}
use lib.Count.{ones, ones_in}
use lib.Dec.{eqb, ltb}
use lib.ListN.{replicate}
use Rattle.parity.proofs.Ones.{below_or_not}
use Rattle.judge.specs.Rule.{Sized, Limits}
use Rattle.order.specs.Order.{passing_from, by_ones}
use Rattle.make.specs.Made.{make_number, making_by}

-- the ends of k and r, and of the room, written out
pub ends :
    (make_number 64 0 5 ≡ 1) × (make_number 64 65 2 ≡ 1)
    × (make_number 64 64 2 ≡ 2) × (make_number 64 64 17 ≡ 2)
    × (make_number 64 2 3 ≡ 15) × (make_number 64 12 5 ≡ 15) × (make_number 64 58 7 ≡ 15)
    × (make_number 64 1 3 ≡ 0) × (make_number 64 11 5 ≡ 0) × (make_number 64 57 7 ≡ 0) × (make_number 64 64 16 ≡ 0)
unfolding make_number
ends = (refl, refl, refl, refl, refl, refl, refl, refl, refl, refl, refl)

pub wide_ends :
    (make_number 128 129 9 ≡ 1) × (make_number 128 121 8 ≡ 15) × (make_number 128 120 8 ≡ 0) × (make_number 128 128 9 ≡ 0)
unfolding make_number
wide_ends = (refl, refl, refl, refl)

module _ (most k r : ℕ) where
  pub no_data : (k ≡ 0) ⊎ (most < k) → make_number most k r ≡ 1
  unfolding make_number
  no_data = ⊎_elim (λ e. rw (eq-eqb k 0 e)) (λ h. rw (lt-ltb most k h, or-true (eqb k 0)))

  module _ (sized : Sized most k) where
    pub no-checks : (r < 3) ⊎ (16 < r) → make_number most k r ≡ 2
    unfolding make_number
    no-checks =
        let some = sized.some in
        let few = le-ltb most k sized.few in
        let not_none = ne_eqb k 0 (λ e. omega arith) in
        ⊎_elim (λ h. rw (not_none, few, lt-ltb r 3 h)) (λ h. rw (not_none, few, lt-ltb 16 r h, or-true (ltb r 3)))

  module _ (limits : Limits most k r) where
    not_none : eqb k 0 ≡ false
    not_none = let some = limits.sized.some in ne_eqb k 0 (λ e. omega arith)

    -- 15 where k is over 2 ^ (r - 1) - r, and 0 where it is not
    pub no_room : 2 ^ (r - 1) - r < k → make_number most k r ≡ 15
    unfolding make_number
    no_room h =
        rw (
          not_none,
          le-ltb most k limits.sized.few,
          le-ltb r 3 limits.least,
          le-ltb 16 r limits.top,
          lt-ltb (2 ^ (r - 1) - r) k h,
        )

    pub has_room : k ≤ 2 ^ (r - 1) - r → make_number most k r ≡ 0
    unfolding make_number
    has_room h =
        rw (
          not_none,
          le-ltb most k limits.sized.few,
          le-ltb r 3 limits.least,
          le-ltb 16 r limits.top,
          le-ltb (2 ^ (r - 1) - r) k h,
        )

  -- one of the four holds
  cases : {P : Type 0} → ((k ≡ 0) ⊎ (most < k) → P) → (Sized most k × ((r < 3) ⊎ (16 < r)) → P)
      → (Limits most k r × (2 ^ (r - 1) - r < k) → P) → (Limits most k r × (k ≤ 2 ^ (r - 1) - r) → P) → P
  cases one two fifteen done =
      ⊎_elim (λ (h : k < 1). one (inl (omega arith)))
      (λ (some : 1 ≤ k). ⊎_elim (λ (h : most < k). one (inr h))
      (λ (few : k ≤ most). let sized : Sized most k = record { some = some; few = few } in
      ⊎_elim (λ (h : r < 3). two (sized, inl h))
      (λ (least : 3 ≤ r). ⊎_elim (λ (h : 16 < r). two (sized, inr h))
      (λ (top : r ≤ 16). let limits : Limits most k r = record { sized = sized; least = least; top = top } in
      ⊎_elim (λ (h : 2 ^ (r - 1) - r < k). fifteen (limits, h)) (λ (h : k ≤ 2 ^ (r - 1) - r). done (limits, h))
      (below_or_not (2 ^ (r - 1) - r) k))
      (below_or_not 16 r))
      (below_or_not r 3))
      (below_or_not most k))
      (below_or_not k 1)

  -- each number exactly
  pub one_exactly : (make_number most k r ≡ 1) ↔ ((k ≡ 0) ⊎ (most < k))
  one_exactly = (
    λ e.
        cases (λ h. h) (λ t. absurd (omega (arith, e, no-checks t.0 t.1))) (λ t. absurd (omega (arith, e, no_room t.0 t.1)))
        (λ t. absurd (omega (arith, e, has_room t.0 t.1))),
    no_data,
  )

  pub two_exactly : (make_number most k r ≡ 2) ↔ (Sized most k × ((r < 3) ⊎ (16 < r)))
  two_exactly = (
    λ e.
        cases (λ h. absurd (omega (arith, e, no_data h))) (λ t. t) (λ t. absurd (omega (arith, e, no_room t.0 t.1)))
        (λ t. absurd (omega (arith, e, has_room t.0 t.1))),
    λ t. no-checks t.0 t.1,
  )

  pub fifteen_exactly : (make_number most k r ≡ 15) ↔ (Limits most k r × (2 ^ (r - 1) - r < k))
  fifteen_exactly = (
    λ e.
        cases (λ h. absurd (omega (arith, e, no_data h))) (λ t. absurd (omega (arith, e, no-checks t.0 t.1))) (λ t. t)
        (λ t. absurd (omega (arith, e, has_room t.0 t.1))),
    λ t. no_room t.0 t.1,
  )

  pub done_exactly : (make_number most k r ≡ 0) ↔ (Limits most k r × (k ≤ 2 ^ (r - 1) - r))
  done_exactly = (
    λ e.
        cases (λ h. absurd (omega (arith, e, no_data h))) (λ t. absurd (omega (arith, e, no-checks t.0 t.1)))
        (λ t. absurd (omega (arith, e, no_room t.0 t.1))) (λ t. t),
    λ t. has_room t.0 t.1,
  )

-- ---- written out

-- a refusal hands back a code of k 0, r 0 and zeros
pub refused-code : (n k r : ℕ) → making_by (suc n) k r ≡ record { number = suc n; code = record { columns = replicate 64 0; k = 0; r = 0 } }
refused-code n k r = refl

-- the places of a code of eight columns of five rows
pub eight_of_five :
    making_by 0 8 5
    ≡ record {
      number = 0;
      code = record { columns = 7 ∷ 11 ∷ 13 ∷ 14 ∷ 19 ∷ 21 ∷ 22 ∷ 25 ∷ replicate 56 0; k = 8; r = 5 };
    }
unfolding by_ones passing_from ones ones_in
eight_of_five = refl
