-- The promises on the maker, proved from the layers' laws. Assumes nothing.
use mathlib.Core.Path.{◌≡◌, refl, sym, ap, subst, ◌∙◌}
use mathlib.Core.Logic.{◌↔◌}
use Prim.Native.Nat.{ℕ, zero, suc, ◌-◌, ◌^◌, ◌≤◌}
use native.Mathlib.Omega.{arith}
use Rattle.judge.specs.Rule.{Limits}
use Rattle.code.specs.Opened.{standing_of, judgement_by}
use Rattle.wanted.specs.declared.CheckBits.{CheckBits}
use Rattle.wanted.proofs.Bands.{wanted-inside}
use Rattle.balance.specs.Balance.{all_ones}
use Rattle.order.specs.Order.{made_columns}
use Rattle.make.specs.Made.{padded_to, make_number, making_in}
use Rattle.make.proofs.Exactly.{one_exactly, two_exactly, fifteen_exactly, done_exactly}
use Rattle.least.proofs.Codes.{made_places, made_front, made_past, made_accepted, made_stored, made_before, none_left_out, accepted-room, made_least}
use Rattle.least.proofs.Wanted.{no_room_below}
use Rattle.editions.specs.Given.{Edition, Known, HsiaoCode, given, matrix_of, MadeCode, made_with, made_of, CodeOf, IsMade, no_code}
use Rattle.editions.specs.Promises as promises
use Rattle.editions.proofs.Codes.{judgement_is, limits_of}
use Rattle.editions.proofs.Hsiao.{judged_of}

module _ (e : Edition) where
  -- the answer's number is the one of the table
  number_by : (n k r : ℕ) → (making_in (made_with e) e.places n k r).number ≡ n
  number_by zero k r = refl
  number_by (suc n) k r = refl

  -- the code that is made
  abbrev made_code : ℕ → ℕ → HsiaoCode
  made_code k r = record { edition = e; columns = padded_to e.places (made_columns k r); k = k; r = r }

  module _ (k r : ℕ) where
    number_is : (made_of e k r).number ≡ make_number e.places k r
    number_is = number_by (make_number e.places k r) k r

    -- a refusal is known by its number
    refused-by : (n : ℕ) → (made_of e k r ≡ no_code e (suc n)) ↔ (make_number e.places k r ≡ suc n)
    refused-by n = (
      λ f. sym number_is ∙ ap (λ (m : MadeCode). m.number) f,
      λ f. ap (λ (m : ℕ). making_in (made_with e) e.places m k r) f,
    )

    -- what is made
    module _ (f : IsMade e k r) where
      room_of : Limits e.places k r × (k ≤ 2 ^ (r - 1) - r)
      room_of = (done_exactly e.places k r).0 (sym number_is ∙ f)

      made_is : made_of e k r ≡ record { number = 0; code = made_code k r }
      made_is = ap (λ (n : ℕ). making_in (made_with e) e.places n k r) (sym number_is ∙ f)

      -- a fact of the code that is made, of the answer
      of_made : (P : HsiaoCode → Type 0) → P (made_code k r) → P (made_of e k r).code
      of_made P p = subst (λ (m : MadeCode). P m.code) (sym made_is) p

chained : {A B C : Type 0} → A ↔ B → B ↔ C → A ↔ C
chained f g = (λ a. g.0 (f.0 a), λ c. f.1 (g.1 c))

pub making_exactly : (e : Edition) → promises.MakingExactly e
making_exactly e k r = (
  chained (refused-by e k r 0) (one_exactly e.places k r),
  chained (refused-by e k r 1) (two_exactly e.places k r),
  chained (refused-by e k r 14) (fifteen_exactly e.places k r),
  (λ f. room_of e k r f, λ t. number_is e k r ∙ (done_exactly e.places k r).1 t),
)

-- what is made exists
pub made_exists : (e : Edition) → Known e → (k r : ℕ) → Limits e.places k r → k ≤ 2 ^ (r - 1) - r → CodeOf e k r
made_exists e known k r limits room = record {
  columns = padded_to e.places (made_columns k r);
  stored = made_stored e.places k r limits room;
  accepted = record {
    handed = record { places = made_places e.places k r limits room; known = known };
    number =
        ap (λ f. f.number) (judgement_is (given (made_code e k r)))
        ∙ ap (λ v. (judgement_by (standing_of v)).number) (made_accepted e.places k r limits room);
  };
}

pub made_accepted_code : (e : Edition) → Known e → promises.MadeAccepted e
unfolding made_exists
made_accepted_code e known k r f =
    let t = room_of e k r f in
    let c = made_exists e known k r t.0 t.1 in
    of_made e k r f (λ (code : HsiaoCode). promises.MadeFor code k r)
    (c.accepted, c.stored, refl, refl, made_past e.places k r t.0 t.1)

pub made_in_order : (e : Edition) → promises.MadeInOrder e
made_in_order e k r f =
    let t = room_of e k r f in
    of_made e k r f (λ (code : HsiaoCode). promises.Ordered code.columns k r) (
      made_before e.places k r t.0 t.1,
      λ x h o m. none_left_out e.places k r t.0 t.1 x (record { below = h; odd = o; many = m }),
    )

pub made_least_code : (code : HsiaoCode) → promises.MadeLeast code
made_least_code code a =
    let e = code.edition in
    let k = code.k in
    let r = code.r in
    let judged = judged_of code a.number in
    let limits = limits_of (given code) a in
    let room = accepted-room e.places code.columns k r a.handed.places judged in
    let f = (making_exactly e k r).3.1 (limits, room) in (
      f,
      of_made e k r f (λ (made : HsiaoCode). all_ones (matrix_of (given made)) ≤ all_ones (matrix_of (given code)))
          (rw (made_front e.places k r limits room) (made_least e.places code.columns k r a.handed.places judged)),
    )

pub making_wanted : (e : Edition) → Known e → promises.MakingWanted e
making_wanted e known k r limits =
    let few = limits.sized.few in
    let x = no_room_below k r limits.sized.some (omega (arith, known.most)) limits.least in
    let bits = ap (λ (c : CheckBits). c.bits) (wanted-inside e.places k limits.sized.some few) in (
      λ f. rw bits (x.0 ((fifteen_exactly e.places k r).0 (sym (number_is e k r) ∙ f)).1),
      λ h. number_is e k r ∙ (fifteen_exactly e.places k r).1 (limits, x.1 (rw bits at h)),
    )
