-- The promises on the card check, proved from the layers' laws. Assumes nothing.
use mathlib.Core.Path.{◌≡◌, ap, ◌∙◌}
use mathlib.Core.Logic.{◌⊎◌, inl, inr, ⊎_elim}
use mathlib.Core.List.{List}
use Prim.Native.Nat.{ℕ, ◌+◌, ◌-◌, ◌*◌, ◌^◌, ◌≤◌, ◌<◌}
use native.Mathlib.Omega.{arith}
use lib.ListN.{length, take, drop}
use Rattle.parity.specs.Odd.{odd_in}
use Rattle.parity.proofs.Ones.{below_or_not}
use Rattle.verdict.specs.declared.Verdict.TheVariants.{Even, Odd}
use Rattle.card_check.specs.declared.CardCheck.{CardCheck}
use Rattle.cards.specs.Cards.{cards_in, card_at}
use Rattle.cards.specs.Rule.{CardProof, flip_mask}
use Rattle.card_check.specs.Checking.{CardSize}
use Rattle.cards.proofs.Parts.{all_counted, data_card, check_card}
use Rattle.card_check.proofs.Checking.{carded_refused, carded-size, proof-told, weak-told, proof-or-weak}
use Rattle.shields.proofs.Flagged.{card_stays, card_flagged}
use Rattle.mending.proofs.Reading.{data_inside}
use Rattle.editions.specs.Given.{Given, opened, set_of, matrix_of, data_columns, judgement_of, cards_of, Accepted, Unstrayed, cards_for}
use Rattle.editions.specs.Promises as promises
use Rattle.editions.proofs.Codes.{standing-accepted, standing_refused, data_is, columns-are, data_part, places-length, sound_of}
use Rattle.editions.proofs.Words.{answered-as, clean-zero}

sized : {b : ℕ} → 2 ≤ b → b ≤ 8 → CardSize b
sized h l = record { least = h; top = l }

-- ---- which cards a code has

data_within : (code : Given) → Accepted code → code.k ≤ length (matrix_of code)
data_within code a = data_inside (set_of code) (sound_of code a)

pub cards_begin_again : (code : Given) → promises.CardsBeginAgain code
cards_begin_again code b a =
    let k = code.k in
    let cs = matrix_of code in
    let inside = data_within code a in
    let checks : length cs - k ≡ code.r = omega (arith, places-length code a) in
    let front : take k cs ≡ data_columns code = data_part code a in (
      all_counted b k cs inside ∙ ap (λ (n : ℕ). cards_in b k + cards_in b n) checks,
      λ t l. data_card b k cs inside t l ∙ ap (λ (d : List ℕ). record { place = t * b; columns = take b (drop (t * b) d) }) front,
      λ t l. check_card b k cs inside t (rw checks l),
    )

-- ---- the answers

pub cards_refuse : (code : Given) → promises.CardsRefuse code
cards_refuse code b =
    let o = opened code in (
      λ h. carded_refused o b (judgement_of code) (standing_refused code h),
      λ a h. carded-size o b (standing-accepted code a.number) h,
      λ a h l.
          rw (data_is code a.number, columns-are code a.number) at
          (proof-told o b (standing-accepted code a.number) (sized h l)),
      λ a h l card mask.
          rw (data_is code a.number, columns-are code a.number) at
          (weak-told o b (standing-accepted code a.number) (sized h l) card mask),
      λ a h l.
          ⊎_elim
          (λ e. inl (ap (λ (c : CardCheck). c.number) e))
          (λ x. inr (ap (λ (c : CardCheck). c.number) x.2))
          (proof-or-weak o b (standing-accepted code a.number) (sized h l)),
    )

-- ---- card-proof means flagged

module _ (code : Given) (b : ℕ) where
  -- a refusal has another number
  pub proof_accepted : (cards_of code b).number ≡ 0 → (judgement_of code).number ≡ 0
  proof_accepted e =
      ⊎_elim
      (λ (h : (judgement_of code).number < 1). omega arith)
      (λ (h : 1 ≤ (judgement_of code).number).
      let f = ap (λ (c : CardCheck). c.number) ((cards_refuse code b).0 (λ z. omega arith)) in absurd (omega arith))
      (below_or_not (judgement_of code).number 1)

  proof_of : (a : Accepted code) → (cards_of code b).number ≡ 0 → (1 ≤ b) × CardProof (matrix_of code) (cards_for code b)
  proof_of a e =
      let c = cards_refuse code b in
      ⊎_elim
      (λ (h : b < 2). let f = ap (λ (x : CardCheck). x.number) (c.1 a (inl h)) in absurd (omega arith))
      (λ (h : 2 ≤ b).
      ⊎_elim
      (λ (l : 8 < b). let f = ap (λ (x : CardCheck). x.number) (c.1 a (inr l)) in absurd (omega arith))
      (λ (l : b ≤ 8).
      ⊎_elim
      (λ p. (omega arith, (c.2 a h l).0 p))
      (λ x. let f = ap (λ (y : CardCheck). y.number) x.2 in absurd (omega arith))
      (proof-or-weak (opened code) b (standing-accepted code a.number) (sized h l)))
      (over-or-not b))
      (below_or_not b 2)
    where
      over-or-not : (n : ℕ) → (8 < n) ⊎ (n ≤ 8)
      over-or-not n = ⊎_elim (λ (h : n < 9). inr (omega arith)) (λ (h : 9 ≤ n). inl h) (below_or_not n 9)

pub flagged : (code : Given) → promises.CardFlagged code
flagged code b handed e w fits clean t mask inside several =
    let a : Accepted code = record { handed = handed; number = proof_accepted code b e } in
    let cs = matrix_of code in
    let k = code.k in
    let within = data_within code a in
    let proof = proof_of code b a e in
    let u = flip_mask w (card_at (cards_for code b) t).place mask in
    let low : w < 2 ^ length cs = rw (places-length code a) fits in
    let stays : u < 2 ^ length cs = card_stays cs k b within proof.0 t mask inside several w low in
    let z = (clean-zero code a w fits).0 clean in
    let v = card_flagged cs k b within proof.0 t mask inside several w (odd_in (set_of code)) proof.1 z in
    let unstrayed : Unstrayed code u = rw (places-length code a) at stays in
    ⊎_elim
    (λ f. let x = answered-as code a u unstrayed Even f in (inl x.verdict, x.place, x.hands))
    (λ f. let x = answered-as code a u unstrayed Odd f in (inr x.verdict, x.place, x.hands))
    v
