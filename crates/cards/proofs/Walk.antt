-- The cards of a list, one after the other: nothing is found exactly where the list is card-proof, and else the first weak card and its
-- smallest mask; a card's number is its position in the list. Assumes nothing.
use mathlib.Core.Path.{◌≡◌, refl, sym, ap, ◌∙◌}
use mathlib.Core.Logic.{◌↔◌}
use mathlib.Core.List.{List, [], ◌∷◌, ◌++◌, append-nil}
use Prim.Native.Nat.{ℕ, zero, suc, ◌+◌, ◌≤◌, ◌<◌, min}
use native.Mathlib.Nat.{zero-add}
use native.Mathlib.Numerals.{add-one}
use native.Mathlib.Omega.{arith}
use lib.Arith.{lt-one}
use lib.Count.{ones}
use lib.ListN.{length, take, drop, length-append, drop_of_length-le}
use lib.Seq.{drop_at, take_at, take_all}
use Rattle.parity.proofs.Ones.{zero-ones}
use Rattle.std.proofs.Common.{Option, Some, None}
use Rattle.std.specs.Option.{option_or}
use Rattle.cards.specs.declared.Weak.{Weak}
use Rattle.cards.specs.Cards.{Card, cards_in, cut_into, cut, all_cards, card_at, weak_at, weak_mask_in, weak_card_in}
use Rattle.cards.specs.Rule.{CardProof, Breaks, FirstWeak}
use Rattle.cards.proofs.Search.{neither}
use Rattle.cards.proofs.Parts.{cut_end, cut_next, data_counted}
use Rattle.cards.proofs.Masks.{kept_flagged, flagged_kept, masks_nothing, masks_at}

-- a card without places has no mask of two ones
pub few_ones : (mask : ℕ) → mask < 1 → ¬ (2 ≤ ones mask)
few_ones mask h s = omega (arith, ap ones (lt-one h), zero-ones)

-- ---- a part of the columns, card by card

-- where it begins does not matter
any_place : (cs : List ℕ) (number b p q : ℕ) (part : List ℕ) → weak_card_in cs number (cut b p part) ≡ weak_card_in cs number (cut b q part)
unfolding cut_into weak_card_in
any_place cs number b p q part = go (cards_in b (length part)) number p q part
  where
    go : (n number p q : ℕ) (part : List ℕ) → weak_card_in cs number (cut_into n b p part) ≡ weak_card_in cs number (cut_into n b q part)
    go zero number p q part = refl
    go (suc n) number p q part = ap (option_or (weak_mask_in cs (take b part) number)) (go n (suc number) (p + b) (q + b) (drop b part))

-- a chunk is the first b places, or all where fewer are left
pub chunk : (b : ℕ) (card after : List ℕ) → length card ≡ min b (length (card ++ after)) → (take b (card ++ after) ≡ card) × (drop b (card ++ after) ≡ after)
chunk b card [] e =
    let few : length card ≤ b = omega (arith, e) in
    rw append-nil (take_all b card few, drop_of_length-le card few)
chunk b card (x ∷ after) e =
    let full : length card ≡ b = omega (arith, e, length-append card (x ∷ after)) in
    (take_at card (x ∷ after) b full, drop_at card (x ∷ after) b full)

-- for a loop over it, given what the cards that are left come to: something is found on the next, nothing is, none is left
module _ (cs : List ℕ) (b number : ℕ) (some : 1 ≤ b) (rest : List ℕ) (whole : Option Weak)
    (left : weak_card_in cs number (cut b 0 rest) ≡ whole) where
  module _ (card after : List ℕ) (parts : rest ≡ card ++ after) (size : length card ≡ min b (length rest)) (more : 0 < length rest) where
    step : option_or (weak_mask_in cs card number) (weak_card_in cs (number + 1) (cut b 0 after)) ≡ whole
    unfolding weak_card_in
    step =
        let halves = chunk b card after (rw parts at size) in
        let first : take b rest ≡ card = ap (take b) parts ∙ halves.0 in
        let others : drop b rest ≡ after = ap (drop b) parts ∙ halves.1 in
        let next = rw (cut_next b 0 rest some (omega arith), first, others) at left in
        ap (option_or (weak_mask_in cs card number)) (ap (λ (n : ℕ). weak_card_in cs n (cut b 0 after)) (add-one number)
        ∙ any_place cs (suc number) b 0 (0 + b) after)
        ∙ next

    pub walk_here : (w : Weak) → weak_mask_in cs card number ≡ Some w → Some w ≡ whole
    walk_here w e = rw e at step

    pub walk_next : weak_mask_in cs card number ≡ None → weak_card_in cs (number + 1) (cut b 0 after) ≡ whole
    walk_next e = rw e at step

  pub walk_end : length rest ≡ 0 → None ≡ whole
  unfolding weak_card_in
  walk_end h = rw (cut_end b 0 rest some h) at left

-- ---- one list behind another

either_found : (a b c : Option Weak) → option_or a (option_or b c) ≡ option_or (option_or a b) c
either_found None b c = refl
either_found (Some x) b c = refl

pub walk_append : (cs : List ℕ) (number : ℕ) (xs ys : List Card)
    → weak_card_in cs number (xs ++ ys) ≡ option_or (weak_card_in cs number xs) (weak_card_in cs (number + length xs) ys)
unfolding weak_card_in
walk_append cs number [] ys = ap (λ (n : ℕ). weak_card_in cs n ys) (omega arith)
walk_append cs number (card ∷ xs) ys =
    let here = weak_mask_in cs card.columns number in
    ap (option_or here) (walk_append cs (suc number) xs ys)
    ∙ either_found here (weak_card_in cs (suc number) xs) (weak_card_in cs (suc number + length xs) ys)
    ∙ ap (λ (n : ℕ). option_or (option_or here (weak_card_in cs (suc number) xs)) (weak_card_in cs n ys)) (omega arith)

-- the data cards, then the check cards: something is found among the first, or nothing is, and the others decide
module _ (cs : List ℕ) (b k : ℕ) (inside : k ≤ length cs) where
  both : weak_card_in cs 0 (all_cards b k cs)
      ≡ option_or (weak_card_in cs 0 (cut b 0 (take k cs))) (weak_card_in cs (cards_in b k) (cut b 0 (drop k cs)))
  both =
      walk_append cs 0 (cut b 0 (take k cs)) (cut b k (drop k cs))
      ∙ ap (option_or (weak_card_in cs 0 (cut b 0 (take k cs))))
      (ap (λ (n : ℕ). weak_card_in cs n (cut b k (drop k cs))) (zero-add _ ∙ data_counted b k cs inside)
      ∙ any_place cs (cards_in b k) b k 0 (drop k cs))

  pub data_found : (w : Weak) → weak_card_in cs 0 (cut b 0 (take k cs)) ≡ Some w → Some w ≡ weak_card_in cs 0 (all_cards b k cs)
  data_found w e = sym (both ∙ rw e)

  pub check_found : weak_card_in cs 0 (cut b 0 (take k cs)) ≡ None
      → weak_card_in cs (cards_in b k) (cut b 0 (drop k cs)) ≡ weak_card_in cs 0 (all_cards b k cs)
  check_found e = sym (both ∙ rw e)

module _ (cs : List ℕ) where
  -- ---- nothing is found exactly where no mask of any card breaks the rule

  walk_nothing : (number : ℕ) (cards : List Card)
      → (weak_card_in cs number cards ≡ None) ↔ ((t mask : ℕ) → ¬ (Breaks cs (card_at cards t).columns mask))
  unfolding weak_card_in
  walk_nothing number [] = (λ h t mask k. few_ones mask k.inside k.several, λ h. refl)
  walk_nothing number (card ∷ rest) =
      let here = masks_nothing cs card.columns number in
      let more = walk_nothing (suc number) rest in (
        λ h.
            let n = neither (weak_mask_in cs card.columns number) (weak_card_in cs (suc number) rest) h in
            by_number (here.0 n.0) (more.0 n.1),
        λ h. rw (here.1 (h 0)) (more.1 (λ t. h (suc t))),
      )
    where
      by_number : ((mask : ℕ) → ¬ (Breaks cs card.columns mask)) → ((t mask : ℕ) → ¬ (Breaks cs (card_at rest t).columns mask))
          → (t mask : ℕ) → ¬ (Breaks cs (card_at (card ∷ rest) t).columns mask)
      by_number f g zero = f
      by_number f g (suc t) = g t

  -- nothing is found exactly where the cards are card-proof
  pub proof_exactly : (number : ℕ) (cards : List Card) → (weak_card_in cs number cards ≡ None) ↔ CardProof cs cards
  proof_exactly number cards = (
    λ h t mask l s. kept_flagged cs (card_at cards t).columns mask l s ((walk_nothing number cards).0 h t mask),
    λ p. (walk_nothing number cards).1 (λ t mask. flagged_kept cs (card_at cards t).columns mask (p t mask)),
  )

  -- ---- a card and a mask are found exactly where the card is the first weak one, counted from `number`, and the mask its smallest

  found_first : (number : ℕ) (cards : List Card) (card mask : ℕ)
      → weak_card_in cs number cards ≡ weak_at card mask → (t : ℕ) × (card ≡ number + t) × FirstWeak cs cards t mask
  unfolding weak_card_in
  found_first number [] card mask h = let z : ◌≡◌ {A = ℕ} 0 1 = cc in absurd (omega arith)
  found_first number (x ∷ rest) card mask h =
      go (weak_mask_in cs x.columns number) refl h (found_first (suc number) rest card mask)
    where
      earlier : ((m : ℕ) → ¬ (Breaks cs x.columns m)) → (t : ℕ) → ((u m : ℕ) → u < t → ¬ (Breaks cs (card_at rest u).columns m))
          → (u m : ℕ) → u < suc t → ¬ (Breaks cs (card_at (x ∷ rest) u).columns m)
      earlier f t g zero m l = f m
      earlier f t g (suc u) m l = g u m (omega arith)

      go : (f : Option Weak) → weak_mask_in cs x.columns number ≡ f → option_or f (weak_card_in cs (suc number) rest) ≡ weak_at card mask
          → (weak_card_in cs (suc number) rest ≡ weak_at card mask → (t : ℕ) × (card ≡ suc number + t) × FirstWeak cs rest t mask)
          → (t : ℕ) × (card ≡ number + t) × FirstWeak cs (x ∷ rest) t mask
      go None e k ih =
          let r = ih k in
          let w = r.2 in (
            suc r.0,
            omega (arith, r.1),
            record {
              breaks = w.breaks;
              smallest = w.smallest;
              first = earlier ((masks_nothing cs x.columns number).0 e) r.0 w.first;
            },
          )
      go (Some y) e k ih =
          let w = (masks_at cs x.columns number card mask).0 (e ∙ k) in
          (0, omega (arith, w.0), record { breaks = w.1; smallest = w.2; first = λ u n l. absurd (omega arith) })

  first_found : (number : ℕ) (cards : List Card) (t mask : ℕ) → FirstWeak cs cards t mask
      → weak_card_in cs number cards ≡ weak_at (number + t) mask
  unfolding weak_card_in
  first_found number [] t mask w = absurd (few_ones mask w.breaks.inside w.breaks.several)
  first_found number (x ∷ rest) zero mask w =
      rw ((masks_at cs x.columns number (number + 0) mask).1 (omega arith, w.breaks, w.smallest))
  first_found number (x ∷ rest) (suc t) mask w =
      rw ((masks_nothing cs x.columns number).1 (λ m. w.first 0 m (omega arith)))
      (first_found (suc number) rest t mask
      (record { breaks = w.breaks; smallest = w.smallest; first = λ u m l. w.first (suc u) m (omega arith) })
      ∙ ap (λ (n : ℕ). weak_at n mask) (omega arith))

  -- the same where cards are numbered from 0
  pub weak_exactly : (cards : List Card) (t mask : ℕ) → (weak_card_in cs 0 cards ≡ weak_at t mask) ↔ FirstWeak cs cards t mask
  weak_exactly cards t mask = (
    λ h. let k = found_first 0 cards t mask h in let e : t ≡ k.0 = omega (arith, k.1) in rw e k.2,
    λ w. first_found 0 cards t mask w ∙ ap (λ (n : ℕ). weak_at n mask) (omega arith),
  )
