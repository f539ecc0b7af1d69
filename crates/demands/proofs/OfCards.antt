-- The demands on the card check: the promises of the ten-byte edition. Assumes nothing.
use mathlib.Core.Path.{◌∙◌}
use mathlib.Core.Logic.{inl, inr, ⊎_elim}
use Rattle.cards.specs.Cards.{card_at}
use Rattle.cards.specs.Rule.{flip_mask}
use Rattle.editions.proofs.OfCards as of_any
use Rattle.demands.specs.Definitions.{Accepted, cards_for}
use Rattle.demands.specs.Demands as demands
use Rattle.demands.specs.Editions.{narrow}
use Rattle.demands.proofs.Narrow.{handed, accepted, verdict-is, place_is, clean, hands}

pub cards_begin_again : demands.CardsBeginAgain
cards_begin_again code b a = of_any.cards_begin_again (narrow code) b (accepted code a)

pub cards_refuse : demands.CardsRefuse
cards_refuse code b =
    let x = of_any.cards_refuse (narrow code) b in
    (x.0, λ a. x.1 (accepted code a), λ a. x.2 (accepted code a), λ a. x.3 (accepted code a), λ a. x.4 (accepted code a))

pub flagged : demands.CardFlagged
flagged code b h e w fits c t mask inside several =
    let a : Accepted code = record { handed = h; number = of_any.proof_accepted (narrow code) b e } in
    let x = of_any.flagged (narrow code) b (handed code h) e w fits (clean code a w c) t mask inside several in
    let u = flip_mask w (card_at (cards_for code b) t).place mask in (
      ⊎_elim (λ v. inl (verdict-is code a u ∙ v)) (λ v. inr (verdict-is code a u ∙ v)) x.0,
      place_is code a u ∙ x.1,
      hands code a u u x.2,
    )
