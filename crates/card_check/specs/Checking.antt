-- The card check of an opened code: the code's refusal, then 8, then 9. Assumes nothing.
use Rattle.std.specs.Prelude.{cond, ◌||◌, List, ℕ, ◌≤◌, ltb, Option, Some, None, Result, Ok, Err}
use Rattle.code.specs.declared.Opened.{Opened}
use Rattle.code.specs.declared.Refusal.{Refusal}
use Rattle.code.specs.Opened.{Standing, only, columns_of}
use Rattle.cards.specs.declared.Weak.{Weak}
use Rattle.card_check.specs.declared.CardCheck.{CardCheck}
use Rattle.cards.specs.Cards.{all_cards, weak_card_in}

-- a size that cards may have
pub record CardSize (b : ℕ) : Type 0 where
  pub least : 2 ≤ b
  pub top : b ≤ 8

abbrev pub refused_cards : Refusal → CardCheck
refused_cards f = record { number = f.number; told = f.told; card = 0; mask = 0 }

-- card-proof where nothing is found, else 9 with card and mask
abbrev pub carded_by : Option Weak → CardCheck
carded_by None = refused_cards (only 0)
carded_by (Some w) = record { number = 9; told = 0; card = w.card; mask = w.mask }

-- the n columns cs of a code with k data places: 8, then 9
unfoldable pub carded_in : List ℕ → ℕ → ℕ → CardCheck
carded_in cs k b = cond (ltb b 2 || ltb 8 b) (refused_cards (only 8)) (carded_by (weak_card_in cs 0 (all_cards b k cs)))

-- an answer, or the refusal told as one
abbrev pub answered : Result CardCheck Refusal → CardCheck
answered (Ok a) = a
answered (Err f) = refused_cards f

-- how the code stands decides first
abbrev pub carded_as : Standing → Opened → ℕ → CardCheck
carded_as (Ok u) o b = carded_in (columns_of o) o.k b
carded_as (Err f) o b = refused_cards f

abbrev pub carded_of : Opened → ℕ → CardCheck
carded_of o b = carded_as o.standing o b
