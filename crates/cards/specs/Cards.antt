-- The cards of a code and the card check: document 01, "Cards", as 02's request 105 amends it. Assumes nothing.
use Rattle.std.specs.Prelude.{Bool, cond, ◌||◌, ◌&&◌, List, [], ◌∷◌, ◌++◌, ℕ, zero, suc, ◌+◌, ◌-◌, ◌/◌, ◌^◌, eqb, ltb, leb, length, take, drop, get_or, Option, Some, None}
use Rattle.std.specs.Int.Count.{ones}
use Rattle.std.specs.Option.{option_or}
use Rattle.columns.specs.Mix.{mix, place_in}
use Rattle.cards.specs.declared.Weak.{Weak}

-- ---- the cards of a code

-- a card: its first place, and the columns of its places
pub record Card : Type 0 where
  pub place : ℕ
  pub columns : List ℕ

-- how many cards of b a number of places takes
abbrev pub cards_in : ℕ → ℕ → ℕ
cards_in b places = (places + (b - 1)) / b

-- n cards of b places, cut one after the other from a part that begins at place p
unfoldable pub cut_into : ℕ → ℕ → ℕ → List ℕ → List Card
cut_into zero b p part = []
cut_into (suc n) b p part = record { place = p; columns = take b part } ∷ cut_into n b (p + b) (drop b part)

-- all cards of such a part; the last may be short
abbrev pub cut : ℕ → ℕ → List ℕ → List Card
cut b p part = cut_into (cards_in b (length part)) b p part

-- the cards of a code by their numbers: its k data places are cut into cards, and at the first check place cards begin again
abbrev pub all_cards : ℕ → ℕ → List ℕ → List Card
all_cards b k cs = cut b 0 (take k cs) ++ cut b k (drop k cs)

-- the card that has a number; past the last, one without places
abbrev pub card_at : List Card → ℕ → Card
card_at cards t = get_or cards t (record { place = 0; columns = [] })

-- ---- the check of them

-- whether s is a column
abbrev pub is_column : List ℕ → ℕ → Bool
is_column cs s = ltb (place_in cs s) (length cs)

-- whether a mask, bit t for the card's place t, breaks the rule: two or more places whose columns make 0 or any of the n columns
unfoldable pub weak_mask : List ℕ → List ℕ → ℕ → Bool
weak_mask cs card mask = leb 2 (ones mask) && (eqb (mix card mask) 0 || is_column cs (mix card mask))

-- card t, with a mask of it
abbrev pub weak_at : ℕ → ℕ → Option Weak
weak_at t mask = Some (record { card = t; mask = mask })

-- the first find of f at the n numbers from m on
unfoldable pub first_from : (ℕ → Option Weak) → ℕ → ℕ → Option Weak
first_from f zero m = None
first_from f (suc n) m = option_or (f m) (first_from f n (suc m))

-- one mask of the card that has this number
unfoldable pub try_mask : List ℕ → List ℕ → ℕ → ℕ → Option Weak
try_mask cs card number mask = cond (weak_mask cs card mask) (weak_at number mask) None

-- the smallest mask of a card that breaks the rule
unfoldable pub weak_mask_in : List ℕ → List ℕ → ℕ → Option Weak
weak_mask_in cs card number = first_from (try_mask cs card number) (2 ^ length card) 0

-- the first weak card of a list of cards that are numbered from `number` on, with its smallest mask
unfoldable pub weak_card_in : List ℕ → ℕ → List Card → Option Weak
weak_card_in cs number [] = None
weak_card_in cs number (card ∷ rest) = option_or (weak_mask_in cs card.columns number) (weak_card_in cs (suc number) rest)
