-- What it is to be card-proof, and what it is to be the first weak card with its smallest mask. Assumes nothing.
use Rattle.std.specs.Prelude.{◌≡◌, ◌≢◌, ◌⊎◌, List, ℕ, ◌*◌, ◌^◌, ◌≤◌, ◌<◌, length}
use Rattle.std.specs.Int.Bits.{bit_xor}
use Rattle.std.specs.Int.Count.{ones}
use Rattle.columns.specs.Mix.{mix, column}
use Rattle.cards.specs.Cards.{Card, card_at}

-- neither 0 nor any column
pub record Flagged (cs : List ℕ) (s : ℕ) : Type 0 where
  pub nonzero : s ≢ 0
  pub no_column : (p : ℕ) → p < length cs → column cs p ≢ s

-- card-proof: two or more places of a card never make 0 or a column
abbrev pub CardProof : List ℕ → List Card → Type 0
CardProof cs cards =
    (t mask : ℕ) → mask < 2 ^ length (card_at cards t).columns → 2 ≤ ones mask → Flagged cs (mix (card_at cards t).columns mask)

-- a mask of a card breaks that rule
pub record Breaks (cs card : List ℕ) (mask : ℕ) : Type 0 where
  pub inside : mask < 2 ^ length card
  pub several : 2 ≤ ones mask
  pub makes : (mix card mask ≡ 0) ⊎ ((p : ℕ) × (p < length cs) × (column cs p ≡ mix card mask))

-- card t is the first of the cards with such a mask, and this is its smallest
pub record FirstWeak (cs : List ℕ) (cards : List Card) (t mask : ℕ) : Type 0 where
  pub breaks : Breaks cs (card_at cards t).columns mask
  pub smallest : (m : ℕ) → m < mask → ¬ (Breaks cs (card_at cards t).columns m)
  pub first : (u m : ℕ) → u < t → ¬ (Breaks cs (card_at cards u).columns m)

-- w with those places flipped that a mask names, its bit 0 for place p
abbrev pub flip_mask : ℕ → ℕ → ℕ → ℕ
flip_mask w p mask = bit_xor w (mask * 2 ^ p)
