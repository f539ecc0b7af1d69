-- The card check of an opened code: each answer exactly when its row of the table says so, and no earlier one. Assumes nothing.
use mathlib.Core.Path.{◌≡◌, refl, sym, ap, ◌∙◌}
use mathlib.Core.Bool.{or-true}
use mathlib.Core.Logic.{◌↔◌, ◌⊎◌, inl, inr, ⊎_elim}
use mathlib.Core.List.{List}
use Prim.Native.Nat.{ℕ, ◌≤◌, ◌<◌}
use native.Mathlib.Omega.{arith}
use borrow.Author.Tests.{lt-ltb, le-ltb}
use lib.Dec.{ltb}
use Rattle.std.proofs.Common.{Option, Some, None, Ok, Err}
use Rattle.code.specs.declared.Opened.{Opened}
use Rattle.code.specs.declared.Refusal.{Refusal}
use Rattle.code.specs.Opened.{columns_of}
use Rattle.card_check.specs.declared.CardCheck.{CardCheck}
use Rattle.cards.specs.declared.Weak.{Weak}
use Rattle.cards.specs.Cards.{Card, all_cards, weak_at, weak_card_in}
use Rattle.cards.specs.Rule.{CardProof, FirstWeak}
use Rattle.card_check.specs.Checking.{CardSize, carded_by, carded_in, carded_as, carded_of}
use Rattle.cards.proofs.Walk.{proof_exactly, weak_exactly}

-- a number alone, and 9 with the card and the mask that it tells
abbrev pub bare : ℕ → CardCheck
bare number = record { number = number; told = 0; card = 0; mask = 0 }

abbrev pub weak : ℕ → ℕ → CardCheck
weak card mask = record { number = 9; told = 0; card = card; mask = mask }

-- ---- the n columns

module _ (cs : List ℕ) (k b : ℕ) where
  pub size_out : (b < 2) ⊎ (8 < b) → carded_in cs k b ≡ bare 8
  unfolding carded_in
  size_out = ⊎_elim (λ h. simp (lt-ltb b 2 h)) (λ h. simp (lt-ltb 8 b h, or-true (ltb b 2)))

  pub size_fits : 2 ≤ b → b ≤ 8 → (f : Option Weak) → f ≡ weak_card_in cs 0 (all_cards b k cs) → carded_in cs k b ≡ carded_by f
  unfolding carded_in
  size_fits h l f e = simp (le-ltb b 2 h, le-ltb 8 b l) (ap carded_by (sym e))

-- two finds with the same answer are one
by_once : (f g : Option Weak) → carded_by f ≡ carded_by g → f ≡ g
by_once None None e = refl
by_once None (Some x) e = let z : ◌≡◌ {A = ℕ} 0 9 = ap (λ a. a.number) e in absurd (omega arith)
by_once (Some x) None e = let z : ◌≡◌ {A = ℕ} 9 0 = ap (λ a. a.number) e in absurd (omega arith)
by_once (Some x) (Some y) e = λ i. weak_at (e i).card (e i).mask

-- ---- how the code stands decides first

module _ (o : Opened) (b : ℕ) where
  pub carded_refused : (f : Refusal) → o.standing ≡ Err f
      → carded_of o b ≡ record { number = f.number; told = f.told; card = 0; mask = 0 }
  carded_refused f e = ap (λ s. carded_as s o b) e

  module _ (e : o.standing ≡ Ok tt) where
    abbrev cs : List ℕ
    cs = columns_of o

    -- its cards, by their numbers
    abbrev cards : List Card
    cards = all_cards b o.k cs

    carded-columns : carded_of o b ≡ carded_in cs o.k b
    carded-columns = ap (λ s. carded_as s o b) e

    pub carded-size : (b < 2) ⊎ (8 < b) → carded_of o b ≡ bare 8
    carded-size h = carded-columns ∙ size_out cs o.k b h

    module _ (size : CardSize b) where
      -- what the search finds, and the answer to it
      carded-found : (f : Option Weak) → weak_card_in cs 0 cards ≡ f → carded_of o b ≡ carded_by f
      carded-found f h = carded-columns ∙ size_fits cs o.k b size.least size.top f (sym h)

      found-carded : (f : Option Weak) → carded_of o b ≡ carded_by f → weak_card_in cs 0 cards ≡ f
      found-carded f h = by_once (weak_card_in cs 0 cards) f (sym (carded-found (weak_card_in cs 0 cards) refl) ∙ h)

      -- DONE exactly where the code is card-proof for b
      pub proof-told : (carded_of o b ≡ bare 0) ↔ CardProof (columns_of o) (all_cards b o.k (columns_of o))
      proof-told = (
        λ h. (proof_exactly cs 0 cards).0 (found-carded None h),
        λ p. carded-found None ((proof_exactly cs 0 cards).1 p),
      )

      -- 9 exactly with the first weak card and its smallest mask
      pub weak-told : (card mask : ℕ)
          → (carded_of o b ≡ weak card mask) ↔ FirstWeak (columns_of o) (all_cards b o.k (columns_of o)) card mask
      weak-told card mask = (
        λ h. (weak_exactly cs cards card mask).0 (found-carded (weak_at card mask) h),
        λ w. carded-found (weak_at card mask) ((weak_exactly cs cards card mask).1 w),
      )

      -- it is one of the two
      pub proof-or-weak : (carded_of o b ≡ bare 0) ⊎ ((card : ℕ) × (mask : ℕ) × (carded_of o b ≡ weak card mask))
      proof-or-weak = go (weak_card_in cs 0 cards) refl
        where
          go : (f : Option Weak) → weak_card_in cs 0 cards ≡ f
              → (carded_of o b ≡ bare 0) ⊎ ((card : ℕ) × (mask : ℕ) × (carded_of o b ≡ weak card mask))
          go None h = inl (carded-found None h)
          go (Some x) h = inr (x.card, x.mask, carded-found (Some x) h)
