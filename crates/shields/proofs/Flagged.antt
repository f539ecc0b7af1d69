-- CARD-PROOF MEANS FLAGGED: two or more flips within one card of a word of syndrome 0 are flagged, never mended and never clean.
-- Over any columns, any number of data places, any card size and any sense of odd. Assumes nothing.
use mathlib.Core.Path.{◌≡◌, refl}
use mathlib.Core.Logic.{◌⊎◌, inl, inr}
use mathlib.Core.List.{List}
use Prim.Native.Nat.{ℕ, zero, suc, ◌^◌, ◌≤◌, ◌<◌}
use native.Mathlib.Omega.{arith}
use lib.Count.{ones}
use lib.ListN.{length}
use Rattle.columns.specs.Mix.{mix, place_in}
use Rattle.columns.proofs.Places.{place_none}
use Rattle.verdict.specs.declared.Verdict.TheVariants.{Even, Odd}
use Rattle.verdict.specs.Verdicts.{verdict_on}
use Rattle.verdict.proofs.Rows.{on_even, on_odd}
use Rattle.cards.specs.Cards.{all_cards, card_at}
use Rattle.cards.specs.Rule.{Flagged, CardProof, flip_mask}
use Rattle.shields.proofs.Flips.{InPlace, flips_stay, flips_made, card_stands}

-- a syndrome that is neither 0 nor a column is read as even or odd
pub flagged_verdict : (odd : ℕ → ℕ) (cs : List ℕ) (k s : ℕ) → k ≤ length cs → Flagged cs s
    → (verdict_on odd cs k s ≡ Even) ⊎ (verdict_on odd cs k s ≡ Odd)
flagged_verdict odd cs k s h f =
    let past = place_none cs s f.no_column in
    go (odd s) refl (omega arith) (omega arith)
  where
    go : (d : ℕ) → odd s ≡ d → k ≤ place_in cs s → length cs ≤ place_in cs s
        → (verdict_on odd cs k s ≡ Even) ⊎ (verdict_on odd cs k s ≡ Odd)
    go zero e l u = inl (on_even odd cs k s f.nonzero l u e)
    go (suc d) e l u = inr (on_odd odd cs k s f.nonzero l u (λ z. omega (arith, z, e)))

-- card t of a card-proof code with k data places, and a mask of two or more of its places
module _ (cs : List ℕ) (k b : ℕ) (data_inside : k ≤ length cs) (some : 1 ≤ b) (t mask : ℕ)
    (inside : mask < 2 ^ length (card_at (all_cards b k cs) t).columns) (several : 2 ≤ ones mask) (w : ℕ) where
  stands : InPlace cs (card_at (all_cards b k cs) t)
  stands = card_stands b k cs some data_inside t mask inside several

  pub card_stays : w < 2 ^ length cs → flip_mask w (card_at (all_cards b k cs) t).place mask < 2 ^ length cs
  card_stays = flips_stay cs (card_at (all_cards b k cs) t) stands mask inside w

  pub card_flagged : (odd : ℕ → ℕ) → CardProof cs (all_cards b k cs) → mix cs w ≡ 0
      → let v = verdict_on odd cs k (mix cs (flip_mask w (card_at (all_cards b k cs) t).place mask)) in (v ≡ Even) ⊎ (v ≡ Odd)
  card_flagged odd proof clean =
      let made = flips_made cs (card_at (all_cards b k cs) t) stands mask inside w clean in
      flagged_verdict odd cs k _ data_inside (rw made (proof t mask inside several))
