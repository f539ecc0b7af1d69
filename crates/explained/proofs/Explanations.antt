-- The explanations of a word under sound columns: which sets they are, in which order, how many, and what they are after flips. Over
-- any family, any k and any r; words are numbers of n places. Assumes nothing.
use mathlib.Core.Path.{◌≡◌, sym, ap, ◌∙◌}
use mathlib.Core.Logic.{◌≢◌, ◌↔◌}
use mathlib.Core.Bool.{true}
use mathlib.Core.List.{List, [], ◌∷◌, Memᴰ}
use Prim.Native.Nat.{ℕ, zero, suc, ◌+◌, ◌*◌, ◌^◌, ◌≤◌, ◌<◌, min, max}
use native.Mathlib.Omega.{arith}
use borrow.Author.Tests.{eq-eqb, eqb-true}
use lib.ListN.{length, get_or}
use Rattle.parity.specs.Odd.{odd_in}
use Rattle.columns.specs.Mix.{mix, column, flipped}
use Rattle.columns.specs.Sound.{Sound}
use Rattle.columns.proofs.Errors.{one_flip, column-nonzero}
use Rattle.columns.proofs.Places.{place_at}
use Rattle.columns.proofs.Words.{flip_lt}
use Rattle.word.specs.Word.{in_parts}
use Rattle.word.specs.Verdicts.{read_in}
use Rattle.listing.specs.Sets.{flip_all}
use Rattle.listing.specs.BySyndrome.{by_syndrome}
use Rattle.listing.proofs.Cases.{by_zero, by_place}
use Rattle.explain.specs.Order.{SetOf, InOrder}
use Rattle.explain.specs.Explanations.{is_clean, explains, explanations}
use Rattle.explain.proofs.Clean.{clean_test}
use Rattle.explain.proofs.BySyndrome.{by_syndrome_lem}
use Rattle.explained.proofs.Sets.{those_exactly}
use Rattle.explained.proofs.Flips.{flip_all_twice, lower_first}
use Rattle.explained.proofs.Order.{in_order_lem, each_once}
use Rattle.explained.proofs.Few.{few_entries}

-- a word reads clean exactly when its syndrome is 0
pub clean_exactly : (rows : ℕ) (cs : List ℕ) (k w : ℕ) → k ≤ length cs → w < 2 ^ length cs
    → (is_clean (read_in rows cs k (in_parts k w)) ≡ true) ↔ (mix cs w ≡ 0)
clean_exactly rows cs k w h fits =
    let t = clean_test rows cs k w h fits in
    (λ e. eqb-true (mix cs w) 0 (sym t ∙ e), λ e. t ∙ eq-eqb (mix cs w) 0 e)

-- EXPLAINED EXACTLY: a set is listed exactly when it is one of at most `limit` places and flipping exactly those gives a word that
-- reads clean. Under any columns, for any word and any limit
pub explained_exactly : (rows : ℕ) (cs : List ℕ) (k w limit : ℕ) (ps : List ℕ)
    → Memᴰ ps (explanations rows cs k w limit)
    ↔ (SetOf (length cs) limit ps × (is_clean (read_in rows cs k (in_parts k (flip_all w ps))) ≡ true))
unfolding explanations
explained_exactly rows cs k w limit ps = those_exactly (explains rows cs k w) (length cs) limit ps

module _ (rows : ℕ) {cs : List ℕ} {k r : ℕ} (sound : Sound (odd_in rows) cs k r) where
  -- two places at least: a column is not 0, so there is a row
  two-places : 2 ≤ length cs
  two-places = go r sound.size (sound.below 0)
    where
      go : (r : ℕ) → length cs ≡ k + r → (0 < length cs → column cs 0 < 2 ^ r) → 2 ≤ length cs
      go zero n b =
          let h : 0 < length cs = omega (arith, sound.some) in
          absurd (column-nonzero sound.good sound.parity 0 h (omega (arith, b h)))
      go (suc r) n b = omega (arith, sound.some)

  module _ (w : ℕ) (fits : w < 2 ^ length cs) where
    module _ (limit : ℕ) (h : limit ≤ 2) where
      -- in document 01's order
      pub explained_in_order : InOrder (explanations rows cs k w limit)
      explained_in_order = rw (by_syndrome_lem rows sound w limit fits h) (in_order_lem cs (mix cs w) limit)

      -- each set once
      pub explained_once : (i j : ℕ) → i < length (explanations rows cs k w limit) → j < length (explanations rows cs k w limit)
          → get_or (explanations rows cs k w limit) i [] ≡ get_or (explanations rows cs k w limit) j [] → i ≡ j
      explained_once = each_once (explanations rows cs k w limit) explained_in_order

      -- at most half as many as there are places
      pub explained-few : 2 * length (explanations rows cs k w limit) ≤ length cs
      explained-few = rw (by_syndrome_lem rows sound w limit fits h) (few_entries sound.good (mix cs w) limit two-places)

    -- ---- from a word of syndrome 0

    module _ (clean : mix cs w ≡ 0) where
      -- with no flip: the empty set alone
      pub clean-explained : (limit : ℕ) → limit ≤ 2 → explanations rows cs k w limit ≡ [] ∷ []
      clean-explained limit h = by_syndrome_lem rows sound w limit fits h ∙ by_zero cs (mix cs w) limit clean

      -- after one: that place alone
      pub one-flip-explained : (p limit : ℕ) → p < length cs → 1 ≤ limit → limit ≤ 2
          → explanations rows cs k (flipped w p) limit ≡ (p ∷ []) ∷ []
      one-flip-explained p limit l m h =
          by_syndrome_lem rows sound (flipped w p) limit (flip_lt (length cs) w p fits l) h
          ∙ ap (λ (s : ℕ). by_syndrome cs s limit) (one_flip cs w p clean l)
          ∙ by_place cs (column cs p) limit (column-nonzero sound.good sound.parity p l) (λ z. omega arith) p
          (sym (place_at sound.good p l)) l

      -- after two, whichever came first, that pair is listed
      pub two-flips-explained : (p q : ℕ) → p < length cs → q < length cs → p ≢ q
          → Memᴰ (min p q ∷ max p q ∷ []) (explanations rows cs k (flipped (flipped w p) q) 2)
      unfolding flip_all
      two-flips-explained p q l m ne =
          let a = min p q in
          let b = max p q in
          let back : flip_all (flipped (flipped w p) q) (a ∷ b ∷ []) ≡ w =
          ap (λ (v : ℕ). flip_all v (a ∷ b ∷ [])) (lower_first w p q) ∙ flip_all_twice w (a ∷ b ∷ []) in
          (explained_exactly rows cs k (flipped (flipped w p) q) 2 (a ∷ b ∷ [])).1 (
            record { rising = (omega arith, omega arith, (omega arith, omega arith, tt)); few = omega arith },
            ap (λ (v : ℕ). is_clean (read_in rows cs k (in_parts k v))) back
                ∙ (clean_exactly rows cs k w (omega (arith, sound.size)) fits).1 clean,
          )
