-- A list of places walked from its front: one place more, none left; and what it means that nothing is wrong with it. Assumes nothing.
use mathlib.Core.Path.{◌≡◌, refl, ap, ◌∙◌}
use mathlib.Core.Bool.{Bool, true, false, cond, ◌||◌, true≢false}
use mathlib.Core.List.{List, [], ◌∷◌}
use Prim.Native.Nat.{ℕ, ◌+◌, ◌-◌, ◌≤◌, ◌<◌}
use native.Mathlib.Numerals.{add-one}
use borrow.Author.Tests.{leb-false, le-leb, lt-leb, lt-ltb, le-ltb, ltb-false}
use lib.Dec.{eqb, leb, ltb}
use lib.ListN.{length, take, drop, drop_of_length-le, get_or}
use lib.Seq.{drop-cons}
use Rattle.std.specs.List.{list_any}
use Rattle.word.proofs.Halves.{rest_all}
use Rattle.reach.specs.Places.{stands, misnamed, wrong_places}

-- the library's word for it, of the places behind one as the code lends them
pub any_stands : (p : ℕ) (ps : List ℕ) → list_any (λ q. eqb q p) ps ≡ stands p ps
unfolding stands
any_stands p [] = refl
any_stands p (q ∷ ps) = go (eqb q p) (any_stands p ps)
  where
    go : (b : Bool) → list_any (λ x. eqb x p) ps ≡ stands p ps → (b || list_any (λ x. eqb x p) ps) ≡ cond b true (stands p ps)
    go true e = refl
    go false e = e

-- place i of a list: it is at n or above, or else the tests go on
module _ (n i : ℕ) (ps : List ℕ) (inside : i < length ps) where
  pub misnamed_at : misnamed n (drop i ps)
      ≡ cond (leb n (get_or ps i 0)) true (cond (stands (get_or ps i 0) (drop (i + 1) ps)) true (misnamed n (drop (i + 1) ps)))
  unfolding misnamed
  misnamed_at = rw (drop-cons ps i 0, add-one)

  pub misnamed_above : n ≤ get_or ps i 0 → misnamed n (drop i ps) ≡ true
  misnamed_above h = misnamed_at ∙ rw (le-leb n (get_or ps i 0) h)

  pub misnamed_below : get_or ps i 0 < n → (b : Bool)
      → b ≡ list_any (λ q. eqb q (get_or ps i 0)) (take (length ps - (i + 1)) (drop (i + 1) ps))
      → misnamed n (drop i ps) ≡ cond b true (misnamed n (drop (i + 1) ps))
  misnamed_below h b e =
      let again = e ∙ any_stands (get_or ps i 0) _ ∙ ap (stands (get_or ps i 0)) (rest_all ps (i + 1)) in
      misnamed_at ∙ rw (lt-leb n (get_or ps i 0) h, ← again)

pub misnamed_past : (n i : ℕ) (ps : List ℕ) → length ps ≤ i → misnamed n (drop i ps) ≡ false
unfolding misnamed
misnamed_past n i ps h = rw (drop_of_length-le ps h)

-- what nothing wrong with a list says of its first place
pub named-first : (n p : ℕ) (ps : List ℕ) → misnamed n (p ∷ ps) ≡ false → (p < n) × (stands p ps ≡ false) × (misnamed n ps ≡ false)
unfolding misnamed
named-first n p ps = go (leb n p) (stands p ps) (misnamed n ps) refl
  where
    go : (a b c : Bool) → leb n p ≡ a → cond a true (cond b true c) ≡ false → (p < n) × (b ≡ false) × (c ≡ false)
    go true b c e h = absurd (true≢false h)
    go false true c e h = absurd (true≢false h)
    go false false c e h = (leb-false n p e, refl, h)

-- ---- the count comes first

module _ (n : ℕ) (ps : List ℕ) where
  pub too_many : 3 < length ps → wrong_places n ps ≡ true
  too_many h = rw (lt-ltb 3 (length ps) h)

  pub few_places : length ps ≤ 3 → wrong_places n ps ≡ misnamed n ps
  few_places h = rw (le-ltb 3 (length ps) h)

  -- nothing is wrong with them
  pub right-places : wrong_places n ps ≡ false → (length ps ≤ 3) × (misnamed n ps ≡ false)
  right-places = go (ltb 3 (length ps)) refl
    where
      go : (b : Bool) → ltb 3 (length ps) ≡ b → cond b true (misnamed n ps) ≡ false → (length ps ≤ 3) × (misnamed n ps ≡ false)
      go true e h = absurd (true≢false h)
      go false e h = (ltb-false 3 (length ps) e, h)
