-- Under sound columns the word found by syndromes is the first of the proper words within reach. Assumes nothing.
use mathlib.Core.Path.{◌≡◌, refl, sym, ap, ap₂, ◌∙◌}
use mathlib.Core.Bool.{Bool, true, false, cond}
use mathlib.Core.List.{List, [], ◌∷◌, ◌++◌, map, append_assoc, append-nil}
use Prim.Native.Nat.{ℕ, zero, suc, ◌^◌, ◌≤◌, ◌<◌}
use native.Mathlib.Omega.{arith}
use Rattle.std.proofs.Common.{Some, None}
use Rattle.std.specs.Option.{option_or}
use lib.Dec.{eqb, ltb}
use lib.ListN.{length}
use Rattle.parity.specs.Odd.{odd_in}
use Rattle.columns.specs.Mix.{mix, place_in, flipped}
use Rattle.columns.specs.Sound.{Sound}
use Rattle.columns.proofs.Words.{flip_lt}
use Rattle.word.specs.declared.Word.{Word}
use Rattle.word.specs.Word.{as_number, in_parts, stray_in, flipped_in}
use Rattle.word.proofs.Strays.{data_fits}
use Rattle.mending.proofs.Parts.{number_of_parts, parts_of_number, flipped_parts}
use Rattle.mending.proofs.Strays.{number_fits}
use Rattle.listing.specs.Sets.{flip_all}
use Rattle.listing.specs.BySyndrome.{by_syndrome}
use Rattle.explain.proofs.BySyndrome.{by_syndrome_lem}
use Rattle.reach.specs.Places.{misnamed}
use Rattle.reach.specs.BySyndrome.{near_by, reach_by}
use Rattle.recover.specs.Recover.{turnings, proper_near, proper_among, first_of}
use Rattle.reach.proofs.Places.{named-first}

first-append : (k : ℕ) (a b : List ℕ) → first_of k (a ++ b) ≡ option_or (first_of k a) (first_of k b)
first-append k [] b = refl
first-append k (u ∷ a) b = refl

pub among_append : (rows : ℕ) (cs : List ℕ) (k flips : ℕ) (a b : List ℕ)
    → proper_among rows cs k flips (a ++ b) ≡ proper_among rows cs k flips a ++ proper_among rows cs k flips b
unfolding proper_among
among_append rows cs k flips [] b = refl
among_append rows cs k flips (u ∷ a) b =
    ap (λ (l : List ℕ). proper_near rows cs k flips u ++ l) (among_append rows cs k flips a b)
    ∙ sym (append_assoc (proper_near rows cs k flips u) (proper_among rows cs k flips a) (proper_among rows cs k flips b))

-- with no bad place: what is near by the syndrome
near_list : (cs : List ℕ) (k flips s w : ℕ) → flips ≤ 1
    → near_by cs k flips s (in_parts k w) ≡ first_of k (map (flip_all w) (by_syndrome cs s flips))
unfolding near_by by_syndrome flip_all
near_list cs k zero s w h = go (eqb s 0)
  where
    go : (z : Bool) → cond z (Some (in_parts k w)) None ≡ first_of k (map (flip_all w) (cond z ([] ∷ []) []))
    go true = refl
    go false = refl
near_list cs k (suc zero) s w h = go (eqb s 0) (ltb (place_in cs s) (length cs))
  where
    go : (z p : Bool)
        → cond z (Some (in_parts k w)) (cond p (Some (flipped_in k (place_in cs s) (in_parts k w))) None)
        ≡ first_of k (map (flip_all w) (cond z ([] ∷ []) (cond p ((place_in cs s ∷ []) ∷ []) [])))
    go true p = refl
    go false true = ap Some (flipped_parts k (place_in cs s) w)
    go false false = refl
near_list cs k (suc (suc flips)) s w h = absurd (omega arith)

module _ (rows : ℕ) {cs : List ℕ} {k r : ℕ} (sound : Sound (odd_in rows) cs k r) (flips : ℕ) (few : flips ≤ 1) where
  pub by_syndromes : (bad : List ℕ) (w : ℕ) → w < 2 ^ length cs → misnamed (length cs) bad ≡ false
      → reach_by cs k flips (in_parts k w) bad ≡ first_of k (proper_among rows cs k flips (turnings w bad))
  unfolding reach_by turnings proper_among
  by_syndromes [] w fits named =
      ap (λ (x : ℕ). near_by cs k flips (mix cs x) (in_parts k w)) (number_of_parts k w)
      ∙ near_list cs k flips (mix cs w) w few
      ∙ ap (λ (l : List (List ℕ)). first_of k (map (flip_all w) l)) (sym (by_syndrome_lem rows sound w flips fits (omega arith)))
      ∙ ap (first_of k) (sym (append-nil (proper_near rows cs k flips w)))
  by_syndromes (p ∷ ps) w fits named =
      let x = named-first (length cs) p ps named in
      ap₂ option_or (by_syndromes ps w fits x.2)
      (ap (λ (v : Word). reach_by cs k flips v ps) (flipped_parts k p w)
      ∙ by_syndromes ps (flipped w p) (flip_lt (length cs) w p fits x.0) x.2)
      ∙ sym (first-append k (proper_among rows cs k flips (turnings w ps)) (proper_among rows cs k flips (turnings (flipped w p) ps)))
      ∙ ap (first_of k) (sym (among_append rows cs k flips (turnings w ps) (turnings (flipped w p) ps)))

  -- of a word in its parts, without a stray bit
  pub by_syndromes_parts : (bad : List ℕ) (word : Word) → word.low < 2 ^ 64 → stray_in (length cs) k word ≡ false
      → misnamed (length cs) bad ≡ false
      → reach_by cs k flips word bad ≡ first_of k (proper_among rows cs k flips (turnings (as_number k word) bad))
  by_syndromes_parts bad word low whole named =
      ap (λ (v : Word). reach_by cs k flips v bad) (sym (parts_of_number k word low (data_fits (length cs) k word whole)))
      ∙ by_syndromes bad (as_number k word) (number_fits (length cs) k word (omega (arith, sound.size)) whole) named
