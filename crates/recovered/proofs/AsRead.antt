-- With no bad place it is the word as reading hands it back, and nothing where reading flags it; and the order of the bad places does not
-- matter. Assumes nothing.
use mathlib.Core.Path.{◌≡◌, refl, sym, ap, ◌∙◌}
use mathlib.Core.Bool.{Bool, true, false, cond, true≢false}
use mathlib.Core.List.{List, []}
use Prim.Native.Nat.{ℕ, ◌^◌, ◌≤◌, ◌<◌}
use native.Mathlib.Omega.{arith}
use borrow.Author.Tests.{ltb-true, lt-ltb}
use lib.Dec.{eqb, ltb}
use lib.ListN.{length}
use Rattle.parity.specs.Odd.{odd_in}
use Rattle.columns.specs.Mix.{mix, place_in}
use Rattle.columns.specs.Sound.{Sound}
use Rattle.verdict.specs.declared.Verdict.{Verdict}
use Rattle.verdict.specs.declared.Verdict.TheVariants.{Clean, Data, Check, Even, Odd, Stray}
use Rattle.word.specs.declared.Word.{Word}
use Rattle.word.specs.Word.{in_parts, flipped_in}
use Rattle.verdict.specs.Verdicts.{verdict_on}
use Rattle.mending.proofs.Parts.{number_of_parts, flipped_parts}
use Rattle.mending.proofs.Reading.{mended_number}
use Rattle.std.proofs.Common.{Option, Some, None}
use Rattle.reach.specs.Places.{stands, misnamed, wrong_places}
use Rattle.reach.specs.BySyndrome.{near_by, reach_by}
use Rattle.recover.specs.Recover.{flips_beside, proper_words, first_of}
use Rattle.recover.proofs.BySyndrome.{by_syndromes}
use Rattle.recovered.specs.Within.{Within}
use Rattle.recovered.proofs.Outside.{differs_same}
use Rattle.recovered.proofs.Exactly.{within-found, found_within, none_found}

-- what reading hands back, where it is no flag
abbrev pub read_back : Verdict → ℕ → ℕ → Option Word
read_back Clean k w = Some (in_parts k w)
read_back (Data p) k w = Some (in_parts k (mended_number (Data p) w))
read_back (Check p) k w = Some (in_parts k (mended_number (Check p) w))
read_back Even k w = None
read_back Odd k w = None
read_back Stray k w = None

near_read : (odd : ℕ → ℕ) (cs : List ℕ) (k s w : ℕ) → k ≤ length cs
    → near_by cs k 1 s (in_parts k w) ≡ read_back (verdict_on odd cs k s) k w
unfolding near_by verdict_on
near_read odd cs k s w inside =
    go (eqb s 0) (ltb (place_in cs s) k) (ltb (place_in cs s) (length cs)) (eqb (odd s) 0)
    (λ h. lt-ltb (place_in cs s) (length cs) (omega (arith, ltb-true (place_in cs s) k h)))
  where
    flip : Some (flipped_in k (place_in cs s) (in_parts k w)) ≡ Some (in_parts k (mended_number (Data (place_in cs s)) w))
    flip = ap Some (flipped_parts k (place_in cs s) w)

    go : (z d c e : Bool) → (d ≡ true → c ≡ true)
        → cond z (Some (in_parts k w)) (cond c (Some (flipped_in k (place_in cs s) (in_parts k w))) None)
        ≡ read_back (cond z Clean (cond d (Data (place_in cs s)) (cond c (Check (place_in cs s)) (cond e Even Odd)))) k w
    go true d c e h = refl
    go false true true e h = flip
    go false true false e h = absurd (true≢false (sym (h refl)))
    go false false true e h = flip
    go false false false true h = refl
    go false false false false h = refl

module _ (rows : ℕ) {cs : List ℕ} {k r : ℕ} (sound : Sound (odd_in rows) cs k r) (w : ℕ) (fits : w < 2 ^ length cs) where
  -- NONE BAD
  pub none_bad : first_of k (proper_words rows cs k w []) ≡ read_back (verdict_on (odd_in rows) cs k (mix cs w)) k w
  unfolding reach_by misnamed
  none_bad =
      sym (by_syndromes rows sound 1 (omega arith) [] w fits refl)
      ∙ ap (λ (x : ℕ). near_by cs k 1 (mix cs x) (in_parts k w)) (number_of_parts k w)
      ∙ near_read (odd_in rows) cs k (mix cs w) w (omega (arith, sound.size))

  -- ANY ORDER
  module _ (bad other : List ℕ) (right : wrong_places (length cs) bad ≡ false) (right' : wrong_places (length cs) other ≡ false)
      (same : (p : ℕ) → stands p bad ≡ stands p other) (many : length bad ≡ length other) where
    within_same : (u : ℕ) → Within rows cs k w bad u → Within rows cs k w other u
    within_same u a =
        let d = differs_same (length cs) bad u w other same in
        let n = ap flips_beside many in
        record { fits = a.fits; proper = a.proper; near = omega (arith, a.near, d, n) }

    within-back : (u : ℕ) → Within rows cs k w other u → Within rows cs k w bad u
    within-back u a =
        let d = differs_same (length cs) bad u w other same in
        let n = ap flips_beside many in
        record { fits = a.fits; proper = a.proper; near = omega (arith, a.near, d, n) }

    pub any_order : first_of k (proper_words rows cs k w bad) ≡ first_of k (proper_words rows cs k w other)
    any_order = go (first_of k (proper_words rows cs k w bad)) refl
      where
        go : (x : Option Word) → first_of k (proper_words rows cs k w bad) ≡ x → x ≡ first_of k (proper_words rows cs k w other)
        go None e =
            sym ((none_found rows sound w other fits right').0 (λ u a. (none_found rows sound w bad fits right).1 e u (within-back u a)))
        go (Some v) e =
            let i = found_within rows sound w bad fits right v e in
            ap Some i.2 ∙ sym (within-found rows sound w other fits right' i.0 (within_same i.0 i.1))
