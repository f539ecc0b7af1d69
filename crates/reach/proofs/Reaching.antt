-- One bad place after the other: what is asked of the places behind the first, and a turned place leaves no stray bit. Assumes nothing.
use mathlib.Core.Path.{◌≡◌, sym, ap, ◌∙◌}
use mathlib.Core.Bool.{false}
use mathlib.Core.List.{List, [], ◌∷◌}
use Prim.Native.Nat.{ℕ, ◌-◌, ◌^◌, ◌≤◌, ◌<◌}
use native.Mathlib.Omega.{arith}
use lib.ListN.{length, take, drop, length-drop, get_or}
use Rattle.columns.proofs.Words.{flip_lt}
use Rattle.word.specs.declared.Word.{Word}
use Rattle.word.specs.Word.{as_number, stray_in, flipped_in}
use Rattle.word.proofs.Halves.{rest_all}
use Rattle.word.proofs.Strays.{data_fits}
use Rattle.mending.proofs.Parts.{parts_of_number, parts_unstrayed, flipped_parts}
use Rattle.mending.proofs.Strays.{number_fits}
use Rattle.reach.specs.Places.{misnamed}
use Rattle.reach.proofs.Places.{named-first}

-- the places behind the first, with their end named as the code lends them
abbrev pub behind : List ℕ → List ℕ
behind ps = take (length ps - 1) (drop 1 ps)

pub behind_less : (ps : List ℕ) → 1 ≤ length ps → length (behind ps) < length ps
behind_less ps h = omega (arith, ap length (rest_all ps 1), length-drop 1 ps)

pub named_rest : (n : ℕ) (ps : List ℕ) → 1 ≤ length ps → misnamed n ps ≡ false → (get_or ps 0 0 < n) × (misnamed n (behind ps) ≡ false)
named_rest n [] h e = absurd (omega arith)
named_rest n (p ∷ ps) h e =
    let x = named-first n p ps e in
    (x.0, ap (misnamed n) (rest_all (p ∷ ps) 1) ∙ x.2)

-- a word without stray bits has none with a place below n turned
pub turned_whole : (n k p : ℕ) (w : Word) → w.low < 2 ^ 64 → k ≤ n → p < n → stray_in n k w ≡ false → stray_in n k (flipped_in k p w) ≡ false
turned_whole n k p w low h l e =
    let same : w ≡ _ = sym (parts_of_number k w low (data_fits n k w e)) in
    ap (λ (v : Word). stray_in n k (flipped_in k p v)) same
    ∙ ap (stray_in n k) (flipped_parts k p (as_number k w))
    ∙ parts_unstrayed n k _ h (flip_lt n (as_number k w) p (number_fits n k w h e) l)
