-- THE HEART, for a word under sound columns: the explanations, which speak of flipped words, are the list by the syndrome. Assumes nothing.
use mathlib.Core.Path.{◌≡◌, sym, ap, ◌∙◌}
use mathlib.Core.Bool.{false}
use mathlib.Core.List.{List}
use Prim.Native.Nat.{ℕ, ◌^◌, ◌≤◌, ◌<◌}
use native.Mathlib.Omega.{arith}
use lib.ListN.{length}
use Rattle.parity.specs.Odd.{odd_in}
use Rattle.columns.specs.Mix.{mix}
use Rattle.columns.specs.Sound.{Sound}
use Rattle.word.specs.declared.Word.{Word}
use Rattle.word.specs.Word.{as_number, stray_in}
use Rattle.listing.specs.Sets.{flip_all, sets_up_to}
use Rattle.listing.specs.BySyndrome.{clears, by_syndrome}
use Rattle.explain.specs.Explanations.{explains, explanations}
use Rattle.explain.proofs.Sets.{those_same, sets_in}
use Rattle.explain.proofs.Flips.{flip_all-lt}
use Rattle.mending.proofs.Strays.{number_fits}
use Rattle.explain.proofs.Heart.{heart}
use Rattle.explain.proofs.Clean.{clean_test}

pub by_syndrome_lem : (rows : ℕ) {cs : List ℕ} {k r : ℕ} → Sound (odd_in rows) cs k r → (w limit : ℕ) → w < 2 ^ length cs → limit ≤ 2
    → explanations rows cs k w limit ≡ by_syndrome cs (mix cs w) limit
unfolding explanations
by_syndrome_lem rows {cs} {k} sound w limit fits h =
    those_same (explains rows cs k w) (clears cs w) (sets_up_to (length cs) limit)
    (λ ps m.
    clean_test rows cs k (flip_all w ps) (omega (arith, sound.size))
    (flip_all-lt (length cs) w 0 ps fits (sets_in (length cs) limit ps m).rising))
    ∙ heart sound.good sound.parity w limit h

-- of a word in its parts, without a stray bit
pub by_syndrome_parts : (rows : ℕ) {cs : List ℕ} {k r : ℕ} → Sound (odd_in rows) cs k r → (word : Word) (limit s : ℕ)
    → stray_in (length cs) k word ≡ false → limit ≤ 2 → s ≡ mix cs (as_number k word)
    → explanations rows cs k (as_number k word) limit ≡ by_syndrome cs s limit
by_syndrome_parts rows {cs} {k} sound word limit s whole h e =
    by_syndrome_lem rows sound (as_number k word) limit (number_fits (length cs) k word (omega (arith, sound.size)) whole) h
    ∙ ap (λ (x : ℕ). by_syndrome cs x limit) (sym e)
