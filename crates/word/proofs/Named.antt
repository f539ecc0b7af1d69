-- A verdict on a word names a place of it. Assumes nothing.
use mathlib.Core.Bool.{Bool, true, false, cond}
use mathlib.Core.List.{List}
use Prim.Native.Nat.{ℕ, ◌+◌, ◌≤◌}
use lib.ListN.{length}
use Rattle.parity.specs.Odd.{odd_in}
use Rattle.columns.specs.Mix.{mix}
use Rattle.verdict.specs.declared.Verdict.TheVariants.{Stray}
use Rattle.verdict.specs.Places.{NamesPlace}
use Rattle.verdict.specs.Verdicts.{verdict_on}
use Rattle.verdict.proofs.Named.{verdict_names}
use Rattle.word.specs.declared.Word.{Word}
use Rattle.word.specs.Word.{as_number, stray_in}
use Rattle.word.specs.Verdicts.{read_in}

module _ (cs : List ℕ) (k : ℕ) (few : length cs ≤ k + 16) where
  pub reading_names : (rows : ℕ) (w : Word) → NamesPlace k (read_in rows cs k w)
  unfolding read_in
  reading_names rows w = go (stray_in (length cs) k w)
    where
      go : (s : Bool) → NamesPlace k (cond s Stray (verdict_on (odd_in rows) cs k (mix cs (as_number k w))))
      go true = tt
      go false = verdict_names cs k few (odd_in rows) (mix cs (as_number k w))
