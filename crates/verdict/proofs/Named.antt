-- A verdict on a syndrome names a place. Assumes nothing.
use mathlib.Core.Path.{◌≡◌, refl}
use mathlib.Core.Bool.{Bool, true, false, cond}
use mathlib.Core.List.{List}
use Prim.Native.Nat.{ℕ, ◌+◌, ◌≤◌}
use native.Mathlib.Omega.{arith}
use borrow.Author.Tests.{ltb-true, ltb-false}
use lib.Dec.{eqb, ltb}
use lib.ListN.{length}
use Rattle.columns.specs.Mix.{place_in}
use Rattle.verdict.specs.declared.Verdict.TheVariants.{Clean, Data, Check, Even, Odd}
use Rattle.verdict.specs.Places.{NamesPlace}
use Rattle.verdict.specs.Verdicts.{verdict_on}

module _ (cs : List ℕ) (k : ℕ) (few : length cs ≤ k + 16) where
  pub verdict_names : (odd : ℕ → ℕ) (s : ℕ) → NamesPlace k (verdict_on odd cs k s)
  unfolding verdict_on
  verdict_names odd s = go (eqb s 0) (ltb (place_in cs s) k) (ltb (place_in cs s) (length cs)) (eqb (odd s) 0) refl refl
    where
      go : (z d c e : Bool) → ltb (place_in cs s) k ≡ d → ltb (place_in cs s) (length cs) ≡ c
          → NamesPlace k (cond z Clean (cond d (Data (place_in cs s)) (cond c (Check (place_in cs s)) (cond e Even Odd))))
      go true d c e hd hc = tt
      go false true c e hd hc = ltb-true (place_in cs s) k hd
      go false false true e hd hc = (ltb-false (place_in cs s) k hd, omega (arith, ltb-true (place_in cs s) (length cs) hc))
      go false false false true hd hc = tt
      go false false false false hd hc = tt
