-- The rows of document 01's table of verdicts: which verdict a syndrome has, from what the tests say. Assumes nothing.
use mathlib.Core.Path.{◌≡◌}
use mathlib.Core.Logic.{◌≢◌}
use mathlib.Core.List.{List}
use Prim.Native.Nat.{ℕ, ◌≤◌, ◌<◌}
use borrow.Author.Tests.{eq-eqb, ne_eqb, lt-ltb, le-ltb}
use lib.ListN.{length}
use Rattle.columns.specs.Mix.{place_in}
use Rattle.verdict.specs.declared.Verdict.TheVariants.{Clean, Data, Check, Even, Odd}
use Rattle.verdict.specs.Verdicts.{verdict_on}

module _ (odd : ℕ → ℕ) (cs : List ℕ) (k s : ℕ) where
  pub on_clean : s ≡ 0 → verdict_on odd cs k s ≡ Clean
  unfolding verdict_on
  on_clean z = simp (eq-eqb s 0 z)

  pub on_data : s ≢ 0 → place_in cs s < k → verdict_on odd cs k s ≡ Data (place_in cs s)
  unfolding verdict_on
  on_data z h = simp (ne_eqb s 0 z, lt-ltb _ _ h)

  pub on_check : s ≢ 0 → k ≤ place_in cs s → place_in cs s < length cs → verdict_on odd cs k s ≡ Check (place_in cs s)
  unfolding verdict_on
  on_check z h l = simp (ne_eqb s 0 z, le-ltb _ _ h, lt-ltb _ _ l)

  pub on_even : s ≢ 0 → k ≤ place_in cs s → length cs ≤ place_in cs s → odd s ≡ 0 → verdict_on odd cs k s ≡ Even
  unfolding verdict_on
  on_even z h l e = simp (ne_eqb s 0 z, le-ltb _ _ h, le-ltb _ _ l, eq-eqb _ 0 e)

  pub on_odd : s ≢ 0 → k ≤ place_in cs s → length cs ≤ place_in cs s → odd s ≢ 0 → verdict_on odd cs k s ≡ Odd
  unfolding verdict_on
  on_odd z h l e = simp (ne_eqb s 0 z, le-ltb _ _ h, le-ltb _ _ l, ne_eqb _ 0 e)
