-- The columns from a place on are searched as a part. Assumes nothing.
use mathlib.Core.Path.{◌≡◌, ap, ◌∙◌}
use mathlib.Core.List.{List}
use Prim.Native.Nat.{ℕ, ◌+◌, ◌-◌, ◌≤◌}
use native.Mathlib.Omega.{arith}
use lib.ListN.{length, take, drop, length-drop}
use lib.Seq.{take_all}
use Rattle.columns.specs.Mix.{place_in}
use Rattle.columns.proofs.Places.{place_le}
use Rattle.listing.specs.BySyndrome.{place_from}

module _ (cs : List ℕ) (s p : ℕ) where
  pub from-most : p ≤ length cs → place_from cs s p ≤ length cs
  unfolding place_from
  from-most h = omega (arith, place_le (drop p cs) s, length-drop p cs)

  -- the part of the columns from p on is searched
  pub from-part : (k r : ℕ) → length cs - p ≡ k → r ≡ place_in (take k (drop p cs)) s → p + r ≡ place_from cs s p
  unfolding place_from
  from-part k r e f =
      ap (λ (x : ℕ). p + x) (f ∙ ap (λ (l : List ℕ). place_in l s) (take_all k (drop p cs) (omega (arith, length-drop p cs))))
