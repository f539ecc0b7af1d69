-- Which case of the list by syndrome holds, and whether it is written, from what the tests say. Assumes nothing.
use mathlib.Core.Path.{◌≡◌}
use mathlib.Core.Logic.{◌≢◌}
use mathlib.Core.List.{List, [], ◌∷◌}
use Prim.Native.Nat.{ℕ, ◌/◌, ◌≤◌, ◌<◌}
use borrow.Author.Tests.{eq-eqb, ne_eqb, lt-ltb, le-leb, lt-leb}
use lib.ListN.{length}
use Rattle.columns.specs.Mix.{place_in}
use Rattle.record.specs.Run.{over}
use Rattle.listing.specs.Sets.{bytes_for, written}
use Rattle.listing.specs.BySyndrome.{by_syndrome}

-- ---- the list by syndrome

module _ (cs : List ℕ) (s limit : ℕ) where
  pub by_zero : s ≡ 0 → by_syndrome cs s limit ≡ [] ∷ []
  unfolding by_syndrome
  by_zero e = rw (eq-eqb s 0 e)

  pub by_place : s ≢ 0 → limit ≢ 0 → (p : ℕ) → p ≡ place_in cs s → p < length cs → by_syndrome cs s limit ≡ (p ∷ []) ∷ []
  unfolding by_syndrome
  by_place some more p place h = rw (ne_eqb s 0 some, ne_eqb limit 0 more, ← place, lt-ltb p (length cs) h)

-- ---- a list of n entries, where there is room for it and where there is none

module _ (l : List (List ℕ)) (d : List ℕ) (n : ℕ) (long : n ≡ length l) where
  pub written-room : n ≤ length d / 2 → written l d ≡ over (bytes_for l) d
  unfolding written
  written-room h = rw (← long, le-leb n (length d / 2) h)

  pub written_none : length d / 2 < n → written l d ≡ d
  unfolding written
  written_none h = rw (← long, lt-leb n (length d / 2) h)
