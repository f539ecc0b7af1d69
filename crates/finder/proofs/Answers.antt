-- The answers of the finder, row by row. Assumes nothing.
use mathlib.Core.Path.{◌≡◌}
use mathlib.Core.Bool.{true, false}
use mathlib.Core.List.{List}
use Prim.Native.Nat.{ℕ}
use lib.ListN.{length}
use Rattle.code.specs.Opened.{only}
use Rattle.word.specs.declared.Word.{Word}
use Rattle.word.specs.Word.{as_number, in_parts, stray_in}
use Rattle.finder.specs.declared.Found.{Found}
use Rattle.finder.specs.Finder.{agreeing, refused_found, find_in}

abbrev pub found : Word → Found
found w = record { number = 0; told = 0; word = w }

module _ (cs : List ℕ) (k : ℕ) (first second : Word) where
  pub find_first : stray_in (length cs) k first ≡ true → find_in cs k first second ≡ refused_found (only 7)
  unfolding find_in
  find_first e = simp e

  module _ (whole : stray_in (length cs) k first ≡ false) where
    pub find-second : stray_in (length cs) k second ≡ true → find_in cs k first second ≡ refused_found (only 7)
    unfolding find_in
    find-second e = rw (whole, e)

    pub find-done : stray_in (length cs) k second ≡ false
        → find_in cs k first second ≡ found (in_parts k (agreeing (length cs) (as_number k first) (as_number k second)))
    unfolding find_in
    find-done e = rw (whole, e)
