-- What guesses say that are never behind a column's own place. Assumes nothing.
use mathlib.Core.Path.{◌≡◌, refl}
use mathlib.Core.List.{List}
use Prim.Native.Nat.{ℕ, ◌≤◌, ◌<◌}
use native.Mathlib.Omega.{arith}
use lib.ListN.{length}
use Rattle.columns.specs.Mix.{column, place_in}
use Rattle.columns.proofs.Places.{place_le, place_hit, place_first}
use Rattle.guess.specs.Guess.{guess_of, Guessed}

-- for the columns from i on
abbrev pub EarlyFrom : List ℕ → List ℕ → ℕ → Type 0
EarlyFrom cs guesses i = (p : ℕ) → i ≤ p → p < length cs → guess_of guesses (column cs p) ≤ p

module _ (cs guesses : List ℕ) (s : ℕ) (g : Guessed cs guesses) where
  -- where there is a place, no later one is guessed
  none_later : place_in cs s < length cs → guess_of guesses s ≤ place_in cs s
  none_later l = rw (place_hit cs s l) at (g.early (place_in cs s) l)

  pub guess_none : length cs ≤ guess_of guesses s → length cs ≡ place_in cs s
  guess_none h =
      let all : ¬ (place_in cs s < length cs) = λ l. omega (arith, none_later l) in
      omega (arith, place_le cs s)

  pub guess_right : guess_of guesses s < length cs → column cs (guess_of guesses s) ≡ s → guess_of guesses s ≡ place_in cs s
  guess_right h e =
      let first = place_first cs s (guess_of guesses s) h e in
      let l : place_in cs s < length cs = omega arith in
      omega (arith, none_later l)

-- a column that finds itself has no earlier like it
pub own_found : (cs guesses : List ℕ) (i : ℕ) → Guessed cs guesses → i < length cs → guess_of guesses (column cs i) ≡ i
    → i ≡ place_in cs (column cs i)
own_found cs guesses i g h e =
    let first = place_first cs (column cs i) i h refl in
    let l : place_in cs (column cs i) < length cs = omega arith in
    omega (arith, none_later cs guesses (column cs i) g l)
