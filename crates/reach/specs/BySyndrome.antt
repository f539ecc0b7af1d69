-- The proper word within reach, found by syndromes: each bad place as read or turned, and beside them the place whose column is what is
-- left of the syndrome. Assumes nothing.
use Rattle.std.specs.Prelude.{cond, List, [], ◌∷◌, ℕ, eqb, ltb, length, Option, Some, None}
use Rattle.std.specs.Option.{option_or}
use Rattle.columns.specs.Mix.{mix, place_in}
use Rattle.word.specs.declared.Word.{Word}
use Rattle.word.specs.Word.{as_number, flipped_in}

-- a word of syndrome s, with at most `flips` places flipped, none or one
unfoldable pub near_by : List ℕ → ℕ → ℕ → ℕ → Word → Option Word
near_by cs k flips s w =
    cond (eqb s 0) (Some w)
    (cond (eqb flips 0) None
    (cond (ltb (place_in cs s) (length cs)) (Some (flipped_in k (place_in cs s) w)) None))

-- and with any of the bad places turned
unfoldable pub reach_by : List ℕ → ℕ → ℕ → Word → List ℕ → Option Word
reach_by cs k flips w [] = near_by cs k flips (mix cs (as_number k w)) w
reach_by cs k flips w (p ∷ ps) = option_or (reach_by cs k flips w ps) (reach_by cs k flips (flipped_in k p w) ps)
