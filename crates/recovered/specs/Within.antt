-- What is to be recovered: a proper word that differs from w outside the bad places in as few places as their count allows.
-- Assumes nothing.
use Rattle.std.specs.Prelude.{◌≡◌, true, List, ℕ, ◌^◌, ◌≤◌, ◌<◌, length}
use Rattle.word.specs.Word.{in_parts}
use Rattle.word.specs.Verdicts.{read_in}
use Rattle.explain.specs.Explanations.{is_clean}
use Rattle.recover.specs.Recover.{flips_beside}
use Rattle.recovered.specs.Outside.{differing}

-- under the n columns cs, the first k of them data columns, with a set of rows
pub record Within (rows : ℕ) (cs : List ℕ) (k w : ℕ) (bad : List ℕ) (u : ℕ) : Type 0 where
  pub fits : u < 2 ^ length cs
  pub proper : is_clean (read_in rows cs k (in_parts k u)) ≡ true
  pub near : differing (length cs) bad u w ≤ flips_beside (length bad)
