-- The answers of the judge by cases, and a code's columns with no single ones behind them. Assumes nothing.
use mathlib.Core.Path.{◌≡◌, refl}
use mathlib.Core.List.{List, append-nil}
use Prim.Native.Nat.{ℕ}
use Rattle.columns.specs.Mix.{singles, singles_from}
use Rattle.std.specs.Prelude.{Ok, Err}
use Rattle.judge.specs.Rule.{matrix}
use Rattle.row_judge.specs.Judge.{JudgedRows}
use Rattle.rows.specs.Opened.{standing_of_rows}

-- only an acceptance stands accepted
pub accepted_of_standing : (v : JudgedRows) → standing_of_rows v ≡ Ok tt → v ≡ Ok tt
accepted_of_standing (Ok u) e = refl
accepted_of_standing (Err f) e = cc

-- no single ones are laid out behind its columns
pub no_singles : (cs : List ℕ) → matrix cs 0 ≡ cs
unfolding singles singles_from
no_singles cs = append-nil cs
