-- A code of Hsiao's family as one with a chosen set of rows: its n columns, check columns included, and all r rows in the set.
-- Assumes nothing.
use Rattle.std.specs.Prelude.{List, ℕ, ◌+◌, take}
use Rattle.parity.specs.Odd.{all_rows}
use Rattle.code.specs.declared.Code.{Code}
use Rattle.code.specs.declared.WideCode.{WideCode}
use Rattle.judge.specs.Rule.{matrix}
use Rattle.rows.specs.declared.RowCode.{RowCode}
use Rattle.rows.specs.declared.WideRowCode.{WideRowCode}
use Rattle.make.specs.Made.{padded_to}

-- its places, 16 more than those of the old code, 0 past its n columns
abbrev pub row_places : ℕ → List ℕ → ℕ → ℕ → List ℕ
row_places most columns k r = padded_to (most + 16) (matrix (take k columns) r)

abbrev pub as_rows : Code → RowCode
as_rows code =
    record {
      columns = row_places 64 code.columns code.k code.r;
      n = code.k + code.r;
      r = code.r;
      rows = all_rows code.r;
    }

abbrev pub as_wide_rows : WideCode → WideRowCode
as_wide_rows code =
    record {
      columns = row_places 128 code.columns code.k code.r;
      n = code.k + code.r;
      r = code.r;
      rows = all_rows code.r;
    }
