-- AN ACCEPTED OLD CODE, with all rows in the set, is accepted by the second family and opened to the same code. Assumes nothing.
use mathlib.Core.Path.{◌≡◌, sym, ap, ap₂, subst, ◌∙◌}
use mathlib.Core.List.{List}
use Prim.Native.Nat.{ℕ, ◌+◌, ◌-◌, ◌%◌, ◌≤◌}
use native.Mathlib.Omega.{arith}
use lib.Bits.{and_zero_l}
use lib.ListN.{length, take, drop, replicate}
use lib.Pow.{pow_mono}
use lib.Seq.{length-take-le, take_at, drop_at}
use Rattle.parity.specs.Odd.{odd_ones, odd_in, all_rows}
use Rattle.parity.proofs.Ones.{zero-ones}
use Rattle.columns.specs.Mix.{column, singles}
use Rattle.columns.specs.Sound.{Sound}
use Rattle.std.specs.Prelude.{Ok}
use Rattle.judge.specs.Judge.{Judged, judge_in}
use Rattle.judge.specs.Rule.{matrix}
use Rattle.code.specs.Opened.{standing_of, opened_by, opened_in}
use Rattle.judge.proofs.Table.{judge_rule}
use Rattle.least.proofs.Codes.{length-padded, padded_past}
use Rattle.row_judge.specs.Judge.{JudgedRows, judge_rows_in}
use Rattle.row_judge.specs.Rule.{Triangular, Chosen, KeptRows}
use Rattle.rows.specs.Opened.{standing_of_rows, opened_rows_in}
use Rattle.row_judge.proofs.Table.{rows_rule}
use Rattle.sound.proofs.Solving.{singles_triangular}
use Rattle.sound.proofs.Hsiao.{accepted_sound}
use Rattle.families.specs.AsRows.{row_places}

-- odd within a set, so not zero
odd_some : (rows x : ℕ) → odd_in rows x ≡ 1 → x ≡ 0 → ⊥
odd_some rows x o z =
    let none : odd_in rows 0 ≡ 0 = ap odd_ones (and_zero_l rows) ∙ ap (λ (n : ℕ). n % 2) zero-ones in
    omega (arith, sym o ∙ ap (odd_in rows) z)

module _ (most : ℕ) (columns : List ℕ) (k r : ℕ) (e : length columns ≡ most) (h : judge_in most columns k r ≡ Ok tt) where
  abbrev cs : List ℕ
  cs = matrix (take k columns) r

  sound : Sound (odd_in (all_rows r)) cs k r
  sound = accepted_sound most columns k r e h

  size : length cs ≡ k + r
  size = sound.size

  front : take (k + r) (row_places most columns k r) ≡ cs
  front = take_at cs (replicate (most + 16 - length cs) 0) (k + r) size

  few : k ≤ most
  few = ((judge_rule most columns k r).0 h).limits.sized.few

  top : r ≤ 16
  top = ((judge_rule most columns k r).0 h).limits.top

  data_bits : (k + r) - r ≡ k
  data_bits = omega arith

  triangular : Triangular (drop k cs)
  triangular =
      subst Triangular (sym (drop_at (take k columns) (singles r) k (length-take-le k columns (omega (arith, few))))) (singles_triangular r)

  rule : Chosen cs k r (all_rows r)
  rule =
      let least = ((judge_rule most columns k r).0 h).limits.least in
      let eight = pow_mono {i = 3} {j = r} least in
      record {
        narrow = sound.below;
        set = record { some = λ z. omega (arith, z); within = omega arith };
        differ = record { some = λ i l. odd_some (all_rows r) (column cs i) (sound.good.each_odd i l); apart = sound.good.apart };
        triangular = triangular;
        odd = sound.good.each_odd;
      }

  room : length cs ≤ most + 16
  room = omega (arith, size, few, top)

  -- it has all its places
  pub places_all : length (row_places most columns k r) ≡ most + 16
  places_all = length-padded (most + 16) cs room

  kept : KeptRows most (row_places most columns k r) (k + r) r (all_rows r)
  kept = record {
    limits = rw data_bits ((judge_rule most columns k r).0 h).limits;
    rule = rw (front, data_bits) rule;
    empty = λ i l u. padded_past (most + 16) cs room i (omega (arith, size)) (omega (arith, places_all));
  }

  rows-accepted : judge_rows_in most (row_places most columns k r) (k + r) r (all_rows r) ≡ Ok tt
  rows-accepted = (rows_rule most (row_places most columns k r) (k + r) r (all_rows r)).1 kept

  -- THE SAME OPENED CODE, so the same answer to every question
  pub opened_same : opened_rows_in most (row_places most columns k r) (k + r) r (all_rows r) ≡ opened_in most columns k r
  opened_same =
      ap (λ (v : JudgedRows). opened_by (standing_of_rows v) (take (k + r) (row_places most columns k r)) (k + r - r) (all_rows r)) rows-accepted
      ∙ ap₂ (λ (l : List ℕ) (m : ℕ). opened_by (standing_of_rows (Ok tt)) l m (all_rows r)) front data_bits
      ∙ sym (ap (λ (v : Judged). opened_by (standing_of v) cs k (all_rows r)) h)
