-- CODES WITH A CHOSEN SET OF ROWS lead to the hub: accepted, their columns are sound for their own set. Assumes nothing.
use mathlib.Core.Path.{◌≡◌, subst}
use mathlib.Core.List.{List}
use Prim.Native.Nat.{ℕ, ◌+◌, ◌-◌}
use native.Mathlib.Omega.{arith}
use lib.ListN.{length, take, drop, length-drop}
use lib.Seq.{length-take-le, get_or-drop}
use Rattle.parity.specs.Odd.{odd_in}
use Rattle.parity.proofs.Rows.{parity_in}
use Rattle.columns.specs.Sound.{Reaches, Sound}
use Rattle.code.specs.Opened.{SoundOpened}
use Rattle.rows.specs.declared.RowCode.{RowCode}
use Rattle.rows.specs.declared.WideRowCode.{WideRowCode}
use Rattle.std.specs.Prelude.{Ok}
use Rattle.row_judge.specs.Judge.{judge_rows_in}
use Rattle.row_judge.specs.Rule.{Narrow, Triangular}
use Rattle.rows.specs.Opened.{standing_of_rows, opened_rows_in, opened_rows, opened_wide_rows}
use Rattle.rows.proofs.Answers.{accepted_of_standing}
use Rattle.row_judge.proofs.Table.{rows_rule}
use Rattle.sound.proofs.Solving.{triangular_reaches}
use Rattle.sound.proofs.Hsiao.{sound_by}

-- the last r columns reach every syndrome of r digits, once
checks_reach : (cs : List ℕ) (k r : ℕ) → length cs ≡ k + r → Narrow cs r → Triangular (drop k cs) → Reaches (drop k cs) r
checks_reach cs k r size narrow t =
    let n : length (drop k cs) ≡ r = omega (arith, length-drop k cs) in
    subst (λ (m : ℕ). Reaches (drop k cs) m) n
    (triangular_reaches (drop k cs) (λ p h. rw (n, get_or-drop k cs p 0) (narrow (k + p) (omega arith))) t)

-- accepted in any number of places
pub rows_sound : (most : ℕ) (places : List ℕ) (n r rows : ℕ) → length places ≡ most + 16
    → judge_rows_in most places n r rows ≡ Ok tt → Sound (odd_in rows) (take n places) (n - r) r
rows_sound most places n r rows e h =
    let s = (rows_rule most places n r rows).0 h in
    let some = s.limits.sized.some in
    let few = s.limits.sized.few in
    let top = s.limits.top in
    let l = length-take-le n places (omega arith) in
    let size : length (take n places) ≡ (n - r) + r = omega arith in
    record {
      some = some;
      size = size;
      below = s.rule.narrow;
      good = record { apart = s.rule.differ.apart; each_odd = s.rule.odd };
      parity = parity_in rows;
      writes = checks_reach (take n places) (n - r) r size s.rule.narrow s.rule.triangular;
    }

-- ---- the opened code

pub sound_rows_in : (most : ℕ) (places : List ℕ) (n r rows : ℕ) → length places ≡ most + 16
    → SoundOpened (opened_rows_in most places n r rows)
sound_rows_in most places n r rows l =
    let v = judge_rows_in most places n r rows in
    sound_by (standing_of_rows v) (take n places) (n - r) rows r (λ a. rows_sound most places n r rows l (accepted_of_standing v a))

pub sound_rows : (code : RowCode) → length code.columns ≡ 80 → SoundOpened (opened_rows code)
sound_rows code l = sound_rows_in 64 code.columns code.n code.r code.rows l

pub sound_wide_rows : (code : WideRowCode) → length code.columns ≡ 144 → SoundOpened (opened_wide_rows code)
sound_wide_rows code l = sound_rows_in 128 code.columns code.n code.r code.rows l
