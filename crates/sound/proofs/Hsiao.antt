-- HSIAO'S FAMILY leads to the hub: accepted, its columns are sound, with all rows in the set. Assumes nothing.
use mathlib.Core.Path.{◌≡◌, refl, sym, subst, ◌∙◌}
use mathlib.Core.List.{List}
use Prim.Native.Nat.{ℕ, ◌-◌, ◌^◌, ◌≤◌, ◌<◌}
use native.Mathlib.Omega.{arith}
use lib.ListN.{length, take}
use lib.Pow.{pow-lt}
use lib.Seq.{length-take-le, drop_at}
use Rattle.parity.specs.Odd.{odd_ones, odd_in, all_rows, Parity}
use Rattle.parity.proofs.Ones.{parity_of_ones}
use Rattle.parity.proofs.Rows.{parity_in, odd_all}
use Rattle.columns.specs.Mix.{column, singles}
use Rattle.columns.specs.Sound.{Reaches, Sound}
use Rattle.columns.proofs.Singles.{length-joined, length-singles, single_at}
use Rattle.code.specs.declared.Code.{Code}
use Rattle.code.specs.declared.WideCode.{WideCode}
use Rattle.std.specs.Prelude.{Ok, Err}
use Rattle.judge.specs.Judge.{judge_in}
use Rattle.judge.specs.Rule.{matrix, Hsiao}
use Rattle.code.specs.Opened.{Standing, standing_of, opened_by, opened_in, opened_of, opened_wide, SoundOpened}
use Rattle.code.proofs.Laid.{accepted_of_standing}
use Rattle.code.proofs.Laying.{laid_columns}
use Rattle.judge.proofs.Rule.{matrix_below}
use Rattle.judge.proofs.Table.{judge_rule}
use Rattle.sound.proofs.Solving.{triangular_reaches, singles_triangular}

-- sound for a sense of odd, so for any other that agrees with it below 2 ^ r
pub sound_alike : {odd : ℕ → ℕ} {cs : List ℕ} {k r : ℕ} (like : ℕ → ℕ) → Sound odd cs k r
    → Parity like → ((s : ℕ) → s < 2 ^ r → like s ≡ odd s)
    → Sound like cs k r
sound_alike {cs} like s par e = record {
  some = s.some;
  size = s.size;
  below = s.below;
  good = record { apart = s.good.apart; each_odd = λ p h. e (column cs p) (s.below p h) ∙ s.good.each_odd p h };
  parity = par;
  writes = s.writes;
}

-- single ones reach every syndrome, once
singles_reach : (r : ℕ) → Reaches (singles r) r
singles_reach r =
    let n = length-singles r in
    subst (λ (m : ℕ). Reaches (singles r) m) n
    (triangular_reaches (singles r) (λ p h. omega (arith, single_at r p (omega arith), pow-lt {i = p} {j = length (singles r)} h))
    (singles_triangular r))

hsiao_sound : (columns : List ℕ) (r : ℕ) → 1 ≤ length columns → Hsiao columns r → Sound odd_ones (matrix columns r) (length columns) r
hsiao_sound columns r some h = record {
  some = some;
  size = length-joined columns r;
  below = matrix_below columns r h;
  good = h.good;
  parity = parity_of_ones;
  writes = subst (λ (l : List ℕ). Reaches l r) (sym (drop_at columns (singles r) (length columns) refl)) (singles_reach r);
}

-- accepted in any number of places
pub accepted_sound : (most : ℕ) (columns : List ℕ) (k r : ℕ) → length columns ≡ most → judge_in most columns k r ≡ Ok tt
    → Sound (odd_in (all_rows r)) (matrix (take k columns) r) k r
accepted_sound most columns k r e h =
    let s = (judge_rule most columns k r).0 h in
    let few = s.limits.sized.few in
    let l : length (take k columns) ≡ k = length-take-le k columns (omega arith) in
    sound_alike (odd_in (all_rows r))
    (subst (λ (n : ℕ). Sound odd_ones (matrix (take k columns) r) n r) l
    (hsiao_sound (take k columns) r (omega (arith, s.limits.sized.some)) s.rule))
    (parity_in (all_rows r)) (odd_all r)

-- ---- the opened code

-- it is enough that an acceptance is sound
pub sound_by : (s : Standing) (cs : List ℕ) (k rows r : ℕ) → (s ≡ Ok tt → Sound (odd_in rows) cs k r)
    → SoundOpened (opened_by s cs k rows)
sound_by (Ok u) cs k rows r f e =
    let s = f refl in
    let n : length cs - k ≡ r = omega (arith, s.size) in
    rw (laid_columns cs, n) s
sound_by (Err g) cs k rows r f e = cc

pub sound_in : (most : ℕ) (columns : List ℕ) (k r : ℕ) → length columns ≡ most → SoundOpened (opened_in most columns k r)
sound_in most columns k r l =
    sound_by (standing_of (judge_in most columns k r)) (matrix (take k columns) r) k (all_rows r) r
    (λ a. accepted_sound most columns k r l (accepted_of_standing (judge_in most columns k r) a))

pub sound_code : (code : Code) → length code.columns ≡ 64 → SoundOpened (opened_of code)
sound_code code l = sound_in 64 code.columns code.k code.r l

pub sound_wide : (code : WideCode) → length code.columns ≡ 128 → SoundOpened (opened_wide code)
sound_wide code l = sound_in 128 code.columns code.k code.r l
