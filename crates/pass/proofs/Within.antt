-- Where nothing is asked wrongly, a run lies within its image, and the entries in use within the journal. Assumes nothing.
use mathlib.Core.Path.{◌≡◌, ap}
use Prim.Native.Nat.{ℕ, ◌+◌, ◌*◌, ◌/◌, ◌≤◌}
use native.Mathlib.Nat.{mul-le-mul_right}
use native.Mathlib.Omega.{arith}
use lib.ListN.{length}
use Rattle.record.specs.Layout.{head_size, record_size, entry_size, image_limit}
use Rattle.runs.proofs.Sizes.{whole-fits}
use Rattle.asked.specs.declared.Pass.{Pass}
use Rattle.asked.specs.Pass.{State, room_in, wrong_in}
use Rattle.asked.proofs.Cases.{right_askable}

-- an entry's size, as it is written in src/
abbrev pub step : ℕ → ℕ
step d = head_size + 2 * record_size d

pub step_is : (d : ℕ) → step d ≡ entry_size d
step_is d = omega arith

pub room_is : (d : ℕ) (s : State) → length s.journal / step d ≡ room_in d s.journal
room_is d s = ap (λ n. length s.journal / n) (step_is d)

pub record Within (d : ℕ) (p : Pass) (s : State) : Type 0 where
  pub rising : p.start ≤ p.end
  pub rises : p.start * record_size d ≤ p.end * record_size d
  pub fits : p.end * record_size d ≤ length s.image
  pub short : length s.image ≤ image_limit d
  pub in_use : s.used ≤ length s.journal / step d
  pub begins : s.used * step d ≤ length s.journal

pub within : (d : ℕ) (p : Pass) (s : State) → wrong_in d p s ≡ 0 → Within d p s
within d p s right =
    let q = right_askable d p s right in
    let in_use : s.used ≤ length s.journal / step d = omega (arith, q.counted, room_is d s) in
    record {
      rising = q.run.rising;
      rises = mul-le-mul_right (record_size d) q.run.rising;
      fits = whole-fits (record_size d) (length s.image) p.end q.run.within;
      short = q.records.short;
      in_use = in_use;
      begins = whole-fits (step d) (length s.journal) s.used in_use;
    }
