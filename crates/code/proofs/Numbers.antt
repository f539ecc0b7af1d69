-- Document 01's numbers of the judge's answers. Assumes nothing.
use mathlib.Core.Path.{◌≡◌, refl}
use Prim.Native.Nat.{ℕ, zero, suc}
use native.Mathlib.Omega.{arith}
use Rattle.std.specs.Prelude.{Ok, Err}
use Rattle.judge.specs.Judge.{Judged}
use Rattle.judge.specs.declared.Flaw.TheVariants.{NoData, NoChecks, TooWide, EvenColumn, SingleOne, Repeated, Leftover}
use Rattle.code.specs.Opened.{standing_of, judgement_by}

-- an answer of the judge is known by its number and what it tells
abbrev pub judged_by : ℕ → ℕ → Judged
judged_by zero i = Ok tt
judged_by (suc zero) i = Err NoData
judged_by (suc (suc zero)) i = Err NoChecks
judged_by (suc (suc (suc zero))) i = Err (TooWide i)
judged_by (suc (suc (suc (suc zero)))) i = Err (EvenColumn i)
judged_by (suc (suc (suc (suc (suc zero))))) i = Err (SingleOne i)
judged_by (suc (suc (suc (suc (suc (suc zero)))))) i = Err (Repeated i)
judged_by (suc (suc (suc (suc (suc (suc (suc n))))))) i = Err (Leftover i)

pub known_by : (v : Judged) → judged_by (judgement_by (standing_of v)).number (judgement_by (standing_of v)).told ≡ v
known_by (Ok u) = refl
known_by (Err NoData) = refl
known_by (Err NoChecks) = refl
known_by (Err (TooWide i)) = refl
known_by (Err (EvenColumn i)) = refl
known_by (Err (SingleOne i)) = refl
known_by (Err (Repeated i)) = refl
known_by (Err (Leftover i)) = refl

-- number 0 is an acceptance, and any other a refusal
pub zero_accepts : (v : Judged) → (judgement_by (standing_of v)).number ≡ 0 → v ≡ Ok tt
zero_accepts (Ok u) e = refl
zero_accepts (Err NoData) e = absurd (omega arith)
zero_accepts (Err NoChecks) e = absurd (omega arith)
zero_accepts (Err (TooWide i)) e = absurd (omega arith)
zero_accepts (Err (EvenColumn i)) e = absurd (omega arith)
zero_accepts (Err (SingleOne i)) e = absurd (omega arith)
zero_accepts (Err (Repeated i)) e = absurd (omega arith)
zero_accepts (Err (Leftover i)) e = absurd (omega arith)
