-- The numbers of the answers of the second family's judge. Assumes nothing.
use mathlib.Core.Path.{◌≡◌, refl}
use Prim.Native.Nat.{ℕ, zero, suc, ◌-◌}
use native.Mathlib.Omega.{arith}
use Rattle.code.specs.Opened.{judgement_by}
use Rattle.std.specs.Prelude.{Ok, Err}
use Rattle.row_judge.specs.Judge.{JudgedRows}
use Rattle.row_judge.specs.declared.RowFlaw.TheVariants.{NoData, NoChecks, TooWide, NoRows, Repeated, NotTriangular, EvenColumn, Leftover}
use Rattle.rows.specs.Opened.{standing_of_rows}

-- the reasons of 20
abbrev reasoned : ℕ → JudgedRows
reasoned zero = Err NoRows
reasoned (suc zero) = Err NoRows
reasoned (suc (suc zero)) = Err Repeated
reasoned (suc (suc (suc zero))) = Err NotTriangular
reasoned (suc (suc (suc (suc n)))) = Err EvenColumn

-- past 3: 20, and 21
abbrev past_three : ℕ → ℕ → JudgedRows
past_three zero i = reasoned i
past_three (suc n) i = Err (Leftover i)

-- an answer of the judge is known by its number and what it tells
abbrev pub judged_rows_by : ℕ → ℕ → JudgedRows
judged_rows_by zero i = Ok tt
judged_rows_by (suc zero) i = Err NoData
judged_rows_by (suc (suc zero)) i = Err NoChecks
judged_rows_by (suc (suc (suc zero))) i = Err (TooWide i)
judged_rows_by (suc (suc (suc (suc n)))) i = past_three (n - 16) i

pub known_by : (v : JudgedRows) → judged_rows_by (judgement_by (standing_of_rows v)).number (judgement_by (standing_of_rows v)).told ≡ v
known_by (Ok u) = refl
known_by (Err NoData) = refl
known_by (Err NoChecks) = refl
known_by (Err (TooWide i)) = refl
known_by (Err NoRows) = refl
known_by (Err Repeated) = refl
known_by (Err NotTriangular) = refl
known_by (Err EvenColumn) = refl
known_by (Err (Leftover i)) = refl

-- number 0 is an acceptance
pub zero_accepts : (v : JudgedRows) → (judgement_by (standing_of_rows v)).number ≡ 0 → v ≡ Ok tt
zero_accepts (Ok u) e = refl
zero_accepts (Err NoData) e = absurd (omega arith)
zero_accepts (Err NoChecks) e = absurd (omega arith)
zero_accepts (Err (TooWide i)) e = absurd (omega arith)
zero_accepts (Err NoRows) e = absurd (omega arith)
zero_accepts (Err Repeated) e = absurd (omega arith)
zero_accepts (Err NotTriangular) e = absurd (omega arith)
zero_accepts (Err EvenColumn) e = absurd (omega arith)
zero_accepts (Err (Leftover i)) e = absurd (omega arith)
