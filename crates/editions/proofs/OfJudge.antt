-- The promises on the judge, proved from the layers' laws. Assumes nothing.
use mathlib.Core.Path.{◌≡◌, sym, ap, ◌∙◌}
use mathlib.Core.Logic.{◌↔◌}
use Prim.Native.Nat.{◌+◌}
use native.Mathlib.Omega.{arith}
use lib.ListN.{length, take}
use lib.Seq.{length-take-le}
use Rattle.code.specs.declared.Refusal.{Refusal}
use Rattle.std.specs.Prelude.{Ok, Err}
use Rattle.judge.specs.Judge.{Judged}
use Rattle.judge.specs.declared.Flaw.TheVariants.{NoData, NoChecks, TooWide, EvenColumn, SingleOne, Repeated, Leftover}
use Rattle.judge.specs.Rule.{SaysOfCode}
use Rattle.code.specs.Opened.{standing_of, judgement_by}
use Rattle.code.proofs.Numbers.{judged_by, known_by}
use Rattle.judge.proofs.Rule.{fine_of}
use Rattle.judge.proofs.Table.{judge_exactly, judge_rule}
use Rattle.columns.proofs.Singles.{length-joined}
use Rattle.editions.specs.Given.{HsiaoCode, given, matrix_of, judgement_of}
use Rattle.editions.specs.Promises as promises
use Rattle.editions.proofs.Codes.{judgement_is}
use Rattle.editions.proofs.Hsiao.{judge_of, judged_of, rule_of_code, data_length}

pub accepted_exactly : (code : HsiaoCode) → promises.AcceptedExactly code
accepted_exactly code handed =
    let long = handed.places in
    let columns = take code.k code.columns in
    let n : length (matrix_of (given code)) ≡ length columns + code.r = length-joined columns code.r in (
      λ e.
          let s = (judge_rule code.edition.places code.columns code.k code.r).0 (judged_of code e) in
          let few = s.limits.sized.few in
          let l = length-take-le code.k code.columns (omega arith) in (
            s.limits,
            λ i h. s.rule.below i (omega arith),
            λ p q hp hq. s.rule.good.apart p q (omega arith) (omega arith),
            λ p h. s.rule.good.each_odd p (omega arith),
            λ i past h. s.empty i past (omega arith),
          ),
      λ s.
          let few = s.0.sized.few in
          let l = length-take-le code.k code.columns (omega arith) in
          ap (λ (f : Refusal). f.number) (judgement_is (given code)
          ∙ ap (λ v. judgement_by (standing_of v)) ((judge_rule code.edition.places code.columns code.k code.r).1 (record {
            limits = s.0;
            rule = record {
              below = λ i h. s.1 i (omega arith);
              good = record { apart = λ p q hp hq. s.2 p q (omega arith) (omega arith); each_odd = λ p h. s.3 p (omega arith) };
            };
            empty = λ i past h. s.4 i past (omega arith);
          }))),
    )

-- an odd number of ones that is not one
pub three_ones : (code : HsiaoCode) → promises.ThreeOnes code
three_ones code a i h =
    let columns = take code.k code.columns in
    let fine = fine_of columns code.r (rule_of_code code a) i (omega (arith, data_length code a)) in
    let odd = fine.odd in
    let many = fine.many in
    omega arith

-- each answer is known by its number and what it tells
answer_exactly : (code : HsiaoCode) (v : Judged)
    → (judgement_of (given code) ≡ judgement_by (standing_of v)) ↔ SaysOfCode code.edition.places code.columns code.k code.r v
answer_exactly code v =
    let x = judge_exactly code.edition.places code.columns code.k code.r v in (
      λ e. x.0 (sym (known_by (judge_of code))
          ∙ ap (λ (f : Refusal). judged_by f.number f.told) (sym (judgement_is (given code)) ∙ e) ∙ known_by v),
      λ s. judgement_is (given code) ∙ ap (λ u. judgement_by (standing_of u)) (x.1 s),
    )

pub judged_exactly : (code : HsiaoCode) → promises.JudgedExactly code
judged_exactly code = (
  answer_exactly code (Ok tt),
  answer_exactly code (Err NoData),
  answer_exactly code (Err NoChecks),
  λ i. answer_exactly code (Err (TooWide i)),
  λ i. answer_exactly code (Err (EvenColumn i)),
  λ i. answer_exactly code (Err (SingleOne i)),
  λ i. answer_exactly code (Err (Repeated i)),
  λ i. answer_exactly code (Err (Leftover i)),
)
