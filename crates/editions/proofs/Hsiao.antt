-- An accepted code of Hsiao's family: what its judge says of it. Assumes nothing.
use mathlib.Core.Path.{◌≡◌, sym, ap, ◌∙◌}
use native.Mathlib.Omega.{arith}
use lib.ListN.{length, take, drop}
use lib.Seq.{length-take-le, drop_at}
use Rattle.columns.specs.Mix.{singles}
use Rattle.std.specs.Prelude.{Ok}
use Rattle.judge.specs.Judge.{Judged, judge_in}
use Rattle.judge.specs.Rule.{Hsiao}
use Rattle.code.proofs.Numbers.{zero_accepts}
use Rattle.judge.proofs.Table.{judge_rule}
use Rattle.editions.specs.Given as words
use Rattle.editions.specs.Given.{HsiaoCode, given, matrix_of, judgement_of}
use Rattle.editions.proofs.Codes.{judgement_is, limits_of}

abbrev pub judge_of : HsiaoCode → Judged
judge_of code = judge_in code.edition.places code.columns code.k code.r

pub judged_of : (code : HsiaoCode) → (judgement_of (given code)).number ≡ 0 → judge_of code ≡ Ok tt
judged_of code e = zero_accepts (judge_of code) (sym (ap (λ f. f.number) (judgement_is (given code))) ∙ e)

module _ (code : HsiaoCode) (a : words.Accepted (given code)) where
  pub rule_of_code : Hsiao (take code.k code.columns) code.r
  rule_of_code = ((judge_rule code.edition.places code.columns code.k code.r).0 (judged_of code a.number)).rule

  pub data_length : length (take code.k code.columns) ≡ code.k
  data_length =
      let few = (limits_of (given code) a).sized.few in
      length-take-le code.k code.columns (omega (arith, a.handed.places))

  -- its check columns are single ones
  pub check_part : drop code.k (matrix_of (given code)) ≡ singles code.r
  check_part = drop_at (take code.k code.columns) (singles code.r) code.k data_length
