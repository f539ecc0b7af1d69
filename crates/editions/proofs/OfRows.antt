-- The promises on the judge of codes with a chosen set of rows, and what such a code is opened to. Assumes nothing.
use mathlib.Core.Path.{◌≡◌, sym, ap, subst, ◌∙◌}
use mathlib.Core.Logic.{◌↔◌, inl, ⊎_elim}
use mathlib.Core.List.{List}
use Prim.Native.Nat.{ℕ, ◌+◌, ◌-◌, ◌^◌, ◌≤◌, ◌<◌}
use native.Mathlib.Omega.{arith}
use lib.ListN.{length, take, drop, length-drop}
use lib.Seq.{length-take-le, get_or-take, get_or-drop}
use Rattle.parity.specs.Odd.{odd_in}
use Rattle.parity.proofs.Ones.{below_or_not}
use Rattle.columns.specs.Mix.{column}
use Rattle.code.specs.declared.Refusal.{Refusal}
use Rattle.code.specs.Opened.{judgement_by, opened_by}
use Rattle.std.specs.Prelude.{Ok, Err}
use Rattle.row_judge.specs.declared.RowFlaw.TheVariants.{NoData, NoChecks, TooWide, NoRows, Repeated, NotTriangular, EvenColumn, Leftover}
use Rattle.row_judge.specs.Judge.{JudgedRows, judge_rows_in}
use Rattle.judge.specs.Rule.{Limits}
use Rattle.row_judge.specs.Rule.{Narrow, KeptRows, SaysOfRows}
use Rattle.row_judge.proofs.Parts.{last_of}
use Rattle.row_judge.proofs.Table.{says-rows, rows_exactly, rows_rule}
use Rattle.rows.specs.Opened.{standing_of_rows, opened_rows_in}
use Rattle.families.specs.ByRows.{ByRows}
use Rattle.families.proofs.ByRows.{by_rows}
use Rattle.families.proofs.Numbers.{judged_rows_by, known_by, zero_accepts}
use Rattle.editions.specs.Given.{ChosenCode, chosen_of, judgement_of, Handed}
use Rattle.editions.specs.Promises as promises
use Rattle.editions.proofs.Codes.{judgement_is}

-- ---- n columns are n - r data and r check columns; with fewer than r columns there is no data bit either way

module _ (most : ℕ) (columns : List ℕ) (n r rows : ℕ) where
  no_data : (m : ℕ) → m ≤ r → judge_rows_in most columns m r rows ≡ Err NoData
  no_data m h = says-rows most columns m r rows (Err NoData) (inl h)

  same_judge : judge_rows_in most columns (n - r + r) r rows ≡ judge_rows_in most columns n r rows
  same_judge =
      ⊎_elim
      (λ (h : n < r). no_data (n - r + r) (omega arith) ∙ sym (no_data n (omega arith)))
      (λ (h : r ≤ n). let e : n - r + r ≡ n = omega arith in ap (λ (m : ℕ). judge_rows_in most columns m r rows) e)
      (below_or_not n r)

  pub opened-chosen : opened_by (standing_of_rows (judge_rows_in most columns (n - r + r) r rows)) (take (n - r + r) columns) (n - r) rows
      ≡ opened_rows_in most columns n r rows
  opened-chosen =
      ⊎_elim
      (λ (h : n < r).
      ap (λ (v : JudgedRows). opened_by (standing_of_rows v) (take (n - r + r) columns) (n - r) rows) (no_data (n - r + r) (omega arith))
      ∙ sym (ap (λ (v : JudgedRows). opened_by (standing_of_rows v) (take n columns) (n - r) rows) (no_data n (omega arith))))
      (λ (h : r ≤ n).
      let e : n - r + r ≡ n = omega arith in
      ap (λ (m : ℕ). opened_by (standing_of_rows (judge_rows_in most columns m r rows)) (take m columns) (n - r) rows) e)
      (below_or_not n r)

-- ---- the judge

abbrev judge_of : ChosenCode → JudgedRows
judge_of code = judge_rows_in code.edition.places code.columns code.n code.r code.rows

module _ (code : ChosenCode) where
  pub judgement_of_lem : judgement_of (chosen_of code) ≡ judgement_by (standing_of_rows (judge_of code))
  judgement_of_lem =
      judgement_is (chosen_of code)
      ∙ ap (λ (v : JudgedRows). judgement_by (standing_of_rows v))
      (same_judge code.edition.places code.columns code.n code.r code.rows)

  -- each answer is known by its number and what it tells
  answer_exactly : (v : JudgedRows)
      → (judgement_of (chosen_of code) ≡ judgement_by (standing_of_rows v))
      ↔ SaysOfRows code.edition.places code.columns code.n code.r code.rows v
  answer_exactly v =
      let x = rows_exactly code.edition.places code.columns code.n code.r code.rows v in (
        λ e. x.0 (sym (known_by (judge_of code))
            ∙ ap (λ (f : Refusal). judged_rows_by f.number f.told) (sym judgement_of_lem ∙ e) ∙ known_by v),
        λ s. judgement_of_lem ∙ ap (λ (u : JudgedRows). judgement_by (standing_of_rows u)) (x.1 s),
      )

  number_is : ((judgement_of (chosen_of code)).number ≡ 0) ↔ (judge_of code ≡ Ok tt)
  number_is = (
    λ e. zero_accepts (judge_of code) (sym (ap (λ (f : Refusal). f.number) judgement_of_lem) ∙ e),
    λ e. ap (λ (f : Refusal). f.number) (judgement_of_lem ∙ ap (λ (u : JudgedRows). judgement_by (standing_of_rows u)) e),
  )

pub judged_rows_exactly : (code : ChosenCode) → promises.JudgedRowsExactly code
judged_rows_exactly code = (
  answer_exactly code (Ok tt),
  answer_exactly code (Err NoData),
  answer_exactly code (Err NoChecks),
  λ i. answer_exactly code (Err (TooWide i)),
  answer_exactly code (Err NoRows),
  answer_exactly code (Err Repeated),
  answer_exactly code (Err NotTriangular),
  answer_exactly code (Err EvenColumn),
  λ i. answer_exactly code (Err (Leftover i)),
)

module _ (code : ChosenCode) (handed : Handed (chosen_of code)) where
  abbrev n : ℕ
  n = code.n

  abbrev r : ℕ
  r = code.r

  abbrev k : ℕ
  k = code.n - code.r

  abbrev cs : List ℕ
  cs = code.columns

  abbrev most : ℕ
  most = code.edition.places

  rule : (judge_of code ≡ Ok tt) ↔ KeptRows most cs n r code.rows
  rule = rows_rule most cs n r code.rows

  -- within the limits the n columns stand in the places
  module _ (l : Limits most k r) where
    room : n ≤ length cs
    room = omega (arith, handed.places, l.sized.some, l.sized.few, l.top)

    size : length (take n cs) ≡ n
    size = length-take-le n cs room

    checks_are : take r (drop k cs) ≡ drop k (take n cs)
    checks_are =
        let some = l.sized.some in
        let e : r ≡ n - k = omega arith in
        ap (λ (m : ℕ). take m (drop k cs)) e ∙ last_of cs n r (omega arith) room

    checks-below : Narrow (take n cs) r → (p : ℕ) → p < length (drop k (take n cs)) → column (drop k (take n cs)) p < 2 ^ r
    checks-below narrow p h = rw (get_or-drop k (take n cs) p 0) (narrow (k + p) (omega (arith, length-drop k (take n cs))))

  at : (i : ℕ) → i < n → column (take n cs) i ≡ column cs i
  at i h = get_or-take n cs i 0 h

  kept-says : KeptRows most cs n r code.rows → promises.RowsKept code
  kept-says s =
      let l = s.limits in
      let z = size l in (
        l,
        λ i h. subst (λ (c : ℕ). c < 2 ^ r) (at i h) (s.rule.narrow i (omega arith)),
        s.rule.set.some,
        s.rule.set.within,
        λ i h e. s.rule.differ.some i (omega arith) (at i h ∙ e),
        λ p q hp hq same. s.rule.differ.apart p q (omega arith) (omega arith) (at p hp ∙ same ∙ sym (at q hq)),
        subst ByRows (sym (checks_are l)) ((by_rows (drop k (take n cs)) r (checks-below l s.rule.narrow)).0 s.rule.triangular),
        λ i h. ap (odd_in code.rows) (sym (at i h)) ∙ s.rule.odd i (omega arith),
        λ i h u. s.empty i h (omega (arith, handed.places)),
      )

  says-kept : promises.RowsKept code → KeptRows most cs n r code.rows
  says-kept s =
      let l = s.0 in
      let z = size l in
      let narrow : Narrow (take n cs) r = λ i h. subst (λ (c : ℕ). c < 2 ^ r) (sym (at i (omega arith))) (s.1 i (omega arith)) in
      record {
        limits = l;
        rule = record {
          narrow = narrow;
          set = record { some = s.2; within = s.3 };
          differ = record {
            some = λ i h e. s.4 i (omega arith) (sym (at i (omega arith)) ∙ e);
            apart = λ p q hp hq same. s.5 p q (omega arith) (omega arith) (sym (at p (omega arith)) ∙ same ∙ at q (omega arith));
          };
          triangular = (by_rows (drop k (take n cs)) r (checks-below l narrow)).1 (subst ByRows (checks_are l) s.6);
          odd = λ i h. ap (odd_in code.rows) (at i (omega arith)) ∙ s.7 i (omega arith);
        };
        empty = λ i h u. s.8 i h (omega (arith, handed.places));
      }

pub accepted_rows_exactly : (code : ChosenCode) → promises.AcceptedRowsExactly code
accepted_rows_exactly code handed = (
  λ e. kept-says code handed ((rule code handed).0 ((number_is code).0 e)),
  λ s. (number_is code).1 ((rule code handed).1 (says-kept code handed s)),
)
