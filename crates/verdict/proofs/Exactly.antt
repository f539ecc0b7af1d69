-- THE TABLE OF VERDICTS: each verdict exactly when its row says so, and the named place's column is the syndrome. For any columns that
-- differ and are odd within a set of rows. Assumes nothing.
use mathlib.Core.Path.{◌≡◌, refl, sym, ap, subst, ◌∙◌}
use mathlib.Core.Bool.{Bool, true, false, cond}
use mathlib.Core.Logic.{◌≢◌, ◌⊎◌, ⊎_elim}
use mathlib.Core.List.{List}
use Prim.Native.Nat.{ℕ, zero, suc, ◌≤◌, ◌<◌}
use native.Mathlib.Omega.{arith}
use borrow.Author.Tests.{eqb-true, eqb-false, ltb-true, ltb-false}
use lib.Count.{ones}
use lib.Dec.{eqb, ltb}
use lib.ListN.{length}
use Rattle.parity.specs.Odd.{odd_in}
use Rattle.parity.proofs.Rows.{parity_in}
use Rattle.columns.specs.Mix.{column, place_in}
use Rattle.columns.specs.Rule.{Good}
use Rattle.columns.proofs.Places.{place_at, place_hit, place_first, place_none}
use Rattle.columns.proofs.Errors.{column-nonzero}
use Rattle.verdict.specs.declared.Verdict.{Verdict}
use Rattle.verdict.specs.declared.Verdict.TheVariants.{Clean, Data, Check, Even, Odd, Stray}
use Rattle.verdict.specs.Verdicts.{verdict_on, finding_of}
use Rattle.verdict.specs.Table.{VerdictTable}
use Rattle.verdict.proofs.Rows.{on_clean, on_data, on_check, on_even, on_odd}

module _ (rows : ℕ) (cs : List ℕ) (k : ℕ) (fits : k ≤ length cs) (good : Good (odd_in rows) cs) (s : ℕ) where
  abbrev pub verdict : Verdict
  verdict = verdict_on (odd_in rows) cs k s

  -- what a verdict says of the syndrome
  abbrev pub RowOf : Verdict → Type 0
  RowOf Clean = s ≡ 0
  RowOf (Data p) = (p < k) × (p < length cs) × (column cs p ≡ s)
  RowOf (Check p) = (k ≤ p) × (p < length cs) × (column cs p ≡ s)
  RowOf Even = (s ≢ 0) × (odd_in rows s ≡ 0)
  RowOf Odd = (odd_in rows s ≡ 1) × ((p : ℕ) → p < length cs → column cs p ≢ s)
  RowOf Stray = ⊥

  nowhere : length cs ≤ place_in cs s → (p : ℕ) → p < length cs → column cs p ≢ s
  nowhere h p l e = omega (arith, place_first cs s p l e)

  pub verdict_row : RowOf verdict
  unfolding verdict_on
  verdict_row = go (eqb s 0) (ltb (place_in cs s) k) (ltb (place_in cs s) (length cs)) (eqb (odd_in rows s) 0) refl refl refl refl
    where
      go : (z d c e : Bool) → eqb s 0 ≡ z → ltb (place_in cs s) k ≡ d → ltb (place_in cs s) (length cs) ≡ c → eqb (odd_in rows s) 0 ≡ e
          → RowOf (cond z Clean (cond d (Data (place_in cs s)) (cond c (Check (place_in cs s)) (cond e Even Odd))))
      go true d c e hz hd hc he = eqb-true s 0 hz
      go false true c e hz hd hc he =
          let h = ltb-true (place_in cs s) k hd in
          (h, omega arith, place_hit cs s (omega arith))
      go false false true e hz hd hc he =
          let h = ltb-true (place_in cs s) (length cs) hc in
          (ltb-false (place_in cs s) k hd, h, place_hit cs s h)
      go false false false true hz hd hc he = (eqb-false s 0 hz, eqb-true (odd_in rows s) 0 he)
      go false false false false hz hd hc he =
          (omega (arith, eqb-false (odd_in rows s) 0 he), nowhere (ltb-false (place_in cs s) (length cs) hc))

  -- ---- and where a row says so, that is the verdict

  module _ (p : ℕ) (inside : p < length cs) (e : column cs p ≡ s) where
    found : place_in cs s ≡ p
    found = ap (place_in cs) (sym e) ∙ place_at good p inside

    some : s ≢ 0
    some z = column-nonzero good (parity_in rows) p inside (e ∙ z)

    pub row_data : p < k → verdict ≡ Data p
    row_data h = on_data (odd_in rows) cs k s some (omega (arith, found)) ∙ ap Data found

    pub row-check : k ≤ p → verdict ≡ Check p
    row-check h = on_check (odd_in rows) cs k s some (omega (arith, found)) (omega (arith, found)) ∙ ap Check found

  -- a column is odd
  even_nowhere : odd_in rows s ≡ 0 → (p : ℕ) → p < length cs → column cs p ≢ s
  even_nowhere z p l e =
      let o : ◌≡◌ {A = ℕ} 0 1 = sym z ∙ ap (odd_in rows) (sym e) ∙ good.each_odd p l in
      omega arith

  past : ((p : ℕ) → p < length cs → column cs p ≢ s) → place_in cs s ≡ length cs
  past away = place_none cs s away

  pub row_even : s ≢ 0 → odd_in rows s ≡ 0 → verdict ≡ Even
  row_even z e =
      let n = past (even_nowhere e) in
      on_even (odd_in rows) cs k s z (omega (arith, n)) (omega (arith, n)) e

  pub row_odd : odd_in rows s ≡ 1 → ((p : ℕ) → p < length cs → column cs p ≢ s) → verdict ≡ Odd
  unfolding ones
  row_odd o away =
      let n = past away in
      on_odd (odd_in rows) cs k s (λ z. zero_even (ap (odd_in rows) z)) (omega (arith, n)) (omega (arith, n)) (omega arith)
    where
      zero_even : odd_in rows s ≡ odd_in rows 0 → ⊥
      zero_even z = let e : odd_in rows s ≡ 0 = z in omega arith

  -- ---- in document 01's numbers

  abbrev Said : ℕ → Type 0
  Said zero = s ≡ 0
  Said (suc zero) = (p : ℕ) × (p < k) × (p < length cs) × (column cs p ≡ s)
  Said (suc (suc zero)) = (p : ℕ) × (k ≤ p) × (p < length cs) × (column cs p ≡ s)
  Said (suc (suc (suc zero))) = (s ≢ 0) × (odd_in rows s ≡ 0)
  Said (suc (suc (suc (suc zero)))) = (odd_in rows s ≡ 1) × ((p : ℕ) → p < length cs → column cs p ≢ s)
  Said (suc (suc (suc (suc (suc n))))) = ⊥

  said : (v : Verdict) → RowOf v → Said (finding_of v).verdict
  said Clean r = r
  said (Data p) r = (p, r.0, r.1, r.2)
  said (Check p) r = (p, r.0, r.1, r.2)
  said Even r = r
  said Odd r = r
  said Stray r = r

  -- what is named has the syndrome for its column, and what is not is 255
  names : (v : Verdict) → RowOf v → ((finding_of v).verdict ≡ 1) ⊎ ((finding_of v).verdict ≡ 2)
      → ((finding_of v).place < length cs) × (column cs (finding_of v).place ≡ s)
  names Clean r h = absurd (⊎_elim (λ (e : ◌≡◌ {A = ℕ} 0 1). omega arith) (λ (e : ◌≡◌ {A = ℕ} 0 2). omega arith) h)
  names (Data p) r h = (r.1, r.2)
  names (Check p) r h = (r.1, r.2)
  names Even r h = absurd (⊎_elim (λ (e : ◌≡◌ {A = ℕ} 3 1). omega arith) (λ (e : ◌≡◌ {A = ℕ} 3 2). omega arith) h)
  names Odd r h = absurd (⊎_elim (λ (e : ◌≡◌ {A = ℕ} 4 1). omega arith) (λ (e : ◌≡◌ {A = ℕ} 4 2). omega arith) h)
  names Stray r h = absurd r

  names_none : (v : Verdict) → (finding_of v).verdict ≢ 1 → (finding_of v).verdict ≢ 2 → (finding_of v).place ≡ 255
  names_none Clean a b = refl
  names_none (Data p) a b = absurd (a refl)
  names_none (Check p) a b = absurd (b refl)
  names_none Even a b = refl
  names_none Odd a b = refl
  names_none Stray a b = refl

  is : (m : ℕ) → (finding_of verdict).verdict ≡ m → Said m
  is m e = subst Said e (said verdict verdict_row)

  gives : (v : Verdict) → verdict ≡ v → (finding_of verdict).verdict ≡ (finding_of v).verdict
  gives v e = ap (λ x. (finding_of x).verdict) e

  pub verdict-table : VerdictTable rows cs k s (finding_of verdict).verdict (finding_of verdict).place
  verdict-table = record {
    clean = (is 0, λ z. gives Clean (on_clean (odd_in rows) cs k s z));
    data_bit = (is 1, λ y. gives (Data y.0) (row_data y.0 y.2 y.3 y.1));
    check_bit = (is 2, λ y. gives (Check y.0) (row-check y.0 y.2 y.3 y.1));
    even = (is 3, λ y. gives Even (row_even y.0 y.1));
    odd = (is 4, λ y. gives Odd (row_odd y.0 y.1));
    named = names verdict verdict_row;
    unnamed = names_none verdict;
  }
