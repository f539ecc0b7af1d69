-- The demands on records, entries and the tally, proved from the layers' laws. Assumes nothing.
use mathlib.Core.Path.{◌≡◌, refl, sym, ap, ◌∙◌}
use mathlib.Core.Bool.{Bool, true, false, cond}
use Prim.Native.Nat.{ℕ, ◌+◌, ◌<◌}
use native.Mathlib.Nat.{add-zero}
use native.Mathlib.Omega.{arith}
use borrow.Author.Tests.{eqb-true, eqb-false, eq-eqb, ne_eqb}
use lib.Dec.{eqb}
use Rattle.record.specs.Bytes.{byte_span}
use Rattle.record.specs.Layout.{data_size}
use Rattle.record.specs.Tally.{count_limit, counted_to, tally_by}
use Rattle.runs.proofs.Records.{record_read, data_back, check_back}
use Rattle.runs.proofs.Entries.{entry_read, entry-back}
use Rattle.runs.proofs.Tallies.{tally_same, counted_full, counted-above}
use Rattle.demands.specs.Demands as demands

pub sizes : demands.Sizes
sizes = (refl, refl, refl)

pub records-read : demands.RecordsRead
unfolding byte_span
records-read = (
  record_read data_size,
  λ low check h i. (data_back data_size low check h, check_back data_size low check i),
)

pub entries-read : demands.EntriesRead
unfolding byte_span
entries-read = (entry_read data_size, entry-back data_size)

-- the count of the words with the verdict `which`, of which one more was seen or not
counted_one : (f : ℕ → ℕ) (v which : ℕ) → f v < count_limit → counted_to (f which) v which ≡ f which + cond (eqb which v) 1 0
unfolding counted_to
counted_one f v which h = go (eqb v which) refl
  where
    go : (b : Bool) → eqb v which ≡ b → counted_to (f which) v which ≡ f which + cond (eqb which v) 1 0
    go true e =
        let s = eqb-true v which e in
        let low : f which < count_limit = rw s at h in
        rw (e, eq-eqb which v (sym s)) (omega arith)
    go false e = rw (e, ne_eqb which v (λ s. eqb-false v which e (sym s))) (sym (add-zero (f which)))

-- a full count of that verdict, and any other, stay
counted_stays : (f : ℕ → ℕ) (v which : ℕ) → f v ≡ count_limit → counted_to (f which) v which ≡ f which
unfolding counted_to
counted_stays f v which h = go (eqb v which) refl
  where
    go : (b : Bool) → eqb v which ≡ b → counted_to (f which) v which ≡ f which
    go true e =
        let full : f which ≡ count_limit = ap f (sym (eqb-true v which e)) ∙ h in
        ap (λ (n : ℕ). counted_to n v which) full ∙ counted_full v which ∙ sym full
    go false e = rw e

pub tally_counts : demands.TallyCounts
tally_counts f v = (
  λ h. tally_same (λ u. counted_to (f u) v u) (λ u. f u + cond (eqb u v) 1 0) (λ u. counted_one f v u h),
  λ h. tally_same (λ u. counted_to (f u) v u) f (λ u. counted_stays f v u h),
  λ h. counted-above (tally_by f) v h,
)
