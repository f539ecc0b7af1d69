-- The entries of a run, whatever the sizes, the verdicts and the entries are: each record that is not clean has its entry at the place that
-- the records before it leave it, and each entry is that of one record. Assumes nothing.
use mathlib.Core.Path.{◌≡◌, sym, ap, ◌∙◌}
use mathlib.Core.Bool.{Bool, true, false, cond}
use mathlib.Core.Logic.{◌≢◌}
use mathlib.Core.List.{List, [], ◌∷◌, ◌++◌, append_assoc}
use Prim.Native.Nat.{ℕ, zero, suc, ◌+◌, ◌*◌, ◌-◌, ◌≤◌, ◌<◌}
use native.Mathlib.Decide.{dec_lt}
use native.Mathlib.Nat.{mul_comm, suc-mul, not-suc-le-zero}
use native.Mathlib.Omega.{arith}
use lib.Dec.{eqb}
use lib.ListN.{length, take, drop}
use lib.Seq.{drop_at, take_at}
use Rattle.record.specs.Layout.{Entry, entry_bytes, in_bytes}
use Rattle.record.specs.Run.{record_at, gather, add_up}
use Rattle.record.specs.Journal.{unclean, noted, needed_of, entries_of}
use Rattle.runs.proofs.Run.{fits_less, record_length, sum_step, gather-add}
use Rattle.runs.proofs.Entries.{in_bytes-append}
use Rattle.runs.proofs.Journal.{needed_clean, entries-more, length-entries}

unclean-le : (verdict : List ℕ → ℕ) (rec : List ℕ) → unclean verdict rec ≤ 1
unfolding unclean
unclean-le verdict rec = go (eqb (verdict rec) 0)
  where
    go : (b : Bool) → cond b 0 1 ≤ 1
    go true = omega arith
    go false = omega arith

module _ (size : ℕ) (verdict : List ℕ → ℕ) (run : List ℕ) where
  -- a record among the first k is not clean, and m entries stand before its own
  abbrev Whose : ℕ → ℕ → Type 0
  Whose k m = (i : ℕ) × (i < k) × (verdict (record_at size run i) ≢ 0) × (needed_of size verdict run i ≡ m)

  -- each entry is that of a record
  pub entry_of_lem : (k m : ℕ) → m < needed_of size verdict run k → Whose k m
  unfolding add_up
  entry_of_lem zero m h = absurd (not-suc-le-zero h)
  entry_of_lem (suc k) m h =
      elim (dec_lt m (needed_of size verdict run k)) as (λ d. Whose (suc k) m) [
        | yes l ↦ let w = entry_of_lem k m l in (w.0, omega (arith, w.1), w.2, w.3)
        | no l ↦ (
          k,
          omega arith,
          λ e. omega (arith, needed_clean size verdict run k e, sum_step size (unclean verdict) run k),
          omega (arith, unclean-le verdict (record_at size run k)),
        )
      ]

  module _ (entry : ℕ → List ℕ → Entry) (c : ℕ)
      (each : (n : ℕ) (rec : List ℕ) → length rec ≡ size → length (entry_bytes (entry n rec)) ≡ c) (first : ℕ) where
    abbrev entries : ℕ → List Entry
    entries i = entries_of size verdict entry first run i

    -- the entry of the record i, and whatever follows it
    pub entry_at : (k i : ℕ) → k * size ≤ length run → i < k → verdict (record_at size run i) ≢ 0
        → record_at c (in_bytes (entries k)) (needed_of size verdict run i) ≡ entry_bytes (entry (first + i) (record_at size run i))
    unfolding in_bytes
    entry_at k i fits l v =
        let here : suc i * size ≤ length run = fits_less size (length run) k i fits l in
        let e : i + 1 + (k - (i + 1)) ≡ k = omega arith in
        let m : ℕ = needed_of size verdict run i in
        let one : Entry = entry (first + i) (record_at size run i) in
        let rest : List Entry = gather size (λ j. noted verdict entry (first + (i + 1 + j))) (drop ((i + 1) * size) run) (k - (i + 1)) in
        let front : length (in_bytes (entries i)) ≡ m * c =
        length-entries size verdict entry first run c each i (omega (arith, suc-mul i size)) ∙ mul_comm c m in
        let long : length (entry_bytes one) ≡ c = each (first + i) (record_at size run i) (record_length size run i here) in
        ap (λ n. record_at c (in_bytes (entries n)) m) (sym e)
        ∙ ap (λ x. record_at c (in_bytes x) m) (gather-add size (λ j. noted verdict entry (first + j)) run (i + 1) (k - (i + 1)))
        ∙ ap (λ x. record_at c (in_bytes (x ++ rest)) m) (entries-more size verdict run i entry first v)
        ∙ ap (λ x. record_at c x m) (split (entries i) one rest)
        ∙ ap (take c) (drop_at (in_bytes (entries i)) (entry_bytes one ++ in_bytes rest) (m * c) front)
        ∙ take_at (entry_bytes one) (in_bytes rest) c long
      where
        split : (es : List Entry) (e : Entry) (fs : List Entry) → in_bytes (es ++ (e ∷ []) ++ fs) ≡ in_bytes es ++ (entry_bytes e ++ in_bytes fs)
        split es e fs = ap in_bytes (append_assoc es (e ∷ []) fs) ∙ in_bytes-append es (e ∷ fs)
