-- Laws of a run's journal: how long it is, and one record more. Assumes nothing.
use mathlib.Core.Path.{◌≡◌, refl, sym, ap, ◌∙◌}
use mathlib.Core.Bool.{Bool, true, false, cond}
use mathlib.Core.List.{List, [], ◌∷◌, ◌++◌, append-nil}
use Prim.Native.Nat.{ℕ, zero, suc, ◌+◌, ◌*◌, ◌≤◌}
use native.Mathlib.Nat.{mul-zero, mul-one}
use native.Mathlib.Omega.{arith}
use borrow.Author.Tests.{eq-eqb, ne_eqb}
use borrow.Rule.Slice.PartMut.{put_mid}
use lib.Dec.{eqb}
use lib.ListN.{length}
use Rattle.record.specs.Layout.{Entry, entry_bytes, in_bytes}
use Rattle.record.specs.Run.{record_at, gather, add_up, over}
use Rattle.record.specs.Tally.{one_if, count_of}
use Rattle.record.specs.Journal.{unclean, noted, needed_of, entries_of}
use Rattle.record.proofs.Over.{over-part}
use Rattle.runs.proofs.Run.{sum_step, gather-step, length-gather}
use Rattle.runs.proofs.Entries.{in_bytes-append, in_bytes_one}

none : (c : ℕ) → length (in_bytes []) ≡ c * 0
unfolding in_bytes
none c = sym (mul-zero c)

-- ---- one record more

module _ (size : ℕ) (verdict : List ℕ → ℕ) (run : List ℕ) (i : ℕ) where
  pub needed_clean : verdict (record_at size run i) ≡ 0 → needed_of size verdict run (i + 1) ≡ needed_of size verdict run i
  unfolding unclean
  needed_clean e = sum_step size (unclean verdict) run i ∙ simp (eq-eqb _ _ e) (omega arith)

  pub needed_more : (verdict (record_at size run i) ≡ 0 → ⊥) → needed_of size verdict run (i + 1) ≡ needed_of size verdict run i + 1
  unfolding unclean
  needed_more e = sum_step size (unclean verdict) run i ∙ simp (ne_eqb _ _ e)

  module _ (entry : ℕ → List ℕ → Entry) (first : ℕ) where
    pub entries-clean : verdict (record_at size run i) ≡ 0
        → entries_of size verdict entry first run (i + 1) ≡ entries_of size verdict entry first run i
    unfolding noted
    entries-clean e = gather-step size (λ j. noted verdict entry (first + j)) run i ∙ simp (eq-eqb _ _ e, append-nil)

    pub entries-more : (verdict (record_at size run i) ≡ 0 → ⊥)
        → entries_of size verdict entry first run (i + 1)
        ≡ entries_of size verdict entry first run i ++ (entry (first + i) (record_at size run i) ∷ [])
    unfolding noted
    entries-more e = gather-step size (λ j. noted verdict entry (first + j)) run i ∙ simp (ne_eqb _ _ e)

    -- the entry is written behind those before it
    pub entries-write : (d now ys : List ℕ) (a n : ℕ) → (verdict (record_at size run i) ≡ 0 → ⊥)
        → now ≡ over (in_bytes (entries_of size verdict entry first run i)) d
        → length (in_bytes (entries_of size verdict entry first run i)) ≡ a
        → ys ≡ entry_bytes (entry (first + i) (record_at size run i)) → length ys ≡ n
        → put_mid a n now ys ≡ over (in_bytes (entries_of size verdict entry first run (i + 1))) d
    entries-write d now ys a n v e l g m =
        let es = entries_of size verdict entry first run i in
        let one = entry (first + i) (record_at size run i) in
        rw e (over-part (in_bytes es) d ys a n l m)
        ∙ ap (λ (p : List ℕ). over p d)
        (ap (λ (y : List ℕ). in_bytes es ++ y) (g ∙ sym (in_bytes_one one))
        ∙ sym (in_bytes-append es (one ∷ []))
        ∙ ap in_bytes (sym (entries-more v)))

-- ---- how many

module _ (size : ℕ) (verdict : List ℕ → ℕ) (entry : ℕ → List ℕ → Entry) (first : ℕ) (run : List ℕ) where
  -- what each record says, as bytes
  bytes_gathered : (k : ℕ) → in_bytes (entries_of size verdict entry first run k)
      ≡ gather size (λ j rec. in_bytes (noted verdict entry (first + j) rec)) run k
  unfolding gather in_bytes
  bytes_gathered zero = refl
  bytes_gathered (suc k) =
      in_bytes-append (entries_of size verdict entry first run k) (noted verdict entry (first + k) (record_at size run k))
      ∙ ap (λ (l : List ℕ). l ++ in_bytes (noted verdict entry (first + k) (record_at size run k))) (bytes_gathered k)

  -- where an entry has c bytes
  pub length-entries : (c : ℕ) → ((n : ℕ) (rec : List ℕ) → length rec ≡ size → length (entry_bytes (entry n rec)) ≡ c)
      → (k : ℕ) → k * size ≤ length run
      → length (in_bytes (entries_of size verdict entry first run k)) ≡ c * needed_of size verdict run k
  unfolding noted unclean
  length-entries c h k fits =
      ap length (bytes_gathered k)
      ∙ length-gather size (λ j rec. in_bytes (noted verdict entry (first + j) rec)) run c (unclean verdict)
      (λ i rec e. go (first + i) rec e (eqb (verdict rec) 0)) k fits
    where
      go : (n : ℕ) (rec : List ℕ) → length rec ≡ size → (b : Bool) → length (in_bytes (cond b [] (entry n rec ∷ []))) ≡ c * cond b 0 1
      go n rec e true = none c
      go n rec e false = ap length (in_bytes_one (entry n rec)) ∙ h n rec e ∙ sym (mul-one c)

  -- there are as many as are needed
  pub count_entries : (k : ℕ) → k * size ≤ length run → length (entries_of size verdict entry first run k) ≡ needed_of size verdict run k
  unfolding noted unclean
  count_entries k fits =
      length-gather size (λ j. noted verdict entry (first + j)) run 1 (unclean verdict)
      (λ i rec e. go (entry (first + i) rec) (eqb (verdict rec) 0)) k fits
      ∙ omega arith
    where
      go : (e : Entry) (b : Bool) → length (cond b [] (e ∷ [])) ≡ 1 * cond b 0 1
      go e true = refl
      go e false = refl

-- a record needs an entry, or is clean
pub needed_or_clean : (size : ℕ) (verdict : List ℕ → ℕ) (run : List ℕ) (k : ℕ)
    → needed_of size verdict run k + count_of size verdict 0 run k ≡ k
unfolding add_up unclean one_if
needed_or_clean size verdict run zero = refl
needed_or_clean size verdict run (suc k) =
    omega (arith, needed_or_clean size verdict run k, either (eqb (verdict (record_at size run k)) 0))
  where
    either : (b : Bool) → cond b 0 1 + cond b 1 0 ≡ 1
    either true = refl
    either false = refl
