-- The second walk has passed a record: run, journal and tally are as the plain pass leaves them there. Clean records are passed by doing
-- nothing, so the walk may go from one listed record to the next. Assumes nothing.
use mathlib.Core.Path.{◌≡◌, refl, sym, ap, ◌∙◌}
use mathlib.Core.Bool.{Bool, true, false, cond}
use mathlib.Core.Logic.{◌≢◌}
use mathlib.Core.List.{List}
use Prim.Native.Nat.{ℕ, zero, suc, ◌+◌, ◌*◌, ◌-◌, ◌≤◌, ◌<◌}
use native.Mathlib.Nat.{add-zero}
use native.Mathlib.Omega.{arith}
use borrow.Author.Tests.{ne_eqb, eqb-true}
use lib.Dec.{eqb}
use lib.ListN.{length}
use Rattle.record.specs.Layout.{record_size, in_bytes}
use Rattle.record.specs.Run.{record_at, over}
use Rattle.record.specs.declared.Tally.{Tally}
use Rattle.record.specs.Tally.{count_limit, counted_to, tally_by, counted_of, one_if, count_of, tally_of}
use Rattle.record.specs.Journal.{unclean}
use Rattle.runs.proofs.Run.{sum_step, sum_mono, fits_less}
use Rattle.runs.proofs.Tallies.{tally_same, counted_below, count-le}
use Rattle.runs.proofs.Journal.{entries-clean}
use Rattle.at_record.specs.Outcome.{Reader, verdict_of, entry_of}
use Rattle.over_run.proofs.Turns.{left_to, entries_to, count_to, left-clean, entries_rise}

-- the count of the verdict v when the records before `at` are passed: the clean ones are all counted at the start
abbrev pub count_at : ℕ → (List ℕ → ℕ) → List ℕ → ℕ → ℕ → ℕ → ℕ
count_at size verdict run n at zero = count_of size verdict 0 run n
count_at size verdict run n at (suc v) = count_of size verdict (suc v) run at

abbrev pub tally_to : Reader → List ℕ → ℕ → ℕ → Tally
tally_to f run n at = tally_by (count_at (record_size f.d) (verdict_of f) run n at)

pub record Walked (f : Reader) (stamp first : ℕ) (run journal : List ℕ) (n at : ℕ) (run' journal' : List ℕ) (tally : Tally) : Type 0 where
  pub image : run' ≡ over (left_to f run at) run
  pub entries : journal' ≡ over (in_bytes (entries_to f stamp first run at)) journal
  pub counts : tally ≡ tally_to f run n at

clean_if : (verdict : List ℕ → ℕ) (rec : List ℕ) → unclean verdict rec ≡ 0 → verdict rec ≡ 0
unfolding unclean
clean_if verdict rec = go (eqb (verdict rec) 0) refl
  where
    go : (b : Bool) → eqb (verdict rec) 0 ≡ b → ◌≡◌ {A = ℕ} (cond b 0 1) 0 → verdict rec ≡ 0
    go true e h = eqb-true (verdict rec) 0 e
    go false e h = absurd (omega (arith, h))

module _ (size : ℕ) (verdict : List ℕ → ℕ) (run : List ℕ) (n at : ℕ) where
  -- a clean record changes no count but that of the clean ones
  counts_clean : verdict (record_at size run at) ≡ 0 → (v : ℕ) → count_at size verdict run n at v ≡ count_at size verdict run n (at + 1) v
  unfolding one_if
  counts_clean z zero = refl
  counts_clean z (suc v) =
      let d : verdict (record_at size run at) ≡ suc v → ⊥ = λ e. omega (arith, z, e) in
      sym (sum_step size (one_if verdict (suc v)) run at ∙ simp (ne_eqb (verdict (record_at size run at)) (suc v) d) (add-zero _))

  -- any other is counted
  counts_next : at < count_limit → verdict (record_at size run at) ≢ 0 → (v : ℕ)
      → counted_to (count_at size verdict run n at v) (verdict (record_at size run at)) v ≡ count_at size verdict run n (at + 1) v
  unfolding one_if counted_to
  counts_next h z zero = simp (ne_eqb _ _ z)
  counts_next h z (suc v) =
      counted_below (count_of size verdict (suc v) run at) (verdict (record_at size run at)) (suc v)
      (omega (arith, count-le size verdict run (suc v) at))
      ∙ sym (sum_step size (one_if verdict (suc v)) run at)

module _ (f : Reader) (run : List ℕ) (n : ℕ) where
  abbrev size : ℕ
  size = record_size f.d

  -- the tally at the end, and one record more
  pub tally_end : tally_to f run n n ≡ tally_of size (verdict_of f) run n
  tally_end = tally_same (count_at size (verdict_of f) run n n) (λ v. count_of size (verdict_of f) v run n) all
    where
      all : (v : ℕ) → count_at size (verdict_of f) run n n v ≡ count_of size (verdict_of f) v run n
      all zero = refl
      all (suc v) = refl

  pub tally_next : (at : ℕ) → at < count_limit → verdict_of f (record_at size run at) ≢ 0
      → counted_of (tally_to f run n at) (verdict_of f (record_at size run at)) ≡ tally_to f run n (at + 1)
  tally_next at h z =
      tally_same (λ v. counted_to (count_at size (verdict_of f) run n at v) (verdict_of f (record_at size run at)) v)
      (count_at size (verdict_of f) run n (at + 1)) (counts_next size (verdict_of f) run n at h z)

  module _ (fits : n * size ≤ length run) (stamp first : ℕ) (journal run' journal' : List ℕ) (tally : Tally) where
    abbrev At : ℕ → Type 0
    At at = Walked f stamp first run journal n at run' journal' tally

    walked-clean : (at : ℕ) → At at → at < n → verdict_of f (record_at size run at) ≡ 0 → At (at + 1)
    walked-clean at w h z =
        record {
          image = left-clean f run at (fits_less size (length run) n at fits h) run' w.image z;
          entries =
              w.entries
              ∙ ap (λ p. over (in_bytes p) journal) (sym (entries-clean size (verdict_of f) run at (entry_of f stamp) first z));
          counts =
              w.counts
              ∙ tally_same (count_at size (verdict_of f) run n at) (count_at size (verdict_of f) run n (at + 1))
              (counts_clean size (verdict_of f) run n at z);
        }

    -- THE LAW of the second walk: records that need no entry are passed by doing nothing
    walked_skip : (d at : ℕ) → At at → at + d ≤ n → count_to f run (at + d) ≡ count_to f run at → At (at + d)
    walked_skip zero at w h e = rw (add-zero at) w
    walked_skip (suc d) at w h e =
        let s : at + 1 + d ≡ at + suc d = omega arith in
        let up = sum_mono size (unclean (verdict_of f)) run at (at + 1) (omega arith) in
        let top = sum_mono size (unclean (verdict_of f)) run (at + 1) (at + suc d) (omega arith) in
        let same : count_to f run (at + 1) ≡ count_to f run at = omega (arith, up, top, e) in
        let z = clean_if (verdict_of f) (record_at size run at) (omega (arith, same, sum_step size (unclean (verdict_of f)) run at)) in
        rw (← s) (walked_skip d (at + 1) (walked-clean at w (omega arith) z) (omega arith) (ap (count_to f run) s ∙ e ∙ sym same))

    pub walked_to : (at x : ℕ) → At at → at ≤ x → x ≤ n → count_to f run x ≡ count_to f run at → At x
    walked_to at x w l h e =
        let s : at + (x - at) ≡ x = omega arith in
        rw s at (walked_skip (x - at) at w (omega arith) (ap (count_to f run) s ∙ e))

-- the walk has passed i listed records
pub record Reached (f : Reader) (stamp first : ℕ) (run journal : List ℕ) (n i : ℕ) (run' journal' : List ℕ) (tally : Tally) : Type 0 where
  pub at : ℕ
  pub inside : at ≤ n
  pub order : count_to f run at ≡ i
  pub walked : Walked f stamp first run journal n at run' journal' tally

module _ (f : Reader) (run : List ℕ) (n : ℕ) (fits : n * record_size f.d ≤ length run) (stamp first : ℕ) (journal run' journal' : List ℕ)
    (tally : Tally) (i : ℕ) (r : Reached f stamp first run journal n i run' journal' tally) where
  -- it may go on to the record that the list names next
  pub walked_due : (x : ℕ) → x < n → verdict_of f (record_at (record_size f.d) run x) ≢ 0 → count_to f run x ≡ i
      → Walked f stamp first run journal n x run' journal' tally
  walked_due x h v e =
      let back : ¬ (x < r.at) = λ l. omega (arith, entries_rise (record_size f.d) (verdict_of f) run x r.at l v, e, r.order) in
      walked_to f run n fits stamp first journal run' journal' tally r.at x r.walked (omega arith) (omega arith) (e ∙ sym r.order)

  -- and where none is left, to the end
  pub walked_end : count_to f run n ≡ i → Walked f stamp first run journal n n run' journal' tally
  walked_end e =
      walked_to f run n fits stamp first journal run' journal' tally r.at n r.walked r.inside (omega arith) (e ∙ sym r.order)
