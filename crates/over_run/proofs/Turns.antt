-- One turn of a pass over a run: the record that is reached is as it was, and what is written makes the run, its entries and its tally one
-- record longer. Assumes nothing.
use mathlib.Core.Path.{◌≡◌, sym, ap, ap₂, ◌∙◌}
use mathlib.Core.Logic.{◌≢◌}
use mathlib.Core.List.{List}
use Prim.Native.Nat.{ℕ, suc, ◌+◌, ◌*◌, ◌≤◌, ◌<◌}
use native.Mathlib.Nat.{suc-mul, mul-suc, mul-add, mul-one, mul-le-mul_left}
use native.Mathlib.Omega.{arith}
use borrow.Rule.Slice.PartMut.{put_mid}
use lib.ListN.{length, take, drop}
use Rattle.record.specs.Layout.{record_size, entry_size, Entry, entry_bytes, in_bytes, records_in}
use Rattle.record.specs.Run.{record_at, gather, over}
use Rattle.record.specs.Journal.{unclean, needed_of, entries_of}
use Rattle.runs.proofs.Run.{record_length, record_next, record_kept, gather_write, sum_mono, length-left}
use Rattle.runs.proofs.Journal.{needed_more, entries-write, length-entries}
use Rattle.verdict.specs.declared.Verdict.{Verdict}
use Rattle.word.specs.declared.Sight.{Sight}
use Rattle.at_record.specs.Outcome.{Reader, seen, sight, left_by, entry_by, verdict_of, left_of, entry_of}
use Rattle.over_run.specs.Whole.{needed_by}
use Rattle.at_record.proofs.Outcomes.{length-left_of, length-entry_of, clean_kept}

-- entries stand in the order of their records
pub entries_rise : (size : ℕ) (verdict : List ℕ → ℕ) (run : List ℕ) (i j : ℕ) → i < j → verdict (record_at size run i) ≢ 0
    → needed_of size verdict run i < needed_of size verdict run j
entries_rise size verdict run i j h v =
    omega (arith, needed_more size verdict run i v, sum_mono size (unclean verdict) run (i + 1) j (omega arith))

-- the first i records as they are left, their entries, and how many these are
abbrev pub left_to : Reader → List ℕ → ℕ → List ℕ
left_to f run i = gather (record_size f.d) (λ j. left_of f) run i

abbrev pub entries_to : Reader → ℕ → ℕ → List ℕ → ℕ → List Entry
entries_to f stamp first run i = entries_of (record_size f.d) (verdict_of f) (entry_of f stamp) first run i

abbrev pub count_to : Reader → List ℕ → ℕ → ℕ
count_to f run i = needed_of (record_size f.d) (verdict_of f) run i

module _ (f : Reader) (run : List ℕ) where
  abbrev size : ℕ
  size = record_size f.d

  pub length-left_to : (i : ℕ) → i * size ≤ length run → length (left_to f run i) ≡ i * size
  length-left_to = length-left size (λ j. left_of f) (λ j. length-left_of f) run

  module _ (i : ℕ) (fits : suc i * size ≤ length run) where
    abbrev rec : List ℕ
    rec = record_at size run i

    size-at : length rec ≡ size
    size-at = record_length size run i fits

    fits-before : i * size ≤ length run
    fits-before = omega (arith, suc-mul i size)

    module _ (now : List ℕ) (n : ℕ) (e : now ≡ over (left_to f run i) run) (m : n ≡ size) where
      pub here : take n (drop (i * size) now) ≡ rec
      here = record_next size (λ j. left_of f) (λ j. length-left_of f) run i fits now n e m

      -- the record as its verdict leaves it is written
      pub left_next : (ys : List ℕ) (v : Verdict) → v ≡ seen f rec → ys ≡ left_by f.d f.k v (take n (drop (i * size) now))
          → put_mid (i * size) n now ys ≡ over (left_to f run (i + 1)) run
      unfolding left_of
      left_next ys v s g =
          let same : ys ≡ left_of f rec = g ∙ ap₂ (left_by f.d f.k) s here in
          gather_write size (λ j. left_of f) run i run now ys (i * size) n e (length-left_to i fits-before) same
          (ap length same ∙ length-left_of f rec size-at ∙ sym m)

    -- a clean one need not be
    pub left-clean : (now : List ℕ) → now ≡ over (left_to f run i) run → verdict_of f rec ≡ 0 → now ≡ over (left_to f run (i + 1)) run
    left-clean now e v = e ∙ sym (record_kept size (λ j. left_of f) (λ j. length-left_of f) run i fits (clean_kept f rec v))

    -- its entry is written behind those before it
    pub entries_next : (stamp first : ℕ) (journal now ys : List ℕ) (used n : ℕ) (v : Sight) (bytes : List ℕ) → verdict_of f rec ≢ 0
        → now ≡ over (in_bytes (entries_to f stamp first run i)) journal → used ≡ entry_size f.d * count_to f run i
        → n ≡ entry_size f.d
        → v ≡ sight f rec → bytes ≡ rec
        → ys ≡ entry_bytes (entry_by f.d f.k stamp (first + i) v.verdict v.syndrome bytes)
        → put_mid used n now ys ≡ over (in_bytes (entries_to f stamp first run (i + 1))) journal
    unfolding entry_of
    entries_next stamp first journal now ys used n v bytes w e u m s h g =
        let same : ys ≡ entry_bytes (entry_of f stamp (first + i) rec) =
        g ∙ ap₂ (λ (x : Sight) (l : List ℕ). entry_bytes (entry_by f.d f.k stamp (first + i) x.verdict x.syndrome l)) s h in
        entries-write size (verdict_of f) run i (entry_of f stamp) first journal now ys used n w e
        (length-entries size (verdict_of f) (entry_of f stamp) first run (entry_size f.d) (length-entry_of f stamp) i fits-before ∙ sym u)
        same (ap length same ∙ length-entry_of f stamp (first + i) rec size-at ∙ sym m)

    -- there is room for it, and then for the next
    pub entry-room : (journal : List ℕ) (used : ℕ) → entry_size f.d * needed_by f run ≤ length journal → i < records_in f.d run
        → used ≡ entry_size f.d * count_to f run i → verdict_of f rec ≢ 0 → used + entry_size f.d ≤ length journal
    entry-room journal used room l u w =
        let rise = entries_rise size (verdict_of f) run i (records_in f.d run) l w in
        omega (arith, mul-suc (entry_size f.d) (count_to f run i), mul-le-mul_left (entry_size f.d) rise)

    pub used-next : (used : ℕ) → used ≡ entry_size f.d * count_to f run i → verdict_of f rec ≢ 0
        → used + entry_size f.d ≡ entry_size f.d * count_to f run (i + 1)
    used-next used u w =
        omega (
          arith,
          ap (λ n. entry_size f.d * n) (needed_more size (verdict_of f) run i w),
          mul-add (entry_size f.d) (count_to f run i) 1,
          mul-one (entry_size f.d),
        )
