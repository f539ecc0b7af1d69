-- Laws of what a pass finds at a record and leaves there. Assumes nothing.
use mathlib.Core.Path.{◌≡◌, refl, ap₂, ◌∙◌}
use mathlib.Core.Logic.{◌≢◌}
use mathlib.Core.List.{List}
use Prim.Native.Nat.{ℕ, ◌+◌}
use native.Mathlib.Omega.{arith}
use lib.ListN.{length}
use Rattle.record.specs.Layout.{record_size, head_size, entry_size, entry_bytes}
use Rattle.runs.proofs.Records.{length_record}
use Rattle.runs.proofs.Entries.{length-entry}
use Rattle.verdict.specs.declared.Verdict.{Verdict}
use Rattle.verdict.specs.declared.Verdict.TheVariants.{Clean, Data, Check, Even, Odd, Stray}
use Rattle.word.specs.Word.{joined, flipped_in}
use Rattle.verdict.specs.Verdicts.{finding_of}
use Rattle.verdict.specs.Places.{NamesPlace}
use Rattle.word.proofs.Named.{reading_names}
use Rattle.at_record.specs.Outcome.{Reader, Ready, word_in, seen, left_by, verdict_of, left_of, entry_of}

-- ---- any verdict

-- a record stays where the verdict is neither 1 nor 2
left-kept : (d k : ℕ) (v : Verdict) (rec : List ℕ) → (finding_of v).verdict ≢ 1 → (finding_of v).verdict ≢ 2 → left_by d k v rec ≡ rec
left-kept d k Clean rec x y = refl
left-kept d k (Data p) rec x y = absurd (x refl)
left-kept d k (Check p) rec x y = absurd (y refl)
left-kept d k Even rec x y = refl
left-kept d k Odd rec x y = refl
left-kept d k Stray rec x y = refl

-- and keeps its size
left-size : (d k : ℕ) (v : Verdict) (rec : List ℕ) → length rec ≡ record_size d → length (left_by d k v rec) ≡ record_size d
left-size d k Clean rec e = e
left-size d k (Data p) rec e = let w = flipped_in k p (word_in d rec) in length_record d (joined w.low w.high) w.check
left-size d k (Check p) rec e = let w = flipped_in k p (word_in d rec) in length_record d (joined w.low w.high) w.check
left-size d k Even rec e = e
left-size d k Odd rec e = e
left-size d k Stray rec e = e

-- ---- a record

module _ (f : Reader) where
  pub length-left_of : (rec : List ℕ) → length rec ≡ record_size f.d → length (left_of f rec) ≡ record_size f.d
  unfolding left_of
  length-left_of rec = left-size f.d f.k (seen f rec) rec

  pub length-entry_of : (stamp n : ℕ) (rec : List ℕ) → length rec ≡ record_size f.d
      → length (entry_bytes (entry_of f stamp n rec)) ≡ entry_size f.d
  unfolding entry_of left_of
  length-entry_of stamp n rec e =
      length-entry (entry_of f stamp n rec) ∙ ap₂ (λ x y. head_size + (x + y)) e (length-left_of rec e)

  -- only verdicts 1 and 2 are mended
  pub kept : (rec : List ℕ) → verdict_of f rec ≢ 1 → verdict_of f rec ≢ 2 → left_of f rec ≡ rec
  unfolding verdict_of left_of
  kept rec x y = left-kept f.d f.k (seen f rec) rec x y

  pub clean_kept : (rec : List ℕ) → verdict_of f rec ≡ 0 → left_of f rec ≡ rec
  clean_kept rec e = kept rec (λ x. omega (arith, e, x)) (λ y. omega (arith, e, y))

  -- a place that is named is one of the word's
  pub seen_names : Ready f → (rec : List ℕ) → NamesPlace f.k (seen f rec)
  unfolding seen
  seen_names ready rec = reading_names f.columns f.k ready.checks f.rows (word_in f.d rec)
