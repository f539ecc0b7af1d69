-- The demands on the pass: the promises of the ten-byte edition. Assumes nothing.
use Prim.{tt}
use mathlib.Core.Path.{◌≡◌, refl, ap, ◌∙◌}
use mathlib.Core.Bool.{cond}
use mathlib.Core.Logic.{inl}
use mathlib.Core.List.{List, [], ◌∷◌}
use Prim.Native.Nat.{ℕ, zero, suc, ◌+◌, ◌-◌, ◌≤◌}
use native.Mathlib.Nat.{add-zero}
use native.Mathlib.Omega.{arith}
use lib.Dec.{eqb}
use lib.ListN.{length}
use Rattle.code.specs.declared.Code.{Code}
use Rattle.code.specs.Opened.{columns_of}
use Rattle.word.specs.declared.Word.{Word}
use Rattle.verdict.specs.declared.Verdict.{Verdict}
use Rattle.verdict.specs.declared.Verdict.TheVariants.{Clean, Data, Check, Even, Odd, Stray}
use Rattle.word.specs.Word.{joined}
use Rattle.verdict.specs.Places.{NamesPlace}
use Rattle.reading.specs.Reading.{reading_by}
use Rattle.word.proofs.Handed.{flipped_check, flipped-low}
use Rattle.word.proofs.Named.{reading_names}
use Rattle.record.specs.Bytes.{number_of}
use Rattle.record.specs.Layout.{data_size, record_bytes}
use Rattle.runs.proofs.Tallies.{tally_same}
use Rattle.at_record.specs.Outcome as outcome
use Rattle.at_record.specs.Outcome.{word_in, seen}
use Rattle.asked.specs.declared.Pass.{Pass}
use Rattle.asked.specs.Pass.{State}
use Rattle.pass.specs.Pass.{reader_of}
use Rattle.editions.specs.Given.{ten_bytes, hsiao}
use Rattle.editions.specs.Given as any
use Rattle.editions.proofs.Codes.{columns-are, data_is, limits_of, places-length}
use Rattle.editions.proofs.OfPasses as of_any
use Rattle.demands.specs.Definitions as words
use Rattle.demands.specs.Definitions.{Accepted, PassRefused, Turn, turns_after, AllStamped, count_from}
use Rattle.demands.specs.Demands as demands
use Rattle.demands.specs.Editions.{narrow}
use Rattle.demands.proofs.Narrow.{handed, accepted}

-- a refusal as the demands say it
refused : (code : Code) (p : Pass) (s : State) {f : _} → any.PassRefused (narrow code) p s f → PassRefused code p s f
refused code p s r = record { answer = r.answer; same_image = r.same_image; same_journal = r.same_journal }

pub pass_refuses : demands.PassRefuses
pass_refuses code p s =
    let x = of_any.pass_refuses (narrow code) p s in (
      λ h. refused code p s (x.0 h),
      λ a n. refused code p s (x.1 (accepted code a) n),
      λ a i n. refused code p s (x.2 (accepted code a) i n),
      λ a i r n. refused code p s (x.3 (accepted code a) i r n),
      λ a i r m n. refused code p s (x.4 (accepted code a) i r m n),
      λ a q n. refused code p s (x.5 (accepted code a) q n),
      λ a q n. x.6 (accepted code a) q n,
    )

pub askable_exactly : demands.AskableExactly
askable_exactly p s = of_any.askable_exactly ten_bytes p s

pub pass_empty : demands.PassEmpty
pass_empty code a stamp s c q = of_any.pass_empty (narrow code) a stamp s (accepted code c) q

pub pass_outside : demands.PassOutside
pass_outside code p s = of_any.pass_outside (narrow code) p s

pub of_run : demands.PassOfRun
of_run code p s other long same = of_any.of_run (narrow code) p s other long same

-- ---- the word of a record has nothing in its high half

-- with up to 64 data bits nothing comes there
high_empty : (v : Verdict) (s k : ℕ) (w : Word) → k ≤ 64 → NamesPlace k v → w.high ≡ 0 → (reading_by v s k w).word.high ≡ 0
high_empty Clean s k w few n z = z
high_empty (Data p) s k w few n z = ap (λ (x : Word). x.high) (flipped-low k p w n (omega arith)) ∙ z
high_empty (Check p) s k w few n z = ap (λ (x : Word). x.high) (flipped_check k p w n.0) ∙ z
high_empty Even s k w few n z = z
high_empty Odd s k w few n z = z
high_empty Stray s k w few n z = refl

module _ (code : Code) (a : Accepted code) (image : List ℕ) (i : ℕ) where
  handed-high : (any.read_at (narrow code) image i).word.high ≡ 0
  unfolding number_of seen
  handed-high =
      let given = narrow code in
      let b = accepted code a in
      let o = any.opened given in
      let rec = any.record_of ten_bytes image i in
      let f = reader_of o data_size in
      let n = ap length (columns-are given b.number) ∙ places-length given b in
      let k = data_is given b.number in
      let limits = limits_of given b in
      let few = limits.sized.few in
      let top = limits.top in
      let short : length (columns_of o) ≤ o.k + 16 = omega arith in
      ap (λ x. x.word.high) (of_any.read_same given b.number image i)
      ∙ high_empty (seen f rec) (outcome.syndrome_of f rec) o.k (word_in data_size rec) (omega arith)
      (reading_names (columns_of o) o.k short o.rows (word_in data_size rec)) refl

  -- so the record of the word that is handed back is that of its low half
  record_same : outcome.record_of data_size (any.read_at (narrow code) image i).word
      ≡ record_bytes data_size (words.read_at code image i).«data» (words.read_at code image i).check
  unfolding number_of
  record_same =
      let w = (any.read_at (narrow code) image i).word in
      ap (λ (x : ℕ). record_bytes data_size x w.check) (ap (joined w.low) handed-high ∙ add-zero w.low)

pub pass_records : demands.PassRecords
unfolding number_of
pass_records code h p s done i l u =
    let a : Accepted code = record { handed = h; number = of_any.done_number (narrow code) p s done } in
    let x = of_any.pass_records (narrow code) p s done i l u in
    (λ v. x.0 v ∙ record_same code a s.image i, x.1)

pub pass_entries : demands.PassEntries
unfolding number_of
pass_entries code h p s done = of_any.pass_entries (narrow code) p s done

pub pass_applied : demands.PassApplied
pass_applied code p s small done = of_any.pass_applied (narrow code) p s small done

-- ---- stamps

abbrev pub turn_of : Turn → any.Turn
turn_of x = record { family = hsiao; columns = x.code.columns; k = x.code.k; r = x.code.r; pass = x.pass }

abbrev pub turns_of : List Turn → List any.Turn
turns_of [] = []
turns_of (x ∷ xs) = turn_of x ∷ turns_of xs

pub same_after : (xs : List Turn) (s : State) → turns_after xs s ≡ any.turns_after ten_bytes (turns_of xs) s
unfolding turns_after any.turns_after
same_after [] s = refl
same_after (x ∷ xs) s = same_after xs (words.state_after x.code x.pass s)

all_stamped : (xs : List Turn) → AllStamped xs → any.AllStamped (turns_of xs)
unfolding AllStamped any.AllStamped
all_stamped [] h = tt
all_stamped (x ∷ xs) h = (h.0, all_stamped xs h.1)

pub stamps_rise : demands.StampsRise
stamps_rise turns s small none =
    rw (same_after turns s) (of_any.stamps_rise ten_bytes (turns_of turns) s (all_stamped turns small) none)

-- ---- counts

count_same : (code : Code) (image : List ℕ) (v a n : ℕ) → any.count_from (narrow code) image v a n ≡ count_from code image v a n
unfolding count_from any.count_from number_of
count_same code image v a zero = refl
count_same code image v a (suc n) =
    ap (λ (m : ℕ). m + cond (eqb (words.verdict_of code image (a + n)) v) 1 0) (count_same code image v a n)

pub pass_counts : demands.PassCounts
pass_counts code h p s done =
    let x = of_any.pass_counts (narrow code) p s done in (
      x.0 ∙ tally_same _ _ (λ v. count_same code s.image v p.start (p.end - p.start)),
      x.1,
      x.2,
    )

-- ---- two passes

pub pass_again : demands.PassAgain
pass_again code h p s done =
    let a : Accepted code = record { handed = h; number = of_any.done_number (narrow code) p s done } in
    of_any.pass_again (narrow code) (handed code h) p s (inl (limits_of (narrow code) (accepted code a)).sized.few) done

pub pass_in-two : demands.PassInTwo
pass_in-two code a b c stamp s = of_any.pass_in-two (narrow code) a b c stamp s
