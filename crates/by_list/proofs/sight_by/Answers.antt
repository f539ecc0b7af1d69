-- `by_list::sight_by` meets its contract. Assumes nothing.
use mathlib.Core.Path.{◌≡◌, sym, ap, ◌∙◌}
use mathlib.Core.Bool.{Bool, true, false}
use mathlib.Core.List.{List}
use Prim.Native.Nat.{ℕ}
use lib.ListN.{length}
use Rattle.parity.specs.Odd.{odd_in}
use Rattle.word.specs.Word.{stray_in}
use Rattle.word.specs.declared.Word.{Word}
use Rattle.word.specs.declared.Sight.{Sight}
use Rattle.verdict.specs.declared.Verdict.{Verdict}
use Rattle.verdict.specs.declared.Verdict.TheVariants.{Stray}
use Rattle.verdict.specs.Verdicts.{verdict_on}
use Rattle.word.proofs.Strays.{in_stray, no_syndrome, in_syndrome, in_verdict}
use Rattle.record.specs.Layout.{record_size}
use Rattle.at_record.specs.Outcome.{Reader, Ready, word_in, sight, seen, syndrome_of}
use Rattle.at_record.specs.Under.{under}
use Rattle.by_list.specs.Given.{mixed_of}
use Rattle.by_list.proofs.Mixed.{mixed_syndrome}
use Rattle.by_list.proofs.sight_by.Goals as goal

-- the test speaks of the word that the record says
module _ (f : Reader) (rec : List ℕ) (w : Word) (t : Bool) (said : w ≡ word_in f.d rec) (test : t ≡ stray_in (length f.columns) f.k w) where
  tested : (b : Bool) → t ≡ b → stray_in (length f.columns) f.k (word_in f.d rec) ≡ b
  tested b h = ap (stray_in (length f.columns) f.k) (sym said) ∙ sym test ∙ h

  stray_sight : t ≡ true → ◌≡◌ {A = Sight} (record { verdict = Stray; syndrome = 0 }) (sight f rec)
  unfolding seen syndrome_of
  stray_sight h =
      let stray = tested true h in
      let verdict = sym (in_stray f.rows f.columns f.k (word_in f.d rec) stray) in
      let none = sym (no_syndrome f.rows f.columns f.k (word_in f.d rec) stray) in
      λ i. record { verdict = verdict i; syndrome = none i }

  other_sight : (v : Verdict) (s : ℕ) → Ready f → length rec ≡ record_size f.d → t ≡ false → v ≡ verdict_on (odd_in f.rows) f.columns f.k s
      → s ≡ mixed_of f rec → ◌≡◌ {A = Sight} (record { verdict = v; syndrome = s }) (sight f rec)
  unfolding seen syndrome_of
  other_sight v s ready size h e m =
      let fine = tested false h in
      let mixed = m ∙ mixed_syndrome f rec ready size fine in
      let verdict = e ∙ ap (verdict_on (odd_in f.rows) f.columns f.k) mixed ∙ sym (in_verdict f.rows f.columns f.k (word_in f.d rec) fine) in
      let syndrome = mixed ∙ sym (in_syndrome f.rows f.columns f.k (word_in f.d rec) fine) in
      λ i. record { verdict = verdict i; syndrome = syndrome i }

pub returns-then-stray_in : goal.returns-then-stray_in
returns-then-stray_in c =
    stray_sight (under c.args.reader) c.args.rec.now _ _ c.word_in-word.ensures c.stray_in.ensures c.if-stray_in.true

pub returns : goal.returns
returns c =
    let a = c.args in
    other_sight (under a.reader) a.rec.now _ _ c.word_in-word.ensures c.stray_in.ensures _ _ a.reader.ready c.requires.rec_len
    c.if-stray_in.false c.verdict_by.ensures c.requires.s_value
