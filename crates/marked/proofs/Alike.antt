-- A mark is 0 exactly where the plain pass's verdict is: so the list of the first walk is that of the records which need an entry.
-- Assumes nothing.
use mathlib.Core.Path.{◌≡◌, refl, sym, ap, ◌∙◌}
use mathlib.Core.Bool.{Bool, true, false, cond}
use mathlib.Core.List.{List}
use Prim.Native.Nat.{ℕ, zero, suc, ◌-◌, ◌*◌, ◌≤◌, ◌<◌}
use native.Mathlib.Omega.{arith}
use borrow.Author.Tests.{eq-eqb, ne_eqb, eqb-true}
use lib.Dec.{eqb, ltb}
use lib.ListN.{length, take, drop, length-take}
use Rattle.parity.specs.Odd.{odd_in}
use Rattle.columns.specs.Mix.{mix, place_in}
use Rattle.verdict.specs.declared.Verdict.TheVariants.{Clean, Data, Check, Even, Odd, Stray}
use Rattle.word.specs.Word.{as_number, stray_in}
use Rattle.verdict.specs.Verdicts.{verdict_on, finding_of}
use Rattle.word.specs.Verdicts.{read_in}
use Rattle.verdict.proofs.Rows.{on_clean}
use Rattle.word.proofs.Strays.{in_verdict}
use Rattle.record.specs.Bytes.{byte_span, AllBytes}
use Rattle.record.specs.Layout.{record_size}
use Rattle.record.specs.Run.{record_at}
use Rattle.record.specs.Journal.{unclean, needed_of}
use Rattle.record.proofs.Bytes.{number_fits}
use Rattle.runs.proofs.Numbers.{bytes_take, bytes-part}
use Rattle.runs.proofs.Run.{record_length, fits_less, sum_alike}
use Rattle.at_record.specs.Outcome.{Reader, Ready, word_in, seen, verdict_of}
use Rattle.tables.specs.Tables.{tables_of, lookups}
use Rattle.marks.specs.Marks.{stray_bits, mark_of, ListedBy}
use Rattle.by_list.specs.Given.{mixed_of}
use Rattle.by_list.proofs.Mixed.{mixed_syndrome}
use Rattle.marked.proofs.Looked.{looked_mixed}
use Rattle.marked.proofs.Above.{Small, unmarked, no_mark}

-- the verdict 0 is that of a word without stray bits whose syndrome is 0
verdict_none : (a z l m o : Bool) (p : ℕ)
    → (finding_of (cond a Stray (cond z Clean (cond l (Data p) (cond m (Check p) (cond o Even Odd)))))).verdict ≡ 0 → (a ≡ false) × (z ≡ true)
verdict_none true z l m o p h = absurd (omega (arith, h))
verdict_none false true l m o p h = (refl, refl)
verdict_none false false true m o p h = absurd (omega (arith, h))
verdict_none false false false true o p h = absurd (omega (arith, h))
verdict_none false false false false true p h = absurd (omega (arith, h))
verdict_none false false false false false p h = absurd (omega (arith, h))

same_zero : (a b : ℕ) → (a ≡ 0 → b ≡ 0) → (b ≡ 0 → a ≡ 0) → eqb a 0 ≡ eqb b 0
same_zero zero b f g = sym (eq-eqb b 0 (f refl))
same_zero (suc a) b f g = ne_eqb (suc a) 0 (λ e. omega (arith, e)) ∙ sym (ne_eqb b 0 (λ e. omega (arith, g e)))

module _ (halves : Bool) (f : Reader) (ready : Ready f) where
  -- the mark of a record by the tables and the masks of its code
  abbrev pub mark : List ℕ → ℕ
  mark = mark_of halves (tables_of halves f.columns f.k f.d) f.d (stray_bits (length f.columns) f.k)

  abbrev pub looked : List ℕ → ℕ
  looked rec = lookups halves (tables_of halves f.columns f.k f.d) rec (record_size f.d)

  module _ (rec : List ℕ) (all : AllBytes rec) (size : length rec ≡ record_size f.d) where
    small : Small (word_in f.d rec)
    unfolding byte_span
    small =
        record {
          low = number_fits 8 (take 8 rec) (bytes_take 8 rec all) (simp length-take (omega arith));
          high = number_fits 8 (take (f.d - 8) (drop 8 rec)) (bytes-part 8 (f.d - 8) rec all)
              (simp length-take (omega (arith, ready.held.most)));
          check = number_fits 2 (take 2 (drop f.d rec)) (bytes-part f.d 2 rec all) (simp length-take (omega arith));
        }

    mark-clean : mark rec ≡ 0 → verdict_of f rec ≡ 0
    unfolding mark_of verdict_of seen
    mark-clean e =
        let w = word_in f.d rec in
        let n = unmarked (length f.columns) f.k w small (looked rec) e in
        let z : mix f.columns (as_number f.k w) ≡ 0 =
        sym (mixed_syndrome f rec ready size n.1) ∙ sym (looked_mixed halves f rec all size) ∙ n.0 in
        ap (λ v. (finding_of v).verdict)
        (in_verdict f.rows f.columns f.k w n.1 ∙ on_clean (odd_in f.rows) f.columns f.k _ z)

    clean-mark : verdict_of f rec ≡ 0 → mark rec ≡ 0
    unfolding mark_of verdict_of seen read_in verdict_on
    clean-mark e =
        let w = word_in f.d rec in
        let cs = f.columns in
        let s = mix cs (as_number f.k w) in
        let n = verdict_none (stray_in (length cs) f.k w) (eqb s 0) (ltb (place_in cs s) f.k) (ltb (place_in cs s) (length cs))
        (eqb (odd_in f.rows s) 0) (place_in cs s) e in
        no_mark (length cs) f.k w small (looked rec)
        (looked_mixed halves f rec all size ∙ mixed_syndrome f rec ready size n.0 ∙ eqb-true s 0 n.1) n.0

    unclean-alike : unclean mark rec ≡ unclean (verdict_of f) rec
    unfolding unclean
    unclean-alike = ap (λ (b : Bool). cond b 0 1) (same_zero (mark rec) (verdict_of f rec) mark-clean clean-mark)

  module _ (run : List ℕ) (all : AllBytes run) (n : ℕ) (fits : n * record_size f.d ≤ length run) where
    part : (i : ℕ) → i < n → (AllBytes (record_at (record_size f.d) run i))
        × (length (record_at (record_size f.d) run i) ≡ record_size f.d)
    part i h =
        let size = record_size f.d in
        (bytes-part (i * size) size run all, record_length size run i (fits_less size (length run) n i fits h))

    -- THE LAW of the first walk: as many are marked as the plain pass needs entries for
    pub marks-needed : (m : ℕ) → m ≤ n → needed_of (record_size f.d) mark run m ≡ needed_of (record_size f.d) (verdict_of f) run m
    marks-needed m l =
        sum_alike (record_size f.d) (unclean mark) (unclean (verdict_of f)) run run m
        (λ i h. let p = part i (omega arith) in unclean-alike (record_at (record_size f.d) run i) p.0 p.1)

    -- and the list is that of the records with an entry, each with what its columns mix to
    pub list-plain : (list : List ℕ) (bad : ℕ) → ListedBy (record_size f.d) mark looked run n list bad
        → ListedBy (record_size f.d) (verdict_of f) (mixed_of f) run n list bad
    list-plain list bad listed i h =
        let d = listed i h in
        let p = part _ d.inside in
        record {
          inside = d.inside;
          marked = λ z. d.marked (clean-mark _ p.0 p.1 z);
          order = sym (marks-needed _ (omega (arith, d.inside))) ∙ d.order;
          told = d.told ∙ looked_mixed halves f _ p.0 p.1;
        }
