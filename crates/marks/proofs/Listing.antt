-- A list that grows by one where a record is not clean: what is said is written always, and counted only then. Assumes nothing.
use mathlib.Core.Path.{◌≡◌, sym, ap, ◌∙◌}
use mathlib.Core.Logic.{◌≢◌}
use mathlib.Core.List.{List}
use Prim.Native.Nat.{ℕ, ◌+◌, ◌/◌, ◌%◌, ◌<◌}
use native.Mathlib.Decide.{dec_lt}
use native.Mathlib.Omega.{arith}
use lib.ListN.{length, get_or, set}
use lib.Seq.{get_or-set_same, get_or-set_other}
use Rattle.record.specs.Run.{record_at}
use Rattle.record.specs.Journal.{needed_of}
use Rattle.marks.specs.Marks.{said_of, Due, ListedBy}

module _ (size : ℕ) (mark syndrome : List ℕ → ℕ) (run : List ℕ) where
  -- of one record more
  due_later : (n i said : ℕ) → Due size mark syndrome run n i said → Due size mark syndrome run (n + 1) i said
  due_later n i said d =
      record { inside = omega (arith, d.inside); marked = d.marked; order = d.order; told = d.told }

  -- what is said of the record x
  due_here : (x said : ℕ) → x < 65536 → said ≡ said_of (syndrome (record_at size run x)) x → mark (record_at size run x) ≢ 0
      → Due size mark syndrome run (x + 1) (needed_of size mark run x) said
  due_here x said h e m =
      let number : said % 65536 ≡ x = omega arith in
      let told : said / 65536 ≡ syndrome (record_at size run x) = omega arith in
      record {
        inside = omega arith;
        marked = λ z. m (sym (ap (λ (n : ℕ). mark (record_at size run n)) number) ∙ z);
        order = ap (needed_of size mark run) number;
        told = told ∙ ap (λ (n : ℕ). syndrome (record_at size run n)) (sym number);
      }

  module _ (l : List ℕ) (bad x v : ℕ) (listed : ListedBy size mark syndrome run x l bad) where
    -- what is written behind the list leaves it
    pub list-clean : ListedBy size mark syndrome run (x + 1) (set l bad v) bad
    list-clean i h =
        let other : i ≢ bad = λ e. omega arith in
        rw (get_or-set_other l bad i v 0 other) (due_later x i (get_or l i 0) (listed i h))

    pub list-more : bad < length l → x < 65536 → bad ≡ needed_of size mark run x → v ≡ said_of (syndrome (record_at size run x)) x
        → mark (record_at size run x) ≢ 0 → ListedBy size mark syndrome run (x + 1) (set l bad v) (bad + 1)
    list-more h small count e m i b =
        elim (dec_lt i bad) as (λ d. Due size mark syndrome run (x + 1) i (get_or (set l bad v) i 0)) [
          | yes a ↦ list-clean i a
          | no a ↦
              let last : i ≡ needed_of size mark run x = omega arith in
              let at : i ≡ bad = omega arith in
              let here : get_or (set l bad v) i 0 ≡ v = ap (λ (n : ℕ). get_or (set l bad v) n 0) at ∙ get_or-set_same l bad v 0 h in
              rw (here, last) (due_here x v small e m)
        ]
