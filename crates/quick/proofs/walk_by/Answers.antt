-- `quick::walk_by` meets its contract: what the tables list is what the plain pass needs entries for. Assumes nothing.
use mathlib.Core.Path.{ap₂, subst, ◌∙◌}
use mathlib.Core.List.{List}
use Prim.Native.Nat.{ℕ, ◌*◌, ◌/◌, ◌≤◌}
use native.Mathlib.Omega.{arith}
use lib.ListN.{length}
use Rattle.word.specs.declared.Word.{Word}
use Rattle.record.specs.Bytes.{AllBytes}
use Rattle.record.specs.Layout.{record_size, records_in}
use Rattle.record.specs.Journal.{needed_of}
use Rattle.runs.proofs.Sizes.{whole-fits}
use Rattle.at_record.specs.Under.{under}
use Rattle.marks.specs.Marks.{stray_bits, mark_of, Listed}
use Rattle.marked.proofs.Alike.{marks-needed, list-plain}
use Rattle.quick.proofs.walk_by.Goals as goal

whole : (size : ℕ) (run : List ℕ) → length run / size * size ≤ length run
whole size run = whole-fits size (length run) (length run / size) (omega arith)

pub returns : goal.returns
returns c =
    let a = c.args in
    let f = under a.reader in
    let run : List ℕ = a.run.now in
    let bytes : AllBytes run = λ k. omega (arith, c.type_inv.run k) in
    let n : ℕ = records_in f.d run in
    let fits = whole (record_size f.d) run in
    let tables = c.fill_record.ensures in
    let strays = c.stray_bits.ensures in
    let l = c.listed_by in
    record {
      value =
          l.ensures.value
          ∙ ap₂ (λ (t : List ℕ) (w : Word). needed_of (record_size f.d) (mark_of a.halves t f.d w) run n) tables strays
          ∙ marks-needed a.halves f a.reader.ready run bytes n fits n (omega arith);
      listed_in =
          list-plain a.halves f a.reader.ready run bytes n fits l.new.list l.result
          (subst (λ (t : List ℕ). Listed a.halves f.d t (stray_bits (length f.columns) f.k) run n l.new.list l.result) tables
          (subst (λ (w : Word). Listed a.halves f.d c.fill_record.new.table w run n l.new.list l.result) strays l.ensures.listed));
    }
