use mathlib.Core.Path.{◌≡◌, refl, ap, ◌∙◌}
use mathlib.Core.Logic.{◌≢◌}
use mathlib.Core.List.{List}
use Prim.Native.Nat.{ℕ, ◌+◌, ◌*◌, ◌-◌}
use native.Mathlib.Omega.{arith}
use lib.ListN.{take, drop}
use Rattle.record.specs.Layout.{record_size}
use Rattle.record.specs.Run.{record_at, add_up}
use Rattle.runs.proofs.Journal.{needed_clean, needed_more}
use Rattle.tables.specs.Tables.{lookups}
use Rattle.marks.specs.Marks.{mark_of, said_of}
use Rattle.marks.proofs.Listing.{list-clean, list-more}
use Rattle.marks.proofs.listed.Goals as goal
use Rattle.marks.proofs.listed.Goals.{then-seen-ne0, else-seen-ne0}

-- what is looked at is the record
seen-is : (size : ℕ) (run : List ℕ) (x : ℕ) → take (x * size + size - x * size) (drop (x * size) run) ≡ record_at size run x
seen-is size run x = ap (λ (m : ℕ). take m (drop (x * size) run)) (omega arith)

pub loop-x-init : goal.loop-x-init
unfolding add_up
loop-x-init c = record { count = refl; few = omega arith; listed = λ i h. absurd (omega arith) }

pub loop-x-preserved : goal.loop-x-preserved
loop-x-preserved c =
    let s = c.args in
    let m = c.loop-x in
    let size : ℕ = record_size s.d in
    let mark : List ℕ → ℕ = mark_of s.halves s.table.now s.d s.strays in
    let syndrome : List ℕ → ℕ = λ rec. lookups s.halves s.table.now rec size in
    let run : List ℕ = c.args.run.now in
    let seen : c.look_at-seen.result.mark ≡ mark (record_at size run m.x) =
    c.look_at-seen.ensures.mark_value ∙ ap mark (seen-is size run m.x) in
    let said : c.look_at-seen.result.said ≡ said_of (syndrome (record_at size run m.x)) m.x =
    c.look_at-seen.ensures.said_value ∙ ap (λ (r : List ℕ). said_of (syndrome r) m.x) (seen-is size run m.x) in
    elim c.if-seen-ne0.branch [
      | then-seen-ne0 w ↦
          let marked : mark (record_at size run m.x) ≢ 0 = λ z. omega (arith, w.if-seen-ne0.true, seen, z) in
          rw w.bad-is record {
            count = omega (arith, m.invariant.count, needed_more size mark run m.x marked);
            few = omega arith;
            listed = list-more size mark syndrome run m.list m.bad m.x _ m.invariant.listed (omega arith) (omega arith) m.invariant.count said marked;
          }
      | else-seen-ne0 w ↦
          let clean : mark (record_at size run m.x) ≡ 0 = omega (arith, w.if-seen-ne0.false, seen) in
          rw w.bad-is record {
            count = omega (arith, m.invariant.count, needed_clean size mark run m.x clean);
            few = omega arith;
            listed = list-clean size mark syndrome run m.list m.bad m.x _ m.invariant.listed;
          }
    ]
