-- `pass::both_walks` meets its contract: what has no room is refused, and past that the run and the journal behind the entries in use are handed on
-- as parts. Assumes nothing.
use mathlib.Core.Path.{refl, sym, ap, ap₂, subst, ◌∙◌}
use Prim.Native.Nat.{◌+◌, ◌*◌, ◌%◌}
use native.Mathlib.Nat.{mul_comm, add-mul}
use native.Mathlib.Omega.{arith}
use borrow.Rule.Slice.PartMut.{put_same}
use lib.ListN.{length}
use Rattle.record.specs.Layout.{record_size, in_bytes}
use Rattle.code.specs.Opened.{refusal}
use Rattle.at_record.specs.Under.{under}
use Rattle.over_run.specs.Whole.{entries_by}
use Rattle.asked.specs.Pass.{state_of}
use Rattle.pass.specs.Pass.{refused_pass, behind}
use Rattle.runs.proofs.Sizes.{whole-fits, run-whole}
use Rattle.pass.proofs.Cases.{claims, no_room, done}
use Rattle.pass.proofs.Within.{step, step_is, room_is, within}
use Rattle.pass.proofs.Parts.{part, part_length, part-records, part-needed, part_tally, part-entries, part_left, free-length, free-written}
use Rattle.pass.proofs.both_walks.Goals as goal

pub needed-wanted-requires-clause-room : goal.needed-wanted-requires-clause-room
needed-wanted-requires-clause-room g c =
    let a = c.args in
    let f = under a.reader in
    let q = within f.d a.over (state_of a.image.now a.journal.now a.used) c.requires.right in
    subst (g.W.Walks.has_room a.walks.now) (sym (part-records f a.image.now a.over.start a.over.end q.rising q.fits)) c.requires.room

pub returns-then-journal-step : goal.returns-then-journal-step
returns-then-journal-step g c =
    let a = c.args in
    let f = under a.reader in
    let p = a.over in
    let s = state_of a.image.now a.journal.now a.used in
    let q = within f.d p s c.requires.right in
    let wanted = c.needed-wanted.ensures.value ∙ part-needed f s.image p.start p.end q.rising q.fits in
    let k =
    claims _ _ (no_room f p s c.requires.right (omega (arith, wanted, c.if-journal-step.true, room_is f.d s)))
    (ap refused_pass {y = refusal 13 c.needed-wanted.result} c.into.ensures ∙ ap (λ m. refused_pass (refusal 13 m)) wanted) (put_same (p.start * record_size f.d) _ s.image) refl in
    record { value = k.0; image_after = k.1.0; journal_after = k.1.1 }

pub pass_run-tally-requires-clause-fits : goal.pass_run-tally-requires-clause-fits
pass_run-tally-requires-clause-fits g c =
    let a = c.args in
    let f = under a.reader in
    let p = a.over in
    let s = state_of a.image.now a.journal.now a.used in
    let q = within f.d p s c.requires.right in
    let long = part_length f s.image p.start p.end q.rising q.fits in
    let free = free-length (a.used * step f.d) s.journal q.begins in
    let m = c.needed-wanted.result in
    record {
      ready = a.reader.ready;
      numbered = omega (arith, long, q.rises, q.fits, q.short);
      whole = ap (λ x. x % record_size f.d) long ∙ run-whole (record_size f.d) p.start p.end q.rising;
      room =
          omega (
            arith,
            free,
            whole-fits (step f.d) (length s.journal) (a.used + m) (omega (arith, q.in_use, c.if-journal-step.false)),
            add-mul a.used m (step f.d),
            ap₂ ◌*◌ (step_is f.d) c.needed-wanted.ensures.value,
            mul_comm (step f.d) m,
          );
    }

pub returns : goal.returns
returns g c =
    let a = c.args in
    let f = under a.reader in
    let p = a.over in
    let s = state_of a.image.now a.journal.now a.used in
    let q = within f.d p s c.requires.right in
    let wanted = c.needed-wanted.ensures.value ∙ part-needed f s.image p.start p.end q.rising q.fits in
    let tally = c.pass_run-tally.ensures.value ∙ part_tally f s.image p.start p.end q.rising q.fits in
    let used = ap (λ m. a.used + m) wanted in
    let handed = part f s.image p.start p.end q.rising q.fits in
    let k =
    claims _ _
    (done f p s c.requires.right (omega (arith, wanted, c.if-journal-step.false, room_is f.d s)))
    (λ i. record { number = 0; told = 0; used = used i; tally = tally i })
    (part_left f s.image p.start p.end q.rising q.fits _ c.pass_run-tally.ensures.run_after)
    (free-written (a.used * step f.d) s.journal q.begins
    (in_bytes (entries_by f p.stamp p.start handed)) _ c.pass_run-tally.ensures.journal_after
    ∙ ap₂ (λ x l. behind (a.used * x) (in_bytes l) s.journal) (step_is f.d)
    (part-entries f s.image p.start p.end q.rising q.fits p.stamp)) in
    record { value = k.0; image_after = k.1.0; journal_after = k.1.1 }
