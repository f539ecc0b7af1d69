-- `listing::put_pairs` meets its contract: one place more. Assumes nothing.
use Prim.Native.Nat.{◌+◌, ◌≤◌}
use mathlib.Core.Path.{sym, ◌∙◌}
use native.Mathlib.Omega.{arith}
use borrow.Author.Rules.{rules}
use lib.ListN.{length, length-set}
use Rattle.listing.specs.Sets.{bytes_for}
use Rattle.listing.specs.BySyndrome.{pairs_from}
use Rattle.listing.proofs.Walk.{next_missing, count_found, put_found, room_found}
use Rattle.listing.proofs.put_pairs.Goals as goal
use Rattle.listing.proofs.put_pairs.Goals.{in-Some, in_default}

pub loop-p-init : goal.loop-p-init
unfolding pairs_from bytes_for
loop-p-init c = search rules

-- there is room for the pair that is found
room : (c : goal.In-Some) → c.loop-p.at + 2 ≤ length c.args.list.now
room c =
    let more = room_found c.args.columns.now c.args.s c.loop-p.p c.in-Some.q (length c.args.list.now) (sym c.partner.ensures ∙ c.in-Some.is)
    c.loop-p-test.true c.requires.1 in
    omega arith

pub bounds-list-at : goal.bounds-list-at
bounds-list-at c = omega (arith, room c)

pub bounds-list-at-in-Some : goal.bounds-list-at-in-Some
bounds-list-at-in-Some c = simp length-set (omega (arith, room c))

pub overflow_add-at : goal.overflow_add-at
overflow_add-at c = omega (arith, room c)

pub loop-p-preserved : goal.loop-p-preserved
loop-p-preserved c =
    let a = c.args in
    let cs = a.columns.now in
    let p = c.loop-p.p in
    let l = c.loop-p.invariant in
    elim c.match-partner.branch [
      | in-Some w ↦
          let found = sym c.partner.ensures ∙ w.in-Some.is in
          let more = room_found cs a.s p w.in-Some.q (length a.list.now) found c.loop-p-test.true c.requires.1 in (
            omega (arith, count_found cs a.s p w.in-Some.q found),
            w.list-is ∙ put_found cs a.s p w.in-Some.q found c.loop-p.list a.list.now c.loop-p.at l.1 l.0 (omega arith),
          )
      | in_default w ↦
          let same = next_missing cs a.s p (sym c.partner.ensures ∙ w.in_default.is) in
          (w.at-is ∙ rw same l.0, w.list-is ∙ rw same l.1)
    ]
