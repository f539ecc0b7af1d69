-- `put_back::back_in` meets its contract: a step that finds its entry, one that does not, and none left. Assumes nothing.
use Rattle.std.proofs.Common.{◌≡◌, ◌-◌, sym, ap, ◌∙◌, arith, Ok}
use native.Mathlib.Nat.{sub-zero}
use Rattle.put_back.specs.Back.{Back, answer_of, back_from}
use Rattle.put_back.proofs.Backwards.{went, stood}
use Rattle.put_back.proofs.back_in.Goals as goal

pub loop-reader-preserved : goal.loop-reader-preserved
loop-reader-preserved c =
    let a = c.args in
    let l = c.loop-reader in
    let q = c.step_back.ensures in
    let w = went a.d a.used l.reader.place a.journal.now l.image (omega arith) l.invariant.place _ l.invariant.lent _ q.value _ q.place_after _
    q.image_after (c.if-is_none.ensures) in record {
      place = omega (arith, w.0);
      lent = ap (λ (r : _). r.now) q.journal_kept ∙ l.invariant.lent;
      left = w.1 ∙ l.invariant.left;
    }

pub returns-then-is_none : goal.returns-then-is_none
returns-then-is_none c =
    let a = c.args in
    let l = c.loop-reader in
    let q = c.step_back.ensures in
    let s = sym (stood a.d a.used l.reader.place a.journal.now l.image (omega arith) l.invariant.place _ l.invariant.lent _ q.value _ q.place_after _
    q.image_after (c.if-is_none.ensures)) ∙ l.invariant.left in record {
      value = ap answer_of s;
      image_after = ap (λ (b : Back). b.image) s;
    }

pub returns : goal.returns
unfolding back_from
returns c =
    let a = c.args in
    let l = c.loop-reader in
    let none : l.reader.place ≡ 0 = omega arith in
    let all = ap (λ m. back_from a.d a.journal.now m (a.used - m) l.image) (sym none) ∙ l.invariant.left in record {
      value = ap (λ k. Ok k) (sym (sub-zero a.used)) ∙ ap answer_of all;
      image_after = ap (λ (b : Back). b.image) all;
    }
