-- `reach::reach` meets its contract: what it asks of itself. Assumes nothing.
use mathlib.Core.Path.{ap, ◌∙◌, subst}
use Prim.Native.Nat.{ℕ, ◌^◌, ◌<◌}
use native.Mathlib.Omega.{arith}
use borrow.Author.Rules.{rules}
use lib.ListN.{length, get_or}
use Rattle.word.specs.Word.{stray_in}
use Rattle.reach.proofs.Reaching.{behind, behind_less, named_rest, turned_whole}
use Rattle.reach.proofs.+reach.Goals as goal

pub reach-requires : goal.reach-requires
reach-requires t c =
    let a = c.args in (
      subst (λ (j : ℕ). length (behind a.bad.now) < j) c.decreases (behind_less a.bad.now c.in-len1-up.len_at_least),
      (
        c.requires.k_in_bounds,
        (c.requires.word_value, (named_rest (length a.columns.now) a.bad.now c.in-len1-up.len_at_least c.requires.bad_value).1),
      ),
    )

pub flipped_in-requires-clause-p_bound : goal.flipped_in-requires-clause-p_bound
flipped_in-requires-clause-p_bound t c =
    let p = (named_rest (length c.args.columns.now) c.args.bad.now c.in-len1-up.len_at_least c.requires.bad_value).0 in
    omega (arith, p, c.requires.k_in_bounds)

pub reach-requires-2 : goal.reach-requires-2
reach-requires-2 t c =
    let a = c.args in
    let n = length a.columns.now in
    let x = named_rest n a.bad.now c.in-len1-up.len_at_least c.requires.bad_value in
    let low : a.word.low < 2 ^ 64 = search rules in
    let whole = turned_whole n a.k (get_or a.bad.now 0 0) a.word low c.requires.k_in_bounds.0 x.0 c.requires.word_value in (
      subst (λ (j : ℕ). length (behind a.bad.now) < j) c.decreases (behind_less a.bad.now c.in-len1-up.len_at_least),
      (c.requires.k_in_bounds, (ap (stray_in n a.k) c.flipped_in.ensures ∙ whole, x.1)),
    )
