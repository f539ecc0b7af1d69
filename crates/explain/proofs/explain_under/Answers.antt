-- `explain::explain_under` meets its contract: the list by syndrome that was put is the list of explanations. Assumes nothing.
use mathlib.Core.Path.{◌≡◌, refl, sym, ap, ◌∙◌}
use mathlib.Core.Bool.{false}
use Prim.Native.Nat.{ℕ}
use native.Mathlib.Omega.{arith}
use borrow.Author.Rules.{rules}
use lib.ListN.{length}
use Rattle.code.specs.Opened.{columns_of}
use Rattle.word.specs.Word.{stray_in}
use Rattle.word.proofs.Strays.{data_fits}
use Rattle.mending.proofs.Strays.{check_fits}
use Rattle.explain.specs.Explanations.{refused_listing}
use Rattle.explain.proofs.BySyndrome.{by_syndrome_parts}
use Rattle.explain.proofs.Answers.{length_columns, put-no-room, put-done, claims}
use Rattle.explain.proofs.explain_under.Goals as goal

pub returns-then-length-list : goal.returns-then-length-list
returns-then-length-list c =
    let a = c.args in
    let o = a.opened.now in
    let long : length (columns_of o) ≡ o.n = length_columns o c.requires.laid (search rules) in
    let whole : stray_in o.n o.k a.word ≡ false = sym c.stray_in.ensures ∙ c.if-stray_in.false in
    let few = c.if-limit-gt2.false in
    let put = c.put_list-length in
    let found =
    by_syndrome_parts o.rows (c.requires.sound_opened c.in_ok-opened.was) a.word a.limit c.syndrome_in-s.result
    (ap (λ (n : ℕ). stray_in n o.k a.word) long ∙ whole) few c.syndrome_in-s.ensures in
    let p =
    claims _
    (put-no-room o a.word a.limit a.list.now c.in_ok-opened.was long (data_fits o.n o.k a.word whole) (check_fits o.n o.k a.word whole) few _
    put.result _ found put.ensures.value put.ensures.list_after (omega arith))
    (ap refused_listing c.into-then-length-list.ensures) in
    record { value = p.0; list_after = p.1 }

pub returns : goal.returns
returns c =
    let a = c.args in
    let o = a.opened.now in
    let long : length (columns_of o) ≡ o.n = length_columns o c.requires.laid (search rules) in
    let whole : stray_in o.n o.k a.word ≡ false = sym c.stray_in.ensures ∙ c.if-stray_in.false in
    let few = c.if-limit-gt2.false in
    let put = c.put_list-length in
    let found =
    by_syndrome_parts o.rows (c.requires.sound_opened c.in_ok-opened.was) a.word a.limit c.syndrome_in-s.result
    (ap (λ (n : ℕ). stray_in n o.k a.word) long ∙ whole) few c.syndrome_in-s.ensures in
    let p =
    claims _
    (put-done o a.word a.limit a.list.now c.in_ok-opened.was long (data_fits o.n o.k a.word whole) (check_fits o.n o.k a.word whole) few _
    put.result _ found put.ensures.value put.ensures.list_after (omega arith))
    refl in
    record { value = p.0; list_after = p.1 }
