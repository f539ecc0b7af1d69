-- `recover::recover_under` meets its contract: the word found by syndromes is the first of the proper words within reach. Assumes nothing.
use mathlib.Core.Path.{◌≡◌, sym, ap, ◌∙◌}
use mathlib.Core.Bool.{false}
use mathlib.Core.List.{List}
use Prim.Native.Nat.{ℕ, ◌^◌, ◌<◌}
use native.Mathlib.Omega.{arith}
use borrow.Author.Rules.{rules}
use lib.ListN.{length}
use Rattle.std.proofs.Common.{Option, Ok}
use Rattle.code.specs.declared.Opened.{Opened}
use Rattle.code.specs.Opened.{columns_of, SoundOpened}
use Rattle.word.specs.declared.Word.{Word}
use Rattle.word.specs.Word.{stray_in}
use Rattle.explain.proofs.Answers.{length_columns}
use Rattle.reach.specs.Places.{wrong_places}
use Rattle.reach.specs.BySyndrome.{reach_by}
use Rattle.reach.proofs.Places.{right-places}
use Rattle.recover.specs.Recover.{refused_recovery, recovered_by, flips_beside, recover_of}
use Rattle.recover.proofs.BySyndrome.{by_syndromes_parts}
use Rattle.recover.proofs.Answers.{in_reach, answer_accepted}
use Rattle.recover.proofs.recover_under.Goals as goal

-- what is reached by syndromes is the answer
reached : (o : Opened) (w : Word) (bad : List ℕ) → length (columns_of o) ≡ o.n → SoundOpened o → o.standing ≡ Ok tt → w.low < 2 ^ 64
    → stray_in o.n o.k w ≡ false → wrong_places o.n bad ≡ false
    → (x : Option Word) → x ≡ reach_by (columns_of o) o.k (flips_beside (length bad)) w bad → recovered_by x ≡ recover_of o w bad
reached o w bad long sound taken low a b x e =
    let cs = columns_of o in
    let whole = ap (λ (n : ℕ). stray_in n o.k w) long ∙ a in
    let right = ap (λ (n : ℕ). wrong_places n bad) long ∙ b in
    let named = (right-places (length cs) bad right).1 in
    ap recovered_by (e ∙ by_syndromes_parts o.rows (sound taken) (flips_beside (length bad)) (omega arith) bad w low whole named)
    ∙ sym (answer_accepted o w bad taken ∙ in_reach o.rows cs o.k w bad whole right)

pub returns-in_default : goal.returns-in_default
returns-in_default c =
    let a = c.args in
    let o = a.opened.now in
    ap refused_recovery c.into-in_default.ensures
    ∙ reached o a.word a.bad.now (length_columns o c.requires.laid (search rules)) c.requires.sound_opened c.in_ok-opened.was (search rules)
    (sym c.stray_in.ensures ∙ c.if-stray_in.false) (sym c.wrong_places.ensures ∙ c.if-wrong_places.false) _
    (sym c.in_default.is ∙ c.reach.ensures)

pub returns : goal.returns
returns c =
    let a = c.args in
    let o = a.opened.now in
    reached o a.word a.bad.now (length_columns o c.requires.laid (search rules)) c.requires.sound_opened c.in_ok-opened.was (search rules)
    (sym c.stray_in.ensures ∙ c.if-stray_in.false) (sym c.wrong_places.ensures ∙ c.if-wrong_places.false) _
    (sym c.in-Some.is ∙ c.reach.ensures)
