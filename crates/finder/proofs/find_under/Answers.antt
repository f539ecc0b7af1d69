-- `finder::find_under` meets its contract: what is left after the tests is done part by part. Assumes nothing.
use mathlib.Core.Path.{◌≡◌, sym, ap, ap₂, ◌∙◌}
use mathlib.Core.Bool.{Bool}
use Prim.Native.Nat.{ℕ}
use lib.ListN.{length}
use lib.Seq.{length-take-le}
use Rattle.code.specs.Opened.{columns_of}
use Rattle.code.specs.declared.Opened.{Opened}
use Rattle.word.specs.declared.Word.{Word}
use Rattle.word.specs.Word.{stray_in, in_parts}
use Rattle.finder.specs.Finder.{every_place, xor_words, find_as}
use Rattle.finder.proofs.Parts.{agreeing_parts}
use Rattle.finder.proofs.Answers.{found, find-done}
use borrow.Author.Rules.{rules}
use Rattle.finder.proofs.find_under.Goals as goal

-- the tests for stray bits, as they speak of the columns
strays : (o : Opened) → length (columns_of o) ≡ o.n → (w : Word) (b : Bool) → b ≡ stray_in o.n o.k w
    → stray_in (length (columns_of o)) o.k w ≡ b
strays o l w b e = ap (λ (n : ℕ). stray_in n o.k w) l ∙ sym e

pub returns : goal.returns
returns c =
    let o = c.args.opened.now in
    let l : length (columns_of o) ≡ o.n = length-take-le o.n o.columns (search rules) in
    let first = strays o l c.args.first _ c.stray_in.ensures ∙ c.if-stray_in.false in
    let second = strays o l c.args.second _ c.stray_in-else-stray_in.ensures ∙ c.if-stray_in-2.false in
    let n = length (columns_of o) in
    ap found (c.xored.ensures
    ∙ ap₂ xor_words (c.every_place.ensures ∙ ap (λ (m : ℕ). in_parts o.k (every_place m)) (sym l)) c.xored-differing.ensures
    ∙ sym (agreeing_parts n o.k c.args.first c.args.second (search rules) (search rules) first second))
    ∙ sym (ap (λ v. find_as v o c.args.first c.args.second) c.in_ok-opened.was
    ∙ find-done (columns_of o) o.k c.args.first c.args.second first second)
