-- What a pass hands back under an opened code it hands back under another that is equal. Over any size of records. Assumes nothing.
use mathlib.Core.Path.{◌≡◌, subst}
use mathlib.Core.List.{List}
use Prim.Native.Nat.{ℕ}
use Rattle.code.specs.declared.Opened.{Opened}
use Rattle.asked.specs.declared.Pass.{Pass}
use Rattle.asked.specs.Pass.{State}
use Rattle.pass.specs.declared.PassAnswer.{PassAnswer}
use Rattle.pass.specs.Pass.{after_pass}

abbrev pub Handed : ℕ → Opened → Pass → State → PassAnswer → List ℕ → List ℕ → Type 0
Handed d o p s answer image journal =
    (answer ≡ (after_pass o d p s).answer) × ((image ≡ (after_pass o d p s).image) × (journal ≡ (after_pass o d p s).journal))

pub handed : (d : ℕ) (o q : Opened) (p : Pass) (s : State) (answer : PassAnswer) (image journal : List ℕ)
    → o ≡ q → Handed d o p s answer image journal → Handed d q p s answer image journal
handed d o q p s answer image journal e h = subst (λ x. Handed d x p s answer image journal) e h
