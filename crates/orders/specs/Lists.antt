-- Lists of anything: a fact of each element, a relation of each two, and the same elements in another order. Assumes nothing.
use Prim.{Unit}
use Rattle.std.specs.Prelude.{List, [], ◌∷◌}

-- P holds of each
unfoldable pub Each : {X : Type 0} → (X → Type 0) → List X → Type 0
Each P [] = Unit
Each P (x ∷ l) = P x × Each P l

-- R holds of each two, the earlier one first
unfoldable pub EachTwo : {X : Type 0} → (X → X → Type 0) → List X → Type 0
EachTwo R [] = Unit
EachTwo R (x ∷ l) = Each (R x) l × EachTwo R l

-- the second list is a rearrangement of the first: the same elements, each as often, in any order. Neighbours change places, as often as
-- one likes.
pub data Rearranged {X : Type 0} : List X → List X → Type 0 where
  none : Rearranged [] []
  keep : {x : X} {l m : List X} → Rearranged l m → Rearranged (x ∷ l) (x ∷ m)
  swap : {x y : X} {l : List X} → Rearranged (x ∷ y ∷ l) (y ∷ x ∷ l)
  next : {l m n : List X} → Rearranged l m → Rearranged m n → Rearranged l n
