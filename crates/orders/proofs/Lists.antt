-- Facts of each element and of each two, and what another order keeps. Assumes nothing.
use Prim.{tt}
use mathlib.Core.List.{List, [], ◌∷◌, ◌++◌, map}
use Rattle.orders.specs.Lists.{Each, EachTwo, Rearranged, none, keep, swap, next}

module _ {X : Type 0} where
  pub each_map : (P Q : X → Type 0) → ((x : X) → P x → Q x) → (l : List X) → Each P l → Each Q l
  unfolding Each
  each_map P Q f [] h = tt
  each_map P Q f (x ∷ l) h = (f x h.0, each_map P Q f l h.1)

  -- ---- another order

  pub same_order : (l : List X) → Rearranged l l
  same_order [] = none
  same_order (x ∷ l) = keep (same_order l)

  pub order_back : {l m : List X} → Rearranged l m → Rearranged m l
  order_back none = none
  order_back (keep h) = keep (order_back h)
  order_back swap = swap
  order_back (next h k) = next (order_back k) (order_back h)

  pub each_any_order : (P : X → Type 0) {l m : List X} → Rearranged l m → Each P l → Each P m
  unfolding Each
  each_any_order P none a = a
  each_any_order P (keep h) a = (a.0, each_any_order P h a.1)
  each_any_order P swap a = (a.1.0, (a.0, a.1.1))
  each_any_order P (next h k) a = each_any_order P k (each_any_order P h a)

  -- for a relation that goes both ways
  pub two_any_order : (R : X → X → Type 0) → ((x y : X) → R x y → R y x) → {l m : List X} → Rearranged l m → EachTwo R l → EachTwo R m
  unfolding EachTwo Each
  two_any_order R f none a = a
  two_any_order R f (keep {x = x} h) a = (each_any_order (R x) h a.0, two_any_order R f h a.1)
  two_any_order R f (swap {x = x} {y = y}) a = ((f x y a.0.0, a.1.0), (a.0.1, a.1.1))
  two_any_order R f (next h k) a = two_any_order R f k (two_any_order R f h a)

  front_kept : (a : List X) {l m : List X} → Rearranged l m → Rearranged (a ++ l) (a ++ m)
  front_kept [] h = h
  front_kept (x ∷ a) h = keep (front_kept a h)

  -- an element is carried past a list, and a list past another
  carried : (x : X) (a l : List X) → Rearranged (x ∷ a ++ l) (a ++ x ∷ l)
  carried x [] l = same_order (x ∷ l)
  carried x (y ∷ a) l = next swap (keep (carried x a l))

  fronts_swapped : (a b l : List X) → Rearranged (a ++ (b ++ l)) (b ++ (a ++ l))
  fronts_swapped [] b l = same_order (b ++ l)
  fronts_swapped (x ∷ a) b l = next (keep (fronts_swapped a b l)) (carried x b (a ++ l))

-- what g gives of each, one after the other
unfoldable pub joined_by : {X Y : Type 0} → (X → List Y) → List X → List Y
joined_by g [] = []
joined_by g (x ∷ l) = g x ++ joined_by g l

module _ {X Y : Type 0} where
  pub joined_any_order : (g : X → List Y) {l m : List X} → Rearranged l m → Rearranged (joined_by g l) (joined_by g m)
  unfolding joined_by
  joined_any_order g none = none
  joined_any_order g (keep {x = x} h) = front_kept (g x) (joined_any_order g h)
  joined_any_order g (swap {x = x} {y = y} {l = l}) = fronts_swapped (g x) (g y) (joined_by g l)
  joined_any_order g (next h k) = next (joined_any_order g h) (joined_any_order g k)

  pub map_any_order : (g : X → Y) {l m : List X} → Rearranged l m → Rearranged (map g l) (map g m)
  map_any_order g none = none
  map_any_order g (keep h) = keep (map_any_order g h)
  map_any_order g swap = swap
  map_any_order g (next h k) = next (map_any_order g h) (map_any_order g k)
