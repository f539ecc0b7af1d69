-- Which answer a put-back gives, from what its tests say. Assumes nothing.
use mathlib.Core.Path.{◌≡◌}
use mathlib.Core.Bool.{true, false}
use mathlib.Core.List.{List}
use Prim.Native.Nat.{ℕ, ◌≤◌, ◌<◌}
use borrow.Author.Tests.{lt-ltb, le-ltb}
use Rattle.asked.specs.Pass.{no_image, room_in}
use Rattle.put_back.specs.Back.{kept_by, returned_by, back_from, put_back_of}

module _ (d : ℕ) (image journal : List ℕ) (used : ℕ) where
  pub back_none : no_image d image ≡ true → put_back_of d image journal used ≡ kept_by 12 image
  unfolding put_back_of
  back_none h = rw h

  module _ (i : no_image d image ≡ false) where
    pub back-over : room_in d journal < used → put_back_of d image journal used ≡ kept_by 17 image
    unfolding put_back_of
    back-over v = rw i (simp (lt-ltb _ _ v))

    pub back-all : used ≤ room_in d journal → put_back_of d image journal used ≡ returned_by (back_from d journal used 0 image)
    unfolding put_back_of
    back-all v = rw i (simp (le-ltb _ _ v))
