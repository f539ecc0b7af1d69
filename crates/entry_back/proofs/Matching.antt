-- An entry whose record lies inside the image matches as its bytes say. Assumes nothing.
use mathlib.Core.Path.{◌≡◌, ap₂}
use mathlib.Core.Bool.{Bool, ◌&&◌}
use mathlib.Core.List.{List}
use Prim.Native.Nat.{ℕ, ◌<◌}
use borrow.Author.Tests.{lt-ltb}
use Rattle.record.specs.Layout.{record_size, Entry, records_in}
use Rattle.record.specs.Run.{record_at}
use Rattle.entry_back.specs.Entry.{same_bytes, matches}

module _ (d : ℕ) (e : Entry) (image : List ℕ) where
  pub inside : e.number < records_in d image → (b : Bool) → same_bytes (record_at (record_size d) image e.number) e.after ≡ b
      → matches d e image ≡ b
  inside h b s = ap₂ (λ x y. x && y) (lt-ltb _ _ h) s
