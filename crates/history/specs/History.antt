-- What a put-back has done where it ends: the last entries, each of which matched where those behind it were put back. Assumes nothing.
use Rattle.std.specs.Prelude.{◌≡◌, List, ℕ, zero, suc, ◌-◌, ◌<◌}
use Rattle.record.specs.Layout.{record_size, Entry, records_in}
use Rattle.record.specs.Run.{record_at}
use Rattle.record.specs.Journal.{entry_at}
use Rattle.entry_back.specs.Entry.{undone}

-- an entry matches: its record lies in the image, and holds the entry's bytes as left
pub record Matches (d : ℕ) (e : Entry) (image : List ℕ) : Type 0 where
  pub inside : e.number < records_in d image
  pub holds : record_at (record_size d) image e.number ≡ e.after

-- of n entries in use, counted from the last: the one behind which m others stand
abbrev pub from_last : ℕ → List ℕ → ℕ → ℕ → Entry
from_last d journal n m = entry_at d journal (n - suc m)

-- the image once the last m of n entries are put back, one after the other
unfoldable pub last_back : ℕ → List ℕ → ℕ → ℕ → List ℕ → List ℕ
last_back d journal n zero image = image
last_back d journal n (suc m) image = undone d (from_last d journal n m) (last_back d journal n m image)

-- each of the last m matches where those behind it are put back
abbrev pub LastMatch : ℕ → List ℕ → ℕ → ℕ → List ℕ → Type 0
LastMatch d journal n m image = (i : ℕ) → i < m → Matches d (from_last d journal n i) (last_back d journal n i image)

-- and the next one does not
pub record StopsAt (d : ℕ) (journal : List ℕ) (n m : ℕ) (image : List ℕ) : Type 0 where
  pub some : m < n
  pub behind : LastMatch d journal n m image
  pub differs : ¬ (Matches d (from_last d journal n m) (last_back d journal n m image))
