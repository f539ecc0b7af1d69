-- What may be asked of a pass: rows 12, 14, 17 and 16 of "When the desk says no", over records with d bytes of data. Assumes nothing.
use Rattle.std.specs.Prelude.{◌≡◌, ◌≢◌, ◌⊎◌, List, ℕ, ◌%◌, ◌≤◌, ◌<◌, length}
use Rattle.record.specs.Layout.{record_size, image_limit, records_in}
use Rattle.asked.specs.declared.Pass.{Pass}
use Rattle.asked.specs.Pass.{State, room_in, last_stamp}

-- an image: records and nothing else, and not too many of them
pub record Image (d : ℕ) (image : List ℕ) : Type 0 where
  pub whole : length image % record_size d ≡ 0
  pub short : length image ≤ image_limit d

-- row 12
abbrev pub NoImage : ℕ → List ℕ → Type 0
NoImage d image = (length image % record_size d ≢ 0) ⊎ (image_limit d < length image)

-- a run within an image
pub record Run (d : ℕ) (image : List ℕ) (a b : ℕ) : Type 0 where
  pub rising : a ≤ b
  pub within : b ≤ records_in d image

-- row 14
abbrev pub NoRun : ℕ → List ℕ → ℕ → ℕ → Type 0
NoRun d image a b = (b < a) ⊎ (records_in d image < b)

-- row 16: an entry is in use, and the stamp is below the last one's
pub record GoesBack (d stamp : ℕ) (journal : List ℕ) (used : ℕ) : Type 0 where
  pub some : 0 < used
  pub below : stamp < last_stamp d journal used

-- or none is, or the stamp is not
abbrev pub GoesOn : ℕ → ℕ → List ℕ → ℕ → Type 0
GoesOn d stamp journal used = (used ≡ 0) ⊎ (last_stamp d journal used ≤ stamp)

-- none of the four
pub record Askable (d : ℕ) (p : Pass) (s : State) : Type 0 where
  pub records : Image d s.image
  pub run : Run d s.image p.start p.end
  pub counted : s.used ≤ room_in d s.journal
  pub goes_on : GoesOn d p.stamp s.journal s.used
