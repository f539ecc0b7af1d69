-- ONE ENTRY PUT BACK (02's request 104): where the record holds the entry's bytes as left, its bytes as read are written. Over records with d
-- bytes of data. Assumes nothing.
use Rattle.std.specs.Prelude.{Bool, cond, ◌&&◌, List, ℕ, ◌-◌, eqb, ltb, Option, Some, None}
use Rattle.std.specs.Cmp.Lexicographic.{pointwise}
use Rattle.record.specs.Layout.{record_size, Entry, records_in}
use Rattle.record.specs.Run.{record_at}
use Rattle.record.specs.Journal.{entry_at, put_record}

-- whether two lists have the same elements
unfoldable pub same_bytes : List ℕ → List ℕ → Bool
same_bytes = pointwise eqb

-- an entry's record lies in the image, and holds its bytes as left
abbrev pub matches : ℕ → Entry → List ℕ → Bool
matches d e image = ltb e.number (records_in d image) && same_bytes (record_at (record_size d) image e.number) e.after

-- the image with its bytes as read there
abbrev pub undone : ℕ → Entry → List ℕ → List ℕ
undone d e image = put_record (record_size d) image e.number e.before

-- the place that a step from a place of a journal leads to, or none where the entry before it does not match; and the image that it leaves
abbrev pub step_of : ℕ → List ℕ → ℕ → List ℕ → Option ℕ
step_of d journal place image = cond (matches d (entry_at d journal (place - 1)) image) (Some (place - 1)) None

abbrev pub stepped_image : ℕ → List ℕ → ℕ → List ℕ → List ℕ
stepped_image d journal place image =
    let e = entry_at d journal (place - 1) in
    cond (matches d e image) (undone d e image) image
