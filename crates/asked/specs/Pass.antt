-- What a pass is told and what it works on, and the first of the numbers 12, 14, 17 and 16 that refuses it before its records are looked
-- at. Documents 01, "When the desk says no", and 02's request 102. Assumes nothing.
use Rattle.std.specs.Prelude.{Bool, cond, not, ◌||◌, ◌&&◌, List, ℕ, ◌-◌, ◌/◌, ◌%◌, eqb, ltb, length}
use Rattle.record.specs.Layout.{record_size, entry_size, image_limit, records_in}
use Rattle.record.specs.Journal.{entry_at}
use Rattle.asked.specs.declared.Pass.{Pass}

-- what a pass is told: its run, from the record `start` up to the record `end`, which is not counted, and its stamp
abbrev pub pass_over : ℕ → ℕ → ℕ → Pass
pass_over start end stamp = record { start = start; end = end; stamp = stamp }

-- what it works on: an image, a journal, and how many of the journal's entries are in use
pub record State : Type 0 where
  pub image : List ℕ
  pub journal : List ℕ
  pub used : ℕ

abbrev pub state_of : List ℕ → List ℕ → ℕ → State
state_of image journal used = record { image = image; journal = journal; used = used }

-- ---- the journal

-- how many entries a journal has room for
abbrev pub room_in : ℕ → List ℕ → ℕ
room_in d journal = length journal / entry_size d

-- the stamp of the entry m, and that of the last entry in use
abbrev pub stamp_at : ℕ → List ℕ → ℕ → ℕ
stamp_at d journal m = (entry_at d journal m).stamp

abbrev pub last_stamp : ℕ → List ℕ → ℕ → ℕ
last_stamp d journal used = stamp_at d journal (used - 1)

-- ---- the refusals

-- 12: the image's length is no multiple of a record's, or over the limit
abbrev pub no_image : ℕ → List ℕ → Bool
no_image d image = ltb (image_limit d) (length image) || not (eqb (length image % record_size d) 0)

-- 14: the run's start lies above its end, or its end above the number of records
abbrev pub no_run : ℕ → List ℕ → ℕ → ℕ → Bool
no_run d image a b = ltb b a || ltb (records_in d image) b

-- 16: an entry is in use, and the pass's stamp is below the last one's
abbrev pub goes_back : ℕ → ℕ → List ℕ → ℕ → Bool
goes_back d stamp journal used = ltb 0 used && ltb stamp (last_stamp d journal used)

-- the first of 12, 14, 17 and 16 that refuses a pass, or 0
unfoldable pub wrong_in : ℕ → Pass → State → ℕ
wrong_in d p s =
    cond (no_image d s.image) 12
    (cond (no_run d s.image p.start p.end) 14
    (cond (ltb (room_in d s.journal) s.used) 17
    (cond (goes_back d p.stamp s.journal s.used) 16
    0)))
