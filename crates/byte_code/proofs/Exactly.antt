-- The answers in plain numbers: 7 exactly and what it hands back, 0 exactly; and a word written and read for each kind. Assumes nothing.
use mathlib.Core.Path.{◌≡◌, refl}
use Prim.Native.Nat.{ℕ, ◌≤◌, ◌<◌}
use borrow.Author.Tests.{le-leb, lt-leb}
use Rattle.byte_parts.specs.Vectors.{times_t, power_t}
use Rattle.byte_parts.specs.Parts.{sum_to, parts_of}
use Rattle.byte_code.specs.Reading.{byte_word}
use Rattle.byte_code.specs.Reading.{solution_in, read_by, byte_writing_of, byte_reading_of}

-- ---- refusals

pub write_refused : (d : ℕ) → 2097152 ≤ d → byte_writing_of d ≡ record { number = 7; told = 0; word = 0 }
unfolding byte_writing_of
write_refused d h = rw (le-leb 2097152 d h)

pub write_done : (d : ℕ) → d < 2097152 → byte_writing_of d ≡ record { number = 0; told = 0; word = byte_word d }
unfolding byte_writing_of
write_done d h = rw (lt-leb 2097152 d h)

pub read-refused : (w : ℕ) → 1073741824 ≤ w
    → byte_reading_of w ≡ record { number = 7; told = 0; verdict = 0; byte = record { 0 = 0 }; word = 0 }
unfolding byte_reading_of
read-refused w h = rw (le-leb 1073741824 w h)

pub read_done : (w : ℕ) → w < 1073741824 → byte_reading_of w ≡ read_by (parts_of w) w
unfolding byte_reading_of
read_done w h = rw (lt-leb 1073741824 w h)

-- ---- one word of each kind

-- a single one in data byte 0, 1 and 6, and all ones
pub words_written : (byte_word 1 ≡ 153092097) × (byte_word 8 ≡ 572522504) × (byte_word 262144 ≡ 1025769472)
    × (byte_word 2097151 ≡ 16777215)
unfolding byte_word sum_to power_t times_t
words_written = (refl, refl, refl, refl)

abbrev Reads : ℕ → ℕ → ℕ → ℕ → Type 0
Reads w verdict byte put =
    read_by (parts_of w) w ≡ record { number = 0; told = 0; verdict = verdict; byte = record { 0 = byte }; word = put }

-- clean; data bytes 0 and 6; check bytes 7, 8 and 9
pub words_mended : Reads 572522504 0 255 572522504 × Reads 572522505 1 0 572522504 × Reads 573833224 1 6 572522504
    × Reads 574619656 2 7 572522504 × Reads 555745288 2 8 572522504 × Reads 706740232 2 9 572522504
unfolding read_by parts_of sum_to solution_in power_t times_t
words_mended = (refl, refl, refl, refl, refl, refl)

-- flagged: two data bytes; a data byte with each check byte; two check bytes, so part 1 zero among them
pub words_flagged : Reads 9 3 255 9 × Reads 2097153 3 255 2097153 × Reads 16777217 3 255 16777217 × Reads 134217729 3 255 134217729
    × Reads 18874368 3 255 18874368 × Reads 150994944 3 255 150994944 × Reads 1073741823 3 255 1073741823
unfolding read_by parts_of sum_to solution_in power_t times_t
words_flagged = (refl, refl, refl, refl, refl, refl, refl)
