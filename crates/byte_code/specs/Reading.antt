-- Writing and reading under the byte-correcting code: document 02, request 114, and the three steps of source document 000, with seven
-- data bytes. Assumes nothing.
use Rattle.std.specs.Prelude.{Bool, cond, ◌&&◌, ℕ, zero, suc, ◌+◌, ◌*◌, ◌^◌, eqb, leb, Option, Some, None}
use Rattle.std.specs.Int.Bits.{bit_xor}
use Rattle.byte_code.specs.declared.ByteNumber.{ByteNumber}
use Rattle.byte_parts.specs.declared.Parts.{Parts}
use Rattle.byte_code.specs.declared.ByteWriting.{ByteWriting}
use Rattle.byte_code.specs.declared.ByteReading.{ByteReading}
use Rattle.byte_parts.specs.Vectors.{power_t}
use Rattle.byte_parts.specs.Parts.{data_sum, parts_of}

abbrev pub byte_number : ℕ → ByteNumber
byte_number t = record { 0 = t }

-- data bits 0 to 20, and the check bytes that make the three parts zero
unfoldable pub byte_word : ℕ → ℕ
byte_word low = low + 2 ^ 21 * data_sum 0 low + 2 ^ 24 * data_sum 1 low + 2 ^ 27 * data_sum 2 low

-- ---- the rows of an answer

abbrev pub wrote : ℕ → ByteWriting
wrote w = record { number = 0; told = 0; word = w }

abbrev pub refused_byte_writing : ByteWriting
refused_byte_writing = record { number = 7; told = 0; word = 0 }

-- verdicts 0 and 3: no byte, and the word as read
abbrev pub as_read : ℕ → ℕ → ByteReading
as_read verdict w = record { number = 0; told = 0; verdict = verdict; byte = byte_number 255; word = w }

-- verdicts 1 and 2: the pattern taken from the byte that is named
abbrev pub put_right : ℕ → ByteNumber → ℕ → ℕ → ByteReading
put_right verdict byte pattern w =
    record { number = 0; told = 0; verdict = verdict; byte = byte; word = bit_xor w (pattern * 2 ^ (3 * byte.0)) }

abbrev pub refused_byte_reading : ByteReading
refused_byte_reading = record { number = 7; told = 0; verdict = 0; byte = byte_number 0; word = 0 }

-- ---- the three steps

abbrev pub both_zero : ℕ → ℕ → Bool
both_zero a b = eqb a 0 && eqb b 0

-- what step 3 asks of i: E is part 1
abbrev pub solves : Parts → ℕ → Bool
solves s i = eqb (power_t i s.first) s.second && eqb (power_t (2 * i) s.first) s.third

-- the first solution among the n numbers from i on, or none
unfoldable pub solution_in : Parts → ℕ → ℕ → Option ℕ
solution_in s zero i = None
solution_in s (suc n) i = cond (solves s i) (Some i) (solution_in s n (suc i))

-- a data byte put right where there is a solution, and the word as read where there is none
abbrev pub solved : Option ℕ → Parts → ℕ → ByteReading
solved (Some i) s w = put_right 1 (byte_number i) s.first w
solved None s w = as_read 3 w

-- step 1: all parts zero; step 2: two of them; step 3: a data byte, or no solution
unfoldable pub read_by : Parts → ℕ → ByteReading
read_by s w =
    cond (eqb s.first 0 && both_zero s.second s.third) (as_read 0 w)
    (cond (both_zero s.second s.third) (put_right 2 (byte_number 7) s.first w)
    (cond (both_zero s.first s.third) (put_right 2 (byte_number 8) s.second w)
    (cond (both_zero s.first s.second) (put_right 2 (byte_number 9) s.third w)
    (solved (solution_in s 7 0) s w))))

-- ---- the two questions

-- 7 where a data bit at 21 or above is set
unfoldable pub byte_writing_of : ℕ → ByteWriting
byte_writing_of low = cond (leb (2 ^ 21) low) refused_byte_writing (wrote (byte_word low))

-- 7 where a bit at 30 or above is set
unfoldable pub byte_reading_of : ℕ → ByteReading
byte_reading_of w = cond (leb (2 ^ 30) w) refused_byte_reading (read_by (parts_of w) w)
