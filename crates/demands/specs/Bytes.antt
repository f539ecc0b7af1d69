-- The words that the demands on words of ten bytes use. Assumes nothing.
use Rattle.std.specs.Prelude.{ℕ, ◌≤◌, ◌<◌}
use Rattle.byte_code.specs.declared.ByteReading.{ByteReading}
use Rattle.byte_code.specs.Reading.{byte_number}

-- a byte of the ten: 0 to 6 are data bytes, 7 to 9 check bytes
abbrev pub IsByte : ℕ → Type 0
IsByte t = t < 10

-- an error's pattern within a byte: any but none of its three bits
abbrev pub Pattern : ℕ → Type 0
Pattern v = (1 ≤ v) × (v < 8)

-- a reading that was done
abbrev pub handing : ℕ → ℕ → ℕ → ByteReading
handing verdict t w = record { number = 0; told = 0; verdict = verdict; byte = byte_number t; word = w }
