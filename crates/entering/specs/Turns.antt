-- A turn: the bits of one byte of a record that its verdict turns. Assumes nothing.
use Rattle.std.specs.Prelude.{◌≡◌, List, ℕ, ◌<◌, length, get_or, set}
use Rattle.std.specs.Int.Bits.{bit_xor}
use Rattle.record.specs.Bytes.{AllBytes}
use Rattle.record.specs.Layout.{record_size}
use Rattle.verdict.specs.declared.Verdict.{Verdict}
use Rattle.at_record.specs.Outcome.{left_by}

-- the bits of the byte at `at` turned
abbrev pub turned_at : ℕ → ℕ → List ℕ → List ℕ
turned_at at bits rec = set rec at (bit_xor (get_or rec at 0) bits)

-- a record with these bits turned is as its verdict leaves it
pub record Leaves (d k : ℕ) (v : Verdict) (at bits : ℕ) : Type 0 where
  pub inside : at < record_size d
  pub left : (rec : List ℕ) → AllBytes rec → length rec ≡ record_size d → turned_at at bits rec ≡ left_by d k v rec
