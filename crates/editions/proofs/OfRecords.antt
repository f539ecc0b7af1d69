-- The promises on records and entries, proved from the layers' laws. Assumes nothing.
use mathlib.Core.Path.{◌≡◌, refl, sym, ap, ◌∙◌}
use Prim.Native.Nat.{ℕ, ◌^◌}
use native.Mathlib.Omega.{arith}
use Rattle.record.specs.Bytes.{byte_span}
use Rattle.runs.proofs.Numbers.{byte_span_power}
use Rattle.runs.proofs.Records.{record_read, data_back, check_back, data_halves}
use Rattle.runs.proofs.Entries.{entry_read, entry-back}
use Rattle.at_record.specs.Outcome.{Held}
use Rattle.at_record.proofs.Mends.{low_fits}
use Rattle.editions.specs.Given.{Edition, Known}
use Rattle.editions.specs.Promises as promises

module _ (e : Edition) (known : Known e) where
  held : Held e.bytes 0
  held =
      let places = known.held in
      record { least = known.halves; most = omega (arith, known.most); data_held = omega arith }

  span : byte_span e.bytes ≡ 2 ^ e.places
  span = byte_span_power e.bytes ∙ ap (λ (n : ℕ). 2 ^ n) (sym known.held)

  pub records-read : promises.RecordsRead e
  unfolding byte_span
  records-read = (
    λ rec h l. (
      record_read e.bytes rec h l,
      data_halves e.bytes rec known.halves (omega arith),
      low_fits e.bytes 0 held rec h l,
      refl,
    ),
    λ bits check h i. (data_back e.bytes bits check (rw span h), check_back e.bytes bits check i),
  )

  pub entries-read : promises.EntriesRead e
  unfolding byte_span
  entries-read = (entry_read e.bytes, entry-back e.bytes)
