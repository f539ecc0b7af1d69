-- A record with the bit of one place turned is the record of its word with that place flipped: of the data, low half or high, or of the
-- check bits. Assumes nothing.
use mathlib.Core.Path.{◌≡◌, sym, ap, ap₂, subst, ◌∙◌}
use mathlib.Core.Logic.{⊎_elim}
use mathlib.Core.List.{List}
use Prim.Native.Nat.{ℕ, ◌+◌, ◌-◌, ◌*◌, ◌^◌, ◌≤◌, ◌<◌}
use native.Mathlib.Omega.{arith}
use lib.ListN.{length, take}
use lib.Seq.{length-take-le}
use Rattle.parity.proofs.Ones.{below_or_not}
use Rattle.columns.specs.Mix.{flipped}
use Rattle.record.specs.Bytes.{number_of, AllBytes}
use Rattle.record.specs.Turned.{turned}
use Rattle.record.specs.Layout.{record_size, record_bytes, data_in, check_in}
use Rattle.record.proofs.Bytes.{number_fits}
use Rattle.runs.proofs.Numbers.{bytes_take, byte_span_power}
use Rattle.runs.proofs.Records.{data_halves, data_turned, check_turned}
use Rattle.word.specs.declared.Word.{Word}
use Rattle.word.specs.Word.{joined, word_of, flipped_in}
use Rattle.word.proofs.Handed.{flipped_check, flipped-low, flipped-high}
use Rattle.mending.proofs.Parts.{data_of-word, check_of-word, word_of_parts, flip_data, flip_check}
use Rattle.at_record.specs.Outcome.{Held, word_in, record_of}

-- ---- a flip in a half is a flip of the joined number

module _ (low high p : ℕ) (fits : low < 2 ^ 64) where
  joined-low : p < 64 → joined (flipped low p) high ≡ flipped (joined low high) p
  joined-low h =
      let f = flip_data 64 (joined low high) p h in
      sym (sym (word_of_parts 64 (flipped (joined low high) p))
      ∙ ap₂ (word_of 64) (f.0 ∙ ap (λ (x : ℕ). flipped x p) (data_of-word 64 low high fits)) (f.1 ∙ check_of-word 64 low high fits))

  joined-high : 64 ≤ p → joined low (flipped high (p - 64)) ≡ flipped (joined low high) p
  joined-high h =
      let f = flip_check 64 (joined low high) p h in
      sym (sym (word_of_parts 64 (flipped (joined low high) p))
      ∙ ap₂ (word_of 64) (f.0 ∙ data_of-word 64 low high fits) (f.1 ∙ ap (λ (x : ℕ). flipped x (p - 64)) (check_of-word 64 low high fits)))

data_flipped : (d k p : ℕ) (w : Word) → w.low < 2 ^ 64 → p < k
    → record_of d (flipped_in k p w) ≡ record_bytes d (flipped (joined w.low w.high) p) w.check
data_flipped d k p w fits h =
    ⊎_elim
    (λ (l : p < 64).
    ap (record_of d) (flipped-low k p w h l) ∙ ap (λ (x : ℕ). record_bytes d x w.check) (joined-low w.low w.high p fits l))
    (λ (l : 64 ≤ p).
    ap (record_of d) (flipped-high k p w h l) ∙ ap (λ (x : ℕ). record_bytes d x w.check) (joined-high w.low w.high p fits l))
    (below_or_not p 64)

-- ---- a record

module _ (d k : ℕ) (held : Held d k) (rec : List ℕ) (bytes : AllBytes rec) (e : length rec ≡ record_size d) where
  pub low_fits : (word_in d rec).low < 2 ^ 64
  low_fits =
      let h = held.least in
      let eight : length (take 8 rec) ≤ 8 = omega (arith, length-take-le 8 rec (omega arith)) in
      subst (λ n. number_of (take 8 rec) < n) (byte_span_power 8) (number_fits 8 (take 8 rec) (bytes_take 8 rec bytes) eight)

  halves : joined (word_in d rec).low (word_in d rec).high ≡ data_in d rec
  halves = data_halves d rec held.least (omega arith)

  pub turned_data : (p : ℕ) → p < k → turned rec p ≡ record_of d (flipped_in k p (word_in d rec))
  turned_data p h =
      let most = held.data_held in
      data_turned d rec bytes e p (omega arith)
      ∙ ap (λ (x : ℕ). record_bytes d (flipped x p) (check_in d rec)) (sym halves)
      ∙ sym (data_flipped d k p (word_in d rec) low_fits h)

  pub turned_check : (p : ℕ) → k ≤ p → p < k + 16 → turned rec (8 * d + (p - k)) ≡ record_of d (flipped_in k p (word_in d rec))
  turned_check p h l =
      check_turned d rec bytes e (p - k) (omega arith)
      ∙ ap (λ (x : ℕ). record_bytes d x (flipped (check_in d rec) (p - k))) (sym halves)
      ∙ sym (ap (record_of d) (flipped_check k p (word_in d rec) h))
