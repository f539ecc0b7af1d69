-- Laws of a record's bytes, over d, the bytes of its data: there and back, in two halves, and with one bit turned. Assumes nothing.
use mathlib.Core.Path.{◌≡◌, sym, ap, ap₂, ◌∙◌}
use mathlib.Core.List.{List, ◌++◌}
use Prim.Native.Nat.{ℕ, ◌+◌, ◌*◌, ◌-◌, ◌^◌, ◌≤◌, ◌<◌}
use native.Mathlib.Omega.{arith}
use lib.Bits.{bit_xor}
use lib.ListN.{length, take, drop, length-append, length-drop, take-append-drop}
use lib.Seq.{take_all, take-add, length-take-le}
use Rattle.record.specs.Bytes.{number_of, bytes_of, byte_span, AllBytes}
use Rattle.record.specs.Turned.{turned}
use Rattle.record.specs.Layout.{check_size, record_size, record_bytes, data_in, check_in}
use Rattle.record.proofs.Bytes.{length-bytes_of, bytes_drop, bytes_number}
use Rattle.runs.proofs.Numbers.{bytes_take, byte_span_power, number_append, two_numbers, first_number, second_number}
use Rattle.runs.proofs.Turned.{turned-first, turned-second, turned_number}

pub length_record : (d word check : ℕ) → length (record_bytes d word check) ≡ record_size d
unfolding record_bytes
length_record d word check = simp (length-append, length-bytes_of)

-- a record is the bytes of its data and check bits, and these come back
pub record_read : (d : ℕ) (rec : List ℕ) → AllBytes rec → length rec ≡ record_size d → record_bytes d (data_in d rec) (check_in d rec) ≡ rec
unfolding record_bytes
record_read d rec h e = two_numbers d check_size rec h e

pub data_back : (d word check : ℕ) → word < byte_span d → data_in d (record_bytes d word check) ≡ word
unfolding record_bytes
data_back d word check h = first_number d word (bytes_of check_size check) h

pub check_back : (d word check : ℕ) → check < byte_span check_size → check_in d (record_bytes d word check) ≡ check
unfolding record_bytes
check_back d word check h = second_number d check_size word check h

-- the data in two halves: the first eight bytes and the rest
pub data_halves : (d : ℕ) (rec : List ℕ) → 8 ≤ d → d ≤ length rec
    → number_of (take 8 rec) + 2 ^ 64 * number_of (take (d - 8) (drop 8 rec)) ≡ data_in d rec
data_halves d rec h l =
    let e : 8 + (d - 8) ≡ d = omega arith in
    let eight : length (take 8 rec) ≡ 8 = length-take-le 8 rec (omega arith) in
    let low : byte_span (length (take 8 rec)) ≡ 2 ^ 64 = ap byte_span eight ∙ byte_span_power 8 in
    let rest = take (d - 8) (drop 8 rec) in
    sym (ap (λ (n : ℕ). data_in n rec) (sym e)
    ∙ ap number_of (take-add 8 (d - 8) rec)
    ∙ number_append (take 8 rec) rest
    ∙ ap (λ (s : ℕ). number_of (take 8 rec) + s * number_of rest) low)

-- ---- one bit turned: of the data, of the check bits

module _ (d : ℕ) (rec : List ℕ) (h : AllBytes rec) (e : length rec ≡ record_size d) where
  two : rec ≡ take d rec ++ drop d rec
  two = sym (take-append-drop d rec)

  length_data : length (take d rec) ≡ d
  length_data = length-take-le d rec (omega arith)

  length_check : length (drop d rec) ≡ check_size
  length_check = simp length-drop (omega arith)

  all_check : take check_size (drop d rec) ≡ drop d rec
  all_check = take_all check_size (drop d rec) (omega (arith, length_check))

  pub data_turned : (p : ℕ) → p < 8 * d → turned rec p ≡ record_bytes d (bit_xor (data_in d rec) (2 ^ p)) (check_in d rec)
  unfolding record_bytes
  data_turned p l =
      ap (λ (r : List ℕ). turned r p) two
      ∙ turned-first (take d rec) (drop d rec) p (omega (arith, length_data))
      ∙ ap₂ (λ (a b : List ℕ). a ++ b)
      (turned_number d (take d rec) p (bytes_take d rec h) length_data l)
      (sym (rw all_check (bytes_number check_size (drop d rec) (bytes_drop d rec h) length_check)))

  pub check_turned : (q : ℕ) → q < 8 * check_size → turned rec (8 * d + q) ≡ record_bytes d (data_in d rec) (bit_xor (check_in d rec) (2 ^ q))
  unfolding record_bytes
  check_turned q l =
      ap₂ turned two (ap (λ (n : ℕ). 8 * n + q) (sym length_data))
      ∙ turned-second (take d rec) (drop d rec) q
      ∙ ap₂ (λ (a b : List ℕ). a ++ b)
      (sym (bytes_number d (take d rec) (bytes_take d rec h) length_data))
      (rw all_check (turned_number check_size (drop d rec) q (bytes_drop d rec h) length_check l))
