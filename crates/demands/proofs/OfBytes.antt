-- The demands on words of ten bytes, proved from the layers' laws. Assumes nothing.
use mathlib.Core.Path.{◌≡◌, sym, ap, ◌∙◌, subst}
use mathlib.Core.Logic.{◌≢◌, ◌⊎◌, inl, inr, ◌↔◌}
use Prim.Native.Nat.{ℕ, ◌*◌, ◌%◌, ◌^◌, ◌≤◌, ◌<◌}
use native.Mathlib.Omega.{arith}
use lib.Bits.{bit_xor, xor_lt}
use lib.Dec.{lit<}
use Rattle.byte_code.specs.declared.ByteReading.{ByteReading}
use Rattle.byte_parts.specs.Parts.{parts_of}
use Rattle.byte_code.specs.Reading.{byte_word}
use Rattle.byte_code.specs.Reading.{byte_number, read_by}
use Rattle.byte_parts.proofs.Vectors.{t_by_bits}
use Rattle.byte_code.proofs.Exactly.{write_refused, write_done, read-refused, read_done, words_written, words_mended, words_flagged}
use Rattle.byte_errors.specs.Steps.{damaged, NoError, CheckError, DataError, NoStep}
use Rattle.byte_errors.proofs.Powers.{inverse, order_seven, order_least, sum_inverted}
use Rattle.byte_errors.proofs.Linear.{pattern_lt}
use Rattle.byte_errors.proofs.Written.{written-lt, written_data, written_parts, zero_parts, clean_written, written_clean, written_byte, written-xor}
use Rattle.byte_errors.proofs.Verdicts.{vectors, exactly_0, exactly_1, exactly_2, exactly_3, Left, Mended, Answered, handed}
use Rattle.byte_errors.proofs.Errors.{one_data, one_check, two_bytes}
use Rattle.desk.specs.Answers.{byte_written, byte_read}
use Rattle.demands.specs.Bytes.{IsByte, Pattern, handing}
use Rattle.demands.specs.Demands as demands

-- ---- T

pub matrix-t : demands.MatrixT
matrix-t = t_by_bits

pub order_of_t : demands.OrderOfT
order_of_t v h = (order_seven v h, λ i some few e. order_least i v some few h e)

pub sums_inverted : demands.SumsInverted
sums_inverted i j h k d = (inverse i j, sum_inverted i j h k d)

-- ---- writing

pub byte_writing_refuses : demands.ByteWritingRefuses
byte_writing_refuses d = (write_refused d, λ h. (ap (λ a. a.number) (write_done d h), ap (λ a. a.told) (write_done d h)))

-- the word written
word_of : (d : ℕ) → d < 2 ^ 21 → byte_word d ≡ (byte_written d).word
word_of d h = sym (ap (λ a. a.word) (write_done d h))

pub byte_word_lem : demands.ByteWord
byte_word_lem d h =
    subst
    (λ w.
    (w < 2 ^ 30) × (w % 2 ^ 21 ≡ d) × NoError (parts_of w) × ((v : ℕ) → v < 2 ^ 30 → v % 2 ^ 21 ≡ d → NoError (parts_of v) → v ≡ w))
    (word_of d h)
    (written-lt d h, written_data d h, zero_parts (byte_word d) (written_parts d h), λ v l e z. sym (clean_written v l z) ∙ ap byte_word e)

pub byte_checks : demands.ByteChecks
byte_checks = (
  λ i v l h. sym (word_of (v * 2 ^ (3 * i)) (pattern_lt 21 v i h (omega arith))) ∙ written_byte i v l h,
  λ d e h k.
      sym (word_of (bit_xor d e) (xor_lt 21 d e h k)) ∙ written-xor d e h k
      ∙ ap (λ w. bit_xor w (byte_word e)) (word_of d h) ∙ ap (λ w. bit_xor (byte_written d).word w) (word_of e k),
)

-- ---- reading

-- what is handed back for a word without stray bits
read-handed : (w : ℕ) → w < 2 ^ 30 → Answered w (byte_read w)
read-handed w h = subst (Answered w) (sym (read_done w h)) (handed w h)

pub byte_reading_refuses : demands.ByteReadingRefuses
byte_reading_refuses w = (read-refused w, λ h. let a = read-handed w h in (a.0, a.1))

verdict-most : (w : ℕ) (a : ByteReading) → Answered w a → a.verdict ≤ 3
verdict-most w a (n, o, inl (inl e, l)) = omega (arith, e)
verdict-most w a (n, o, inl (inr e, l)) = omega (arith, e)
verdict-most w a (n, o, inr (inl e, m)) = omega (arith, e)
verdict-most w a (n, o, inr (inr e, m)) = omega (arith, e)

pub byte_steps : demands.ByteSteps
byte_steps w h =
    let s = parts_of w in
    let v = vectors w in
    subst
    (λ a.
    ((a.verdict ≡ 0) ↔ NoError s)
    × ((i : ℕ) → ((a.verdict ≡ 1) × (a.byte ≡ byte_number i)) ↔ DataError s i)
    × ((t : ℕ) → ((a.verdict ≡ 2) × (a.byte ≡ byte_number t)) ↔ CheckError s t)
    × ((a.verdict ≡ 3) ↔ NoStep s)
    × (a.verdict ≤ 3))
    (sym (read_done w h))
    (exactly_0 s w v, λ i. exactly_1 s w i v, λ t. exactly_2 s w t v, exactly_3 s w v, verdict-most w (read_by s w) (handed w h))

-- a word with parts zero reads clean
reads_clean : (w : ℕ) → w < 2 ^ 30 → NoError (parts_of w) → (byte_read w).verdict ≡ 0
reads_clean w h z = (byte_steps w h).0.1 z

pub byte_clean : demands.ByteClean
byte_clean w h =
    let same = word_of (w % 2 ^ 21) (omega arith) in
    (λ e. sym same ∙ clean_written w h ((byte_steps w h).0.0 e), λ e. reads_clean w h (zero_parts w (written_clean w (same ∙ e))))

left_of_lem : (w : ℕ) (a : ByteReading) → Answered w a → (a.verdict ≡ 0) ⊎ (a.verdict ≡ 3) → Left w a
left_of_lem w a (n, o, inl (v, l)) e = l
left_of_lem w a (n, o, inr (inl v, m)) (inl e) = absurd (omega (arith, v, e))
left_of_lem w a (n, o, inr (inl v, m)) (inr e) = absurd (omega (arith, v, e))
left_of_lem w a (n, o, inr (inr v, m)) (inl e) = absurd (omega (arith, v, e))
left_of_lem w a (n, o, inr (inr v, m)) (inr e) = absurd (omega (arith, v, e))

pub byte_left : demands.ByteLeft
byte_left w h e = left_of_lem w (byte_read w) (read-handed w h) e

mended_of : (w : ℕ) (a : ByteReading) → Answered w a → (a.verdict ≡ 1) ⊎ (a.verdict ≡ 2) → Mended w a
mended_of w a (n, o, inr (v, m)) e = m
mended_of w a (n, o, inl (inl v, l)) (inl e) = absurd (omega (arith, v, e))
mended_of w a (n, o, inl (inl v, l)) (inr e) = absurd (omega (arith, v, e))
mended_of w a (n, o, inl (inr v, l)) (inl e) = absurd (omega (arith, v, e))
mended_of w a (n, o, inl (inr v, l)) (inr e) = absurd (omega (arith, v, e))

pub byte_mended : demands.ByteMended
byte_mended w h e =
    let m = mended_of w (byte_read w) (read-handed w h) e in
    (m.fits, reads_clean (byte_read w).word m.fits (zero_parts (byte_read w).word m.zero), m.others)

-- ---- in numbers

pub byte_samples : demands.ByteSamples
byte_samples =
    let w = words_written in
    let m = words_mended in
    let f = words_flagged in (
      sym (word_of 1 (lit< tt)) ∙ w.0,
      sym (word_of 8 (lit< tt)) ∙ w.1,
      sym (word_of 262144 (lit< tt)) ∙ w.2,
      sym (word_of 2097151 (lit< tt)) ∙ w.3,
      read_done 572522504 (lit< tt) ∙ m.0,
      read_done 572522505 (lit< tt) ∙ m.1,
      read_done 573833224 (lit< tt) ∙ m.2,
      read_done 574619656 (lit< tt) ∙ m.3,
      read_done 555745288 (lit< tt) ∙ m.4,
      read_done 706740232 (lit< tt) ∙ m.5,
      read_done 9 (lit< tt) ∙ f.0,
      read_done 2097153 (lit< tt) ∙ f.1,
      read_done 16777217 (lit< tt) ∙ f.2,
      read_done 134217729 (lit< tt) ∙ f.3,
      read_done 18874368 (lit< tt) ∙ f.4,
      read_done 150994944 (lit< tt) ∙ f.5,
      read_done 1073741823 (lit< tt) ∙ f.6,
    )

-- ---- errors within one byte and within two

nonzero : (v : ℕ) → Pattern v → v ≢ 0
nonzero v p e = omega (arith, p.0, e)

-- damage leaves 30 bits
damaged-lt : (w t v : ℕ) → w < 2 ^ 30 → IsByte t → Pattern v → damaged w t v < 2 ^ 30
damaged-lt w t v h l p = xor_lt 30 w (v * 2 ^ (3 * t)) h (pattern_lt 30 v t p.1 (omega arith))

pub byte_one : demands.ByteOne
byte_one d t v h l p =
    subst (λ w. (t < 7 → byte_read (damaged w t v) ≡ handing 1 t w) × (7 ≤ t → byte_read (damaged w t v) ≡ handing 2 t w)) (word_of d h)
    (λ m. done ∙ one_data d t v h m p.1 (nonzero v p), λ m. done ∙ one_check d t v h m l p.1 (nonzero v p))
  where
    done : byte_read (damaged (byte_word d) t v) ≡ read_by (parts_of (damaged (byte_word d) t v)) (damaged (byte_word d) t v)
    done = read_done (damaged (byte_word d) t v) (damaged-lt (byte_word d) t v (written-lt d h) l p)

pub byte_two : demands.ByteTwo
byte_two d s t u v h k l a p q =
    subst (λ w. byte_read (damaged (damaged w s u) t v) ≡ handing 3 255 (damaged (damaged w s u) t v)) (word_of d h)
    (read_done (damaged (damaged (byte_word d) s u) t v)
    (damaged-lt (damaged (byte_word d) s u) t v (damaged-lt (byte_word d) s u (written-lt d h) k p) l q)
    ∙ two_bytes d s t u v h k l a p.1 q.1 (nonzero u p) (nonzero v q))
