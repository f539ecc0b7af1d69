-- Each verdict exactly where its step holds, and what is handed back with it. Assumes nothing.
use mathlib.Core.Path.{◌≡◌, refl, sym, ap, ◌∙◌, subst}
use mathlib.Core.Logic.{◌≢◌, ◌⊎◌, inl, inr, ◌↔◌}
use Prim.Native.Nat.{ℕ, ◌*◌, ◌^◌, ◌<◌}
use native.Mathlib.Omega.{arith}
use lib.Bits.{bit_xor, xor_lt, xor_self, xor_zero_r}
use Rattle.byte_parts.specs.declared.Parts.{Parts}
use Rattle.byte_code.specs.declared.ByteNumber.{ByteNumber}
use Rattle.byte_code.specs.declared.ByteReading.{ByteReading}
use Rattle.byte_parts.specs.Parts.{byte_at, parts_of}
use Rattle.byte_code.specs.Reading.{byte_number, put_right, read_by}
use Rattle.byte_parts.proofs.Sums.{first-lt, second_lt, third_lt}
use Rattle.byte_errors.specs.Steps.{NoError, CheckError, DataError, NoStep}
use Rattle.byte_errors.proofs.Linear.{byte_xor, pattern_lt, pattern_elsewhere, xor_parts, parts_xor, three_parts}
use Rattle.byte_errors.proofs.Steps.{Vectors, Explains, WhichStep, step-1, step-2, step-3, no_step, by_clean, by_check, by_data, by_none, step_of}

pub vectors : (w : ℕ) → Vectors (parts_of w)
vectors w = record { first = first-lt w; second = second_lt w; third = third_lt w }

-- ---- the verdict and the byte number that each step gives

abbrev Told : Parts → ℕ → ℕ → ℕ → Type 0
Told s w verdict byte = ((read_by s w).verdict ≡ verdict) × ((read_by s w).byte ≡ byte_number byte)

told : (s : Parts) (w verdict byte : ℕ) (a : ByteReading) → read_by s w ≡ a → a.verdict ≡ verdict → a.byte ≡ byte_number byte
    → Told s w verdict byte
told s w verdict byte a e h k = (ap (λ b. b.verdict) e ∙ h, ap (λ b. b.byte) e ∙ k)

tells_1 : (s : Parts) (w : ℕ) → NoError s → Told s w 0 255
tells_1 s w z = told s w 0 255 _ (by_clean s w z) refl refl

tells_2 : (s : Parts) (w t : ℕ) → Vectors s → CheckError s t → Told s w 2 t
tells_2 s w t v c = told s w 2 t _ (by_check s w t v c).2 refl refl

tells_3 : (s : Parts) (w i : ℕ) → Vectors s → DataError s i → Told s w 1 i
tells_3 s w i v d = told s w 1 i _ (by_data s w i v d).1 refl refl

tells_none : (s : Parts) (w : ℕ) → NoStep s → Told s w 3 255
tells_none s w n = told s w 3 255 _ (by_none s w n) refl refl

number_of : {a b : ℕ} → byte_number a ≡ byte_number b → a ≡ b
number_of e = ap (λ (n : ByteNumber). n.0) e

-- ---- exactly

pub exactly_0 : (s : Parts) (w : ℕ) → Vectors s → ((read_by s w).verdict ≡ 0) ↔ NoError s
exactly_0 s w v = (λ h. go (step_of s) h, λ z. (tells_1 s w z).0)
  where
    go : WhichStep s → (read_by s w).verdict ≡ 0 → NoError s
    go (step-1 z) h = z
    go (step-2 t c) h = let e = (tells_2 s w t v c).0 in absurd (omega arith)
    go (step-3 i d) h = let e = (tells_3 s w i v d).0 in absurd (omega arith)
    go (no_step n) h = let e = (tells_none s w n).0 in absurd (omega arith)

pub exactly_1 : (s : Parts) (w i : ℕ) → Vectors s → Told s w 1 i ↔ DataError s i
exactly_1 s w i v = (λ h. go (step_of s) h, λ d. tells_3 s w i v d)
  where
    go : WhichStep s → Told s w 1 i → DataError s i
    go (step-1 z) h = let e = (tells_1 s w z).0 in let k = h.0 in absurd (omega arith)
    go (step-2 t c) h = let e = (tells_2 s w t v c).0 in let k = h.0 in absurd (omega arith)
    go (step-3 j d) h = subst (DataError s) (number_of (sym (tells_3 s w j v d).1 ∙ h.1)) d
    go (no_step n) h = let e = (tells_none s w n).0 in let k = h.0 in absurd (omega arith)

pub exactly_2 : (s : Parts) (w t : ℕ) → Vectors s → Told s w 2 t ↔ CheckError s t
exactly_2 s w t v = (λ h. go (step_of s) h, λ c. tells_2 s w t v c)
  where
    go : WhichStep s → Told s w 2 t → CheckError s t
    go (step-1 z) h = let e = (tells_1 s w z).0 in let k = h.0 in absurd (omega arith)
    go (step-2 j c) h = subst (CheckError s) (number_of (sym (tells_2 s w j v c).1 ∙ h.1)) c
    go (step-3 j d) h = let e = (tells_3 s w j v d).0 in let k = h.0 in absurd (omega arith)
    go (no_step n) h = let e = (tells_none s w n).0 in let k = h.0 in absurd (omega arith)

pub exactly_3 : (s : Parts) (w : ℕ) → Vectors s → ((read_by s w).verdict ≡ 3) ↔ NoStep s
exactly_3 s w v = (λ h. go (step_of s) h, λ n. (tells_none s w n).0)
  where
    go : WhichStep s → (read_by s w).verdict ≡ 3 → NoStep s
    go (step-1 z) h = let e = (tells_1 s w z).0 in absurd (omega arith)
    go (step-2 t c) h = let e = (tells_2 s w t v c).0 in absurd (omega arith)
    go (step-3 i d) h = let e = (tells_3 s w i v d).0 in absurd (omega arith)
    go (no_step n) h = n

-- ---- what is handed back

-- verdicts 0 and 3: no byte, and the word as read
abbrev pub Left : ℕ → ByteReading → Type 0
Left w a = (a.byte ≡ byte_number 255) × (a.word ≡ w)

-- verdicts 1 and 2: a word whose parts are zero, the same but for the byte that is named
pub record Mended (w : ℕ) (a : ByteReading) : Type 0 where
  pub fits : a.word < 2 ^ 30
  pub zero : parts_of a.word ≡ three_parts 0 0 0
  pub others : (t : ℕ) → byte_number t ≢ a.byte → byte_at a.word t ≡ byte_at w t

mended : (w t pattern verdict : ℕ) → w < 2 ^ 30 → Explains (parts_of w) t pattern → Mended w (put_right verdict (byte_number t) pattern w)
mended w t pattern verdict h x =
    record {
      fits = xor_lt 30 w (pattern * 2 ^ (3 * t)) h (pattern_lt 30 pattern t x.vector (omega (arith, x.below)));
      zero = parts_xor w (pattern * 2 ^ (3 * t))
          ∙ ap (xor_parts (parts_of w)) x.parts
          ∙ rw (xor_self (parts_of w).first, xor_self (parts_of w).second, xor_self (parts_of w).third);
      others = λ s d. byte_xor w (pattern * 2 ^ (3 * t)) s
          ∙ ap (bit_xor (byte_at w s)) (pattern_elsewhere pattern t s x.vector (λ e. d (ap byte_number e)))
          ∙ xor_zero_r (byte_at w s);
    }

-- done, with one verdict of the four and what comes with it
abbrev pub Answered : ℕ → ByteReading → Type 0
Answered w a =
    (a.number ≡ 0) × (a.told ≡ 0)
    × ((((a.verdict ≡ 0) ⊎ (a.verdict ≡ 3)) × Left w a) ⊎ (((a.verdict ≡ 1) ⊎ (a.verdict ≡ 2)) × Mended w a))

pub handed : (w : ℕ) → w < 2 ^ 30 → Answered w (read_by (parts_of w) w)
handed w h = go (step_of (parts_of w))
  where
    go : WhichStep (parts_of w) → Answered w (read_by (parts_of w) w)
    go (step-1 z) = subst (Answered w) (sym (by_clean (parts_of w) w z)) (refl, refl, inl (inl refl, (refl, refl)))
    go (step-2 t c) =
        let r = by_check (parts_of w) w t (vectors w) c in
        subst (Answered w) (sym r.2) (refl, refl, inr (inr refl, mended w t r.0 2 h r.1))
    go (step-3 i d) =
        let r = by_data (parts_of w) w i (vectors w) d in
        subst (Answered w) (sym r.1) (refl, refl, inr (inl refl, mended w i (parts_of w).first 1 h r.0))
    go (no_step n) = subst (Answered w) (sym (by_none (parts_of w) w n)) (refl, refl, inl (inr refl, (refl, refl)))
