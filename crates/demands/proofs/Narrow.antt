-- A code of 64 places as a code of the ten-byte edition: what the demands say of the one, the promises say of the other. Its words have
-- nothing in their high half. Assumes nothing.
use mathlib.Core.Path.{◌≡◌, sym, ap, ◌∙◌}
use mathlib.Core.Logic.{◌⊎◌}
use Prim.Native.Nat.{ℕ, ◌^◌, ◌≤◌, ◌<◌}
use native.Mathlib.Nat.{add-zero, mod-eq_of_lt, div-eq_of_lt}
use native.Mathlib.Omega.{arith}
use lib.Pow.{pow_mono}
use Rattle.code.specs.declared.Code.{Code}
use Rattle.code.specs.Opened.{opened_of}
use Rattle.word.specs.declared.Word.{Word}
use Rattle.word.specs.Word.{data_of, check_of, in_parts}
use Rattle.reading.specs.Reading.{reading_of}
use Rattle.mending.proofs.Parts.{data_fits}
use Rattle.editions.specs.Given as of_any
use Rattle.editions.proofs.Codes.{limits_of}
use Rattle.desk.specs.declared.ReadWord.{ReadWord}
use Rattle.desk.specs.Answers.{word_with, narrowed}
use Rattle.demands.specs.Definitions.{Handed, Accepted, read, HandsBack, Clean}
use Rattle.demands.specs.Editions.{narrow}
use Rattle.demands.proofs.OfEditions.{ten_known}

pub handed : (code : Code) → Handed code → of_any.Handed (narrow code)
handed code h = record { places = h; known = ten_known }

pub accepted : (code : Code) → Accepted code → of_any.Accepted (narrow code)
accepted code a = record { handed = handed code a.handed; number = a.number }

-- and back
pub accepted-back : (code : Code) → of_any.Accepted (narrow code) → Accepted code
accepted-back code a = record { handed = a.handed.places; number = a.number }

-- ---- a word in its parts

-- a stray bit
pub strays : (code : Code) (low check : ℕ) → (2 ^ code.k ≤ low) ⊎ (2 ^ code.r ≤ check)
    → of_any.Strays (narrow code) (word_with low check)
strays code low check h = rw (add-zero low) h

module _ (code : Code) (a : Accepted code) where
  few : code.k ≤ 64
  few = (limits_of (narrow code) (accepted code a)).sized.few

  pub fits : (low check : ℕ) → low < 2 ^ code.k → check < 2 ^ code.r → of_any.Fits (narrow code) (word_with low check)
  fits low check l h = record {
    low_half = omega (arith, pow_mono {i = code.k} {j = 64} few);
    data_bits = rw (add-zero low) l;
    check_bits = h;
  }

  -- ---- a word as one number

  -- what stands in the first 64 bits is all of the data
  one_half : (w : ℕ) → data_of code.k w < 2 ^ 64
  one_half w = omega (arith, data_fits code.k w, pow_mono {i = code.k} {j = 64} few)

  pub low-is : (w : ℕ) → (in_parts code.k w).low ≡ data_of code.k w
  low-is w = mod-eq_of_lt (one_half w)

  pub parts_are : (w : ℕ) → word_with (data_of code.k w) (check_of code.k w) ≡ in_parts code.k w
  parts_are w =
      let low = low-is w in
      let high : (in_parts code.k w).high ≡ 0 = div-eq_of_lt (one_half w) in
      λ i. record { low = sym low i; high = sym high i; check = check_of code.k w }

  pub read_is : (w : ℕ) → read code w ≡ narrowed (of_any.read (narrow code) w)
  read_is w = ap (λ (x : Word). narrowed (reading_of (opened_of code) x)) (parts_are w)

  pub verdict-is : (w : ℕ) → (read code w).verdict ≡ (of_any.read (narrow code) w).verdict
  verdict-is w = ap (λ (r : ReadWord). r.verdict) (read_is w)

  pub place_is : (w : ℕ) → (read code w).place ≡ (of_any.read (narrow code) w).place
  place_is w = ap (λ (r : ReadWord). r.place) (read_is w)

  pub clean : (w : ℕ) → Clean code w → of_any.Clean (narrow code) w
  clean w c = record {
    number = sym (ap (λ (r : ReadWord). r.number) (read_is w)) ∙ c.number;
    verdict = sym (verdict-is w) ∙ c.verdict;
  }

  pub clean_back : (w : ℕ) → of_any.Clean (narrow code) w → Clean code w
  clean_back w c = record { number = ap (λ (r : ReadWord). r.number) (read_is w) ∙ c.number; verdict = verdict-is w ∙ c.verdict }

  pub hands : (w u : ℕ) → of_any.HandsBack (narrow code) (of_any.read (narrow code) w) u → HandsBack code (read code w) u
  hands w u e = record {
    data_bits = ap (λ (r : ReadWord). r.«data») (read_is w) ∙ ap (λ (x : Word). x.low) e ∙ low-is u;
    check_bits = ap (λ (r : ReadWord). r.check) (read_is w) ∙ ap (λ (x : Word). x.check) e;
  }
