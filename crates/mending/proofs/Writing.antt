-- Writing under sound columns: the whole word has syndrome 0, the check bits fit, and no others do it. Over any family, any k and any r.
-- Assumes nothing.
use mathlib.Core.Path.{◌≡◌, sym, ap, ◌∙◌}
use mathlib.Core.List.{List}
use Prim.Native.Nat.{ℕ, ◌^◌, ◌≤◌, ◌<◌}
use native.Mathlib.Omega.{arith}
use lib.Bits.{bit_xor, xor_self}
use lib.ListN.{length, take, drop}
use lib.Seq.{length-take-le, get_or-take}
use Rattle.parity.proofs.Xor.{eq_of_xor_zero}
use Rattle.columns.specs.Mix.{mix}
use Rattle.columns.specs.Sound.{Sound}
use Rattle.columns.proofs.Words.{mix-lt}
use Rattle.word.specs.Word.{word_of}
use Rattle.writing.specs.Writing.{checks_of}
use Rattle.word.proofs.Halves.{mix-cut}

module _ {odd : ℕ → ℕ} {cs : List ℕ} {k r : ℕ} (sound : Sound odd cs k r) where
  inside : k ≤ length cs
  inside = let n = sound.size in omega arith

  -- the data's part of the syndrome has r digits
  pub data_mix_fits : (bits : ℕ) → mix (take k cs) bits < 2 ^ r
  data_mix_fits bits =
      let l = length-take-le k cs inside in
      let n = sound.size in
      mix-lt (take k cs) bits r (λ p h. rw (get_or-take k cs p 0 (omega arith)) (sound.below p (omega arith)))

  pub mix_parts : (bits c : ℕ) → bits < 2 ^ k → mix cs (word_of k bits c) ≡ bit_xor (mix (take k cs) bits) (mix (drop k cs) c)
  mix_parts bits c h = mix-cut cs k bits c inside h

  pub written-fits : (bits : ℕ) → checks_of cs k bits < 2 ^ r
  written-fits bits = (sound.writes.solved (mix (take k cs) bits) (data_mix_fits bits)).1

  pub written_clean : (bits : ℕ) → bits < 2 ^ k → mix cs (word_of k bits (checks_of cs k bits)) ≡ 0
  written_clean bits h =
      mix_parts bits (checks_of cs k bits) h
      ∙ ap (bit_xor (mix (take k cs) bits)) (sound.writes.solved (mix (take k cs) bits) (data_mix_fits bits)).0
      ∙ xor_self (mix (take k cs) bits)

  pub written-only : (bits c : ℕ) → bits < 2 ^ k → c < 2 ^ r → mix cs (word_of k bits c) ≡ 0 → checks_of cs k bits ≡ c
  written-only bits c h l z =
      let s = mix (take k cs) bits in
      let w = sound.writes.solved s (data_mix_fits bits) in
      sound.writes.once (checks_of cs k bits) c w.1 l (w.0 ∙ eq_of_xor_zero s (mix (drop k cs) c) (sym (mix_parts bits c h) ∙ z))
