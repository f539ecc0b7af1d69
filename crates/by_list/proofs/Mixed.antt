-- Without stray bits what the columns mix to is the syndrome. Assumes nothing.
use mathlib.Core.Path.{◌≡◌, sym, ap, ◌∙◌}
use mathlib.Core.Bool.{false}
use mathlib.Core.List.{List}
use Prim.Native.Nat.{ℕ}
use native.Mathlib.Omega.{arith}
use lib.Bits.{bit_xor}
use lib.ListN.{length, take, drop}
use Rattle.columns.specs.Mix.{mix}
use Rattle.word.specs.Word.{joined, as_number, stray_in}
use Rattle.word.proofs.Halves.{mix-cut}
use Rattle.word.proofs.Strays.{data_fits}
use Rattle.record.specs.Layout.{record_size, check_in}
use Rattle.runs.proofs.Records.{data_halves}
use Rattle.at_record.specs.Outcome.{Reader, Ready, word_in}
use Rattle.by_list.specs.Given.{mixed_of}

pub mixed_syndrome : (f : Reader) (rec : List ℕ) → Ready f → length rec ≡ record_size f.d
    → stray_in (length f.columns) f.k (word_in f.d rec) ≡ false
    → mixed_of f rec ≡ mix f.columns (as_number f.k (word_in f.d rec))
unfolding mixed_of
mixed_syndrome f rec ready e h =
    let halves = data_halves f.d rec ready.held.least (omega arith) in
    let w = word_in f.d rec in
    ap (λ (x : ℕ). bit_xor (mix (take f.k f.columns) x) (mix (drop f.k f.columns) (check_in f.d rec))) (sym halves)
    ∙ sym (mix-cut f.columns f.k (joined w.low w.high) w.check ready.parts (data_fits (length f.columns) f.k w h))
