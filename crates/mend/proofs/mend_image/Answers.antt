-- `mend::mend_image` meets its contract: the image that is not refused is passed over run by run. Assumes nothing.
use mathlib.Core.Path.{◌≡◌, ap, ◌∙◌}
use Prim.Native.Nat.{◌%◌}
use native.Mathlib.Omega.{arith}
use lib.ListN.{length, replicate}
use Rattle.record.specs.Layout.{data_size, record_size}
use Rattle.code.specs.Opened.{opened_of}
use Rattle.asked.specs.Asked.{Image}
use Rattle.mend.proofs.Runs.{taken_image, refused_by_12}
use borrow.Author.Rules.{rules}
use Rattle.mend.proofs.mend_image.Goals as goal

pub print_refusal-requires : goal.print_refusal-requires
print_refusal-requires c =
    refused_by_12 c.open_code-opened.result c.args.image.now (replicate 65520 0) c.pass-answer.result
    (c.open_code-opened.ensures.value ∙ ap opened_of c.sample_code.ensures) c.pass-answer.ensures.value c.if-number-ne0.true

pub mend_runs-requires-clause-image : goal.mend_runs-requires-clause-image
mend_runs-requires-clause-image c =
    let image = c.args.image.now in
    let i : Image data_size image =
    taken_image c.open_code-opened.result image (replicate 65520 0) c.pass-answer.result
    (c.open_code-opened.ensures.value ∙ ap opened_of c.sample_code.ensures) c.pass-answer.ensures.value (omega arith) in
    let l : length c.pass-answer.new.image ≡ length image = search rules in
    record { whole = ap (λ n. n % record_size data_size) l ∙ i.whole; short = omega (arith, i.short) }
