-- `byte_code::read` meets its contract: a word's parts are what the three steps take. Assumes nothing.
use Rattle.byte_parts.proofs.Sums.{first-lt, second_lt, third_lt}
use Rattle.byte_code.proofs.read.Goals as goal

pub read_by-requires : goal.read_by-requires
read_by-requires c =
    let w = c.args.word in
    rw c.parts_of.ensures (record { first_bound = first-lt w; second_bound = second_lt w; third_bound = third_lt w })
