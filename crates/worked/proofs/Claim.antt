-- THE CLAIM: every row of the table is right, by computing. Assumes nothing.
use mathlib.Core.Path.{◌≡◌, refl}
use mathlib.Core.Bool.{true}
use lib.Count.{ones, ones_in}
use Rattle.columns.specs.Mix.{mix, singles_from, singles, place_in}
use Rattle.columns.specs.Solving.{solve_from, solve}
use Rattle.judge.specs.Judge.{judge_column, judge_from, judge_columns, leftover_from, judge_rest, judge_in}
use Rattle.balance.specs.Balance.{sum_of, balance_at, balances_from}
use Rattle.word.specs.Word.{flipped_in}
use Rattle.verdict.specs.Verdicts.{verdict_on}
use Rattle.word.specs.Verdicts.{read_in, syndrome_in}
use Rattle.writing.specs.Writing.{write_in}
use Rattle.listing.specs.Sets.{flip_all, chosen, sets_up_to, those, bytes_for}
use Rattle.explain.specs.Explanations.{explanations, listed_in, explain_in}
use Rattle.cards.specs.Cards.{cut_into, weak_mask, first_from, try_mask, weak_mask_in, weak_card_in}
use Rattle.card_check.specs.Checking.{carded_in}
use Rattle.order.specs.Order.{passing_from, by_ones}
use Rattle.make.specs.Made.{make_number}
use Rattle.entry_back.specs.Entry.{same_bytes}
use Rattle.worked.specs.Table.{right, all_right, table}

pub all_hold : all_right table ≡ true
unfolding all_right table right ones ones_in mix singles_from singles place_in solve_from solve judge_column judge_from judge_columns
    leftover_from judge_rest judge_in sum_of balance_at balances_from flipped_in verdict_on read_in syndrome_in write_in flip_all chosen sets_up_to those
    bytes_for explanations listed_in explain_in cut_into weak_mask first_from try_mask weak_mask_in weak_card_in carded_in passing_from by_ones make_number
    same_bytes
all_hold = refl
