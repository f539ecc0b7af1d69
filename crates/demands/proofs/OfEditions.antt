-- The promises of both editions, by the one proof of each. Assumes nothing.
use mathlib.Core.Path.{◌≡◌, refl}
use mathlib.Core.Bool.{cond}
use Prim.Native.Nat.{ℕ, zero, suc, ◌≤◌}
use native.Mathlib.Omega.{arith}
use borrow.Author.Tests.{le-leb, lt-leb}
use lib.Dec.{leb}
use Rattle.wanted.specs.Wanted.{band_of}
use Rattle.wanted.proofs.Bands.{wanted-inside}
use Rattle.make.specs.Made.{make_number, making_in, making_by, wide_made_with}
use Rattle.editions.specs.Given.{Edition, Known, ten_bytes, eighteen_bytes, Given, HsiaoCode, given, made_with}
use Rattle.editions.proofs.OfRecords as records
use Rattle.editions.proofs.OfJudge as judge
use Rattle.editions.proofs.OfCodes as codes
use Rattle.editions.proofs.OfMaking as making
use Rattle.editions.proofs.OfWords as words
use Rattle.editions.proofs.OfLists as lists
use Rattle.editions.proofs.OfCards as cards
use Rattle.editions.proofs.OfPasses as passes
use Rattle.editions.proofs.OfOrders as orders
use Rattle.editions.proofs.OfPutBack as back
use Rattle.editions.proofs.OfBad as bad
use Rattle.demands.specs.Editions as demands
use Rattle.demands.specs.Editions.{PromisedOfAny, Promised, narrow_made, wide_made}

pub ten_known : Known ten_bytes
ten_known = record { most = omega arith; halves = omega arith; held = refl }

pub wide_known : Known eighteen_bytes
wide_known = record { most = omega arith; halves = omega arith; held = refl }

-- any family, however its codes are handed about
pub of_any : {C : Type 0} (given : C → Given) → PromisedOfAny given
of_any given = record {
  balance_refuses = λ code. codes.balance_refuses (given code);
  balance_rows = λ code. codes.balance_rows (given code);
  balances_add_up = λ code. codes.balances_add_up (given code);
  writing_refuses = λ code. words.writing_refuses (given code);
  reading_refuses = λ code. words.reading_refuses (given code);
  clean_exactly = λ code. words.clean_exactly (given code);
  clean_as_read = λ code. words.clean_as_read (given code);
  one_flip = λ code. words.one_flip (given code);
  two_flips = λ code. words.two_flips (given code);
  mended_clean = λ code. words.mended_clean (given code);
  left-as_read = λ code. words.left-as_read (given code);
  explaining_refuses = λ code. lists.explaining_refuses (given code);
  explained_entries = λ code. lists.explained_entries (given code);
  entry_tells = λ code. lists.entry_tells (given code);
  explained_exactly = λ code. lists.explained_exactly (given code);
  explained_once = λ code. lists.explained_once (given code);
  explained_in_order = λ code. lists.explained_in_order (given code);
  explained_flips = λ code. lists.explained_flips (given code);
  cards_begin_again = λ code. cards.cards_begin_again (given code);
  cards_refuse = λ code. cards.cards_refuse (given code);
  card_flagged = λ code. cards.flagged (given code);
  pass_refuses = λ code. passes.pass_refuses (given code);
  pass_empty = λ code. passes.pass_empty (given code);
  pass_outside = λ code. passes.pass_outside (given code);
  pass_of-run = λ code. passes.of_run (given code);
  pass_records = λ code. passes.pass_records (given code);
  pass_entries = λ code. passes.pass_entries (given code);
  pass_applied = λ code. passes.pass_applied (given code);
  pass_counts = λ code. passes.pass_counts (given code);
  pass_again = λ code. passes.pass_again (given code);
  pass_in-two = λ code. passes.pass_in-two (given code);
  order_done = λ code. orders.order_done (given code);
  any_order = λ code. orders.any_order (given code);
  order_tallies = λ code. orders.order_tallies (given code);
  two_clerks = λ code. orders.two_clerks (given code);
  shared_record = λ code. orders.shared_record (given code);
  recovering_refuses = λ code. bad.recovering_refuses (given code);
  recovered_exactly = λ code. bad.recovered_exactly (given code);
  recovered_only = λ code. bad.recovered_only (given code);
  three_columns = λ code. bad.three_columns (given code);
  recovered_from_bad = λ code. bad.recovered_from_bad (given code);
  recovered_as_read = λ code. bad.recovered_as_read (given code);
  recovered_any_order = λ code. bad.recovered_any_order (given code);
  finding_refuses = λ code. bad.finding_refuses (given code);
  found_exactly = λ code. bad.found_exactly (given code);
  found_in_parts = λ code. bad.found_in_parts (given code);
  stuck_found = λ code. bad.stuck_found (given code);
  found_recovered = λ code. bad.found_recovered (given code);
  writing_solves = λ code. words.writing_solves (given code);
  verdicts_by_syndrome = λ code. words.verdicts_by_syndrome (given code);
  syndrome-named = λ code. words.syndrome-named (given code);
}

-- any edition that is known, however its codes of Hsiao's family are handed about
promised : {C : Type 0} (e : Edition) (own : C → HsiaoCode) → Known e → Promised e own
promised e own known = record {
  any = of_any (λ code. given (own code));
  records-read = records.records-read e known;
  entries-read = records.entries-read e known;
  accepted_exactly = λ code. judge.accepted_exactly (own code);
  three_ones = λ code. judge.three_ones (own code);
  judged_exactly = λ code. judge.judged_exactly (own code);
  check_bits_refused = codes.check_bits_refused e;
  check_bits_least = codes.check_bits_least e known;
  check_bits_room = codes.check_bits_room e known;
  making_exactly = making.making_exactly e;
  made_accepted = making.made_accepted_code e known;
  made_in_order = making.made_in_order e;
  made_least = λ code. making.made_least_code (own code);
  making_wanted = making.making_wanted e known;
  writing_bits = λ code. words.writing_bits (own code);
  verdicts_exactly = λ code. words.verdicts_exactly (own code);
  place_named = λ code. words.place_named (own code);
  syndrome-told = λ code. words.syndrome-told (own code);
  askable_exactly = passes.askable_exactly e;
  stamps_rise = passes.stamps_rise e;
  put_back_refuses = back.put_back_refuses e;
  put_back_exactly = back.put_back_exactly e;
  put_back_others = back.put_back_others e;
  put_back_restores = back.put_back_restores e;
  passed_again = back.passed_again e;
}

pub ten_bytes_promised : demands.TenBytesPromised
ten_bytes_promised = promised ten_bytes demands.narrow_code ten_known

pub wide_promised : demands.WidePromised
wide_promised = promised eighteen_bytes demands.wide_code wide_known

-- ---- in numbers

pub wide_sizes : demands.WideSizes
wide_sizes = (refl, refl, refl, refl)

pub wide_lists : demands.WideLists
wide_lists code a w fits limit h = (lists.explained_in_order (demands.wide code) a w fits limit h).1

-- from 58 on the last two bands are left
past : (k : ℕ) → 58 ≤ k → band_of k ≡ cond (leb k 120) 8 9
unfolding band_of
past k h =
    rw (
      lt-leb k 1 (omega arith),
      lt-leb k 4 (omega arith),
      lt-leb k 11 (omega arith),
      lt-leb k 26 (omega arith),
      lt-leb k 57 (omega arith),
    )

pub wide_check_bits : demands.WideCheckBits
wide_check_bits = (
  λ k h l. rw (wanted-inside 128 k (omega arith) (omega arith), past k h, le-leb k 120 l),
  λ k h l. rw (wanted-inside 128 k (omega arith) l, past k (omega arith), lt-leb k 120 h),
)

-- ---- the exported answers

ten_made_same : (n k r : ℕ) → making_in (made_with ten_bytes) 64 n k r ≡ narrow_made (making_by n k r)
ten_made_same zero k r = refl
ten_made_same (suc n) k r = refl

wide_made_same : (n k r : ℕ) → making_in (made_with eighteen_bytes) 128 n k r ≡ wide_made (making_in wide_made_with 128 n k r)
wide_made_same zero k r = refl
wide_made_same (suc n) k r = refl

pub ten_bytes_answers : demands.TenBytesAnswers
ten_bytes_answers = record {
  check_bits = λ k. refl;
  made = λ k r. ten_made_same (make_number 64 k r) k r;
  judgement = λ code. refl;
  rows = λ code. refl;
  written = λ code low. refl;
  reading = λ code low check. refl;
  explained = λ code low check limit list. refl;
  cards = λ code b. refl;
  put_back = λ image journal used. refl;
  recovered = λ code low check bad. refl;
  found = λ code low check low' check'. refl;
  passed = λ code p s. refl;
}

pub wide_answers : demands.WideAnswers
wide_answers = record {
  check_bits = λ k. refl;
  made = λ k r. wide_made_same (make_number 128 k r) k r;
  judgement = λ code. refl;
  rows = λ code. refl;
  written = λ code low high. refl;
  reading = λ code low high check. refl;
  explained = λ code x limit list. refl;
  cards = λ code b. refl;
  put_back = λ image journal used. refl;
  recovered = λ code x bad. refl;
  found = λ code x y. refl;
  passed = λ code p s. refl;
}
