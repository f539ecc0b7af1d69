-- The promises on any order of passes, proved from crate orders' laws. Assumes nothing.
use Prim.{tt}
use mathlib.Core.Path.{◌≡◌, sym, subst, ◌∙◌}
use mathlib.Core.List.{List, [], ◌∷◌, Memᴰ}
use Prim.Native.Nat.{ℕ, ◌+◌, ◌^◌, ◌≤◌, ◌<◌}
use native.Mathlib.Omega.{arith}
use Rattle.at_record.specs.Outcome as outcome
use Rattle.at_record.proofs.Outcomes.{kept}
use Rattle.asked.specs.Pass.{State, pass_over}
use Rattle.pass.specs.Pass.{reader_of}
use Rattle.asked.specs.Asked.{Image, Run, GoesOn}
use Rattle.orders.specs.Lists.{Each, EachTwo, Rearranged, swap}
use Rattle.orders.specs.Orders.{Ends, needed_by_all, passes_after, AllDone, LeftClean, Unmended, entries_since}
use Rattle.orders.proofs.Lists.{same_order}
use Rattle.orders.proofs.Order as order
use Rattle.orders.proofs.Shared as shared
use Rattle.orders.proofs.Steps.{later_goes_on}
use Rattle.editions.specs.Given as words
use Rattle.editions.specs.Given.{Edition, Given, opened, judgement_of, record_of, verdict_of, RunsApart, InSomeOrder, as_it_was, after_all}
use Rattle.editions.specs.Promises as promises
use Rattle.editions.proofs.Codes.{standing-accepted, laid_of, held_of, sound_opened, bytes_of_lem}
use Rattle.editions.proofs.OfPasses.{done_number, done_standing, verdict_same, finding_verdict, syndrome_same, place_same, four_bytes, narrow}

-- ---- runs apart

pub order_done : (code : Given) → promises.OrderDone code
order_done code c runs s apart passes x =
    let o = opened code in
    let t = standing-accepted code c.number in
    let n = narrow code c.number in (
      order.none-refused o code.edition.bytes t n runs s apart passes x,
      order.used-after o code.edition.bytes t n runs s apart passes x,
      order.used_stay o code.edition.bytes t n runs s apart passes x,
    )

pub any_order : (code : Given) → promises.AnyOrder code
any_order code c runs s apart passes others x y =
    let o = opened code in
    let t = standing-accepted code c.number in
    let n = narrow code c.number in (
      order.same_image o code.edition.bytes t n runs s apart passes others x y,
      order.same_entries o code.edition.bytes t n runs s apart passes others x y,
    )

pub order_tallies : (code : Given) → promises.OrderTallies code
order_tallies code c runs s apart passes others x y =
    let t = standing-accepted code c.number in
    order.same-tallies (opened code) code.edition.bytes t (narrow code c.number) runs s apart passes others x y

-- two runs, the first of which ends where the second starts or before
two-apart : (code : Given) (s : State) (r t : Ends) → Image code.edition.bytes s.image
    → Run code.edition.bytes s.image r.start r.end → Run code.edition.bytes s.image t.start t.end → r.end ≤ t.start
    → s.used + (words.needed code s.image r.start r.end + words.needed code s.image t.start t.end)
    ≤ words.room code.edition s.journal
    → RunsApart code (r ∷ t ∷ []) s
unfolding Each EachTwo needed_by_all
two-apart code s r t i x y clear room =
    record {
      records = i;
      within = (x, (y, tt));
      apart = ((λ j u v. omega (arith, u.1, v.0, clear), tt), (tt, tt));
      room = omega arith;
    }

-- two passes in a row, the second with the later stamp, are an order of their runs
two-in_order : (g : Edition) (s : State) (r t : Ends) (runs : List Ends) (early late : ℕ) → Rearranged runs (r ∷ t ∷ [])
    → early ≤ late → late < 2 ^ 32 → GoesOn g.bytes early s.journal s.used
    → InSomeOrder g runs s (pass_over r.start r.end early ∷ pass_over t.start t.end late ∷ [])
unfolding Each EachTwo
two-in_order g s r t runs early late h up small on =
    record {
      rearranged = h;
      stamps =
          record {
            small = (four_bytes early (omega arith), (four_bytes late small, tt));
            goes_on = (on, (later_goes_on g.bytes early late s.journal s.used up on, tt));
            rises = ((up, tt), (tt, tt));
          };
    }

pub two_clerks : (code : Given) → promises.TwoClerks code
unfolding passes_after AllDone
two_clerks code c a b k e early late s x y clear up small room =
    let r : Ends = record { start = a; end = b } in
    let t : Ends = record { start = k; end = e } in
    let apart = two-apart code s r t x.records x.run y.run clear room in
    let one = two-in_order code.edition s r t (r ∷ t ∷ []) early late (same_order (r ∷ t ∷ [])) up small x.goes_on in
    let other = two-in_order code.edition s t r (r ∷ t ∷ []) early late swap up small x.goes_on in
    let first = (order_done code c (r ∷ t ∷ []) s apart (pass_over a b early ∷ pass_over k e late ∷ []) one).0 in
    let second = (order_done code c (r ∷ t ∷ []) s apart (pass_over k e early ∷ pass_over a b late ∷ []) other).0 in
    let same =
    any_order code c (r ∷ t ∷ []) s apart (pass_over a b early ∷ pass_over k e late ∷ []) (pass_over k e early ∷ pass_over a b late ∷ [])
    one other in
    (first.0, first.1.0, second.0, second.1.0, same.0, same.1)

-- ---- a record that two runs share

-- its entry where it is left as it was read
entry_kept : (code : Given) (e : (judgement_of code).number ≡ 0) (image : List ℕ) (i stamp : ℕ) → Unmended (verdict_of code image i)
    → outcome.entry_of (reader_of (opened code) code.edition.bytes) stamp i (record_of code.edition image i)
    ≡ as_it_was code image i stamp
unfolding outcome.entry_of outcome.left_of
entry_kept code e image i stamp h =
    let f = reader_of (opened code) code.edition.bytes in
    let v = verdict_same code e image i in
    let same = kept f (record_of code.edition image i) (λ z. omega (arith, h, v, z)) (λ z. omega (arith, h, v, z)) in
    λ j. record {
      stamp = stamp;
      number = i;
      verdict = (finding_verdict code e image i ∙ v) j;
      place = place_same code e image i j;
      syndrome = syndrome_same code e image i j;
      before = record_of code.edition image i;
      after = same j;
    }

pub shared_record : (code : Given) → promises.SharedRecord code
shared_record code handed first last between s bytes small tiny done again i in-first in-last =
    let o = opened code in
    let d = code.edition.bytes in
    let f = reader_of o d in
    let e = done_number code first s done in
    let t = done_standing code first s done in
    let l = laid_of code handed in
    let h = held_of code handed in
    let sound = sound_opened code handed in
    let wide = bytes_of_lem code s.image e bytes in
    let n = narrow code e in
    let later = after_all code between (words.state_after code first s) in
    let v = verdict_same code e s.image i in
    let late = four_bytes last.stamp tiny in (
      λ clean.
          let clean-here : LeftClean (outcome.verdict_of f (record_of code.edition s.image i)) = omega (arith, clean, v) in (
            sym (verdict_same code e later.image i)
                ∙ shared.mended_clean o d sound l h t first last between s wide done i in-first clean-here,
            shared.mended-not-entered o d sound l h t first last between s wide done i in-first n again late clean-here,
          ),
      λ wrong.
          let said = entry_kept code e s.image i in
          let both =
          shared.unmended-again o d sound l h t first last between s wide done i in-first n again late
          (omega (arith, wrong, v)) (four_bytes first.stamp small) in-last in (
            subst (λ x. Memᴰ x (entries_since d s (words.state_after code first s))) (said first.stamp wrong) both.0,
            subst (λ x. Memᴰ x (entries_since d later (words.state_after code last later))) (said last.stamp wrong) both.1,
          ),
    )
