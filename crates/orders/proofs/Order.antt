-- ANY ORDER: passes under one accepted code over runs apart leave the same image, the same entries but for their order and stamps, and give
-- each run the same tally. Under any opened code, over records of any size. Assumes nothing.
use mathlib.Core.Path.{◌≡◌, refl, sym, ap, ap₂, ◌∙◌}
use mathlib.Core.List.{List, [], ◌∷◌, ◌++◌, map, map-append}
use Prim.Native.Nat.{ℕ, ◌+◌, ◌*◌, ◌-◌, ◌<◌}
use native.Mathlib.Omega.{arith}
use lib.ListN.{take}
use Rattle.record.specs.Bytes.{byte_span}
use Rattle.record.specs.Layout.{syndrome_size, entry_size, Entry}
use Rattle.record.specs.Journal.{entries_from}
use Rattle.code.specs.declared.Opened.{Opened}
use Rattle.std.specs.Prelude.{Ok}
use Rattle.at_record.specs.Outcome.{Reader, syndrome_of}
use Rattle.asked.specs.declared.Pass.{Pass}
use Rattle.asked.specs.Pass.{State}
use Rattle.pass.specs.Pass.{After, noted_run, reader_of, after_pass}
use Rattle.asked.specs.Asked.{Run}
use Rattle.orders.specs.Lists.{Rearranged, none, keep, swap, next}
use Rattle.orders.specs.Orders.{Ends, ends_of, Apart, needed_by_all, Separate, OrderOf, passes_after, AllDone, tallies_given, entries_since, unstamped, SameEntries}
use Rattle.orders.proofs.Lists.{order_back, each_any_order, two_any_order, joined_by, joined_any_order, map_any_order}
use Rattle.orders.proofs.Image.{left_any_order}
use Rattle.orders.proofs.Journal.{noted-unstamped}
use Rattle.orders.proofs.Steps as steps

-- all the runs need as many entries in any order
needed_any_order : (f : Reader) (image : List ℕ) {rs ts : List Ends} → Rearranged rs ts → needed_by_all f image rs ≡ needed_by_all f image ts
unfolding needed_by_all
needed_any_order f image none = refl
needed_any_order f image (keep h) = omega (arith, needed_any_order f image h)
needed_any_order f image swap = omega arith
needed_any_order f image (next h k) = needed_any_order f image h ∙ needed_any_order f image k

separate_any_order : (f : Reader) {rs ts : List Ends} (s : State) → Rearranged rs ts → Separate f rs s → Separate f ts s
separate_any_order f s h x =
    record {
      records = x.records;
      within = each_any_order (λ r. Run f.d s.image r.start r.end) h x.within;
      apart = two_any_order Apart (λ r t c i u v. c i v u) h x.apart;
      room = omega (arith, needed_any_order f s.image h, x.room);
    }

-- what passes enter, stamps set aside, is what their runs need entered
entered-unstamped : (f : Reader) (image : List ℕ) (ps : List Pass)
    → map unstamped (joined_by (λ p. noted_run f p.stamp image p.start p.end) ps)
    ≡ joined_by (λ r. noted_run f 0 image r.start r.end) (map ends_of ps)
unfolding joined_by
entered-unstamped f image [] = refl
entered-unstamped f image (p ∷ ps) =
    map-append unstamped (noted_run f p.stamp image p.start p.end)
    (joined_by (λ p. noted_run f p.stamp image p.start p.end) ps)
    ∙ ap₂ (λ (x y : List Entry). x ++ y) (noted-unstamped f p.stamp image p.start p.end) (entered-unstamped f image ps)

module _ (o : Opened) (d : ℕ) (taken : o.standing ≡ Ok tt)
    (narrow : (rec : List ℕ) → syndrome_of (reader_of o d) rec < byte_span syndrome_size)
    (runs : List Ends) (s : State) (separate : Separate (reader_of o d) runs s) where
  abbrev f : Reader
  f = reader_of o d

  abbrev now : Pass → State → After
  now = after_pass o d

  ready : (ps : List Pass) → OrderOf d runs s ps → steps.Ready f ps s
  ready ps x = record { separate = separate_any_order f s x.rearranged separate; stamps = x.stamps }

  -- ---- one order

  module _ (ps : List Pass) (x : OrderOf d runs s ps) where
    abbrev last : State
    last = passes_after now ps s

    -- none is refused
    pub none-refused : AllDone now ps s
    none-refused = steps.all_done o d taken ps s (ready ps x)

    -- the count in use, and the entries that were in use
    pub used-after : last.used ≡ s.used + needed_by_all f s.image runs
    used-after =
        steps.used_is o d taken ps s (ready ps x)
        ∙ ap (λ n. s.used + n) (sym (needed_any_order f s.image x.rearranged))

    pub used_stay : take (s.used * entry_size d) last.journal ≡ take (s.used * entry_size d) s.journal
    used_stay = steps.used_kept o d taken ps s (ready ps x)

    entries_are : map unstamped (entries_since d s last) ≡ joined_by (λ r. noted_run f 0 s.image r.start r.end) (map ends_of ps)
    entries_are =
        let count : last.used - s.used ≡ needed_by_all f s.image (map ends_of ps) =
        omega (arith, steps.used_is o d taken ps s (ready ps x)) in
        ap (λ n. map unstamped (entries_from d last.journal s.used n)) count
        ∙ ap (map unstamped) (steps.entries_are o d taken narrow ps s (ready ps x))
        ∙ entered-unstamped f s.image ps

  -- ---- two orders

  module _ (ps qs : List Pass) (x : OrderOf d runs s ps) (y : OrderOf d runs s qs) where
    either : Rearranged (map ends_of ps) (map ends_of qs)
    either = next (order_back x.rearranged) y.rearranged

    pub same_image : (passes_after now ps s).image ≡ (passes_after now qs s).image
    same_image =
        let there = (ready ps x).separate in
        steps.image_is o d taken ps s (ready ps x)
        ∙ left_any_order f either s.image there.records there.within there.apart
        ∙ sym (steps.image_is o d taken qs s (ready qs y))

    pub same_entries : SameEntries (entries_since d s (passes_after now ps s)) (entries_since d s (passes_after now qs s))
    same_entries =
        rw (entries_are ps x, entries_are qs y) (joined_any_order (λ r. noted_run f 0 s.image r.start r.end) either)

    pub same-tallies : Rearranged (tallies_given now ps s) (tallies_given now qs s)
    same-tallies =
        rw (steps.tallies_are o d taken ps s (ready ps x), steps.tallies_are o d taken qs s (ready qs y))
        (map_any_order (steps.tally_for o d taken s.image) either)
