-- STAMPS: each new entry has the pass's, the last in use never lies above it, and along a journal that passes have filled from empty they
-- never fall. Assumes nothing.
use Prim.{Unit}
use mathlib.Core.Path.{◌≡◌, sym, ap, subst, ◌∙◌}
use mathlib.Core.Bool.{cond}
use mathlib.Core.Logic.{◌≢◌, ◌⊎◌, inl, inr, ⊎_elim}
use mathlib.Core.List.{List, [], ◌∷◌}
use Prim.Native.Nat.{ℕ, suc, ◌+◌, ◌*◌, ◌-◌, ◌/◌, ◌≤◌, ◌<◌}
use native.Mathlib.Nat.{mul-le-mul_right}
use native.Mathlib.Omega.{arith}
use borrow.Author.Tests.{eq-eqb, ne_eqb}
use lib.Dec.{eqb}
use Rattle.parity.proofs.Ones.{below_or_not}
use Rattle.record.specs.Bytes.{number_of, bytes_of, byte_span}
use Rattle.record.specs.Layout.{stamp_size, entry_size, entry_in}
use Rattle.record.specs.Run.{record_at}
use Rattle.runs.proofs.Numbers.{number_bytes, number_least}
use Rattle.runs.proofs.Run.{record_take}
use Rattle.runs.proofs.Entries.{stamp_said}
use Rattle.code.specs.declared.Opened.{Opened}
use Rattle.code.specs.declared.Refusal.{Refusal}
use Rattle.std.specs.Prelude.{Ok, Err}
use Rattle.asked.specs.declared.Pass.{Pass}
use Rattle.asked.specs.Pass.{State, room_in, stamp_at}
use Rattle.pass.specs.Pass.{After, needed_run, reader_of, after_pass}
use Rattle.asked.specs.Asked.{GoesOn}
use Rattle.passes.specs.Twice.{state_after, Step, steps_after}
use Rattle.passes.proofs.Rows.{Ended, ended}
use Rattle.passes.proofs.Facts.{asked, in_use_after, entered, entry-is, entry_whose, used_stay, length_journal, used_is}

-- ---- a done pass

module _ (o : Opened) (d : ℕ) (p : Pass) (s : State)
    (taken : o.standing ≡ Ok tt) (zero-told : (after_pass o d p s).answer.number ≡ 0) where
  abbrev now : After
  now = after_pass o d p s

  abbrev needed : ℕ
  needed = needed_run (reader_of o d) s.image p.start p.end

  -- a new entry's stamp, as four bytes say it
  said : (m : ℕ) → m < needed → stamp_at d now.journal (s.used + m) ≡ number_of (bytes_of stamp_size p.stamp)
  said m h =
      let w = entry_whose o d p s taken zero-told m h in
      let e = entry-is o d p s taken zero-told w.0 w.1 w.2 w.3 in
      ap (λ n. stamp_at d now.journal (s.used + n)) (sym w.4)
      ∙ ap (λ l. (entry_in d l).stamp) e
      ∙ stamp_said d (entered o d p s taken zero-told w.0)

  pub new_stamp : p.stamp < byte_span stamp_size → (m : ℕ) → m < needed → stamp_at d now.journal (s.used + m) ≡ p.stamp
  new_stamp fits m h = said m h ∙ number_bytes stamp_size p.stamp fits

  -- an entry that was in use has the stamp that it had
  pub old_stamp : (i : ℕ) → i < s.used → stamp_at d now.journal i ≡ stamp_at d s.journal i
  old_stamp i h =
      let size = entry_size d in
      let inside : suc i * size ≤ s.used * size = mul-le-mul_right size h in
      ap (λ l. (entry_in d l).stamp)
      (sym (record_take size (s.used * size) now.journal i inside)
      ∙ ap (λ l. record_at size l i) (used_stay o d p s taken zero-told)
      ∙ record_take size (s.used * size) s.journal i inside)

  -- a pass with the same stamp may follow
  pub on_again : GoesOn d p.stamp now.journal (s.used + needed)
  on_again = go (below_or_not 0 needed) (asked o d p s taken zero-told).goes_on
    where
      go : (0 < needed) ⊎ (needed ≤ 0) → GoesOn d p.stamp s.journal s.used → GoesOn d p.stamp now.journal (s.used + needed)
      go (inl h) q =
          let e : s.used + needed - 1 ≡ s.used + (needed - 1) = omega arith in
          let last = ap (stamp_at d now.journal) e ∙ said (needed - 1) (omega arith) in
          inr (omega (arith, last, number_least stamp_size p.stamp))
      go (inr h) (inl z) = inl (omega arith)
      go (inr h) (inr l) =
          ⊎_elim
          (λ (u : 0 < s.used).
          let e : s.used + needed - 1 ≡ s.used - 1 = omega arith in
          inr (omega (arith, ap (stamp_at d now.journal) e, old_stamp (s.used - 1) (omega arith), l)))
          (λ (u : s.used ≤ 0). inl (omega arith))
          (below_or_not 0 s.used)

-- ---- along a journal

pub record Rising (d : ℕ) (s : State) : Type 0 where
  pub counted : s.used ≤ room_in d s.journal
  pub rises : (i j : ℕ) → i ≤ j → j < s.used → stamp_at d s.journal i ≤ stamp_at d s.journal j

-- a refused code tells a number
abbrev pub Known : Opened → Type 0
Known o = (g : Refusal) → o.standing ≡ Err g → g.number ≢ 0

module _ (o : Opened) (d : ℕ) (p : Pass) (s : State) where
  abbrev after : State
  after = state_after o d p s

  -- a refused pass leaves the state as it was
  pub refused_stays : (number told : ℕ) → number ≢ 0
      → after_pass o d p s ≡ record {
        answer = record {
          number = number;
          told = told;
          used = 0;
          tally = record {
            clean = 0;
            «data» = 0;
            check = 0;
            even = 0;
            odd = 0;
            stray = 0;
          };
        };
        image = s.image;
        journal = s.journal;
      }
      → after ≡ s
  refused_stays number told n e = λ i. record {
    image = (e i).image;
    journal = (e i).journal;
    used = (ap (λ x. cond (eqb x.answer.number 0) x.answer.used s.used) e ∙ ap (λ b. cond b 0 s.used) (ne_eqb number 0 n)) i;
  }

  module _ (taken : o.standing ≡ Ok tt) (zero-told : (after_pass o d p s).answer.number ≡ 0) where
    pub used-after : after.used ≡ s.used + needed_run (reader_of o d) s.image p.start p.end
    used-after =
        ap (λ b. cond b (after_pass o d p s).answer.used s.used) (eq-eqb _ _ zero-told) ∙ used_is o d p s taken zero-told

    done-rising : p.stamp < byte_span stamp_size → Rising d s → Rising d after
    done-rising fits r =
        record {
          counted =
              omega (arith, used-after, in_use_after o d p s taken zero-told, ap (λ n. n / entry_size d) (length_journal o d p s taken zero-told));
          rises = λ i j h l. go i j h l (below_or_not j s.used) (below_or_not i s.used);
        }
      where
        old : (i : ℕ) → i < s.used → stamp_at d after.journal i ≡ stamp_at d s.journal i
        old = old_stamp o d p s taken zero-told

        new : (i : ℕ) → s.used ≤ i → i < after.used → stamp_at d after.journal i ≡ p.stamp
        new i h l =
            let e : s.used + (i - s.used) ≡ i = omega arith in
            ap (stamp_at d after.journal) (sym e)
            ∙ new_stamp o d p s taken zero-told fits (i - s.used) (omega (arith, used-after))

        below_last : (i : ℕ) → i < s.used → GoesOn d p.stamp s.journal s.used → stamp_at d s.journal i ≤ p.stamp
        below_last i h (inl z) = absurd (omega arith)
        below_last i h (inr l) = omega (arith, r.rises i (s.used - 1) (omega arith) (omega arith), l)

        go : (i j : ℕ) → i ≤ j → j < after.used → (j < s.used) ⊎ (s.used ≤ j) → (i < s.used) ⊎ (s.used ≤ i)
            → stamp_at d after.journal i ≤ stamp_at d after.journal j
        go i j h l (inl v) (inl u) = omega (arith, old i u, old j v, r.rises i j h v)
        go i j h l (inl v) (inr u) = absurd (omega arith)
        go i j h l (inr v) (inl u) = omega (arith, old i u, new j v l, below_last i u (asked o d p s taken zero-told).goes_on)
        go i j h l (inr v) (inr u) = omega (arith, new i u (omega arith), new j v l)

  pub step_rising : Known o → p.stamp < byte_span stamp_size → Rising d s → Rising d after
  step_rising known fits r = go (ended o d p s)
    where
      go : Ended o d p s → Rising d after
      go (Ended.by_code g e h) = subst (Rising d) (sym (refused_stays g.number g.told (known g e) h)) r
      go (Ended.refused number told n h) = subst (Rising d) (sym (refused_stays number told (λ z. omega arith) h)) r
      go (Ended.finished e h) = done-rising e (ap (λ x. x.answer.number) h) fits r

-- ---- any passes, one after the other

unfoldable pub AllSteps : List Step → Type 0
AllSteps [] = Unit
AllSteps (x ∷ xs) = (Known x.under × (x.pass.stamp < byte_span stamp_size)) × AllSteps xs

pub steps_rising : (d : ℕ) (xs : List Step) (s : State) → AllSteps xs → Rising d s → Rising d (steps_after d xs s)
unfolding steps_after AllSteps
steps_rising d [] s k r = r
steps_rising d (x ∷ xs) s k r =
    steps_rising d xs (state_after x.under d x.pass s) k.1 (step_rising x.under d x.pass s k.0.0 k.0.1 r)

-- an empty journal rises
pub empty_rising : (d : ℕ) (s : State) → s.used ≡ 0 → Rising d s
empty_rising d s z = record { counted = omega arith; rises = λ i j h l. absurd (omega arith) }
