-- The promises on explanations, proved from the layers' laws. Assumes nothing.
use mathlib.Core.Path.{◌≡◌, sym, ap, ◌∙◌}
use mathlib.Core.Logic.{◌⊎◌, ◌↔◌}
use mathlib.Core.Bool.{true}
use mathlib.Core.List.{List}
use Prim.Native.Nat.{ℕ, ◌*◌, ◌-◌, ◌^◌, ◌≤◌, ◌<◌}
use native.Mathlib.Omega.{arith}
use lib.ListN.{length, take, drop}
use Rattle.columns.specs.Mix.{mix, flipped}
use Rattle.code.specs.declared.Opened.{Opened}
use Rattle.std.specs.Prelude.{Ok}
use Rattle.code.specs.Opened.{columns_of}
use Rattle.code.proofs.Laying.{laid_columns}
use Rattle.word.specs.declared.Word.{Word}
use Rattle.word.specs.Word.{as_number, in_parts}
use Rattle.word.specs.Verdicts.{read_in}
use Rattle.mending.proofs.Reading.{data_inside}
use Rattle.record.specs.Run.{over}
use Rattle.listing.specs.Sets.{flip_all, bytes_for}
use Rattle.explain.specs.Order.{SetOf}
use Rattle.explain.specs.Explanations.{Explained}
use Rattle.explain.specs.Explanations as explaining
use Rattle.explain.proofs.Answers.{said, sets_of, answer_refused, answer-stray, answer-limit, answer-no-room, answer-done}
use Rattle.explain.proofs.Flips.{flip_all-lt}
use Rattle.explained.proofs.Explanations as explained
use Rattle.explained.proofs.Lists.{listed-entry, listed-rest, done_of_zero, entry-apart}
use Rattle.editions.specs.Given.{Given, opened, set_of, matrix_of, places_of, judgement_of, explained_of, Accepted}
use Rattle.editions.specs.Given.{bits_of, Strays, Unstrayed, explanations, explanations_of}
use Rattle.editions.specs.Promises as promises
use Rattle.editions.proofs.Codes.{standing_refused, standing-accepted, opened-is, data_is, columns-are, checks_are, limits_of, places-length, sound_of}
use Rattle.editions.proofs.Words.{clean-zero}

-- ---- the answers

module _ (code : Given) (x : Word) (limit : ℕ) (list : List ℕ) where
  abbrev o : Opened
  o = opened code

  -- the explanations that an accepted code's word has
  sets_are : (judgement_of code).number ≡ 0 → sets_of o x limit ≡ explanations_of code x limit
  sets_are e =
      ap (λ (k : ℕ). explaining.explanations o.rows (columns_of o) o.k (as_number k x) limit) (data_is code e)

  module _ (a : Accepted code) where
    long : length (columns_of o) ≡ o.n
    long =
        ap length (columns-are code a.number) ∙ sym (ap (λ (y : Opened). y.n) (opened-is code a.number))

    data-width : 2 ^ o.k ≡ 2 ^ code.k
    data-width = ap (λ (k : ℕ). 2 ^ k) (data_is code a.number)

    check-width : 2 ^ (o.n - o.k) ≡ 2 ^ code.r
    check-width = ap (λ (r : ℕ). 2 ^ r) (checks_are code a)

    stray-bits : Strays code x → (2 ^ o.k ≤ bits_of x) ⊎ (2 ^ (o.n - o.k) ≤ x.check)
    stray-bits h = rw (data-width, check-width) h

    data_fits : bits_of x < 2 ^ code.k → bits_of x < 2 ^ o.k
    data_fits h = rw data-width h

    check_fits : x.check < 2 ^ code.r → x.check < 2 ^ (o.n - o.k)
    check_fits h = rw check-width h

  -- an answer and the list with it
  apart : (y : Explained) → explained_of code x limit list ≡ y
      → ((explained_of code x limit list).answer ≡ y.answer) × ((explained_of code x limit list).list ≡ y.list)
  apart y e = (ap (λ (z : Explained). z.answer) e, ap (λ (z : Explained). z.list) e)

pub explaining_refuses : (code : Given) → promises.ExplainingRefuses code
explaining_refuses code x limit list =
    let o = opened code in
    let sets = explanations_of code x limit in
    let same : Accepted code → sets_of o x limit ≡ sets = λ a. sets_are code x limit list a.number in
    let df = data_fits code x limit list in
    let cf = check_fits code x limit list in
    let up : Accepted code → (opened code).standing ≡ Ok tt = λ a. standing-accepted code a.number in
    let len = long code x limit list in (
      λ h. apart code x limit list _ (answer_refused o x limit list (judgement_of code) (standing_refused code h)),
      λ a h. apart code x limit list _ (answer-stray o x limit list (up a) (len a) (stray-bits code x limit list a h)),
      λ a l h m. apart code x limit list _ (answer-limit o x limit list (up a) (len a) (df a l) (cf a h) m),
      λ a l h m n.
          apart code x limit list (said 10 (length sets) 0 list)
          (answer-no-room o x limit list (up a) (len a) (df a l) (cf a h) m (rw (same a) n)
          ∙ ap (λ (y : List (List ℕ)). said 10 (length y) 0 list) (same a)),
      λ a l h m n.
          apart code x limit list (said 0 0 (length sets) (over (bytes_for sets) list))
          (answer-done o x limit list (up a) (len a) (df a l) (cf a h) m (rw (same a) n)
          ∙ ap (λ (y : List (List ℕ)). said 0 0 (length y) (over (bytes_for y) list)) (same a)),
    )

pub explained_entries : (code : Given) → promises.ExplainedEntries code
explained_entries code x limit list done a =
    let sets = explanations_of code x limit in
    let e =
    ap (λ (y : Explained). y.list) (done_of_zero (opened code) x limit list (standing-accepted code a.number) done)
    ∙ ap (λ (y : List (List ℕ)). over (bytes_for y) list) (sets_are code x limit list a.number) in (
      λ i h. ap (λ (l : List ℕ). take 2 (drop (2 * i) l)) e ∙ listed-entry sets list i h,
      ap (drop (2 * length sets)) e ∙ listed-rest sets list,
    )

pub entry_tells : (code : Given) → promises.EntryTells code
entry_tells code a ps qs s t =
    let l = limits_of code a in
    entry-apart (places_of code) ps qs (omega (arith, l.sized.few, l.top, a.handed.known.most)) s t

-- ---- the list

module _ (code : Given) (a : Accepted code) where
  -- under the code's own columns, with all rows in the set
  pub list_is : (w limit : ℕ) → explanations code w limit ≡ explaining.explanations (set_of code) (matrix_of code) code.k w limit
  list_is w limit =
      ap (λ (o : Opened). explaining.explanations o.rows (columns_of o) o.k w limit) (opened-is code a.number)
      ∙ ap (λ (cs : List ℕ). explaining.explanations (set_of code) cs code.k w limit) (laid_columns (matrix_of code))

  module _ (w : ℕ) (fits : Unstrayed code w) where
    below : w < 2 ^ length (matrix_of code)
    below = rw (places-length code a) fits

pub explained_exactly : (code : Given) → promises.ExplainedExactly code
explained_exactly code a w fits limit ps =
    let rows = set_of code in
    let n = places-length code a in
    let x = explained.explained_exactly rows (matrix_of code) code.k w limit ps in
    let k = data_inside rows (sound_of code a) in
    let lt : SetOf (places_of code) limit ps → Unstrayed code (flip_all w ps) = λ s. flip_all-lt (places_of code) w 0 ps fits s.rising in
    let clean
    : Unstrayed code (flip_all w ps)
    → (explaining.is_clean (read_in rows (matrix_of code) code.k (in_parts code.k (flip_all w ps))) ≡ true)
    ↔ (mix (matrix_of code) (flip_all w ps) ≡ 0) =
    λ u. explained.clean_exactly rows (matrix_of code) code.k (flip_all w ps) k (rw n u) in (
      λ m.
          let y = x.0 (rw (list_is code a w limit) at m) in
          let s = rw n at y.0 in
          (s, (clean-zero code a (flip_all w ps) (lt s)).1 ((clean (lt s)).0 y.1)),
      λ y.
          rw (list_is code a w limit)
          (x.1 (rw n y.0, (clean (lt y.0)).1 ((clean-zero code a (flip_all w ps) (lt y.0)).0 y.1))),
    )

pub explained_once : (code : Given) → promises.ExplainedOnce code
explained_once code a w fits limit h =
    rw (list_is code a w limit) (explained.explained_once (set_of code) (sound_of code a) w (below code a w fits) limit h)

pub explained_in_order : (code : Given) → promises.ExplainedInOrder code
explained_in_order code a w fits limit h =
    let rows = set_of code in
    let s = sound_of code a in
    let l = limits_of code a in
    let few = explained.explained-few rows s w (below code a w fits) limit h in
    let n = places-length code a in
    rw (list_is code a w limit)
    (explained.explained_in_order rows s w (below code a w fits) limit h, omega (arith, few, n, l.sized.few, l.top))

pub explained_flips : (code : Given) → promises.ExplainedFlips code
explained_flips code a w fits c =
    let rows = set_of code in
    let s = sound_of code a in
    let u = below code a w fits in
    let z = (clean-zero code a w fits).0 c in
    let n = places-length code a in (
      λ limit h. list_is code a w limit ∙ explained.clean-explained rows s w u z limit h,
      λ limit m h p l. list_is code a (flipped w p) limit ∙ explained.one-flip-explained rows s w u z p limit (omega arith) m h,
      λ p q hp hq ne.
          rw (list_is code a (flipped (flipped w p) q) 2) (explained.two-flips-explained rows s w u z p q (omega arith) (omega arith) ne),
    )
