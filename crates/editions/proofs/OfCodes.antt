-- The promises on check bits wanted and on the row balance, proved from the layers' laws: the code that check bits wanted asks for is the
-- one that is made. Assumes nothing.
use mathlib.Core.Path.{◌≡◌, refl, sym, ap, subst}
use mathlib.Core.Logic.{⊎_elim}
use Prim.Native.Nat.{ℕ, ◌+◌, ◌*◌, ◌-◌, ◌≤◌, ◌<◌, ◌^◌}
use native.Mathlib.Omega.{arith}
use lib.IntN.{pos, ◌+ℤ◌}
use lib.ListN.{get_or}
use Rattle.parity.proofs.Ones.{below_or_not}
use Rattle.judge.specs.Rule.{Limits}
use Rattle.wanted.specs.declared.CheckBits.{CheckBits}
use Rattle.wanted.specs.Wanted.{band_of}
use Rattle.wanted.proofs.Bands.{wanted-inside, wanted-refused, refused_exactly}
use Rattle.wanted.proofs.Least.{band_fits}
use Rattle.least.proofs.Codes.{accepted-room}
use Rattle.least.proofs.Wanted.{no_room_below}
use Rattle.balance.specs.Balance.{row_ones, all_ones}
use Rattle.balance.proofs.Answer.{refused_balances, accepted_number, length_balances, balance-row, balance-past}
use Rattle.balance.proofs.Sum.{accepted_balances_zero, refused_balances_zero}
use Rattle.editions.specs.Given.{Edition, Known, Given, HsiaoCode, given, opened, judgement_of, rows_of, Accepted, CodeOf}
use Rattle.editions.specs.Promises as promises
use Rattle.editions.proofs.Codes.{standing-accepted, standing_refused, columns-are, checks_are, limits_of, sound_of}
use Rattle.editions.proofs.Hsiao.{judged_of}
use Rattle.editions.proofs.OfMaking.{made_exists}

-- ---- check bits wanted

pub check_bits_refused : (e : Edition) → promises.CheckBitsRefused e
check_bits_refused e k = (refused_exactly e.places k, wanted-refused e.places k)

-- an accepted code leaves room for itself
room_of_code : (code : HsiaoCode) → Accepted (given code) → code.k ≤ 2 ^ (code.r - 1) - code.r
room_of_code code a =
    accepted-room code.edition.places code.columns code.k code.r a.handed.places (judged_of code a.number)

-- said of the k and r that it has
pub room_of : (code : HsiaoCode) → Accepted (given code) → (k r : ℕ) → code.k ≡ k → code.r ≡ r → k + r ≤ 2 ^ (r - 1)
room_of code a k r e f = omega (arith, (limits_of (given code) a).sized.some, rw (e, f) at (room_of_code code a))

pub check_bits_least : (e : Edition) → Known e → promises.CheckBitsLeast e
check_bits_least e known k some few =
    let all : k ≤ 128 = omega (arith, known.most) in
    let f = wanted-inside e.places k some few in
    let b = band_fits k some all in
    let bits = ap (λ (c : CheckBits). c.bits) f in
    let limits : Limits e.places k (band_of k) =
    record { sized = record { some = some; few = few }; least = b.0; top = omega (arith, b.1) } in (
      ap (λ (c : CheckBits). c.number) f,
      subst (λ (r : ℕ). CodeOf e k r) (sym bits)
          (made_exists e known k (band_of k) limits (omega (arith, b.2))),
      λ code a g.
          let own = limits_of (given code) a in
          rw bits
          (⊎_elim
          (λ (l : code.r < band_of k). absurd (omega (arith, room_of_code code a, g, (no_room_below k code.r some all own.least).1 l)))
          (λ (l : band_of k ≤ code.r). l)
          (below_or_not code.r (band_of k))),
    )

pub check_bits_room : (e : Edition) → Known e → promises.CheckBitsRoom e
check_bits_room e known k r some few least top =
    let limits : Limits e.places k r = record { sized = record { some = some; few = few }; least = least; top = top } in (
      λ c. room_of (record { edition = e; columns = c.columns; k = k; r = r }) c.accepted k r refl refl,
      λ h. made_exists e known k r limits (omega arith),
    )

-- ---- row balance

pub balance_refuses : (code : Given) → promises.BalanceRefuses code
balance_refuses code = (
  λ h. refused_balances (opened code) (judgement_of code) (standing_refused code h),
  λ e. accepted_number (opened code) (standing-accepted code e),
)

pub balance_rows : (code : Given) → promises.BalanceRows code
balance_rows code a =
    let o = opened code in
    let e = standing-accepted code a.number in
    let r = checks_are code a in
    let top = (limits_of code a).top in (
      length_balances o,
      λ j h.
          subst (λ cs. get_or (rows_of code).rows j (pos 0) +ℤ pos (all_ones cs) ≡ pos (code.r * row_ones cs j)) (columns-are code a.number)
          (rw r at (balance-row o e j (omega arith) (omega arith))),
      λ j h l. balance-past o e j (omega arith) l,
    )

pub balances_add_up : (code : Given) → promises.BalancesAddUp code
balances_add_up code handed =
    ⊎_elim
    (λ (h : (judgement_of code).number < 1).
    let a : Accepted code = record { handed = handed; number = omega arith } in
    let r = checks_are code a in
    let top = (limits_of code a).top in
    accepted_balances_zero (opened code) (standing-accepted code a.number)
    (rw (columns-are code a.number, r) (sound_of code a).below) (omega arith))
    (λ (h : 1 ≤ (judgement_of code).number).
    refused_balances_zero (opened code) (judgement_of code) (standing_refused code (λ e. omega arith)))
    (below_or_not (judgement_of code).number 1)
