-- The demands on check bits wanted and on the row balance: the promises of the ten-byte edition. Assumes nothing.
use mathlib.Core.Path.{◌≡◌, refl}
use Prim.Native.Nat.{ℕ}
use Rattle.code.specs.declared.Code.{Code}
use Rattle.editions.specs.Given.{ten_bytes, CodeOf}
use Rattle.editions.proofs.OfCodes as of_any
use Rattle.demands.specs.Definitions.{Accepted, Stored}
use Rattle.demands.specs.Demands as demands
use Rattle.demands.specs.Editions.{narrow, narrow_code}
use Rattle.demands.proofs.Narrow.{handed, accepted, accepted-back}
use Rattle.demands.proofs.OfEditions.{ten_known}

pub check_bits_refused : demands.CheckBitsRefused
check_bits_refused k = of_any.check_bits_refused ten_bytes k

-- a code of the ten-byte edition, as it is handed about
code_of : (k r : ℕ) → CodeOf ten_bytes k r → (code : Code) × Stored code × Accepted code × (code.k ≡ k) × (code.r ≡ r)
code_of k r c =
    let code : Code = record { columns = c.columns; k = k; r = r } in
    (code, c.stored, accepted-back code c.accepted, refl, refl)

pub check_bits_least : demands.CheckBitsLeast
check_bits_least k some few =
    let x = of_any.check_bits_least ten_bytes ten_known k some few in
    (x.0, code_of k _ x.1, λ code a e. x.2 (narrow_code code) (accepted code a) e)

pub check_bits_room : demands.CheckBitsRoom
check_bits_room k r some few least top =
    let x = of_any.check_bits_room ten_bytes ten_known k r some few least top in (
      λ c. of_any.room_of (narrow_code c.0) (accepted c.0 c.2) k r c.3 c.4,
      λ h. code_of k r (x.1 h),
    )

pub balance_refuses : demands.BalanceRefuses
balance_refuses code = of_any.balance_refuses (narrow code)

pub balance_rows : demands.BalanceRows
balance_rows code a = of_any.balance_rows (narrow code) (accepted code a)

pub balances_add_up : demands.BalancesAddUp
balances_add_up code h = of_any.balances_add_up (narrow code) (handed code h)
