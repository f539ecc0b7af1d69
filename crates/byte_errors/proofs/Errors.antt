-- An error within one byte is found, named and put right; an error within two bytes is flagged. Assumes nothing.
use mathlib.Core.Path.{◌≡◌, refl, sym, ap, ap₂, ◌∙◌, subst}
use mathlib.Core.Logic.{◌≢◌, ⊎_elim}
use Prim.Native.Nat.{ℕ, ◌*◌, ◌^◌, ◌≤◌, ◌<◌}
use native.Mathlib.Omega.{arith}
use borrow.Author.Tests.{ne_eqb}
use lib.Bits.{bit_xor, xor_lt, xor_comm, xor_zero_r}
use Rattle.parity.proofs.Xor.{xor_cancel, xor_swap, xor_undo_r, eq_of_xor_zero, xor_zero_of_eq}
use Rattle.parity.proofs.Ones.{below_or_not}
use Rattle.byte_parts.specs.declared.Parts.{Parts}
use Rattle.byte_code.specs.declared.ByteReading.{ByteReading}
use Rattle.byte_parts.specs.Vectors.{power_t}
use Rattle.byte_parts.specs.Parts.{parts_of}
use Rattle.byte_code.specs.Reading.{byte_word}
use Rattle.byte_code.specs.Reading.{byte_number, as_read, put_right, read_by}
use Rattle.byte_parts.proofs.Vectors.{power_lt}
use Rattle.byte_code.proofs.Steps.{NoCheck, row_seven, row_eight, row_nine}
use Rattle.byte_errors.specs.Steps.{damaged, DataError, NoStep}
use Rattle.byte_errors.proofs.Powers.{sum_power, power_zero, power_xor, power_twice, power_apart, power_nonzero, power_same, sum_twice, twice_apart}
use Rattle.byte_errors.proofs.Linear.{xor_parts, three_parts, parts_xor, parts_data, parts_seven, parts_eight, parts_nine}
use Rattle.byte_errors.proofs.Written.{written_parts}
use Rattle.byte_errors.proofs.Steps.{Solves, same_unless, two-set, no_steps, by_data, by_none}
use Rattle.byte_errors.proofs.Verdicts.{vectors}

-- a word without error adds nothing to the parts
parts_damaged : (d t v : ℕ) → d < 2 ^ 21 → parts_of (damaged (byte_word d) t v) ≡ parts_of (v * 2 ^ (3 * t))
parts_damaged d t v h =
    parts_xor (byte_word d) (v * 2 ^ (3 * t)) ∙ ap (λ r. xor_parts r (parts_of (v * 2 ^ (3 * t)))) (written_parts d h)

-- what holds of the three check bytes
check_bytes : (P : ℕ → Type 0) → P 7 → P 8 → P 9 → (t : ℕ) → 7 ≤ t → t < 10 → P t
check_bytes P a b c t h l =
    ⊎_elim (λ (m : t < 8). let e : 7 ≡ t = omega arith in subst P e a)
    (λ (m : 8 ≤ t).
    ⊎_elim (λ (n : t < 9). let e : 8 ≡ t = omega arith in subst P e b)
    (λ (n : 9 ≤ t). let e : 9 ≡ t = omega arith in subst P e c) (below_or_not t 9))
    (below_or_not t 8)

-- ---- one byte

data_error : (v t : ℕ) → v < 8 → v ≢ 0 → t < 7 → DataError (three_parts v (power_t t v) (power_t (2 * t) v)) t
data_error v t h n l =
    let o = no_steps (three_parts v (power_t t v) (power_t (2 * t) v))
    (two-set (three_parts v (power_t t v) (power_t (2 * t) v)) (λ a b. n (power_nonzero t v h a)) (λ a b. n a) (λ a b. n a)) in
    record { no_step_1 = o.0; no_step_2 = o.1; below = l; second = refl; third = refl }

-- with the parts of one pattern in byte t, the pattern is taken from byte t
in_data : (v t w : ℕ) → v < 8 → v ≢ 0 → t < 7 → parts_of w ≡ parts_of (v * 2 ^ (3 * t)) → read_by (parts_of w) w ≡ put_right 1 (byte_number t) v w
in_data v t w h n l e =
    let s = e ∙ parts_data v t h l in
    let d = subst (λ r. DataError r t) (sym s) (data_error v t h n l) in
    (by_data (parts_of w) w t (vectors w) d).1 ∙ ap (λ r. put_right 1 (byte_number t) r.first w) s

abbrev CheckFound : ℕ → ℕ → ℕ → Type 0
CheckFound v w t = parts_of w ≡ parts_of (v * 2 ^ (3 * t)) → read_by (parts_of w) w ≡ put_right 2 (byte_number t) v w

in_check : (v w : ℕ) → v < 8 → v ≢ 0 → (t : ℕ) → 7 ≤ t → t < 10 → CheckFound v w t
in_check v w h n =
    check_bytes (CheckFound v w)
    (λ e. ap (λ r. read_by r w) (e ∙ parts_seven v h) ∙ row_seven (three_parts v 0 0) w (rw (ne_eqb v 0 n)) refl)
    (λ e. ap (λ r. read_by r w) (e ∙ parts_eight v h) ∙ row_eight (three_parts 0 v 0) w (rw (ne_eqb v 0 n)) (rw (ne_eqb v 0 n)) refl)
    (λ e. ap (λ r. read_by r w) (e ∙ parts_nine v h)
    ∙ row_nine (three_parts 0 0 v) w (rw (ne_eqb v 0 n)) (rw (ne_eqb v 0 n)) (rw (ne_eqb v 0 n)) refl)

-- a word put right is the word that was written
abbrev Back : ℕ → ℕ → ℕ → ByteReading
Back verdict t w = record { number = 0; told = 0; verdict = verdict; byte = byte_number t; word = w }

undone : (verdict t v w : ℕ) → put_right verdict (byte_number t) v (damaged w t v) ≡ Back verdict t w
undone verdict t v w = ap (Back verdict t) (xor_undo_r w (v * 2 ^ (3 * t)))

pub one_data : (d t v : ℕ) → d < 2 ^ 21 → t < 7 → v < 8 → v ≢ 0
    → read_by (parts_of (damaged (byte_word d) t v)) (damaged (byte_word d) t v) ≡ Back 1 t (byte_word d)
one_data d t v h l k n = in_data v t (damaged (byte_word d) t v) k n l (parts_damaged d t v h) ∙ undone 1 t v (byte_word d)

pub one_check : (d t v : ℕ) → d < 2 ^ 21 → 7 ≤ t → t < 10 → v < 8 → v ≢ 0
    → read_by (parts_of (damaged (byte_word d) t v)) (damaged (byte_word d) t v) ≡ Back 2 t (byte_word d)
one_check d t v h g l k n = in_check v (damaged (byte_word d) t v) k n t g l (parts_damaged d t v h) ∙ undone 2 t v (byte_word d)

-- ---- two bytes

-- no step holds where two parts are not zero and step 3 has no solution
unsolved : (s : Parts) → NoCheck s → ((k : ℕ) → k < 7 → Solves s k → ⊥) → NoStep s
unsolved s n q =
    let o = no_steps s n in
    record { no_step_1 = o.0; no_step_2 = o.1; no_step_3 = λ k d. q k d.below (d.second, d.third) }

-- sums that are equal, their terms exchanged
cross : (a b c d : ℕ) → bit_xor a b ≡ bit_xor c d → bit_xor c a ≡ bit_xor d b
cross a b c d e =
    eq_of_xor_zero (bit_xor c a) (bit_xor d b) (xor_swap c a d b ∙ xor_zero_of_eq (bit_xor c d) (bit_xor a b) (sym e))

cancel_right : (a b c : ℕ) → bit_xor a c ≡ bit_xor b c → a ≡ b
cancel_right a b c e = sym (xor_undo_r a c) ∙ ap (λ (x : ℕ). bit_xor x c) e ∙ xor_undo_r b c

-- a pattern added that changes nothing is zero
adds_nothing : (a v : ℕ) → bit_xor a v ≡ a → v ≡ 0
adds_nothing a v e = xor_cancel a v 0 (e ∙ sym (xor_zero_r a))

-- three data bytes
three : (i j k u v : ℕ) → i < 7 → j < 7 → k < 7 → i ≢ j → u < 8 → v < 8 → u ≢ 0 → v ≢ 0
    → power_t k (bit_xor u v) ≡ bit_xor (power_t i u) (power_t j v)
    → power_t (2 * k) (bit_xor u v) ≡ bit_xor (power_t (2 * i) u) (power_t (2 * j) v) → ⊥
three i j k u v hi hj hk d hu hv nu nv e f =
    let p = sum_power i k u in
    let q = sum_power j k v in
    let lp = xor_lt 3 (power_t i u) (power_t k u) (power_lt i u hu) (power_lt k u hu) in
    let same : p ≡ q =
    cross (power_t k u) (power_t k v) (power_t i u) (power_t j v) (sym (power_xor k u v hu hv) ∙ e) in
    let squares =
    cross (power_t (2 * k) u) (power_t (2 * k) v) (power_t (2 * i) u) (power_t (2 * j) v) (sym (power_xor (2 * k) u v hu hv) ∙ f) in
    let twice = sum_twice i k u hu ∙ squares ∙ sym (sum_twice j k v hv) ∙ ap (sum_power j k) (sym same) in
    let flat = power_apart i j hi hj d p lp (cancel_right (power_t i p) (power_t j p) (power_t k p) twice) in
    let ik = same_unless i k (λ o. nu (power_apart i k hi hk o u hu (eq_of_xor_zero (power_t i u) (power_t k u) flat))) in
    let jk = same_unless j k (λ o. nv (power_apart j k hj hk o v hv (eq_of_xor_zero (power_t j v) (power_t k v) (sym same ∙ flat)))) in
    d (ik ∙ sym jk)

data_data : (i j u v : ℕ) → i < 7 → j < 7 → i ≢ j → u < 8 → v < 8 → u ≢ 0 → v ≢ 0
    → NoStep (three_parts (bit_xor u v) (bit_xor (power_t i u) (power_t j v)) (bit_xor (power_t (2 * i) u) (power_t (2 * j) v)))
data_data i j u v hi hj d hu hv nu nv =
    unsolved s (two-set s one two three-zero) (λ k hk q. three i j k u v hi hj hk d hu hv nu nv q.0 q.1)
  where
    s : Parts
    s = three_parts (bit_xor u v) (bit_xor (power_t i u) (power_t j v)) (bit_xor (power_t (2 * i) u) (power_t (2 * j) v))

    one : (s.second ≡ 0) → (s.third ≡ 0) → ⊥
    one a b =
        let e = eq_of_xor_zero (power_t i u) (power_t j v) a in
        let f = eq_of_xor_zero (power_t (2 * i) u) (power_t (2 * j) v) b in
        let g = sym (power_twice i u) ∙ f ∙ power_twice j v ∙ ap (power_t j) (sym e) in
        nu (power_nonzero i u hu (power_apart i j hi hj d (power_t i u) (power_lt i u hu) g))

    two : (s.first ≡ 0) → (s.third ≡ 0) → ⊥
    two a b =
        let e = eq_of_xor_zero u v a in
        nu (twice_apart i j hi hj d u hu (eq_of_xor_zero (power_t (2 * i) u) (power_t (2 * j) v) b ∙ ap (power_t (2 * j)) (sym e)))

    three-zero : (s.first ≡ 0) → (s.second ≡ 0) → ⊥
    three-zero a b =
        let e = eq_of_xor_zero u v a in
        nu (power_apart i j hi hj d u hu (eq_of_xor_zero (power_t i u) (power_t j v) b ∙ ap (power_t j) (sym e)))

-- a data byte and a check byte
data_seven : (i u v : ℕ) → i < 7 → u < 8 → v < 8 → u ≢ 0 → v ≢ 0 → NoStep (three_parts (bit_xor u v) (power_t i u) (power_t (2 * i) u))
data_seven i u v hi hu hv nu nv =
    unsolved s (two-set s (λ a b. zero-i a) (λ a b. zero-2i b) (λ a b. zero-i b)) solved
  where
    s : Parts
    s = three_parts (bit_xor u v) (power_t i u) (power_t (2 * i) u)

    zero-i : power_t i u ≡ 0 → ⊥
    zero-i a = nu (power_nonzero i u hu a)

    zero-2i : power_t (2 * i) u ≡ 0 → ⊥
    zero-2i a = nu (power_nonzero (2 * i) u hu a)

    solved : (k : ℕ) → k < 7 → Solves s k → ⊥
    solved k hk q =
        let x = bit_xor u v in
        let a = power_t i u in
        let e = ap (power_t k) (sym q.0) ∙ sym (power_twice k x) ∙ q.1 ∙ power_twice i u in
        let ki = same_unless k i (λ o. zero-i (power_apart k i hk hi o a (power_lt i u hu) e)) in
        let xu = power_same i x u (xor_lt 3 u v hu hv) hu (ap (λ (n : ℕ). power_t n x) (sym ki) ∙ q.0) in
        nv (adds_nothing u v xu)

data_eight : (i u v : ℕ) → i < 7 → u < 8 → u ≢ 0 → v ≢ 0 → NoStep (three_parts u (bit_xor (power_t i u) v) (power_t (2 * i) u))
data_eight i u v hi hu nu nv =
    unsolved s (two-set s (λ a b. nu (power_nonzero (2 * i) u hu b)) (λ a b. nu a) (λ a b. nu a)) solved
  where
    s : Parts
    s = three_parts u (bit_xor (power_t i u) v) (power_t (2 * i) u)

    solved : (k : ℕ) → k < 7 → Solves s k → ⊥
    solved k hk q =
        let ki = same_unless k i (λ o. nu (twice_apart k i hk hi o u hu q.1)) in
        nv (adds_nothing (power_t i u) v (sym (ap (λ (n : ℕ). power_t n u) (sym ki) ∙ q.0)))

data_nine : (i u v : ℕ) → i < 7 → u < 8 → u ≢ 0 → v ≢ 0 → NoStep (three_parts u (power_t i u) (bit_xor (power_t (2 * i) u) v))
data_nine i u v hi hu nu nv =
    unsolved s (two-set s (λ a b. nu (power_nonzero i u hu a)) (λ a b. nu a) (λ a b. nu a)) solved
  where
    s : Parts
    s = three_parts u (power_t i u) (bit_xor (power_t (2 * i) u) v)

    solved : (k : ℕ) → k < 7 → Solves s k → ⊥
    solved k hk q =
        let ki = same_unless k i (λ o. nu (power_apart k i hk hi o u hu q.0)) in
        nv (adds_nothing (power_t (2 * i) u) v (sym (ap (λ (n : ℕ). power_t (2 * n) u) (sym ki) ∙ q.1)))

-- two check bytes
seven_eight : (u v : ℕ) → u < 8 → u ≢ 0 → v ≢ 0 → NoStep (three_parts u v 0)
seven_eight u v hu nu nv =
    unsolved (three_parts u v 0) (two-set (three_parts u v 0) (λ a b. nv a) (λ a b. nu a) (λ a b. nu a))
    (λ k hk q. nu (power_nonzero (2 * k) u hu q.1))

seven_nine : (u v : ℕ) → u < 8 → u ≢ 0 → v ≢ 0 → NoStep (three_parts u 0 v)
seven_nine u v hu nu nv =
    unsolved (three_parts u 0 v) (two-set (three_parts u 0 v) (λ a b. nv b) (λ a b. nu a) (λ a b. nu a))
    (λ k hk q. nu (power_nonzero k u hu q.0))

eight_nine : (u v : ℕ) → u ≢ 0 → v ≢ 0 → NoStep (three_parts 0 u v)
eight_nine u v nu nv =
    unsolved (three_parts 0 u v) (two-set (three_parts 0 u v) (λ a b. nu a) (λ a b. nv b) (λ a b. nu b))
    (λ k hk q. nu (sym q.0 ∙ power_zero k))

-- any two bytes, the lower first
abbrev Both : ℕ → ℕ → ℕ → ℕ → Parts
Both s u t v = xor_parts (parts_of (u * 2 ^ (3 * s))) (parts_of (v * 2 ^ (3 * t)))

with_check : (s u v : ℕ) → s < 7 → u < 8 → v < 8 → u ≢ 0 → v ≢ 0 → (t : ℕ) → 7 ≤ t → t < 10 → NoStep (Both s u t v)
with_check s u v l hu hv nu nv =
    let a = parts_data u s hu l in
    let p = power_t s u in
    let r = power_t (2 * s) u in
    check_bytes (λ t. NoStep (Both s u t v))
    (subst NoStep (sym (ap₂ xor_parts a (parts_seven v hv) ∙ rw (xor_zero_r p, xor_zero_r r))) (data_seven s u v l hu hv nu nv))
    (subst NoStep (sym (ap₂ xor_parts a (parts_eight v hv) ∙ rw (xor_zero_r u, xor_zero_r r))) (data_eight s u v l hu nu nv))
    (subst NoStep (sym (ap₂ xor_parts a (parts_nine v hv) ∙ rw (xor_zero_r u, xor_zero_r p))) (data_nine s u v l hu nu nv))

two-checks : (u v : ℕ) → u < 8 → v < 8 → u ≢ 0 → v ≢ 0 → (t : ℕ) → 7 ≤ t → t < 10 → (s : ℕ) → 7 ≤ s → s < t → NoStep (Both s u t v)
two-checks u v hu hv nu nv =
    check_bytes (λ t. (s : ℕ) → 7 ≤ s → s < t → NoStep (Both s u t v))
    (λ s h l. absurd (omega arith))
    (λ s h l. let e : 7 ≡ s = omega arith in subst (λ (n : ℕ). NoStep (Both n u 8 v)) e low)
    (λ s h l.
    ⊎_elim (λ (m : s < 8). let e : 7 ≡ s = omega arith in subst (λ (n : ℕ). NoStep (Both n u 9 v)) e ends)
    (λ (m : 8 ≤ s). let e : 8 ≡ s = omega arith in subst (λ (n : ℕ). NoStep (Both n u 9 v)) e high) (below_or_not s 8))
  where
    low : NoStep (Both 7 u 8 v)
    low = subst NoStep (sym (ap₂ xor_parts (parts_seven u hu) (parts_eight v hv) ∙ rw (xor_zero_r u))) (seven_eight u v hu nu nv)

    ends : NoStep (Both 7 u 9 v)
    ends = subst NoStep (sym (ap₂ xor_parts (parts_seven u hu) (parts_nine v hv) ∙ rw (xor_zero_r u))) (seven_nine u v hu nu nv)

    high : NoStep (Both 8 u 9 v)
    high = subst NoStep (sym (ap₂ xor_parts (parts_eight u hu) (parts_nine v hv) ∙ rw (xor_zero_r u))) (eight_nine u v nu nv)

in_order_lem : (s t u v : ℕ) → s < t → t < 10 → u < 8 → v < 8 → u ≢ 0 → v ≢ 0 → NoStep (Both s u t v)
in_order_lem s t u v d h hu hv nu nv =
    ⊎_elim
    (λ (l : t < 7).
    let m : s < 7 = omega arith in
    subst NoStep (sym (ap₂ xor_parts (parts_data u s hu m) (parts_data v t hv l)))
    (data_data s t u v m l (λ e. omega (arith, e)) hu hv nu nv))
    (λ (l : 7 ≤ t).
    ⊎_elim (λ (m : s < 7). with_check s u v m hu hv nu nv t l h) (λ (m : 7 ≤ s). two-checks u v hu hv nu nv t l h s m d) (below_or_not s 7))
    (below_or_not t 7)

-- in either order
two-apart : (s t u v : ℕ) → s < 10 → t < 10 → s ≢ t → u < 8 → v < 8 → u ≢ 0 → v ≢ 0 → NoStep (Both s u t v)
two-apart s t u v hs ht d hu hv nu nv =
    ⊎_elim (λ (l : s < t). in_order_lem s t u v l ht hu hv nu nv)
    (λ (l : t ≤ s).
    subst NoStep (exchanged (parts_of (v * 2 ^ (3 * t))) (parts_of (u * 2 ^ (3 * s))))
    (in_order_lem t s v u (omega (arith, d)) hs hv hu nv nu))
    (below_or_not s t)
  where
    exchanged : (a b : Parts) → xor_parts a b ≡ xor_parts b a
    exchanged a b = rw (xor_comm a.first b.first, xor_comm a.second b.second, xor_comm a.third b.third)

pub two_bytes : (d s t u v : ℕ) → d < 2 ^ 21 → s < 10 → t < 10 → s ≢ t → u < 8 → v < 8 → u ≢ 0 → v ≢ 0
    → let w = damaged (damaged (byte_word d) s u) t v in read_by (parts_of w) w ≡ as_read 3 w
two_bytes d s t u v h hs ht a hu hv nu nv =
    let w = damaged (byte_word d) s u in
    let e = parts_xor w (v * 2 ^ (3 * t)) ∙ ap (λ r. xor_parts r (parts_of (v * 2 ^ (3 * t)))) (parts_damaged d s u h) in
    by_none (parts_of (damaged w t v)) (damaged w t v) (subst NoStep (sym e) (two-apart s t u v hs ht a hu hv nu nv))
