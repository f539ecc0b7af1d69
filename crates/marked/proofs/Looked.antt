-- What the bytes of a record say in its tables is what its columns mix to. Assumes nothing.
use mathlib.Core.Path.{◌≡◌, refl, sym, ap, ap₂, ◌∙◌}
use mathlib.Core.Bool.{Bool, true, false}
use mathlib.Core.List.{List, [], ◌∷◌, ◌++◌}
use Prim.Native.Nat.{ℕ, zero, suc, ◌+◌, ◌*◌, ◌/◌, ◌%◌, ◌^◌, ◌≤◌, ◌<◌}
use native.Mathlib.Nat.{add-suc, add-zero, zero-add, not-suc-le-zero}
use native.Mathlib.Decide.{dec_lt}
use native.Mathlib.Numerals.{add-one}
use native.Mathlib.Omega.{arith}
use lib.Bits.{bit_xor, xor_zero_r}
use lib.ListN.{length, get_or, take, drop, length-drop, drop_of_length-le}
use lib.Seq.{drop-drop, take-take, get_or-take, get_or-drop, get_or-append-add, take-append-le, take_all, length-take-le}
use Rattle.parity.proofs.Xor.{xor_assoc}
use Rattle.columns.specs.Mix.{mix}
use Rattle.columns.proofs.Linear.{mix-zero}
use Rattle.word.proofs.Halves.{mix-cut, mix_past}
use Rattle.record.specs.Bytes.{number_of, AllBytes}
use Rattle.record.specs.Layout.{record_size}
use Rattle.record.proofs.Bytes.{number_step, bytes_drop}
use Rattle.runs.proofs.Numbers.{bytes_take}
use Rattle.at_record.specs.Outcome.{Reader}
use Rattle.tables.specs.Tables.{up_to, byte_table, values_in, tables, tables_of, byte_says, lookups}
use Rattle.tables.proofs.UpTo.{up_to-at, length-up_to}
use Rattle.tables.proofs.Widths.{values_step, values_up, values_both}
use Rattle.tables.proofs.Lookups.{length-tables}
use Rattle.by_list.specs.Given.{mixed_of}

-- the low n places by the first n columns, the rest by the rest; a list may be shorter than n
mix-split : (n : ℕ) (cs : List ℕ) (a b : ℕ) → a < 2 ^ n → mix cs (a + 2 ^ n * b) ≡ bit_xor (mix (take n cs) a) (mix (drop n cs) b)
unfolding mix
mix-split n cs a b h =
    elim (dec_lt (length cs) n) as (λ d. mix cs (a + 2 ^ n * b) ≡ bit_xor (mix (take n cs) a) (mix (drop n cs) b)) [
      | yes l ↦
          mix_past cs n a b (omega arith) h
          ∙ sym (ap₂ (λ (x y : List ℕ). bit_xor (mix x a) (mix y b)) (take_all n cs (omega arith))
          (drop_of_length-le cs {i = n} (omega arith))
          ∙ xor_zero_r (mix cs a))
      | no l ↦ mix-cut cs n a b (omega arith) h
    ]

-- what stands before the end of a list
get_d_front : (t u : List ℕ) (i : ℕ) → i < length t → get_or (t ++ u) i 0 ≡ get_or t i 0
get_d_front t u i h =
    sym (get_or-take (length t) (t ++ u) i 0 h)
    ∙ ap (λ (l : List ℕ). get_or l i 0) (take-append-le (length t) t u (omega arith) ∙ take_all (length t) t (omega arith))

-- the upper half of a byte's columns
upper_half : (l : List ℕ) → drop 4 (take 8 l) ≡ take 4 (drop 4 l)
upper_half [] = refl
upper_half (a ∷ []) = refl
upper_half (a ∷ b ∷ []) = refl
upper_half (a ∷ b ∷ c ∷ []) = refl
upper_half (a ∷ b ∷ c ∷ d ∷ l) = refl

-- what a byte says in its own table is what its columns mix to
byte_mix : (h : Bool) (cs : List ℕ) (b : ℕ) → b < 256 → byte_says h (byte_table h cs) 0 b ≡ mix (take 8 cs) b
byte_mix true cs b l =
    let low = up_to (mix (take 4 cs)) 16 in
    let high = up_to (mix (take 4 (drop 4 cs))) 16 in
    let number : b ≡ b % 16 + 2 ^ 4 * (b / 16) = omega arith in
    let past : 0 + 16 + b / 16 ≡ length low + b / 16 = omega (arith, length-up_to (mix (take 4 cs)) 16) in
    ap₂ bit_xor
    (ap (λ (n : ℕ). get_or (low ++ high) n 0) (zero-add (b % 16))
    ∙ get_d_front low high (b % 16) (omega (arith, length-up_to (mix (take 4 cs)) 16))
    ∙ up_to-at (mix (take 4 cs)) 16 (b % 16) (omega arith))
    (ap (λ (n : ℕ). get_or (low ++ high) n 0) past
    ∙ get_or-append-add low high (b / 16) 0
    ∙ up_to-at (mix (take 4 (drop 4 cs))) 16 (b / 16) (omega arith))
    ∙ sym (ap (mix (take 8 cs)) number
    ∙ mix-split 4 (take 8 cs) (b % 16) (b / 16) (omega arith)
    ∙ ap₂ (λ (l m : List ℕ). bit_xor (mix l (b % 16)) (mix m (b / 16))) (take-take 4 8 cs (omega arith)) (upper_half cs))
byte_mix false cs b l = ap (λ (n : ℕ). get_or (up_to (mix (take 8 cs)) 256) n 0) (zero-add b) ∙ up_to-at (mix (take 8 cs)) 256 b l

-- so it does in the tables of m bytes: those before its own and behind it are not looked at
says-front : (h : Bool) (t u : List ℕ) (at b : ℕ) → b < 256 → at + values_in h ≤ length t → byte_says h (t ++ u) at b ≡ byte_says h t at b
says-front true t u at b l fit = ap₂ bit_xor (get_d_front t u (at + b % 16) (omega arith)) (get_d_front t u (at + 16 + b / 16) (omega arith))
says-front false t u at b l fit = get_d_front t u (at + b) (omega arith)

says_back : (h : Bool) (t u : List ℕ) (at b : ℕ) → byte_says h (t ++ u) (length t + at) b ≡ byte_says h u at b
says_back true t u at b =
    let low : length t + at + b % 16 ≡ length t + (at + b % 16) = omega arith in
    let high : length t + at + 16 + b / 16 ≡ length t + (at + 16 + b / 16) = omega arith in
    ap₂ bit_xor (ap (λ (n : ℕ). get_or (t ++ u) n 0) low ∙ get_or-append-add t u (at + b % 16) 0)
    (ap (λ (n : ℕ). get_or (t ++ u) n 0) high ∙ get_or-append-add t u (at + 16 + b / 16) 0)
says_back false t u at b =
    let all : length t + at + b ≡ length t + (at + b) = omega arith in
    ap (λ (n : ℕ). get_or (t ++ u) n 0) all ∙ get_or-append-add t u (at + b) 0

tables-at : (h : Bool) (cs : List ℕ) (m j b : ℕ) → j < m → b < 256
    → byte_says h (tables h cs m) (values_in h * j) b ≡ mix (take 8 (drop (8 * j) cs)) b
unfolding tables
tables-at h cs zero j b l k = absurd (not-suc-le-zero l)
tables-at h cs (suc m) j b l k =
    let old = tables h cs m in
    let new = byte_table h (drop (8 * m) cs) in
    let long = length-tables h cs m in
    elim (dec_lt j m) as (λ d. byte_says h (old ++ new) (values_in h * j) b ≡ mix (take 8 (drop (8 * j) cs)) b) [
      | yes i ↦
          says-front h old new (values_in h * j) b k (omega (arith, long, values_step h j, values_up h (suc j) m (omega arith)))
          ∙ tables-at h cs m j b i k
      | no i ↦
          let e : j ≡ m = omega arith in
          let at : values_in h * m ≡ length old + 0 = omega (arith, long) in
          rw e (ap (λ (n : ℕ). byte_says h (old ++ new) n b) at ∙ says_back h old new 0 b ∙ byte_mix h (drop (8 * m) cs) b k)
    ]

-- byte j and the bytes behind it
byte_next : (cs bytes : List ℕ) (j : ℕ) → AllBytes bytes → j < length bytes
    → mix (drop (8 * j) cs) (number_of (drop j bytes))
    ≡ bit_xor (mix (take 8 (drop (8 * j) cs)) (get_or bytes j 0)) (mix (drop (8 * (j + 1)) cs) (number_of (drop (j + 1) bytes)))
byte_next cs bytes j all h =
    let e : 8 * j + 8 ≡ 8 * (j + 1) = omega arith in
    ap (mix (drop (8 * j) cs)) (number_step bytes j h)
    ∙ mix-split 8 (drop (8 * j) cs) (get_or bytes j 0) (number_of (drop (j + 1) bytes)) (all j)
    ∙ ap (λ (l : List ℕ). bit_xor (mix (take 8 (drop (8 * j) cs)) (get_or bytes j 0)) (mix l (number_of (drop (j + 1) bytes))))
    (drop-drop 8 (8 * j) cs ∙ ap (λ (n : ℕ). drop n cs) e)

-- what the first m bytes say, and what the rest is worth, is the whole
lookups-rest : (h : Bool) (cs bytes : List ℕ) (n m : ℕ) → AllBytes bytes → m ≤ n → m ≤ length bytes
    → bit_xor (lookups h (tables h cs n) bytes m) (mix (drop (8 * m) cs) (number_of (drop m bytes))) ≡ mix cs (number_of bytes)
unfolding lookups
lookups-rest h cs bytes n zero all l k = refl
lookups-rest h cs bytes n (suc m) all l k =
    let past = mix (drop (8 * suc m) cs) (number_of (drop (suc m) bytes)) in
    let before = lookups h (tables h cs n) bytes m in
    ap (λ (x : ℕ). bit_xor (bit_xor before x) past) (tables-at h cs n m (get_or bytes m 0) (omega arith) (all m))
    ∙ xor_assoc before (mix (take 8 (drop (8 * m) cs)) (get_or bytes m 0)) past
    ∙ ap (bit_xor before) (sym (rw (add-one m) at (byte_next cs bytes m all (omega arith))))
    ∙ lookups-rest h cs bytes n m all (omega arith) (omega arith)

-- so the tables of m bytes say the mix of the columns
lookups-mix : (h : Bool) (cs bytes : List ℕ) (m : ℕ) → AllBytes bytes → length bytes ≡ m
    → lookups h (tables h cs m) bytes m ≡ mix cs (number_of bytes)
unfolding number_of
lookups-mix h cs bytes m all e =
    let none : number_of (drop m bytes) ≡ 0 = ap number_of (drop_of_length-le bytes {i = m} (omega arith)) in
    sym (xor_zero_r (lookups h (tables h cs m) bytes m))
    ∙ ap (bit_xor (lookups h (tables h cs m) bytes m)) (sym (ap (mix (drop (8 * m) cs)) none ∙ mix-zero (drop (8 * m) cs)))
    ∙ lookups-rest h cs bytes m m all (omega arith) (omega arith)

-- ---- two tables, one behind the other

module _ (h : Bool) (t u bytes : List ℕ) (n : ℕ) (long : length t ≡ values_in h * n) (all : AllBytes bytes) where
  lookups-front : (m : ℕ) → m ≤ n → lookups h (t ++ u) bytes m ≡ lookups h t (take n bytes) m
  unfolding lookups
  lookups-front zero l = refl
  lookups-front (suc m) l =
      ap₂ bit_xor (lookups-front m (omega arith))
      (says-front h t u (values_in h * m) (get_or bytes m 0) (all m) (omega (arith, long, values_step h m, values_up h (suc m) n l))
      ∙ ap (byte_says h t (values_in h * m)) (sym (get_or-take n bytes m 0 l)))

  lookups_both : (j : ℕ) → lookups h (t ++ u) bytes (n + j) ≡ bit_xor (lookups h t (take n bytes) n) (lookups h u (drop n bytes) j)
  unfolding lookups
  lookups_both zero = rw (add-zero n) (lookups-front n (omega arith) ∙ sym (xor_zero_r (lookups h t (take n bytes) n)))
  lookups_both (suc j) =
      let b = get_or (drop n bytes) j 0 in
      let at : values_in h * (n + j) ≡ length t + values_in h * j = omega (arith, long, values_both h n j) in
      let here = ap₂ (byte_says h (t ++ u)) at (sym (get_or-drop n bytes j 0)) ∙ says_back h t u (values_in h * j) b in
      rw (add-suc n j)
      (ap₂ bit_xor (lookups_both j) here
      ∙ xor_assoc (lookups h t (take n bytes) n) (lookups h u (drop n bytes) j) (byte_says h u (values_in h * j) b))

-- THE LAW: by the tables of a record its columns are mixed
pub looked_mixed : (h : Bool) (f : Reader) (rec : List ℕ) → AllBytes rec → length rec ≡ record_size f.d
    → lookups h (tables_of h f.columns f.k f.d) rec (record_size f.d) ≡ mixed_of f rec
unfolding mixed_of
looked_mixed h f rec all e =
    let low = take f.k f.columns in
    let high = drop f.k f.columns in
    let rest = length-drop f.d rec in
    lookups_both h (tables h low f.d) (tables h high 2) rec f.d (length-tables h low f.d) all 2
    ∙ ap₂ bit_xor
    (lookups-mix h low (take f.d rec) f.d (bytes_take f.d rec all) (length-take-le f.d rec (omega arith)))
    (lookups-mix h high (drop f.d rec) 2 (bytes_drop f.d rec all) (omega arith)
    ∙ ap (λ (l : List ℕ). mix high (number_of l)) (sym (take_all 2 (drop f.d rec) (omega arith))))
