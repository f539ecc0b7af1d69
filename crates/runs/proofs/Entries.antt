-- Laws of a journal entry: how long it is, and from values to bytes and back. Assumes nothing.
use mathlib.Core.Path.{◌≡◌, refl, sym, ap, ap₂, ◌∙◌}
use mathlib.Core.List.{List, [], ◌∷◌, ◌++◌, append_assoc, append-nil}
use Prim.Native.Nat.{ℕ, suc, ◌+◌, ◌≤◌, ◌<◌}
use native.Mathlib.Numerals.{add-one}
use native.Mathlib.Omega.{arith}
use lib.ListN.{length, get_or, take, drop, length-append, length-drop, take-append-drop}
use lib.Seq.{take_at, drop_at, take_all, take-add, drop-cons, drop-drop, length-take-le}
use Rattle.record.specs.Bytes.{number_of, bytes_of, byte_span, AllBytes}
use Rattle.record.specs.Layout.{record_size, stamp_size, number_size, syndrome_size, head_size, entry_size, Entry, head_bytes, entry_bytes, entry_in, in_bytes}
use Rattle.record.proofs.Over.{part_length}
use Rattle.record.proofs.Bytes.{bytes_number}
use Rattle.runs.proofs.Numbers.{bytes_take, bytes-part, number_bytes}

pub length-head : (s n v p y : ℕ) → length (head_bytes s n v p y) ≡ head_size
unfolding head_bytes bytes_of
length-head s n v p y = refl

pub length-entry : (e : Entry) → length (entry_bytes e) ≡ head_size + (length e.before + length e.after)
length-entry e = simp (length-append, length-head)

-- ---- entries one behind the other

pub in_bytes-append : (es fs : List Entry) → in_bytes (es ++ fs) ≡ in_bytes es ++ in_bytes fs
unfolding in_bytes
in_bytes-append [] fs = refl
in_bytes-append (e ∷ es) fs =
    ap (λ (l : List ℕ). entry_bytes e ++ l) (in_bytes-append es fs) ∙ sym (append_assoc (entry_bytes e) (in_bytes es) (in_bytes fs))

pub in_bytes_one : (e : Entry) → in_bytes (e ∷ []) ≡ entry_bytes e
unfolding in_bytes
in_bytes_one e = append-nil (entry_bytes e)

-- ---- the entry that an entry's bytes say is it

module _ (e : Entry) where
  stamp_first : take stamp_size (entry_bytes e) ≡ bytes_of stamp_size e.stamp
  unfolding head_bytes bytes_of
  stamp_first = refl

  number_next : take number_size (drop stamp_size (entry_bytes e)) ≡ bytes_of number_size e.number
  unfolding head_bytes bytes_of
  number_next = refl

  verdict_next : get_or (entry_bytes e) (stamp_size + number_size) 0 ≡ e.verdict
  unfolding head_bytes bytes_of
  verdict_next = refl

  place_next : get_or (entry_bytes e) (stamp_size + number_size + 1) 0 ≡ e.place
  unfolding head_bytes bytes_of
  place_next = refl

  syndrome_next : take syndrome_size (drop (stamp_size + number_size + 2) (entry_bytes e)) ≡ bytes_of syndrome_size e.syndrome
  unfolding head_bytes bytes_of
  syndrome_next = refl

  records-behind : drop head_size (entry_bytes e) ≡ e.before ++ e.after
  unfolding head_bytes bytes_of
  records-behind = refl

  after-behind : (n : ℕ) → length e.before ≡ n → drop (head_size + n) (entry_bytes e) ≡ e.after
  after-behind n b =
      sym (drop-drop n head_size (entry_bytes e)) ∙ ap (drop n) records-behind ∙ drop_at e.before e.after n b

-- what its head says, whatever stamp and records are
pub head-said : (d : ℕ) (e : Entry) → e.number < byte_span number_size → e.syndrome < byte_span syndrome_size
    → ((entry_in d (entry_bytes e)).number ≡ e.number)
    × ((entry_in d (entry_bytes e)).verdict ≡ e.verdict)
    × ((entry_in d (entry_bytes e)).place ≡ e.place)
    × ((entry_in d (entry_bytes e)).syndrome ≡ e.syndrome)
head-said d e n y = (
  ap number_of (number_next e) ∙ number_bytes number_size e.number n,
  verdict_next e,
  place_next e,
  ap number_of (syndrome_next e) ∙ number_bytes syndrome_size e.syndrome y,
)

-- what it says of a record: its number, and its bytes before and after
pub record_said : (d : ℕ) (e : Entry) → e.number < byte_span number_size → length e.before ≡ record_size d
    → length e.after ≡ record_size d
    → ((entry_in d (entry_bytes e)).number ≡ e.number)
    × ((entry_in d (entry_bytes e)).before ≡ e.before)
    × ((entry_in d (entry_bytes e)).after ≡ e.after)
record_said d e n b a = (
  ap number_of (number_next e) ∙ number_bytes number_size e.number n,
  ap (take (record_size d)) (records-behind e) ∙ take_at e.before e.after (record_size d) b,
  ap (take (record_size d)) (after-behind e (record_size d) b) ∙ take_all (record_size d) e.after (omega arith),
)

-- and its stamp, as four bytes say it
pub stamp_said : (d : ℕ) (e : Entry) → (entry_in d (entry_bytes e)).stamp ≡ number_of (bytes_of stamp_size e.stamp)
stamp_said d e = ap number_of (stamp_first e)

pub entry-back : (d : ℕ) (e : Entry) → e.stamp < byte_span stamp_size → e.number < byte_span number_size
    → e.syndrome < byte_span syndrome_size
    → length e.before ≡ record_size d → length e.after ≡ record_size d → entry_in d (entry_bytes e) ≡ e
entry-back d e s n y b a =
    λ i. record {
      stamp = (ap number_of (stamp_first e) ∙ number_bytes stamp_size e.stamp s) i;
      number = (ap number_of (number_next e) ∙ number_bytes number_size e.number n) i;
      verdict = verdict_next e i;
      place = place_next e i;
      syndrome = (ap number_of (syndrome_next e) ∙ number_bytes syndrome_size e.syndrome y) i;
      before = (ap (take (record_size d)) (records-behind e) ∙ take_at e.before e.after (record_size d) b) i;
      after = (ap (take (record_size d)) (after-behind e (record_size d) b) ∙ take_all (record_size d) e.after (omega arith)) i;
    }

-- ---- the bytes of the entry that bytes say are they

two_more : (l : List ℕ) (n : ℕ) → n + 2 ≤ length l → take n l ++ (get_or l n 0 ∷ get_or l (n + 1) 0 ∷ []) ≡ take (n + 2) l
two_more l n h = rw (take-add n 2 l, drop-cons l n 0 (omega arith), drop-cons l (suc n) 0 (omega arith), add-one n)

pub entry_read : (d : ℕ) (bytes : List ℕ) → AllBytes bytes → length bytes ≡ entry_size d → entry_bytes (entry_in d bytes) ≡ bytes
unfolding head_bytes
entry_read d bytes h e =
    ap₂ (λ (p q : List ℕ). p ++ q) head rest ∙ take-append-drop head_size bytes
  where
    stamp : bytes_of stamp_size (number_of (take stamp_size bytes)) ≡ take stamp_size bytes
    stamp = bytes_number stamp_size (take stamp_size bytes) (bytes_take stamp_size bytes h) (length-take-le stamp_size bytes (omega arith))

    next : List ℕ
    next = take number_size (drop stamp_size bytes)

    number : bytes_of number_size (number_of next) ≡ next
    number = bytes_number number_size next (bytes-part stamp_size number_size bytes h) (part_length stamp_size number_size bytes (omega arith))

    marks : List ℕ
    marks = get_or bytes (stamp_size + number_size) 0 ∷ get_or bytes (stamp_size + number_size + 1) 0 ∷ []

    last : List ℕ
    last = take syndrome_size (drop (stamp_size + number_size + 2) bytes)

    syndrome : bytes_of syndrome_size (number_of last) ≡ last
    syndrome =
        bytes_number syndrome_size last (bytes-part (stamp_size + number_size + 2) syndrome_size bytes h)
        (part_length (stamp_size + number_size + 2) syndrome_size bytes (omega arith))

    first : take stamp_size bytes ++ (next ++ marks) ≡ take (stamp_size + number_size + 2) bytes
    first =
        sym (append_assoc (take stamp_size bytes) next marks)
        ∙ ap (λ (l : List ℕ). l ++ marks) (sym (take-add stamp_size number_size bytes))
        ∙ two_more bytes (stamp_size + number_size) (omega arith)

    grouped : take stamp_size bytes ++ (next ++ (marks ++ last)) ≡ take stamp_size bytes ++ (next ++ marks) ++ last
    grouped = simp append_assoc

    head : head_bytes (number_of (take stamp_size bytes)) (number_of next) (get_or bytes (stamp_size + number_size) 0)
        (get_or bytes (stamp_size + number_size + 1) 0) (number_of last) ≡ take head_size bytes
    head =
        (λ i. stamp i ++ (number i ++ (marks ++ syndrome i)))
        ∙ grouped
        ∙ ap (λ (l : List ℕ). l ++ last) first
        ∙ sym (take-add (stamp_size + number_size + 2) syndrome_size bytes)

    behind : length (drop (record_size d) (drop head_size bytes)) ≤ record_size d
    behind = simp length-drop (omega arith)

    rest : take (record_size d) (drop head_size bytes) ++ take (record_size d) (drop (head_size + record_size d) bytes) ≡ drop head_size bytes
    rest =
        rw (← drop-drop (record_size d) head_size bytes, take_all (record_size d) (drop (record_size d) (drop head_size bytes)) behind)
        (take-append-drop (record_size d) (drop head_size bytes))
