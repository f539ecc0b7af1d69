-- A code's cards stand in its columns at their first places; so two or more flips within one card make what the card's columns make.
-- Assumes nothing.
use mathlib.Core.Path.{◌≡◌, sym, ap, ap₂, ◌∙◌}
use mathlib.Core.Logic.{⊎_elim}
use mathlib.Core.List.{List, [], ◌++◌, append_assoc, append-nil}
use Prim.Native.Nat.{ℕ, ◌+◌, ◌-◌, ◌*◌, ◌^◌, ◌≤◌, ◌<◌}
use native.Mathlib.Nat.{le-div_iff_mul-le, suc-mul, zero-add}
use native.Mathlib.Omega.{arith}
use lib.Bits.{bit_xor, xor_lt, xor_zero_r}
use lib.Count.{ones}
use lib.ListN.{length, take, drop, length-append, length-drop, take-append-drop, get_or-eq_default}
use lib.Pow.{pow_pos, pow_mono, shl_lt}
use lib.Seq.{drop-drop, length-take-le}
use Rattle.parity.proofs.Ones.{below_or_not}
use Rattle.columns.specs.Mix.{mix}
use Rattle.columns.proofs.Linear.{mix-xor, mix-zero, mix-append}
use Rattle.cards.specs.Cards.{Card, cards_in, all_cards, card_at}
use Rattle.cards.specs.Rule.{flip_mask}
use Rattle.cards.proofs.Parts.{all_counted, data_card, check_card}
use Rattle.cards.proofs.Walk.{few_ones}

-- ---- a stretch of columns in a longer list: a word with ones only there is mixed by the stretch alone

mix-front : (front rest : List ℕ) (m : ℕ) → mix (front ++ rest) (m * 2 ^ length front) ≡ mix rest m
mix-front front rest m =
    ap (mix (front ++ rest)) (omega arith)
    ∙ mix-append front rest 0 m (pow_pos (length front))
    ∙ ap (λ (s : ℕ). bit_xor s (mix rest m)) (mix-zero front)

mix-back : (xs back : List ℕ) (m : ℕ) → m < 2 ^ length xs → mix (xs ++ back) m ≡ mix xs m
mix-back xs back m h =
    ap (mix (xs ++ back)) (omega arith)
    ∙ mix-append xs back m 0 h
    ∙ ap (bit_xor (mix xs m)) (mix-zero back)
    ∙ xor_zero_r (mix xs m)

mix_stretch : (front xs back : List ℕ) (m : ℕ) → m < 2 ^ length xs → mix (front ++ (xs ++ back)) (m * 2 ^ length front) ≡ mix xs m
mix_stretch front xs back m h = mix-front front (xs ++ back) m ∙ mix-back xs back m h

-- ---- a card in a list of columns: its columns stand there, from its first place on

pub record InPlace (cs : List ℕ) (card : Card) : Type 0 where
  pub front : List ℕ
  pub back : List ℕ
  pub placed : cs ≡ front ++ (card.columns ++ back)
  pub starts : length front ≡ card.place

-- the flips that a mask of its places names
module _ (cs : List ℕ) (card : Card) (s : InPlace cs card) (mask : ℕ) (inside : mask < 2 ^ length card.columns) (w : ℕ) where
  -- they stay within the word
  pub flips_stay : w < 2 ^ length cs → flip_mask w card.place mask < 2 ^ length cs
  flips_stay fits =
      let size = length card.columns in
      let end : size + card.place ≤ length cs =
      omega (
        arith,
        ap length s.placed,
        length-append s.front (card.columns ++ s.back),
        length-append card.columns s.back,
        s.starts,
      ) in
      xor_lt (length cs) w (mask * 2 ^ card.place) fits (omega (arith, shl_lt size card.place inside, pow_mono end))

  -- the syndrome is what the flipped places of the card make
  pub flips_made : mix cs w ≡ 0 → mix cs (flip_mask w card.place mask) ≡ mix card.columns mask
  flips_made clean =
      let word = mask * 2 ^ card.place in
      mix-xor cs w word
      ∙ ap (λ (x : ℕ). bit_xor x (mix cs word)) clean
      ∙ ap₂ (λ (l : List ℕ) (n : ℕ). mix l (mask * 2 ^ n)) s.placed (sym s.starts)
      ∙ mix_stretch s.front card.columns s.back mask inside

-- ---- the cards of a code

-- card t begins inside the places
card_inside : (b places t : ℕ) → 1 ≤ b → t < cards_in b places → t * b < places
card_inside b places t h l = let k = (le-div_iff_mul-le h).0 l in omega (arith, suc-mul t b)

-- card t of a part, between what stands before the part and behind it
part-stands : (front part back : List ℕ) (b t : ℕ) → t * b ≤ length part
    → InPlace (front ++ (part ++ back)) (record { place = length front + t * b; columns = take b (drop (t * b) part) })
part-stands front part back b t there =
    record {
      front = front ++ take (t * b) part;
      back = drop b (drop (t * b) part) ++ back;
      placed =
          ap (λ (l : List ℕ). front ++ (l ++ back))
          (sym (take-append-drop (t * b) part)
          ∙ ap (λ (l : List ℕ). take (t * b) part ++ l) (sym (take-append-drop b (drop (t * b) part))))
          ∙ simp append_assoc;
      starts = simp (length-append, length-take-le (t * b) part there);
    }

module _ (b k : ℕ) (cs : List ℕ) (some : 1 ≤ b) (inside : k ≤ length cs) where
  data_stands : (t : ℕ) → t < cards_in b k → InPlace cs (card_at (all_cards b k cs) t)
  data_stands t l =
      let room : t * b ≤ length (take k cs) = omega (arith, card_inside b k t some l, length-take-le k cs inside) in
      let s = part-stands [] (take k cs) (drop k cs) b t room in
      rw (data_card b k cs inside t l) (rw (take-append-drop k cs, zero-add (t * b)) at s)

  check_stands : (t : ℕ) → t < cards_in b (length cs - k) → InPlace cs (card_at (all_cards b k cs) (cards_in b k + t))
  check_stands t l =
      let room : t * b ≤ length (drop k cs) = omega (arith, card_inside b (length cs - k) t some l, length-drop k cs) in
      let s = part-stands (take k cs) (drop k cs) [] b t room in
      rw (check_card b k cs inside t l)
      (rw (append-nil, take-append-drop k cs, length-take-le k cs inside, drop-drop (t * b) k cs) at s)

  -- a card with a mask of two ones is one of the code's
  pub card_stands : (t mask : ℕ) → mask < 2 ^ length (card_at (all_cards b k cs) t).columns → 2 ≤ ones mask
      → InPlace cs (card_at (all_cards b k cs) t)
  card_stands t mask h s =
      ⊎_elim
      (λ (l : t < cards_in b k). data_stands t l)
      (λ (l : cards_in b k ≤ t).
      let e : cards_in b k + (t - cards_in b k) ≡ t = omega arith in
      ⊎_elim
      (λ (u : t - cards_in b k < cards_in b (length cs - k)). rw e at (check_stands (t - cards_in b k) u))
      (λ (u : cards_in b (length cs - k) ≤ t - cards_in b k).
      let none : Card = record { place = 0; columns = [] } in
      let past = get_or-eq_default (all_cards b k cs) none {n = t} (omega (arith, all_counted b k cs inside)) in
      absurd (few_ones mask (rw past at h) s))
      (below_or_not (t - cards_in b k) (cards_in b (length cs - k))))
      (below_or_not t (cards_in b k))
