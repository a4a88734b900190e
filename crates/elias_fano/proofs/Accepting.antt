-- An image is accepted exactly if its header, its bits and its indexes are as the functions of the crate find them. Assumes nothing.
use mathlib.Core.Path.{◌≡◌, refl, sym, ap, ap₂, ◌∙◌, subst}
use mathlib.Core.List.{List, [], ◌∷◌, ◌++◌, append_assoc}
use mathlib.Core.Bool.{Bool, true, false, ◌&&◌, cond}
use Prim.Native.Nat.{ℕ, ◌+◌, ◌-◌, ◌*◌, ◌≤◌}
use native.Mathlib.Omega.{arith}
use borrow.Author.Tests.{eqb-true, eqb-false}
use lib.Dec.{eqb}
use lib.ListN.{length, get_or, take, drop, length-drop, take-append-drop}
use lib.Seq.{length-take-le, take-take, drop-drop, take_at}
use Rattle.broadword.specs.Bits.{count}
use Rattle.broadword.specs.Fields.{flag}
use Rattle.bit_words.specs.Vector.{bit_over, words_for, number_words, invalid}
use Rattle.bit_words.proofs.Runs.{Fit}
use Rattle.darray_positions.specs.Index.{index_words}
use Rattle.darray_positions.specs.Positions.{positions}
use Rattle.darray.specs.Queries.{same}
use Rattle.darray.proofs.Matching.{same_refl}
use Rattle.elias_fano_words.specs.Sizes.{low_len, high_len, index_len}
use Rattle.elias_fano_words.specs.Image.{low_number, spilled, high_words, low_words, high_positions, image}
use Rattle.elias_fano_words.specs.Times.{rising, unrepeated_if, bit_words, times_in, holds, holds_if}
use Rattle.elias_fano_words.proofs.Decode.{times_of, length_high, count_high}
use Rattle.elias_fano_words.proofs.Holds.{fit_held, length_held}
use Rattle.broadword.proofs.Truth.{and_true, true_and}
use Rattle.elias_fano_words.proofs.Valid.{valid_high}
use Rattle.elias_fano_words.proofs.Lengths.{index_length, all_bits, ones_are, ones_many, zeros_many}
use Rattle.elias_fano.specs.Accept.{fit, universe, declared, pushed, ranked, times, accepted, accepted_if}
use Rattle.elias_fano.specs.Opening.{high_of, ones_in, zeros_in, high_in, bits_in, Headed, Indexes}
use Rattle.elias_fano.proofs.Images.{Fits, of_fits, is_fit, is_image}
use Rattle.elias_fano.proofs.Parts.{headed, holds_in, indexes_in}

-- what is found of an image
pub record Found (i : List ℕ) : Type 0 where
  pub head : Headed i
  pub bits : holds (universe i) (declared i) (pushed i) (bits_in i) ≡ true
  pub indexed : Indexes i

-- ---- of an accepted one

of_image : (u n : ℕ) (c : Bool) (T : List ℕ) → Fits u n T → Found (image u n c T)
unfolding image
of_image u n c T f = record { head = headed u n c T f; bits = holds_in u n c T f; indexed = indexes_in u n c T f }

pub found : (i : List ℕ) → accepted i ≡ true → Found i
found i h = subst Found (sym (is_image i h)) (of_image (universe i) (declared i) (ranked i) (times i) (is_fit i h))

-- ---- and of one that is then accepted

six_of : (i : List ℕ) → 6 ≤ length i → take 6 i ≡ get_or i 0 0 ∷ get_or i 1 0 ∷ get_or i 2 0 ∷ get_or i 3 0 ∷ get_or i 4 0 ∷ get_or i 5 0 ∷ []
six_of [] h = absurd (omega arith)
six_of (a ∷ []) h = absurd (omega arith)
six_of (a ∷ b ∷ []) h = absurd (omega arith)
six_of (a ∷ b ∷ c ∷ []) h = absurd (omega arith)
six_of (a ∷ b ∷ c ∷ d ∷ []) h = absurd (omega arith)
six_of (a ∷ b ∷ c ∷ d ∷ e ∷ []) h = absurd (omega arith)
six_of (a ∷ b ∷ c ∷ d ∷ e ∷ f ∷ i) h = refl

pub flag_eqb : (w : ℕ) → w ≤ 1 → (b : Bool) → eqb w 1 ≡ b → w ≡ flag b
flag_eqb w h true e = eqb-true w 1 e
flag_eqb w h false e = let ne = eqb-false w 1 e in omega arith

-- the overflow of an index is known by its length
over_is : (k k' x y l : ℕ) → l ≡ index_len k x → l ≡ index_len k' y → k ≡ k' → x ≡ y
over_is k k' x y l p q e =
    let r : index_len k y ≡ index_len k' y = ap (λ (z : ℕ). index_len z y) e in
    let s : l ≡ index_len k y = q ∙ sym r in
    omega arith

module _ (i : List ℕ) (head : Headed i) (bits : holds (universe i) (declared i) (pushed i) (bits_in i) ≡ true) where
  abbrev u : ℕ
  u = universe i

  abbrev n : ℕ
  n = declared i

  abbrev m : ℕ
  m = pushed i

  abbrev c : Bool
  c = ranked i

  abbrev hw : ℕ
  hw = words_for (high_len u n)

  abbrev lw : ℕ
  lw = words_for (m * low_len u n)

  abbrev ws : List ℕ
  ws = bits_in i

  abbrev pub T : List ℕ
  T = times_in u n m ws

  long : zeros_in i ≤ length i
  long = let l = head.complete.long in omega arith

  length_ws : length ws ≡ hw + lw
  length_ws = length-take-le (hw + lw) (drop 6 i) (let l = length-drop 6 i in let z = long in omega arith)

  abbrev high : List ℕ
  high = take hw ws

  abbrev low : List ℕ
  low = drop hw ws

  length_high' : length high ≡ hw
  length_high' = length-take-le hw ws (let l = length_ws in omega arith)

  length_low : length low ≡ lw
  length_low = length-drop hw ws ∙ (let l = length_ws in omega arith)

  split : high ++ low ≡ ws
  split = take-append-drop hw ws

  held : (rising u 0 (times_in u n m (high ++ low)) ≡ true) × (high ++ low ≡ bit_words u n (length low) (times_in u n m (high ++ low)))
  held = fit_held u n m high low length_high' (ap (holds u n m) split ∙ bits)

  pub rises : rising u 0 T ≡ true
  rises = sym (ap (λ (w : List ℕ). rising u 0 (times_in u n m w)) split) ∙ held.0

  pub is_bits : ws ≡ bit_words u n lw T
  is_bits = sym split ∙ held.1 ∙ ap₂ (λ (k : ℕ) (w : List ℕ). bit_words u n k (times_in u n m w)) length_low split

  pub length_T : length T ≡ m
  length_T = sym (ap (λ (w : List ℕ). length (times_in u n m w)) split) ∙ length_held u n m high low length_high'

  pub few : length T ≤ n
  few = let h = head.counts.few in let e = length_T in omega arith

  -- the high words
  pub high_is : high_in i ≡ high_words u n T
  unfolding bit_words
  high_is =
      sym (take-take hw (hw + lw) (drop 6 i) (omega arith)) ∙ ap (take hw) is_bits
      ∙ take_at (high_words u n T) (number_words lw (low_number (low_len u n) T)) hw (length_high u n T)

  module _ (indexed : Indexes i) where
    abbrev ones : List ℕ
    ones = index_words (high_positions u n true T)

    abbrev zeros : List ℕ
    zeros = cond c (index_words (high_positions u n false T)) []

    ones_is : take (zeros_in i - ones_in i) (drop (ones_in i) i) ≡ ones
    ones_is = indexed.ones ∙ ap (λ (h : List ℕ). index_words (positions true h (high_len u n))) high_is

    zeros_is : drop (zeros_in i) i ≡ zeros
    zeros_is = indexed.zeros ∙ ap (λ (h : List ℕ). cond c (index_words (positions false h (high_len u n))) []) high_is

    tail_is : drop (hw + lw) (drop 6 i) ≡ ones ++ zeros
    tail_is =
        drop-drop (hw + lw) 6 i ∙ ap (λ (k : ℕ). drop k i) (let e : 6 + (hw + lw) ≡ ones_in i = omega arith in e)
        ∙ sym (take-append-drop (zeros_in i - ones_in i) (drop (ones_in i) i))
        ∙ ap₂ (λ (a b : List ℕ). a ++ b) ones_is (drop-drop (zeros_in i - ones_in i) (ones_in i) i ∙ ap (λ (k : ℕ). drop k i) (let e : ones_in i + (zeros_in i - ones_in i) ≡ zeros_in i = omega arith in e) ∙ zeros_is)

    body_is : drop 6 i ≡ bit_words u n lw T ++ (ones ++ zeros)
    body_is = sym (take-append-drop (hw + lw) (drop 6 i)) ∙ ap₂ (λ (a b : List ℕ). a ++ b) is_bits tail_is

    times_is : times i ≡ T
    unfolding times
    times_is =
        ap (times_in u n m) body_is ∙ ap (λ (k : ℕ). times_in u n k (bit_words u n lw T ++ (ones ++ zeros))) (sym length_T)
        ∙ times_of u n T rises few lw (ones ++ zeros) (let e = ap (λ (k : ℕ). words_for (k * low_len u n)) length_T in omega arith)

    -- the header's counts
    length-ones : length ones ≡ index_len m (get_or i 4 0)
    length-ones =
        sym (ap length ones_is) ∙ length-take-le (zeros_in i - ones_in i) (drop (ones_in i) i) (let l = length-drop (ones_in i) i in let z = long in omega arith) ∙ omega arith

    fourth : get_or i 4 0 ≡ spilled (high_positions u n true T)
    fourth = over_is m (length (high_positions u n true T)) (get_or i 4 0) (spilled (high_positions u n true T)) (length ones) length-ones (index_length (high_positions u n true T)) (sym (ones_many u n T rises few ∙ length_T))

    length-zeros : length (drop (zeros_in i) i) ≡ cond c (index_len (high_of i - m) (get_or i 5 0)) 0
    length-zeros = length-drop (zeros_in i) i ∙ (let l = head.complete.long in omega arith)

    fifth_by : (b : Bool) → (b ≡ false → get_or i 5 0 ≡ 0) → length (cond b (index_words (high_positions u n false T)) []) ≡ cond b (index_len (high_of i - m) (get_or i 5 0)) 0 → get_or i 5 0 ≡ cond b (spilled (high_positions u n false T)) 0
    fifth_by true z e =
        over_is (high_of i - m) (length (high_positions u n false T)) (get_or i 5 0) (spilled (high_positions u n false T)) (length (index_words (high_positions u n false T))) e (index_length (high_positions u n false T))
        (sym (zeros_many u n T rises few ∙ ap (λ (k : ℕ). high_len u n - k) length_T))
    fifth_by false z e = z refl

    fifth : get_or i 5 0 ≡ cond c (spilled (high_positions u n false T)) 0
    fifth = fifth_by c head.complete.none (sym (ap length zeros_is) ∙ length-zeros)

    header_is : take 6 i ≡ u ∷ n ∷ length T ∷ flag c ∷ spilled (high_positions u n true T) ∷ cond c (spilled (high_positions u n false T)) 0 ∷ []
    header_is =
        six_of i head.six
        ∙ (λ x. u ∷ n ∷ sym length_T x ∷ flag_eqb (get_or i 3 0) head.counts.choice c refl x ∷ fourth x ∷ fifth x ∷ [])

    image_is : i ≡ image u n c T
    unfolding image bit_words low_words
    image_is =
        let low : List ℕ = number_words lw (low_number (low_len u n) T) in
        sym (take-append-drop 6 i) ∙ ap₂ (λ (a b : List ℕ). a ++ b) header_is (body_is ∙ append_assoc (high_words u n T) low (ones ++ zeros))
        ∙ ap (λ (k : ℕ). (u ∷ n ∷ length T ∷ flag c ∷ spilled (high_positions u n true T) ∷ cond c (spilled (high_positions u n false T)) 0 ∷ []) ++ (high_words u n T ++ (number_words (words_for (k * low_len u n)) (low_number (low_len u n) T) ++ (ones ++ zeros)))) (sym length_T)

    accepts : Fit i → accepted i ≡ true
    unfolding accepted
    accepts fits =
        ap (λ (S : List ℕ). fit u n S && same i (image u n c S)) times_is
        ∙ true_and (fit u n T) (same i (image u n c T)) (of_fits u n T (record { small = fits 0; some = head.counts.some; most = head.counts.most; few = few; rises = rises }))
        (ap (same i) (sym image_is) ∙ same_refl i)

-- ---- without a repeat, where that is asked for

module _ (i : List ℕ) (strict : Bool) where
  abbrev bits_hold : Bool
  bits_hold = holds_if (universe i) (declared i) strict (pushed i) (bits_in i)

  abbrev apart : Bool
  apart = unrepeated_if strict (times_in (universe i) (declared i) (pushed i) (bits_in i))

  abbrev bits : Bool
  bits = holds (universe i) (declared i) (pushed i) (bits_in i)

  pub accepted_of : accepted_if strict i ≡ true → accepted i ≡ true
  accepted_of a = (and_true (unrepeated_if strict (times i)) (accepted i) a).1

  pub holds-accepted : accepted_if strict i ≡ true → bits_hold ≡ true
  holds-accepted a =
      let b = and_true (unrepeated_if strict (times i)) (accepted i) a in
      let f = found i b.1 in
      true_and apart bits (sym (ap (unrepeated_if strict) (times_is i f.head f.bits f.indexed)) ∙ b.0) f.bits

  pub bits_of : bits_hold ≡ true → bits ≡ true
  bits_of h = (and_true apart bits h).1

  pub accepts_if : Headed i → bits_hold ≡ true → Indexes i → Fit i → accepted_if strict i ≡ true
  accepts_if head h indexed fits =
      let b = and_true apart bits h in
      true_and (unrepeated_if strict (times i)) (accepted i) (ap (unrepeated_if strict) (times_is i head b.1 indexed) ∙ b.0) (accepts i head b.1 indexed fits)

-- the high words have no padding
pub valid_part : (i : List ℕ) → Headed i → holds (universe i) (declared i) (pushed i) (bits_in i) ≡ true → invalid (high_in i) (high_of i) ≡ false
valid_part i h b = ap (λ (w : List ℕ). invalid w (high_of i)) (high_is i h b) ∙ valid_high (universe i) (declared i) (times_in (universe i) (declared i) (pushed i) (bits_in i)) (rises i h b) (few i h b)

-- as many ones stand in them as times were pushed
pub ones_in_lem : (i : List ℕ) → Headed i → holds (universe i) (declared i) (pushed i) (bits_in i) ≡ true → pushed i ≡ count (bit_over true (high_in i)) (high_of i)
ones_in_lem i h b =
    let T : List ℕ = times_in (universe i) (declared i) (pushed i) (bits_in i) in
    sym (ap (λ (w : List ℕ). count (bit_over true w) (high_of i)) (high_is i h b) ∙ ones_are (high_words (universe i) (declared i) T) (high_of i) ∙ count_high (universe i) (declared i) T (rises i h b) (few i h b) ∙ length_T i h b)

-- and all other bits are zeros
pub zeros_in_lem : (i : List ℕ) → Headed i → holds (universe i) (declared i) (pushed i) (bits_in i) ≡ true → high_of i - pushed i ≡ count (bit_over false (high_in i)) (high_of i)
zeros_in_lem i h b = omega (arith, ones_in_lem i h b, all_bits (high_in i) (high_of i))
