-- The words of times in order hold those times: the high words have their ones, the low words their low bits, and nothing else.
-- Assumes nothing.
use Rattle.std.specs.Prelude.{Some, Option, unwrap_or}
use mathlib.Core.Path.{◌≡◌, sym, ap, ap₂, ◌∙◌, subst⁻¹}
use mathlib.Core.List.{List, ◌++◌, append_assoc}
use mathlib.Core.Bool.{true}
use Prim.Native.Nat.{ℕ, suc, ◌+◌, ◌-◌, ◌*◌, ◌/◌, ◌%◌, ◌^◌, ◌≤◌, ◌<◌, zero-le}
use native.Mathlib.Nat.{le_refl, le_of_lt, lt_of_lt_of_le, lt_of_not-le, mul-le-mul_right, mod-lt}
use native.Mathlib.Decide.{dec_lt}
use native.Mathlib.Omega.{arith}
use lib.ListN.{length, get_or, take, drop, length-append, get_or-append}
use lib.Seq.{ext_get_or, take_at, drop_at}
use lib.Pow.{pow_pos, pow_mono, shr_mono, split}
use Rattle.broadword.specs.Bits.{bit, count}
use Rattle.broadword.specs.Fields.{word}
use Rattle.broadword.specs.Places.{select}
use Rattle.broadword.proofs.Count.{bit-above, count_same}
use Rattle.broadword.proofs.Fields.{digit_is, digit-word, word_same}
use Rattle.broadword.proofs.Find.{select_at}
use Rattle.bit_words.specs.Vector.{bit_at, words_for, number_words}
use Rattle.bit_words.proofs.Runs.{get_d_past}
use Rattle.bit_words.proofs.Windows.{number_bits}
use Rattle.bit_words.proofs.Overwrite.{length-number_words, bit_at-number}
use Rattle.darray_positions.proofs.Index.{length-table, get_d_table}
use Rattle.elias_fano_words.specs.Sizes.{low_len, high_len}
use Rattle.elias_fano_words.specs.Image.{high_from, low_number, high_words}
use Rattle.elias_fano_words.specs.Times.{rising, last_of, bit_words, time_in, times_in}
use Rattle.elias_fano_words.specs.Checks.{low_bits, Clear}
use Rattle.elias_fano_words.proofs.Rising.{rising_induction, rising_lt, last_of_snoc}
use Rattle.elias_fano_words.proofs.Encode.{high_lt}
use Rattle.elias_fano_words.proofs.Ones.{place_of, ones_of_lem}

-- ---- bits of words

-- no bits past the words
pub bit_at-past : (ws : List ℕ) (i : ℕ) → length ws * 64 ≤ i → bit_at ws i ≡ 0
unfolding bit_at
bit_at-past ws i h = ap (λ (w : ℕ). bit w (i % 64)) (get_d_past ws (i / 64) (omega arith)) ∙ bit-above 0 (i % 64) (pow_pos (i % 64))

-- words after them
bit_at-append : (A B : List ℕ) (i : ℕ) → i < length A * 64 → bit_at (A ++ B) i ≡ bit_at A i
unfolding bit_at
bit_at-append A B i h = ap (λ (w : ℕ). bit w (i % 64)) (get_or-append A B 0 (i / 64) (omega arith))

-- the words of a number have no bits but its own
pub clear-number : (k v p : ℕ) → v < 2 ^ p → Clear (number_words k v) p
clear-number k v p h i g = go (dec_lt i (k * 64))
  where
    go : Dec (i < k * 64) → bit_at (number_words k v) i ≡ 0
    go (yes l) = bit_at-number k v i l ∙ bit-above v i (lt_of_lt_of_le h (pow_mono g))
    go (no m) = bit_at-past (number_words k v) i (let e = length-number_words k v in let r = lt_of_not-le m in omega arith)

-- the low bits of the time with the number j
pub low_number_lem : (l : ℕ) (T : List ℕ) (j : ℕ) → j < length T → low_number l T / 2 ^ (j * l) % 2 ^ l ≡ get_or T j 0 % 2 ^ l
unfolding low_number
low_number_lem l T j h =
    let f : ℕ → ℕ = λ k. get_or T k 0 % 2 ^ l in
    sym (digit_is l (word l f (length T)) j) ∙ digit-word l f (length T) (λ i _. mod-lt (get_or T i 0) (pow_pos l)) j h

-- in words that hold them
pub low_words_lem : (l : ℕ) (T : List ℕ) (k : ℕ) (R : List ℕ) (j : ℕ) → words_for (length T * l) ≤ k → j < length T → low_bits l (number_words k (low_number l T) ++ R) j ≡ get_or T j 0 % 2 ^ l
low_words_lem l T k R j room h =
    let v : ℕ = low_number l T in
    let W : List ℕ = number_words k v in
    word_same 1 (λ i. bit_at (W ++ R) (j * l + i)) (λ i. bit v (j * l + i)) l (λ i g.
    let m : suc j * l ≤ length T * l = mul-le-mul_right l h in
    let b : j * l + i < k * 64 = omega arith in
    let n = length-number_words k v in
    bit_at-append W R (j * l + i) (omega arith) ∙ bit_at-number k v (j * l + i) b)
    ∙ number_bits v (j * l) l ∙ low_number_lem l T j h

-- ---- the words of times in order

module _ (u : ℕ) where
  pub last_le : (T : List ℕ) → rising u 0 T ≡ true → last_of T ≤ u
  last_le = rising_induction u (λ T. last_of T ≤ u) zero-le (λ T t p r a b. subst⁻¹ (λ (x : ℕ). x ≤ u) (last_of_snoc T t) (le_of_lt b))

pub length_high : (u n : ℕ) (T : List ℕ) → length (high_words u n T) ≡ words_for (high_len u n)
unfolding high_words
length_high u n T = length-number_words (words_for (high_len u n)) (high_from (low_len u n) 0 T)

pub length-words : (u n : ℕ) (T : List ℕ) (k : ℕ) → length (bit_words u n k T) ≡ words_for (high_len u n) + k
unfolding bit_words
length-words u n T k =
    length-append (high_words u n T) (number_words k (low_number (low_len u n) T))
    ∙ ap₂ (λ (x y : ℕ). x + y) (length_high u n T) (length-number_words k (low_number (low_len u n) T))

module _ (u n : ℕ) (T : List ℕ) (r : rising u 0 T ≡ true) (few : length T ≤ n) where
  abbrev l : ℕ
  l = low_len u n

  abbrev h : ℕ
  h = high_from l 0 T

  -- the places of all ones are high bits
  pub place_lt : (k : ℕ) → k < length T → place_of l T k < high_len u n
  unfolding high_len
  place_lt k g = let m = shr_mono l (le_of_lt (rising_lt u T k r g)) in omega arith

  pub end_le : last_of T / 2 ^ l + length T ≤ high_len u n
  unfolding high_len
  end_le = let m = shr_mono l (last_le u T r) in omega arith

  high_bit : (i : ℕ) → i < high_len u n → bit_at (high_words u n T) i ≡ bit h i
  unfolding high_words
  high_bit i g = bit_at-number (words_for (high_len u n)) h i (omega arith)

  high_count : (i : ℕ) → i ≤ high_len u n → count (bit_at (high_words u n T)) i ≡ count (bit h) i
  high_count i g = count_same (bit_at (high_words u n T)) (bit h) i (λ j m. high_bit j (lt_of_lt_of_le m g))

  pub select_high : (k : ℕ) → k < length T → select (bit_at (high_words u n T)) (high_len u n) k ≡ Some (place_of l T k)
  select_high k g =
      let p = place_lt k g in
      let o = ones_of_lem l u T r in
      select_at (bit_at (high_words u n T)) (high_len u n) k (place_of l T k) p (high_bit (place_of l T k) p ∙ o.one k g) (high_count (place_of l T k) (le_of_lt p) ∙ o.before k g)

  pub count_high : count (bit_at (high_words u n T)) (high_len u n) ≡ length T
  count_high = high_count (high_len u n) (le_refl (high_len u n)) ∙ (ones_of_lem l u T r).all (high_len u n) end_le

  pub clear_high : Clear (high_words u n T) (high_len u n)
  unfolding high_words
  clear_high = clear-number (words_for (high_len u n)) h (high_len u n) (lt_of_lt_of_le (high_lt l u T r) (pow_mono end_le))

  module _ (k : ℕ) (R : List ℕ) (room : words_for (length T * l) ≤ k) where
    abbrev low : List ℕ
    low = number_words k (low_number l T) ++ R

    pub time_of : (j : ℕ) → j < length T → time_in u n (high_words u n T) low j ≡ get_or T j 0
    unfolding time_in
    time_of j g =
        let d : (x : ℕ) → x + j - j ≡ x = λ x. omega arith in
        ap₂ (λ (a : Option ℕ) (b : ℕ). (unwrap_or a 0 - j) * 2 ^ l + b) (select_high j g) (low_words_lem l T k R j room g)
        ∙ ap (λ (x : ℕ). x * 2 ^ l + get_or T j 0 % 2 ^ l) (d (get_or T j 0 / 2 ^ l)) ∙ split (get_or T j 0) l

    words_are : bit_words u n k T ++ R ≡ high_words u n T ++ low
    unfolding bit_words
    words_are = append_assoc (high_words u n T) (number_words k (low_number l T)) R

    pub high_of_lem : take (words_for (high_len u n)) (bit_words u n k T ++ R) ≡ high_words u n T
    high_of_lem = ap (take (words_for (high_len u n))) words_are ∙ take_at (high_words u n T) low (words_for (high_len u n)) (length_high u n T)

    pub low_of : drop (words_for (high_len u n)) (bit_words u n k T ++ R) ≡ low
    low_of = ap (drop (words_for (high_len u n))) words_are ∙ drop_at (high_words u n T) low (words_for (high_len u n)) (length_high u n T)

    pub times_of : times_in u n (length T) (bit_words u n k T ++ R) ≡ T
    unfolding times_in
    times_of =
        let f : ℕ → ℕ = time_in u n (take (words_for (high_len u n)) (bit_words u n k T ++ R)) (drop (words_for (high_len u n)) (bit_words u n k T ++ R)) in
        let e = length-table f (length T) in
        ext_get_or 0 (times_in u n (length T) (bit_words u n k T ++ R)) T e (λ j g.
        let m : j < length T = omega arith in
        get_d_table f (length T) j m
        ∙ ap₂ (λ (a b : List ℕ). time_in u n a b j) high_of_lem low_of ∙ time_of j m)
