-- Words hold nothing but times in order exactly where their high ones and low bits are in order: `holds` as the facts of `Ordered`.
-- Assumes nothing.
use Rattle.std.specs.Prelude.{Some, Option, unwrap_or}
use mathlib.Core.Path.{◌≡◌, refl, sym, ap, ap₂, ◌∙◌, subst, subst⁻¹}
use mathlib.Core.List.{List, [], ◌++◌, append-nil}
use mathlib.Core.Bool.{Bool, true}
use mathlib.Core.Logic.{⊎_elim}
use Prim.Native.Nat.{ℕ, suc, ◌+◌, ◌-◌, ◌*◌, ◌/◌, ◌%◌, ◌^◌, ◌≤◌, ◌<◌}
use native.Mathlib.Nat.{le_trans, le_of_eq, lt_of_not-le, lt_of_lt_of_le, mul-one, mul-le-mul_right, div-add-mod', mod-lt, div-lt_iff_lt-mul, eq-or-lt_of_le}
use native.Mathlib.Numerals.{add-one}
use native.Mathlib.Decide.{dec_lt}
use native.Mathlib.Omega.{arith}
use lib.Arith.{digits_div, digits_mod}
use lib.ListN.{length, get_or, take, drop, length-append}
use lib.Seq.{take_at, drop_at}
use Rattle.broadword.specs.Bits.{bit, count}
use Rattle.broadword.specs.Fields.{flag, digit}
use Rattle.broadword.specs.Places.{select}
use Rattle.broadword.proofs.Count.{bit-digit, count_le}
use Rattle.broadword.proofs.Fields.{digit_is, digit-word, word_lt}
use Rattle.broadword.proofs.Find.{Selected, select_at}
use Rattle.bit_words.specs.Vector.{bit_at, words_for, number_words}
use Rattle.bit_words.proofs.Runs.{Fit, bit-digit_1, bit_at_le}
use Rattle.bit_words.proofs.Overwrite.{length-number_words, fit-number_words, bit_at-number}
use Rattle.darray_positions.specs.Index.{table}
use Rattle.darray_positions.specs.Positions.{places}
use Rattle.darray.specs.Queries.{same}
use Rattle.darray.proofs.Matching.{same_refl, same_true}
use Rattle.darray_positions.proofs.Index.{length-table, get_d_table}
use Rattle.darray_positions.proofs.Positions.{place_has, place_select, place_rises}
use Rattle.elias_fano_words.specs.Sizes.{low_len, high_len}
use Rattle.elias_fano_words.specs.Image.{high_from, low_number, high_words}
use Rattle.elias_fano_words.specs.Times.{rising, unrepeated_if, bit_words, time_in, times_in, holds, holds_if}
use Rattle.elias_fano_words.specs.Checks.{low_bits, InOrder}
use Rattle.elias_fano_words.proofs.Ordering.{Ordered}
use Rattle.elias_fano_words.proofs.Rising.{rising_lt, rising_pairs, steps_of, steps_table}
use Rattle.broadword.proofs.Truth.{and_true, true_and, flag_le}
use Rattle.elias_fano_words.proofs.Encode.{low_lt}
use Rattle.elias_fano_words.proofs.Ones.{place_of}
use Rattle.elias_fano_words.proofs.Decode.{clear-number, low_number_lem, low_words_lem, select_high, count_high, clear_high, length_high, length-words, time_of, times_of}
use Rattle.elias_fano_words.proofs.Bitwise.{count_suc, count-one, same_run, same_bits, fit-left, fit_right}

-- ---- the words of times in order are in order

-- of two numbers with the same high bits the greater has the greater low bits, by as much
low_le : (P a b d : ℕ) → a + d ≤ b → a / P ≡ b / P → a % P + d ≤ b % P
low_le P a b d h e =
    let x = div-add-mod' a P in
    let y = div-add-mod' b P in
    let q : a / P * P ≡ b / P * P = ap (λ (z : ℕ). z * P) e in
    omega arith

module _ (strict : Bool) (u n : ℕ) (T : List ℕ) (r : rising u 0 T ≡ true) (apart : unrepeated_if strict T ≡ true) (few : length T ≤ n) (k : ℕ) (room : words_for (length T * low_len u n) ≤ k) where
  abbrev l : ℕ
  l = low_len u n

  abbrev f : ℕ → ℕ
  f = bit_at (high_words u n T)

  abbrev lows : List ℕ
  lows = number_words k (low_number l T)

  low_is : (j : ℕ) → j < length T → low_bits l lows j ≡ get_or T j 0 % 2 ^ l
  low_is j h = ap (λ (R : List ℕ). low_bits l R j) (sym (append-nil lows)) ∙ low_words_lem l T k [] j room h

  -- a one is that of a time
  within : (i : ℕ) → f i ≡ 1 → i < high_len u n
  within i e = lt_of_not-le (λ (g : high_len u n ≤ i). omega (arith, clear_high u n T r few i g))

  numbered : (i : ℕ) → f i ≡ 1 → count f i < length T
  numbered i e = lt_of_lt_of_le (count-one f i (high_len u n) e (within i e)) (le_of_eq (count_high u n T r few))

  placed : (i : ℕ) → f i ≡ 1 → place_of l T (count f i) ≡ i
  placed i e =
      let a = select_high u n T r few (count f i) (numbered i e) in
      let b = select_at f (high_len u n) (count f i) i (within i e) e refl in
      cc

  in_order : InOrder strict l (high_words u n T) lows
  in_order i a b =
      let c : ℕ = count f i in
      let s : count f (suc i) ≡ suc c = (let q = count_suc f i in omega arith) in
      let m : suc c < length T = subst (λ (j : ℕ). j < length T) s (numbered (suc i) b) in
      let p : get_or T c 0 / 2 ^ l + c ≡ i = placed i a in
      let q : get_or T (suc c) 0 / 2 ^ l + suc c ≡ suc i = ap (place_of l T) (sym s) ∙ placed (suc i) b in
      let t = low_le (2 ^ l) (get_or T c 0) (get_or T (suc c) 0) (flag strict) (steps_of strict u T r apart c m) (omega arith) in
      omega (arith, low_is c (numbered i a), low_is (suc c) m)

  ordered_of : Ordered strict u n (length T) (high_words u n T) lows
  ordered_of = record {
    high_clear = clear_high u n T r few;
    ones = count_high u n T r few;
    low_clear = clear-number k (low_number l T) (length T * l) (low_lt l T);
    order = in_order;
    below = λ h.
        let j : ℕ = length T - 1 in
        let g : j < length T = omega arith in
        subst⁻¹ (λ (y : ℕ). y < u)
        (ap (λ (R : List ℕ). time_in u n (high_words u n T) R j) (sym (append-nil lows)) ∙ time_of u n T r few k [] room j g)
        (rising_lt u T j r g);
  }

-- ---- the times of words in order

-- the low bits of a time are below 2 ^ l
pub low_bits_lt : (l : ℕ) (low : List ℕ) (k : ℕ) → low_bits l low k < 2 ^ l
low_bits_lt l low k =
    subst (λ (e : ℕ). low_bits l low k < 2 ^ e) (mul-one l) (word_lt 1 (λ i. bit_at low (k * l + i)) l (λ i _. omega (arith, bit_at_le low (k * l + i))))

-- a bit of them
low_bits_bit : (l : ℕ) (low : List ℕ) (k s : ℕ) → s < l → bit (low_bits l low k) s ≡ bit_at low (k * l + s)
low_bits_bit l low k s h =
    sym (bit-digit_1 (low_bits l low k) s) ∙ digit-word 1 (λ i. bit_at low (k * l + i)) l (λ i _. omega (arith, bit_at_le low (k * l + i))) s h

-- the numbers grow with their high bits, and where these are the same with their low bits, by d, at most 1
grows : (P a b x y d : ℕ) → d ≤ 1 → x < P → a ≤ b → (a ≡ b → x + d ≤ y) → a * P + x + d ≤ b * P + y
grows P a b x y d one hx h e =
    ⊎_elim
    (λ (q : a ≡ b). let s : a * P ≡ b * P = ap (λ (z : ℕ). z * P) q in let t = e q in omega arith)
    (λ (g : a < b). let s : suc a * P ≤ b * P = mul-le-mul_right P g in omega arith)
    (eq-or-lt_of_le h)

module _ (strict : Bool) (u n m : ℕ) (high low : List ℕ) (few : m ≤ n) (o : Ordered strict u n m high low) where
  abbrev w : ℕ
  w = low_len u n

  abbrev H : ℕ
  H = high_len u n

  abbrev ones : ℕ → ℕ
  ones = bit_at high

  -- the place of the one with the number k
  abbrev place : ℕ → ℕ
  place k = get_or (places ones H) k 0

  abbrev time : ℕ → ℕ
  time = time_in u n high low

  abbrev times : List ℕ
  times = table time m

  counted : (k : ℕ) → k < m → k < count ones H
  counted k h = lt_of_lt_of_le h (le_of_eq (sym o.ones))

  has : (k : ℕ) → k < m → Selected ones H k (place k)
  has k h = place_has ones (bit_at_le high) H k (counted k h)

  place_ge : (k : ℕ) → k < m → k ≤ place k
  place_ge k h = le_trans (le_of_eq (sym (has k h).before)) (count_le ones (place k) (bit_at_le high))

  pub select_is : (k : ℕ) → k < m → select ones H k ≡ Some (place k)
  select_is k h = place_select ones (bit_at_le high) H k (counted k h)

  pub time_is : (k : ℕ) → k < m → time k ≡ (place k - k) * 2 ^ w + low_bits w low k
  unfolding time_in
  time_is k h = ap (λ (a : Option ℕ). (unwrap_or a 0 - k) * 2 ^ w + low_bits w low k) (select_is k h)

  time_high : (k : ℕ) → k < m → time k / 2 ^ w ≡ place k - k
  time_high k h = ap (λ (x : ℕ). x / 2 ^ w) (time_is k h) ∙ digits_div (place k - k) (low_bits_lt w low k)

  time_low : (k : ℕ) → k < m → time k % 2 ^ w ≡ low_bits w low k
  time_low k h = ap (λ (x : ℕ). x % 2 ^ w) (time_is k h) ∙ digits_mod (place k - k) (low_bits_lt w low k)

  climbs : (k : ℕ) → suc k < m → time k + flag strict ≤ time (suc k)
  climbs k h =
      let a : k < m = omega arith in
      let p = place_rises ones (bit_at_le high) H k (suc k) (omega arith) (counted (suc k) h) in
      let x = place_ge k a in
      let y = place_ge (suc k) h in
      let g =
      grows (2 ^ w) (place k - k) (place (suc k) - suc k) (low_bits w low k) (low_bits w low (suc k)) (flag strict) (flag_le strict) (low_bits_lt w low k) (omega arith) (λ e.
      let q : place (suc k) ≡ suc (place k) = omega arith in
      subst (λ (c : ℕ). low_bits w low c + flag strict ≤ low_bits w low (suc c)) (has k a).before
      (o.order (place k) (has k a).one (ap ones (sym q) ∙ (has (suc k) h).one))) in
      omega (arith, time_is k a, time_is (suc k) h)

  pub times_rise : rising u 0 times ≡ true
  times_rise = rising_pairs u time m (λ k h. rw (add-one k) (let c = climbs k (omega arith) in let q : time k ≤ time (suc k) = omega arith in q)) o.below

  apart_times : unrepeated_if strict times ≡ true
  apart_times = steps_table strict time m climbs

  length-times : length times ≡ m
  length-times = length-table time m

  few_times : length times ≤ n
  few_times = le_trans (le_of_eq length-times) few

  in_times : (k : ℕ) → k < m → k < length times
  in_times k h = lt_of_lt_of_le h (le_of_eq (sym length-times))

  place_time : (k : ℕ) → k < m → place_of w times k ≡ place k
  place_time k h =
      ap (λ (x : ℕ). x / 2 ^ w + k) (get_d_table time m k h) ∙ (let a = time_high k h in let b = place_ge k h in omega arith)

  -- ---- their words are those words

  high_bits : (i : ℕ) → Dec (i < H) → ones i ≡ bit_at (high_words u n times) i
  high_bits i (yes h) =
      same_run ones (bit_at (high_words u n times)) (bit_at_le high) (bit_at_le (high_words u n times)) H
      (o.ones ∙ sym length-times ∙ sym (count_high u n times times_rise few_times))
      (λ k g.
      let q : k < m = lt_of_lt_of_le g (le_of_eq o.ones) in
      select_is k q ∙ ap Some (sym (place_time k q)) ∙ sym (select_high u n times times_rise few_times k (in_times k q)))
      i h
  high_bits i (no g) =
      let h : H ≤ i = (let q = lt_of_not-le g in omega arith) in
      o.high_clear i h ∙ sym (clear_high u n times times_rise few_times i h)

  module _ (fit : Fit high) (size : length high ≡ words_for H) where
    high_same : high ≡ high_words u n times
    unfolding high_words
    high_same =
        same_bits high (high_words u n times) fit (fit-number_words (words_for H) (high_from w 0 times))
        (size ∙ sym (length_high u n times))
        (λ i. high_bits i (dec_lt i H))

  module _ (fit : Fit low) (room : words_for (m * w) ≤ length low) where
    abbrev v : ℕ
    v = low_number w times

    v_lt : v < 2 ^ (m * w)
    v_lt = subst (λ (k : ℕ). v < 2 ^ (k * w)) length-times (low_lt w times)

    digit_low : (j : ℕ) → j < m → digit w v j ≡ low_bits w low j
    digit_low j h =
        digit_is w v j ∙ low_number_lem w times j (in_times j h) ∙ ap (λ (x : ℕ). x % 2 ^ w) (get_d_table time m j h) ∙ time_low j h

    low_bits_lem : (i : ℕ) → Dec (i < m * w) → bit_at low i ≡ bit_at (number_words (length low) v) i
    low_bits_lem i (yes h) =
        let pos : 0 < w = lt_of_not-le (λ (g : w ≤ 0). let z : w ≡ 0 = omega arith in let q : m * w ≡ m * 0 = ap (λ (x : ℕ). m * x) z in omega arith) in
        let j : ℕ = i / w in
        let s : ℕ = i % w in
        let hs : s < w = mod-lt i pos in
        let hj : j < m = (div-lt_iff_lt-mul pos).1 h in
        let e : j * w + s ≡ i = div-add-mod' i w in
        ap (bit_at low) (sym e) ∙ sym (low_bits_bit w low j s hs) ∙ ap (λ (x : ℕ). bit x s) (sym (digit_low j hj)) ∙ bit-digit w v j s hs ∙ ap (bit v) e
        ∙ sym (bit_at-number (length low) v i (omega arith))
    low_bits_lem i (no g) =
        let h : m * w ≤ i = (let q = lt_of_not-le g in omega arith) in
        o.low_clear i h ∙ sym (clear-number (length low) v (m * w) v_lt i h)

    low_same : low ≡ number_words (length low) (low_number w times)
    low_same =
        same_bits low (number_words (length low) v) fit (fit-number_words (length low) v) (sym (length-number_words (length low) v))
        (λ i. low_bits_lem i (dec_lt i (m * w)))

-- ---- the test

module _ (u n m : ℕ) (high low : List ℕ) (size : length high ≡ words_for (high_len u n)) where
  abbrev ws : List ℕ
  ws = high ++ low

  pub times_are : times_in u n m ws ≡ table (time_in u n high low) m
  unfolding times_in
  times_are =
      ap₂ (λ (a b : List ℕ). table (time_in u n a b) m) (take_at high low (words_for (high_len u n)) size) (drop_at high low (words_for (high_len u n)) size)

  pub length_held : length (times_in u n m ws) ≡ m
  length_held = ap length times_are ∙ length-table (time_in u n high low) m

  rest_is : length ws - words_for (high_len u n) ≡ length low
  rest_is = let e = length-append high low in omega arith

  -- what words that pass it are
  pub fit_held : holds u n m ws ≡ true → (rising u 0 (times_in u n m ws) ≡ true) × (ws ≡ bit_words u n (length low) (times_in u n m ws))
  unfolding holds
  fit_held h =
      let T : List ℕ = times_in u n m ws in
      let W : List ℕ = bit_words u n (length ws - words_for (high_len u n)) T in
      let s = and_true (rising u 0 T) (same ws W) h in
      (s.0, same_true ws W s.1 ∙ ap (λ (k : ℕ). bit_words u n k T) rest_is)

  module _ (few : m ≤ n) (room : words_for (m * low_len u n) ≤ length low) (strict : Bool) where
    pub of_holds : holds_if u n strict m ws ≡ true → Ordered strict u n m high low
    unfolding bit_words
    of_holds a =
        let T : List ℕ = times_in u n m ws in
        let both = and_true (unrepeated_if strict T) (holds u n m ws) a in
        let r = (fit_held both.1).0 in
        let e = (fit_held both.1).1 in
        let k : length T ≤ n = le_trans (le_of_eq length_held) few in
        let W : ℕ = words_for (high_len u n) in
        let L : List ℕ = number_words (length low) (low_number (low_len u n) T) in
        let c : high ≡ high_words u n T = sym (take_at high low W size) ∙ ap (take W) e ∙ take_at (high_words u n T) L W (length_high u n T) in
        let b : low ≡ L = sym (drop_at high low W size) ∙ ap (drop W) e ∙ drop_at (high_words u n T) L W (length_high u n T) in
        let q : Ordered strict u n (length T) (high_words u n T) L =
        ordered_of strict u n T r both.0 k (length low) (subst⁻¹ (λ (j : ℕ). words_for (j * low_len u n) ≤ length low) length_held room) in
        subst (λ (j : ℕ). Ordered strict u n j high low) length_held
        (subst⁻¹ (λ (A : List ℕ). Ordered strict u n (length T) A low) c (subst⁻¹ (Ordered strict u n (length T) (high_words u n T)) b q))

    pub holds_of : Fit ws → Ordered strict u n m high low → holds_if u n strict m ws ≡ true
    unfolding holds bit_words
    holds_of fit o =
        let T : List ℕ = table (time_in u n high low) m in
        let e : ws ≡ bit_words u n (length low) T =
        ap₂ (λ (a b : List ℕ). a ++ b) (high_same strict u n m high low few o (fit-left high low fit) size) (low_same strict u n m high low few o (fit_right high low fit) room) in
        true_and (unrepeated_if strict (times_in u n m ws)) (holds u n m ws) (ap (unrepeated_if strict) times_are ∙ apart_times strict u n m high low few o)
        (true_and (rising u 0 (times_in u n m ws)) (same ws (bit_words u n (length ws - words_for (high_len u n)) (times_in u n m ws)))
        (ap (rising u 0) times_are ∙ times_rise strict u n m high low few o)
        (ap₂ (λ (k : ℕ) (S : List ℕ). same ws (bit_words u n k S)) rest_is times_are ∙ ap (same ws) (sym e) ∙ same_refl ws))

-- the words of times in order pass it
pub holds-words : (u n : ℕ) (T : List ℕ) → rising u 0 T ≡ true → length T ≤ n → (k : ℕ) → words_for (length T * low_len u n) ≤ k → holds u n (length T) (bit_words u n k T) ≡ true
unfolding holds
holds-words u n T r few k room =
    let W : List ℕ = bit_words u n k T in
    let e : times_in u n (length T) W ≡ T = ap (times_in u n (length T)) (sym (append-nil W)) ∙ times_of u n T r few k [] room in
    let d : length W - words_for (high_len u n) ≡ k = (let c = length-words u n T k in omega arith) in
    true_and (rising u 0 (times_in u n (length T) W)) (same W (bit_words u n (length W - words_for (high_len u n)) (times_in u n (length T) W)))
    (ap (rising u 0) e ∙ r)
    (ap₂ (λ (j : ℕ) (S : List ℕ). same W (bit_words u n j S)) d e ∙ same_refl W)
