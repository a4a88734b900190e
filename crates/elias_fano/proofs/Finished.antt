-- A record that is finished: the words lent hold the bits of its image, and with the header and the indexes written they are its image.
-- Assumes nothing.
use mathlib.Core.Path.{◌≡◌, refl, sym, ap, ap₂, ◌∙◌, subst, subst⁻¹}
use mathlib.Core.List.{List, [], ◌∷◌, ◌++◌, append_assoc}
use mathlib.Core.Bool.{Bool, true, false, cond}
use Prim.Native.Nat.{ℕ, zero, suc, ◌+◌, ◌-◌, ◌*◌, ◌/◌, ◌%◌, ◌^◌, ◌≤◌, ◌<◌}
use native.Mathlib.Nat.{le_refl, le_trans, le_of_eq, mul-le-mul, not-suc-le-zero, le_of_suc-le-suc}
use native.Mathlib.Omega.{arith}
use borrow.Author.Tests.{le-leb}
use lib.Dec.{leb}
use mir.Syntax.{w64}
use mir.Val.{Fits}
use lib.ListN.{length, take, drop, length-append, length-drop, take-append-drop}
use lib.Seq.{length-take-le, take-take, take-add, take_at, drop_at, drop-drop}
use Rattle.broadword.specs.Fields.{flag}
use Rattle.bit_words.specs.Vector.{words_for, number_words, invalid}
use Rattle.darray_positions.specs.Index.{blocks, lanes, lane_words, before, overflow, table, index_words}
use Rattle.darray_positions.specs.Positions.{positions}
use Rattle.darray_positions.proofs.Index.{length-overflow}
use Rattle.darray_positions.proofs.Overflow.{overflow_most}
use Rattle.darray.specs.Sizes.{sizes_by, Writable}
use Rattle.darray.proofs.Within.{part_same}
use Rattle.elias_fano_words.specs.Sizes.{low_len, high_len, low_at, start_len, sizes_of, index_len, image_len, limit}
use Rattle.elias_fano_words.specs.Image.{low_number, spilled, high_words, low_words, high_positions, image}
use Rattle.elias_fano_words.specs.Times.{rising, bit_words, times_in, holds}
use Rattle.elias_fano_words.specs.declared.sizes.Sizes.{Sizes}
use Rattle.elias_fano_words.proofs.Decode.{length_high}
use Rattle.elias_fano_words.proofs.Holds.{fit_held, length_held}
use Rattle.elias_fano_words.proofs.Lengths as lengths
use Rattle.elias_fano_words.proofs.Limit as limit-law
use Rattle.elias_fano_words.proofs.Valid.{valid_high}
use Rattle.broadword.proofs.Truth.{and_true}
use Rattle.elias_fano.specs.Finishing.{Measurable, zeros_words, Holding}
use Rattle.elias_fano.specs.Steps.{held_words, held_times, intact, image_of, finished_words}
use Rattle.elias_fano.specs.declared.builder.Builder.{Builder}
use Rattle.elias_fano.proofs.Cases as cases
use Rattle.elias_fano.proofs.Limits as limits

-- the words of the first index
abbrev ones_words : List ℕ → ℕ → List ℕ
ones_words ws len = index_words (positions true ws len)

-- the first words of a number
take_words : (j k v : ℕ) → j ≤ k → take j (number_words k v) ≡ number_words j v
unfolding number_words
take_words zero k v h = refl
take_words (suc j) zero v h = absurd (not-suc-le-zero h)
take_words (suc j) (suc k) v h = ap (λ (l : List ℕ). (v % 2 ^ 64) ∷ l) (take_words j k (v / 2 ^ 64) (le_of_suc-le-suc h))

cond_words : (c : Bool) (P : List ℕ) → cond c (index_words P) [] ≡ index_words (cond c P [])
unfolding index_words table blocks lanes lane_words overflow
cond_words true P = refl
cond_words false P = refl

module _ (b : Builder) (w : List ℕ) (f : Holding b w) where
  abbrev u : ℕ
  u = b.universe

  abbrev n : ℕ
  n = b.num_vals

  abbrev m : ℕ
  m = b.num_pushed

  known : cases.Sound b
  known = cases.is_sound b f.is_sound

  abbrev l : ℕ
  l = low_len u n

  abbrev H : ℕ
  H = high_len u n

  abbrev hw : ℕ
  hw = words_for (high_len u n)

  abbrev lw : ℕ
  lw = words_for (m * low_len u n)

  -- the low words of the start
  abbrev sw : ℕ
  sw = words_for (n * low_len u n)

  abbrev ws : List ℕ
  ws = held_words b w

  abbrev T : List ℕ
  T = times_in u n m ws

  long : 6 + words_for (high_len u n) + words_for (n * low_len u n) ≤ length w
  unfolding start_len
  long = f.long

  start_is : start_len u n ≡ 6 + (hw + sw)
  unfolding start_len
  start_is = omega arith

  length_ws : length ws ≡ hw + sw
  length_ws =
      length-take-le (start_len u n - 6) (drop 6 w) (let d = length-drop 6 w in let b = long in let s = start_is in omega arith)
      ∙ (let s = start_is in omega arith)

  abbrev high : List ℕ
  high = take hw ws

  abbrev low : List ℕ
  low = drop hw ws

  length_high' : length high ≡ hw
  length_high' = length-take-le hw ws (let e = length_ws in omega arith)

  length_low : length low ≡ sw
  length_low = length-drop hw ws ∙ (let e = length_ws in omega arith)

  split : high ++ low ≡ ws
  split = take-append-drop hw ws

  held : (rising u 0 (times_in u n m (high ++ low)) ≡ true) × (high ++ low ≡ bit_words u n (length low) (times_in u n m (high ++ low)))
  unfolding intact
  held = fit_held u n m high low length_high' (ap (holds u n m) split ∙ (and_true _ _ f.is_intact).0)

  pub rises : rising u 0 T ≡ true
  rises = sym (ap (λ (x : List ℕ). rising u 0 (times_in u n m x)) split) ∙ held.0

  pub is_bits : ws ≡ bit_words u n sw T
  is_bits = sym split ∙ held.1 ∙ ap₂ (λ (k : ℕ) (x : List ℕ). bit_words u n k (times_in u n m x)) length_low split

  pub length_T : length T ≡ m
  length_T = sym (ap (λ (x : List ℕ). length (times_in u n m x)) split) ∙ length_held u n m high low length_high'

  pub few_T : length T ≤ n
  few_T = le_trans (le_of_eq length_T) known.few

  -- as many low words as the image has are in the start
  low_le : lw ≤ sw
  low_le = let p : m * l ≤ n * l = mul-le-mul known.few (le_refl l) in omega arith

  low_words_lem : take lw (number_words sw (low_number l T)) ≡ number_words lw (low_number l T)
  low_words_lem = take_words lw sw (low_number l T) low_le

  pub high_is : take hw (drop 6 w) ≡ high_words u n T
  unfolding bit_words
  high_is =
      sym (take-take hw (start_len u n - 6) (drop 6 w) (let s = start_is in omega arith)) ∙ ap (take hw) is_bits
      ∙ take_at (high_words u n T) (number_words sw (low_number l T)) hw (length_high u n T)

  -- the bits of the image stand where they stood
  bits_is : take (hw + lw) (drop 6 w) ≡ high_words u n T ++ number_words lw (low_number l T)
  unfolding bit_words
  bits_is =
      let N : List ℕ = number_words sw (low_number l T) in
      sym (take-take (hw + lw) (start_len u n - 6) (drop 6 w) (let s = start_is in let h = low_le in omega arith)) ∙ ap (take (hw + lw)) is_bits
      ∙ take-add hw lw (high_words u n T ++ N)
      ∙ ap₂ (λ (a b : List ℕ). a ++ b) (take_at (high_words u n T) N hw (length_high u n T)) (ap (take lw) (drop_at (high_words u n T) N hw (length_high u n T)) ∙ low_words_lem)

  -- they are a vector that an index is measured of
  pub measurable : u < 2 ^ 64 → Measurable (take hw (drop 6 w)) H
  measurable hu = (
    ap (λ (x : List ℕ). invalid x H) high_is ∙ valid_high u n T rises few_T,
    (let h = limits.high_small u n m hu known.some known.most known.few in omega arith),
  )

  -- ---- the indexes are written, and then the header

  -- the high words
  abbrev hs : List ℕ
  hs = take (words_for (high_len u n)) (drop 6 w)

  abbrev ones : List ℕ
  ones = ones_words hs (high_len u n)

  -- where the indexes begin
  abbrev at : ℕ
  at = low_at u n + words_for (m * low_len u n)

  -- how many ones or zeros are in the overflow list
  abbrev over : Bool → ℕ
  over b = before (positions b hs H) (blocks (positions b hs H))

  positions_are : (b : Bool) → high_positions u n b T ≡ positions b hs H
  positions_are b = ap (λ (x : List ℕ). positions b x H) (sym high_is)

  over_is : (b : Bool) → spilled (high_positions u n b T) ≡ over b
  over_is b = length-overflow (high_positions u n b T) (blocks (high_positions u n b T)) ∙ ap (λ (P : List ℕ). before P (blocks P)) (positions_are b)

  ones_many : m ≡ length (positions true hs H)
  ones_many = sym (ap length (sym (positions_are true)) ∙ lengths.ones_many u n T rises few_T ∙ length_T)

  zeros_many : H - m ≡ length (positions false hs H)
  zeros_many = sym (ap length (sym (positions_are false)) ∙ lengths.zeros_many u n T rises few_T ∙ ap (λ (k : ℕ). H - k) length_T)

  pub length-ones : length ones ≡ index_len m (over true)
  length-ones =
      lengths.index_length (positions true hs H)
      ∙ ap₂ (λ (k o : ℕ). index_len k o) (sym ones_many) (length-overflow (positions true hs H) (blocks (positions true hs H)))

  -- the index over the bits of some words that have the high words in their place can be written
  writable : (b : Bool) (k j : ℕ) (x : List ℕ) → x ≡ hs → j ≡ length (positions b hs H) → length (index_words (positions b hs H)) ≤ k → u < 2 ^ 64 → Writable (positions b x H) H (length x) (sizes_by j 0) k
  unfolding blocks lanes
  writable b k j x ex ej r hu =
      let e : length (positions b x H) ≡ j = ap (λ (y : List ℕ). length (positions b y H)) ex ∙ sym ej in
      record {
        positions = sym e;
        entries = ap (λ (y : ℕ). (y + 1023) / 1024) (sym e);
        lanes = ap (λ (y : ℕ). (y + 31) / 32) (sym e);
        words = le_of_eq (sym (length_high u n T) ∙ sym (ap length (ex ∙ high_is)));
        few = let b = (measurable hu).1 in omega arith;
        room = subst⁻¹ (λ (y : List ℕ). length (index_words (positions b y H)) ≤ k) ex r;
      }

  module _ (c : Bool) where
    abbrev zeros : List ℕ
    zeros = zeros_words c hs (high_len u n)

    abbrev header : List ℕ
    header = u ∷ n ∷ m ∷ flag c ∷ over true ∷ cond c (over false) 0 ∷ []

    abbrev bits : List ℕ
    bits = take (hw + lw) (drop 6 w)

    low_is : low_words u n T ≡ number_words lw (low_number l T)
    unfolding low_words
    low_is = ap (λ (k : ℕ). number_words (words_for (k * l)) (low_number l T)) length_T

    body_is : high_words u n T ++ (low_words u n T ++ (index_words (high_positions u n true T) ++ cond c (index_words (high_positions u n false T)) [])) ≡ bits ++ (ones ++ zeros)
    body_is =
        ap₂ (λ (a b : List ℕ). high_words u n T ++ (a ++ b)) low_is
        (ap₂ (λ (P Q : List ℕ). index_words P ++ cond c (index_words Q) []) (positions_are true) (positions_are false) ∙ ap (λ (Z : List ℕ). ones ++ Z) (cond_words c (positions false hs H)))
        ∙ sym (append_assoc (high_words u n T) (number_words lw (low_number l T)) (ones ++ zeros)) ∙ ap (λ (B : List ℕ). B ++ (ones ++ zeros)) (sym bits_is)

    image_is : image_of b c w ≡ header ++ (bits ++ (ones ++ zeros))
    unfolding image image_of held_times
    image_is = λ x. u ∷ n ∷ length_T x ∷ flag c ∷ over_is true x ∷ cond c (over_is false x) 0 ∷ body_is x

    -- how long the image is
    pub length_image : length (image_of b c w) ≡ image_len u n m c (over true) (cond c (over false) 0)
    unfolding image_of held_times
    length_image = lengths.image-length u n T rises few_T c ∙ (λ x. image_len u n (length_T x) c (over_is true x) (cond c (over_is false x) 0))

    pub within_limit : length (image_of b c w) ≤ limit u n c
    unfolding image_of held_times
    within_limit = limit-law.image_most u n T rises few_T c

    length_parts : length (image_of b c w) ≡ at + length ones + length zeros
    length_parts =
        ap length image_is
        ∙ (let a = length-append bits (ones ++ zeros) in
        let d = length-append ones zeros in
        let e = length-take-le (hw + lw) (drop 6 w) (let d = length-drop 6 w in let b = long in let h = low_le in omega arith) in
        omega arith)

    module _ (room : length (image_of b c w) ≤ length w) (hu : u < 2 ^ 64) where
      ends : at + length ones + length zeros ≤ length w
      ends = subst (λ (k : ℕ). k ≤ length w) length_parts room

      -- a program's numbers: the high length, and where the first index begins
      module _ (h p : ℕ) (eh : h ≡ high_len u n) (ep : p ≡ at) where
        pub first_writable : (6 + words_for h ≤ p) × (p ≤ length w) × Writable (positions true (take (words_for h) (drop 6 w)) h) h (length (take (words_for h) (drop 6 w))) (sizes_by m 0) (length w - p)
        first_writable =
            let z = ends in
            subst⁻¹ (λ (y : ℕ). (6 + words_for y ≤ p) × (p ≤ length w) × Writable (positions true (take (words_for y) (drop 6 w)) y) y (length (take (words_for y) (drop 6 w))) (sizes_by m 0) (length w - p)) eh
            (omega arith, omega arith, writable true (length w - p) m hs refl ones_many (omega arith) hu)

        module _ (w₁ : List ℕ) (e₁ : w₁ ≡ take p w ++ (ones_words (take (words_for h) (drop 6 w)) h ++ drop (length (ones_words (take (words_for h) (drop 6 w)) h)) (drop p w))) where
          -- the words after the first index
          abbrev rest : List ℕ
          rest = drop (length ones) (drop at w)

          words_1 : w₁ ≡ take at w ++ (ones ++ rest)
          words_1 = e₁ ∙ (λ x. take (ep x) w ++ (ones_words (take (words_for (eh x)) (drop 6 w)) (eh x) ++ drop (length (ones_words (take (words_for (eh x)) (drop 6 w)) (eh x))) (drop (ep x) w)))

          length_front : length (take at w) ≡ at
          length_front = length-take-le at w (let z = ends in omega arith)

          length_1 : length w₁ ≡ length w
          length_1 =
              let a = ap length words_1 ∙ length-append (take at w) (ones ++ rest) in
              let b = length-append ones rest in
              let d = length-drop (length ones) (drop at w) in
              let e = length-drop at w in
              let g = length_front in
              let z = ends in
              omega arith

          front_1 : take at w₁ ≡ take at w
          front_1 = ap (take at) words_1 ∙ take_at (take at w) (ones ++ rest) at length_front

          high_1 : take hw (drop 6 w₁) ≡ hs
          high_1 = part_same 6 hw at w₁ w (omega arith) (let a = length_1 in let z = ends in omega arith) (let z = ends in omega arith) front_1

          -- where the second index begins
          module _ (q : ℕ) (eq : q ≡ at + length ones) where
            pub second_writable : (6 + words_for h ≤ q) × (q ≤ length w₁) × (c ≡ true → Writable (positions false (take (words_for h) (drop 6 w₁)) h) h (length (take (words_for h) (drop 6 w₁))) (sizes_by (h - m) 0) (length w₁ - q))
            second_writable =
                let z = ends in
                let a = length_1 in
                subst⁻¹ (λ (y : ℕ). (6 + words_for y ≤ q) × (q ≤ length w₁) × (c ≡ true → Writable (positions false (take (words_for y) (drop 6 w₁)) y) y (length (take (words_for y) (drop 6 w₁))) (sizes_by (y - m) 0) (length w₁ - q))) eh
                (omega arith, omega arith, λ (e : c ≡ true). writable false (length w₁ - q) (H - m) (take hw (drop 6 w₁)) high_1 zeros_many (let s = ap (λ (x : Bool). length (index_words (cond x (positions false hs H) []))) e in omega arith) hu)

            both : w₁ ≡ (take at w ++ ones) ++ rest
            both = words_1 ∙ sym (append_assoc (take at w) ones rest)

            length_both : length (take at w ++ ones) ≡ q
            length_both = length-append (take at w) ones ∙ ap (λ (k : ℕ). k + length ones) length_front ∙ sym eq

            module _ (w₂ : List ℕ) (e₂ : w₂ ≡ take q w₁ ++ (zeros_words c (take (words_for h) (drop 6 w₁)) h ++ drop (length (zeros_words c (take (words_for h) (drop 6 w₁)) h)) (drop q w₁))) where
              -- the later words stay
              later : drop (length zeros) rest ≡ drop (length (image_of b c w)) w
              later =
                  drop-drop (length zeros) (length ones) (drop at w) ∙ drop-drop (length ones + length zeros) at w
                  ∙ ap (λ (k : ℕ). drop k w) (let e : at + (length ones + length zeros) ≡ at + length ones + length zeros = omega arith in e ∙ sym length_parts)

              words_2 : w₂ ≡ take at w ++ ((ones ++ zeros) ++ drop (length (image_of b c w)) w)
              words_2 =
                  e₂
                  ∙ ap₂ (λ (A R : List ℕ). A ++ (zeros_words c (take (words_for h) (drop 6 w₁)) h ++ drop (length (zeros_words c (take (words_for h) (drop 6 w₁)) h)) R))
                  (ap (take q) both ∙ take_at (take at w ++ ones) rest q length_both) (ap (drop q) both ∙ drop_at (take at w ++ ones) rest q length_both)
                  ∙ (λ x. (take at w ++ ones) ++ (zeros_words c (take (words_for (eh x)) (drop 6 w₁)) (eh x) ++ drop (length (zeros_words c (take (words_for (eh x)) (drop 6 w₁)) (eh x))) rest))
                  ∙ ap (λ (y : List ℕ). (take at w ++ ones) ++ (zeros_words c y H ++ drop (length (zeros_words c y H)) rest)) high_1
                  ∙ append_assoc (take at w) ones (zeros ++ drop (length zeros) rest)
                  ∙ ap (λ (R : List ℕ). take at w ++ R) (sym (append_assoc ones zeros (drop (length zeros) rest)) ∙ ap (λ (R : List ℕ). (ones ++ zeros) ++ R) later)

              pub six_2 : 6 ≤ length w₂
              six_2 =
                  let a = ap length words_2 ∙ length-append (take at w) ((ones ++ zeros) ++ drop (length (image_of b c w)) w) in
                  let g = length_front in
                  omega arith

              front_2 : take at w ≡ take 6 w ++ bits
              front_2 = let e : at ≡ 6 + (hw + lw) = omega arith in ap (λ (k : ℕ). take k w) e ∙ take-add 6 (hw + lw) w

              -- what the overflow counts are, as they come back
              module _ (o z : ℕ) (eo : o ≡ before (positions true (take (words_for h) (drop 6 w)) h) (blocks (positions true (take (words_for h) (drop 6 w)) h)))
                  (ez : z ≡ cond c (before (positions false (take (words_for h) (drop 6 w₁)) h) (blocks (positions false (take (words_for h) (drop 6 w₁)) h))) 0) where
                ones_over : o ≡ over true
                ones_over = eo ∙ ap (λ (y : ℕ). before (positions true (take (words_for y) (drop 6 w)) y) (blocks (positions true (take (words_for y) (drop 6 w)) y))) eh

                zeros_over : z ≡ cond c (over false) 0
                zeros_over =
                    ez ∙ ap (λ (y : ℕ). cond c (before (positions false (take (words_for y) (drop 6 w₁)) y) (blocks (positions false (take (words_for y) (drop 6 w₁)) y))) 0) eh
                    ∙ ap (λ (y : List ℕ). cond c (before (positions false y H) (blocks (positions false y H))) 0) high_1

                pub image_written : (w₃ : List ℕ) → w₃ ≡ u ∷ n ∷ m ∷ flag c ∷ o ∷ z ∷ drop 6 w₂ → w₃ ≡ finished_words b c w
                image_written w₃ e₃ =
                    let D : List ℕ = drop (length (image_of b c w)) w in
                    let X : List ℕ = (ones ++ zeros) ++ D in
                    let B : drop 6 w₂ ≡ bits ++ X =
                    ap (drop 6) (words_2 ∙ ap (λ (A : List ℕ). A ++ X) front_2 ∙ append_assoc (take 6 w) bits X)
                    ∙ drop_at (take 6 w) (bits ++ X) 6 (length-take-le 6 w (let z = ends in omega arith)) in
                    e₃ ∙ (λ x. u ∷ n ∷ m ∷ flag c ∷ ones_over x ∷ zeros_over x ∷ B x)
                    ∙ ap (λ (R : List ℕ). header ++ R) (sym (append_assoc bits (ones ++ zeros) D))
                    ∙ ap (λ (I : List ℕ). I ++ D) (sym image_is)

                pub length_written : (k : ℕ) → k ≡ image_len u n m c o z → k ≡ length (image_of b c w)
                length_written k e = e ∙ ap₂ (λ (x y : ℕ). image_len u n m c x y) ones_over zeros_over ∙ sym length_image

  -- ---- a program's numbers

  module _ (hu : u < 2 ^ 64) (s : Sizes) (es : s ≡ sizes_of u n) where
    pub high_len_is : s.high_len ≡ high_len u n
    high_len_is = ap (λ (x : Sizes). x.high_len) es

    low_at_is : s.low_at ≡ low_at u n
    low_at_is = ap (λ (x : Sizes). x.low_at) es

    low_len_is : s.low_len ≡ low_len u n
    low_len_is = ap (λ (x : Sizes). x.low_len) es

    high_small : s.high_len ≤ 50331649
    high_small = let h = limits.high_small u n m hu known.some known.most known.few in let e = high_len_is in omega arith

    product_small : m * s.low_len ≤ 16777216 * 63
    product_small = let p = limits.product_small u n m hu known.some known.most known.few in let e = ap (λ (k : ℕ). m * k) low_len_is in omega arith

    low_at_small : s.low_at ≤ 1000000
    low_at_small = let h = limits.high_small u n m hu known.some known.most known.few in let e = low_at_is in omega arith

    pub product_fits : Fits w64 (m * s.low_len)
    product_fits = record { fits = let p = product_small in omega arith }

    -- where the first index begins
    pub ones_at_is : (a : ℕ) → a ≡ words_for (m * s.low_len) → s.low_at + a ≡ at
    ones_at_is a e = ap₂ (λ (x y : ℕ). x + y) low_at_is (e ∙ ap (λ (k : ℕ). words_for (m * k)) low_len_is)

    pub ones_at_small : (a : ℕ) → a ≡ words_for (m * s.low_len) → s.low_at + a < 2 ^ 32
    ones_at_small a e = let p = product_small in let q = low_at_small in omega arith

    -- where the second begins
    pub zeros_at_is : (a o k : ℕ) → a ≡ words_for (m * s.low_len) → o ≡ before (positions true (take (words_for s.high_len) (drop 6 w)) s.high_len) (blocks (positions true (take (words_for s.high_len) (drop 6 w)) s.high_len))
        → k ≡ index_len m o → s.low_at + a + k ≡ at + length ones
    zeros_at_is a o k ea eo ek =
        ap₂ (λ (x y : ℕ). x + y) (ones_at_is a ea)
        (ek ∙ ap (index_len m) (eo ∙ ap (λ (y : ℕ). before (positions true (take (words_for y) (drop 6 w)) y) (blocks (positions true (take (words_for y) (drop 6 w)) y))) high_len_is) ∙ sym length-ones)

    pub six_le : 6 ≤ s.low_at
    six_le = let e = low_at_is in omega arith

    pub low_at_le : s.low_at ≤ length w
    low_at_le = let e = low_at_is in let g = long in omega arith

    pub pushed_le : m ≤ s.high_len
    pushed_le = let e = high_len_is in let g = limits.pushed_le u n m hu known.some known.most known.few in omega arith

    pub pushed_small : m < 2 ^ 32
    pushed_small = let a = known.few in let b = known.most in omega arith

    -- no overflow list is long
    pub over_small : (b : Bool) (x : List ℕ) (o : ℕ) → o ≡ before (positions b x s.high_len) (blocks (positions b x s.high_len)) → o < 2 ^ 32
    over_small b x o e = let h = high_small in omega (arith, overflow_most b x s.high_len)

    pub over_small_if : (b c : Bool) (x : List ℕ) (o : ℕ) → o ≡ cond c (before (positions b x s.high_len) (blocks (positions b x s.high_len))) 0 → o < 2 ^ 32
    over_small_if b true x o e = over_small b x o e
    over_small_if b false x o e = omega arith

    pub len_ready : (o z : ℕ) → o < 2 ^ 32 → z < 2 ^ 32 → (s.low_at < 2 ^ 32) × (m * s.low_len < 2 ^ 32) × (s.high_len < 2 ^ 32) × (m ≤ s.high_len) × (o < 2 ^ 32) × (z < 2 ^ 32)
    len_ready o z h g = (let a = low_at_small in omega arith, let a = product_small in omega arith, let a = high_small in omega arith, pushed_le, h, g)

    -- the high words, as they are lent
    part_is : take (s.low_at - 6) (drop 6 w) ≡ hs
    part_is = ap (λ (k : ℕ). take k (drop 6 w)) (let e = low_at_is in let d : s.low_at - 6 ≡ hw = omega arith in d)

    pub measure_ready : Measurable (take (s.low_at - 6) (drop 6 w)) s.high_len
    measure_ready = subst⁻¹ (λ (k : ℕ). Measurable (take (s.low_at - 6) (drop 6 w)) k) high_len_is (subst⁻¹ (λ (x : List ℕ). Measurable x H) part_is (measurable hu))

    pub limit_ready : (s.start_len < 2 ^ 32) × (s.high_len < 2 ^ 32) × (n < 2 ^ 32)
    limit_ready = limit-law.limit_ready u n hu known.some known.most s es

    module _ (c : Bool) where
      abbrev P : Bool → List ℕ
      P b = positions b (take (s.low_at - 6) (drop 6 w)) s.high_len

      measured_over : (b : Bool) → before (P b) (blocks (P b)) ≡ over b
      measured_over b = ap₂ (λ (x : List ℕ) (k : ℕ). before (positions b x k) (blocks (positions b x k))) part_is high_len_is

      pub measured_is : (o z k : ℕ) → o ≡ before (P true) (blocks (P true)) → z ≡ cond c (before (P false) (blocks (P false))) 0 → k ≡ image_len u n m c o z → k ≡ length (image_of b c w)
      measured_is o z k eo ez e =
          e ∙ ap₂ (λ (x y : ℕ). image_len u n m c x y) (eo ∙ measured_over true) (ez ∙ ap (λ (y : ℕ). cond c y 0) (measured_over false)) ∙ sym (length_image c)

      -- there is room where the words are as many as the limit
      pub limit_room : (x : ℕ) → x ≡ limit u n c → x ≤ length w → true ≡ leb (length (image_of b c w)) (length w)
      limit_room x e h = sym (le-leb (length (image_of b c w)) (length w) (let a = within_limit c in omega arith))
