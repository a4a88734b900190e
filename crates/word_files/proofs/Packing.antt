-- Laws of words as bytes. Assumes nothing.
use mathlib.Core.Path.{◌≡◌, refl, sym, ap, ap₂, ◌∙◌}
use mathlib.Core.List.{List, [], ◌∷◌, ◌++◌}
use Prim.Native.Nat.{ℕ, zero, suc, ◌+◌, ◌*◌, ◌-◌, ◌/◌, ◌%◌, ◌^◌, ◌≤◌, ◌<◌}
use native.Mathlib.Nat.{add-zero, zero-add, div-one, pow-suc, div-div-eq-div-mul}
use Rattle.std.proofs.Common.{append_assoc}
use borrow.Rule.Slice.PartMut.{put_mid}
use Rattle.std.specs.Int.{w64, byte_at, bytes_low_first, to_le_bytes, from_le_bytes}
use native.Mathlib.Numerals.{add-one}
use native.Mathlib.Omega.{arith}
use lib.ListN.{length, take, drop, get_or, set, length-append, length-take}
use lib.Seq.{sets, sets-eq, drop-cons, drop-drop, take_all}
use Rattle.word_files.specs.Bytes.{digits, bytes_of, number, words_of, Filled, filled, room, pack_of, unpack_of}

-- ---- lengths

pub length_digits : (k w : ℕ) → length (digits k w) ≡ k
unfolding digits
length_digits zero w = refl
length_digits (suc k) w = ap suc (length_digits k (w / 256))

length_bytes : (ws : List ℕ) → length (bytes_of ws) ≡ 8 * length ws
unfolding bytes_of
length_bytes [] = refl
length_bytes (w ∷ ws) = length-append (digits 8 w) (bytes_of ws) ∙ ap₂ ◌+◌ (length_digits 8 w) (length_bytes ws) ∙ (let d : (n : ℕ) → 8 + 8 * n ≡ 8 * suc n = λ n. omega arith in d (length ws))

length-words : (n : ℕ) (bs : List ℕ) → length (words_of n bs) ≡ n
unfolding words_of
length-words zero bs = refl
length-words (suc n) bs = ap suc (length-words n (drop 8 bs))

-- ---- stores one after the other

sets_append : (xs ys l : List ℕ) (i : ℕ) → sets l i (xs ++ ys) ≡ sets (sets l i xs) (i + length xs) ys
sets_append [] ys l i = ap (λ (j : ℕ). sets l j ys) (sym (add-zero i))
sets_append (x ∷ xs) ys l i =
    sets_append xs ys (set l i x) (suc i)
    ∙ ap (λ (j : ℕ). sets (sets (set l i x) (suc i) xs) j ys) (let d : (j m : ℕ) → suc j + m ≡ j + suc m = λ j m. omega arith in d i (length xs))

-- stored from the front on
sets_front : (xs l : List ℕ) (n : ℕ) → length xs ≡ n → n ≤ length l → sets l 0 xs ≡ xs ++ drop n l
sets_front xs l n e h = sets-eq xs l 0 (omega (arith, e, h)) ∙ ap (λ (m : ℕ). xs ++ drop m l) (zero-add (length xs) ∙ e)

-- ---- a word as the library's bytes

byte_low : (i w : ℕ) → byte_at i w ≡ (w / 256 ^ i) % 256
byte_low zero w = ap (λ (v : ℕ). v % 256) (sym (div-one w))
byte_low (suc i) w = refl

low_first : (i k w : ℕ) → bytes_low_first i k w ≡ digits k (w / 256 ^ i)
unfolding digits
low_first i zero w = refl
low_first i (suc k) w = ap₂ ◌∷◌ (byte_low i w) (low_first (suc i) k w ∙ ap (digits k) (ap (λ (d : ℕ). w / d) (pow-suc 256 i) ∙ sym (div-div-eq-div-mul w (256 ^ i) 256)))

pub le_digits : (w : ℕ) → to_le_bytes w64 w ≡ digits 8 w
le_digits w = low_first 0 8 w ∙ ap (digits 8) (div-one w)

-- a write of them is one of the digits
pub put_digits : (at k w : ℕ) (bs ys : List ℕ) → at + 8 ≤ length bs → k ≡ 8 → ys ≡ to_le_bytes w64 w → put_mid at k bs ys ≡ sets bs at (digits 8 w)
put_digits at k w bs ys h e f =
    let n : length (digits 8 w) ≡ 8 = length_digits 8 w in
    ap₂ (λ (m : ℕ) (zs : List ℕ). put_mid at m bs zs) e (f ∙ le_digits w)
    ∙ ap (λ (zs : List ℕ). take at bs ++ (digits 8 w ++ zs)) (drop-drop 8 at bs ∙ ap (λ (m : ℕ). drop (at + m) bs) (sym n))
    ∙ sym (append_assoc (take at bs) (digits 8 w) (drop (at + length (digits 8 w)) bs))
    ∙ sym (sets-eq (digits 8 w) bs at (omega (arith, n)))

-- ---- a word from its bytes

module _ (bs : List ℕ) where
  -- one byte in front of k others
  number_next : (i j k x n : ℕ) → j ≡ i + 1 → i < length bs → x ≡ get_or bs i 0 → n ≡ number (take k (drop j bs)) → x + 256 * n ≡ number (take (suc k) (drop i bs))
  unfolding number
  number_next i j k x n e h f g =
      ap₂ (λ (y m : ℕ). y + 256 * m) f (g ∙ ap (λ (m : ℕ). number (take k (drop m bs))) (e ∙ add-one i))
      ∙ sym (ap (λ (l : List ℕ). number (take (suc k) l)) (drop-cons bs i 0 h))

  number-last : (i x : ℕ) → i < length bs → x ≡ get_or bs i 0 → x ≡ number (take 1 (drop i bs))
  unfolding number
  number-last i x h f = f ∙ sym (add-zero (get_or bs i 0)) ∙ sym (ap (λ (l : List ℕ). number (take 1 l)) (drop-cons bs i 0 h))

  pub number_eight :
      (at a b c d e f g h : ℕ) → at + 8 ≤ length bs
      → a ≡ get_or bs at 0 → b ≡ get_or bs (at + 1) 0 → c ≡ get_or bs (at + 2) 0 → d ≡ get_or bs (at + 3) 0
      → e ≡ get_or bs (at + 4) 0 → f ≡ get_or bs (at + 5) 0 → g ≡ get_or bs (at + 6) 0 → h ≡ get_or bs (at + 7) 0
      → a + 256 * (b + 256 * (c + 256 * (d + 256 * (e + 256 * (f + 256 * (g + 256 * h)))))) ≡ number (take 8 (drop at bs))
  number_eight at a b c d e f g h l ea eb ec ed ee ef eg eh =
      let nh = number-last (at + 7) h (omega arith) eh in
      let ng = number_next (at + 6) (at + 7) 1 g _ (omega arith) (omega arith) eg nh in
      let nf = number_next (at + 5) (at + 6) 2 f _ (omega arith) (omega arith) ef ng in
      let ne = number_next (at + 4) (at + 5) 3 e _ (omega arith) (omega arith) ee nf in
      let nd = number_next (at + 3) (at + 4) 4 d _ (omega arith) (omega arith) ed ne in
      let nc = number_next (at + 2) (at + 3) 5 c _ (omega arith) (omega arith) ec nd in
      let nb = number_next (at + 1) (at + 2) 6 b _ (omega arith) (omega arith) eb nc in
      number_next at (at + 1) 7 a _ refl (omega arith) ea nb

-- eight bytes as the library reads them
pub eight_bytes : (ys : List ℕ) → length ys ≡ 8 → from_le_bytes w64 ys ≡ number ys
eight_bytes ys e =
    let n = number_eight ys 0 _ _ _ _ _ _ _ _ (omega (arith, e)) refl refl refl refl refl refl refl refl in
    (omega (arith, n)) ∙ ap number (take_all 8 ys (omega (arith, e)))

-- ---- packing

module _ (ws : List ℕ) (n i : ℕ) (l : List ℕ) where
  pub pack_more : i < n → i < length ws → sets l (8 * i) (bytes_of (take (n - i) (drop i ws))) ≡ sets (sets l (8 * i) (digits 8 (get_or ws i 0))) (8 * (i + 1)) (bytes_of (take (n - (i + 1)) (drop (i + 1) ws)))
  unfolding bytes_of
  pack_more h k =
      let w = get_or ws i 0 in
      let d : n - i ≡ suc (n - (i + 1)) = omega arith in
      let j : 8 * i + 8 ≡ 8 * (i + 1) = omega arith in
      let rest = bytes_of (take (n - (i + 1)) (drop (i + 1) ws)) in
      ap₂ (λ (m : ℕ) (v : List ℕ). sets l (8 * i) (bytes_of (take m v))) d (drop-cons ws i 0 k)
      ∙ ap (λ (m : ℕ). sets l (8 * i) (digits 8 w ++ bytes_of (take (n - (i + 1)) (drop m ws)))) (sym (add-one i))
      ∙ sets_append (digits 8 w) rest l (8 * i)
      ∙ ap (λ (m : ℕ). sets (sets l (8 * i) (digits 8 w)) m rest) (ap (λ (m : ℕ). 8 * i + m) (length_digits 8 w) ∙ j)

  pub pack_done : n ≤ i → sets l (8 * i) (bytes_of (take (n - i) (drop i ws))) ≡ l
  unfolding bytes_of
  pack_done h = let d : n - i ≡ 0 = omega arith in ap (λ (m : ℕ). sets l (8 * i) (bytes_of (take m (drop i ws)))) d

pub packed : (ws bs o : List ℕ) (n : ℕ) → n ≡ room ws bs → o ≡ sets bs 0 (bytes_of (take n ws)) → filled n o ≡ pack_of ws bs
unfolding pack_of
packed ws bs o n e f =
    let len : length (bytes_of (take n ws)) ≡ 8 * n = length_bytes (take n ws) ∙ ap (λ (m : ℕ). 8 * m) (length-take n ws ∙ (omega (arith, e))) in
    ap (filled n) (f ∙ sets_front (bytes_of (take n ws)) bs (8 * n) len (omega (arith, e)))
    ∙ ap (λ (m : ℕ). filled m (bytes_of (take m ws) ++ drop (8 * m) bs)) e

-- ---- unpacking

module _ (bs : List ℕ) (n i : ℕ) (l : List ℕ) where
  pub unpack_more : (w : ℕ) → i < n → w ≡ number (take 8 (drop (8 * i) bs)) → sets l i (words_of (n - i) (drop (8 * i) bs)) ≡ sets (set l i w) (i + 1) (words_of (n - (i + 1)) (drop (8 * (i + 1)) bs))
  unfolding words_of
  unpack_more w h e =
      let d : n - i ≡ suc (n - (i + 1)) = omega arith in
      let j : 8 * i + 8 ≡ 8 * (i + 1) = omega arith in
      ap (λ (m : ℕ). sets l i (words_of m (drop (8 * i) bs))) d
      ∙ ap₂ (λ (x : ℕ) (v : List ℕ). sets (set l i x) (suc i) (words_of (n - (i + 1)) v)) (sym e) (drop-drop 8 (8 * i) bs ∙ ap (λ (m : ℕ). drop m bs) j)
      ∙ ap (λ (m : ℕ). sets (set l i w) m (words_of (n - (i + 1)) (drop (8 * (i + 1)) bs))) (sym (add-one i))

  pub unpack_done : n ≤ i → sets l i (words_of (n - i) (drop (8 * i) bs)) ≡ l
  unfolding words_of
  unpack_done h = let d : n - i ≡ 0 = omega arith in ap (λ (m : ℕ). sets l i (words_of m (drop (8 * i) bs))) d

pub unpacked : (bs ws o : List ℕ) (n : ℕ) → n ≡ room ws bs → o ≡ sets ws 0 (words_of n bs) → filled n o ≡ unpack_of bs ws
unfolding unpack_of
unpacked bs ws o n e f =
    let len : length (words_of n bs) ≡ n = length-words n bs in
    ap (filled n) (f ∙ sets_front (words_of n bs) ws n len (omega (arith, e)))
    ∙ ap (λ (m : ℕ). filled m (words_of m bs ++ drop m ws)) e

-- ---- how many

module _ (n : ℕ) (o ws bs : List ℕ) where
  pub pack_count : filled n o ≡ pack_of ws bs → n ≡ room ws bs
  unfolding pack_of
  pack_count e = ap (λ (f : Filled). f.count) e

  pub unpack_count : filled n o ≡ unpack_of bs ws → n ≡ room ws bs
  unfolding unpack_of
  unpack_count e = ap (λ (f : Filled). f.count) e
