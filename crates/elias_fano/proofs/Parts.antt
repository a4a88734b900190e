-- The parts of the image of a list: how long each is, and where it stands. Assumes nothing.
use mathlib.Core.Path.{◌≡◌, refl, sym, ap, ap₂, ◌∙◌}
use mathlib.Core.List.{List, [], ◌++◌, append_assoc}
use mathlib.Core.Bool.{Bool, true, false, cond}
use Prim.Native.Nat.{ℕ, ◌+◌, ◌-◌, ◌*◌}
use native.Mathlib.Nat.{le_refl}
use native.Mathlib.Omega.{arith}
use lib.ListN.{length, take, drop, length-append}
use lib.Seq.{take_at, drop_at, drop-append-add}
use Rattle.broadword.proofs.Truth.{flag_le}
use Rattle.bit_words.specs.Vector.{words_for, number_words}
use Rattle.bit_words.proofs.Overwrite.{length-number_words}
use Rattle.darray_positions.specs.Index.{index_words}
use Rattle.darray_positions.specs.Positions.{positions}
use Rattle.elias_fano_words.specs.Sizes.{low_len, high_len, index_len, image_len}
use Rattle.elias_fano_words.specs.Image.{low_number, spilled, high_words, low_words, high_positions, image}
use Rattle.elias_fano_words.specs.Times.{bit_words, holds}
use Rattle.elias_fano_words.proofs.Decode.{length_high}
use Rattle.elias_fano_words.proofs.Holds.{holds-words}
use Rattle.elias_fano_words.proofs.Lengths as lengths
use Rattle.elias_fano.specs.Accept.{ranked}
use Rattle.elias_fano.specs.Opening.{ones_in, zeros_in, high_in, bits_in, Headed, Indexes}
use Rattle.elias_fano.proofs.Images.{Fits, image_body, image-ranked}

-- ---- the parts

none_picked : (c : Bool) (x : ℕ) → c ≡ false → cond c x 0 ≡ 0
none_picked c x e = rw e

module _ (u n : ℕ) (c : Bool) (T : List ℕ) (f : Fits u n T) where
  abbrev I : List ℕ
  I = image u n c T

  abbrev hw : ℕ
  hw = words_for (high_len u n)

  abbrev lw : ℕ
  lw = words_for (length T * low_len u n)

  abbrev ones : List ℕ
  ones = index_words (high_positions u n true T)

  abbrev zeros : List ℕ
  zeros = cond c (index_words (high_positions u n false T)) []

  abbrev bits : List ℕ
  bits = bit_words u n lw T

  length_bits : length bits ≡ hw + lw
  unfolding bit_words
  length_bits = length-append (high_words u n T) (number_words lw (low_number (low_len u n) T)) ∙ ap₂ (λ (a b : ℕ). a + b) (length_high u n T) (length-number_words lw (low_number (low_len u n) T))

  length-ones : length ones ≡ index_len (length T) (spilled (high_positions u n true T))
  length-ones = lengths.length-ones u n T f.rises f.few

  image-length : length I ≡ image_len u n (length T) c (spilled (high_positions u n true T)) (cond c (spilled (high_positions u n false T)) 0)
  image-length = lengths.image-length u n T f.rises f.few c

  -- the words after the header
  image_parts : drop 6 I ≡ bits ++ (ones ++ zeros)
  image_parts = image_body u n c T

  image-split : I ≡ take 6 I ++ (bits ++ (ones ++ zeros))
  unfolding image bit_words low_words
  image-split = ap (λ (r : List ℕ). take 6 I ++ r) image_parts

  six_words : length (take 6 I) ≡ 6
  unfolding image
  six_words = refl

  -- ---- what the header gives

  pub headed : Headed I
  unfolding image
  headed = record {
    six = let l = image-length in omega arith;
    counts = record { some = f.some; most = f.most; few = f.few; choice = flag_le c };
    complete = record {
      none = λ (e : ranked I ≡ false). none_picked c (spilled (high_positions u n false T)) (sym (image-ranked u n c T) ∙ e);
      long = image-length ∙ ap (λ (x : Bool). image_len u n (length T) x (spilled (high_positions u n true T)) (cond c (spilled (high_positions u n false T)) 0)) (sym (image-ranked u n c T));
    };
  }

  pub bits_in_lem : bits_in I ≡ bits
  unfolding image
  bits_in_lem = ap (take (hw + lw)) image_parts ∙ take_at bits (ones ++ zeros) (hw + lw) length_bits

  pub high_in_lem : high_in I ≡ high_words u n T
  unfolding image bit_words
  high_in_lem =
      let low : List ℕ = number_words lw (low_number (low_len u n) T) in
      ap (take hw) (image_parts ∙ append_assoc (high_words u n T) low (ones ++ zeros)) ∙ take_at (high_words u n T) (low ++ (ones ++ zeros)) hw (length_high u n T)

  pub holds_in : holds u n (length T) (bits_in I) ≡ true
  holds_in = ap (holds u n (length T)) bits_in_lem ∙ holds-words u n T f.rises f.few lw (le_refl lw)

  rest_in : drop (6 + (hw + lw)) I ≡ ones ++ zeros
  unfolding image
  rest_in =
      ap (drop (6 + (hw + lw))) image-split ∙ drop-append-add (take 6 I) (bits ++ (ones ++ zeros)) (hw + lw)
      ∙ drop_at bits (ones ++ zeros) (hw + lw) length_bits

  tail_in : drop (6 + (hw + lw) + length ones) I ≡ zeros
  unfolding image
  tail_in =
      ap (drop (6 + (hw + lw) + length ones)) image-split
      ∙ ap (λ (k : ℕ). drop k (take 6 I ++ (bits ++ (ones ++ zeros)))) (let b = length_bits in let e : 6 + (hw + lw) + length ones ≡ 6 + (length bits + length ones) = omega arith in e)
      ∙ drop-append-add (take 6 I) (bits ++ (ones ++ zeros)) (length bits + length ones)
      ∙ drop-append-add bits (ones ++ zeros) (length ones) ∙ drop_at ones zeros (length ones) refl

  pub indexes_in : Indexes I
  unfolding image
  indexes_in =
      let b = length-ones in
      let p : List ℕ → List ℕ = λ h. index_words (positions true h (high_len u n)) in
      record {
        ones = ap₂ (λ (k : ℕ) (w : List ℕ). take k w) (let e : zeros_in I - ones_in I ≡ length ones = omega arith in e) (ap (λ (k : ℕ). drop k I) (let e : ones_in I ≡ 6 + (hw + lw) = omega arith in e) ∙ rest_in)
            ∙ take_at ones zeros (length ones) refl ∙ ap p (sym high_in_lem);
        zeros = ap (λ (k : ℕ). drop k I) (let e : zeros_in I ≡ 6 + (hw + lw) + length ones = omega arith in e) ∙ tail_in
            ∙ (λ x. cond (sym (image-ranked u n c T) x) (index_words (positions false (sym high_in_lem x) (high_len u n))) []);
      }

  -- the low words
  pub low_in : take lw (drop (6 + hw) I) ≡ number_words lw (low_number (low_len u n) T)
  unfolding image bit_words
  low_in =
      let low : List ℕ = number_words lw (low_number (low_len u n) T) in
      ap (λ (w : List ℕ). take lw (drop (6 + hw) w)) image-split
      ∙ ap (take lw) (drop-append-add (take 6 I) (bits ++ (ones ++ zeros)) hw ∙ ap (drop hw) (append_assoc (high_words u n T) low (ones ++ zeros)) ∙ drop_at (high_words u n T) (low ++ (ones ++ zeros)) hw (length_high u n T))
      ∙ take_at low (ones ++ zeros) lw (length-number_words lw (low_number (low_len u n) T))
