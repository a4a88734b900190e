-- The cases of each question's definition, one law to a case: the proofs cite them at each `return`. Assumes nothing.
use Rattle.std.specs.Prelude.{Option}
use mathlib.Core.Path.{◌≡◌, ap, ◌∙◌}
use mathlib.Core.List.{List, ◌++◌}
use mathlib.Core.Bool.{Bool, true, false, cond}
use Prim.Native.Nat.{ℕ, ◌+◌, ◌-◌, ◌*◌, ◌/◌, ◌%◌, ◌^◌, ◌≤◌, ◌<◌, min}
use borrow.Author.Tests.{le-ltb, lt-ltb, le-leb, lt-leb}
use lib.Dec.{leb}
use lib.ListN.{length, get_or, set, take, drop}
use Rattle.errors.specs.Answer.{Answer, value, none, done, refused, leaves, of_option}
use Rattle.broadword.specs.Bits.{count}
use Rattle.broadword.specs.Fields.{flag, word}
use Rattle.broadword.specs.Places.{last, select}
use Rattle.bit_words.specs.Vector.{bit_at, bit_over, words_for, invalid, number_words, put_bit, appended}
use Rattle.bit_vectors.specs.Queries.{if_valid, access_of, get_bits_of, get_word64_of, rank1_of, num_ones_of, select_bit_of, predecessor1_of, set_bit_of, push_bits_of, from_bit_of}

module _ (ws : List ℕ) (len : ℕ) where
  if_valid_13 : (a : Answer) → invalid ws len ≡ true → if_valid ws len a ≡ refused 13
  unfolding if_valid
  if_valid_13 a e = ap (λ (t : Bool). cond t (refused 13) a) e

  if_valid_ok : (a : Answer) → invalid ws len ≡ false → if_valid ws len a ≡ a
  unfolding if_valid
  if_valid_ok a e = ap (λ (t : Bool). cond t (refused 13) a) e

  -- ---- access

  pub access_13 : (pos : ℕ) → invalid ws len ≡ true → access_of ws len pos ≡ refused 13
  unfolding access_of
  access_13 pos e = if_valid_13 _ e

  pub access_none : (pos : ℕ) → invalid ws len ≡ false → len ≤ pos → access_of ws len pos ≡ none
  unfolding access_of
  access_none pos e h = if_valid_ok _ e ∙ ap (λ (t : Bool). cond t (value (bit_at ws pos)) none) (le-ltb pos len h)

  pub access_ok : (pos : ℕ) → invalid ws len ≡ false → pos < len → access_of ws len pos ≡ value (bit_at ws pos)
  unfolding access_of
  access_ok pos e h = if_valid_ok _ e ∙ ap (λ (t : Bool). cond t (value (bit_at ws pos)) none) (lt-ltb pos len h)

  -- ---- get_bits

  abbrev bits : ℕ → ℕ → ℕ
  bits pos width = word 1 (λ i. bit_at ws (pos + i)) width

  pub get_bits_13 : (pos width : ℕ) → invalid ws len ≡ true → get_bits_of ws len pos width ≡ refused 13
  unfolding get_bits_of
  get_bits_13 pos width e = if_valid_13 _ e

  pub get_bits_wide : (pos width : ℕ) → invalid ws len ≡ false → 64 < width → get_bits_of ws len pos width ≡ none
  unfolding get_bits_of
  get_bits_wide pos width e h = if_valid_ok _ e ∙ ap (λ (t : Bool). cond t (cond (leb (pos + width) len) (value (bits pos width)) none) none) (lt-leb width 64 h)

  pub get_bits_past : (pos width : ℕ) → invalid ws len ≡ false → width ≤ 64 → len < pos + width → get_bits_of ws len pos width ≡ none
  unfolding get_bits_of
  get_bits_past pos width e h l =
      if_valid_ok _ e ∙ ap (λ (t : Bool). cond t (cond (leb (pos + width) len) (value (bits pos width)) none) none) (le-leb width 64 h)
      ∙ ap (λ (t : Bool). cond t (value (bits pos width)) none) (lt-leb (pos + width) len l)

  pub get_bits_ok : (pos width : ℕ) → invalid ws len ≡ false → width ≤ 64 → pos + width ≤ len → get_bits_of ws len pos width ≡ value (bits pos width)
  unfolding get_bits_of
  get_bits_ok pos width e h l =
      if_valid_ok _ e ∙ ap (λ (t : Bool). cond t (cond (leb (pos + width) len) (value (bits pos width)) none) none) (le-leb width 64 h)
      ∙ ap (λ (t : Bool). cond t (value (bits pos width)) none) (le-leb (pos + width) len l)

  -- ---- get_word64

  abbrev word64 : ℕ → ℕ
  word64 pos = word 1 (λ i. bit_at (take (words_for len) ws) (pos + i)) 64

  pub get_word64_13 : (pos : ℕ) → invalid ws len ≡ true → get_word64_of ws len pos ≡ refused 13
  unfolding get_word64_of
  get_word64_13 pos e = if_valid_13 _ e

  pub get_word64_none : (pos : ℕ) → invalid ws len ≡ false → len ≤ pos → get_word64_of ws len pos ≡ none
  unfolding get_word64_of
  get_word64_none pos e h = if_valid_ok _ e ∙ ap (λ (t : Bool). cond t (value (word64 pos)) none) (le-ltb pos len h)

  pub get_word64_ok : (pos : ℕ) → invalid ws len ≡ false → pos < len → get_word64_of ws len pos ≡ value (word64 pos)
  unfolding get_word64_of
  get_word64_ok pos e h = if_valid_ok _ e ∙ ap (λ (t : Bool). cond t (value (word64 pos)) none) (lt-ltb pos len h)

  -- ---- rank1, num_ones

  pub rank1_13 : (pos : ℕ) → invalid ws len ≡ true → rank1_of ws len pos ≡ refused 13
  unfolding rank1_of
  rank1_13 pos e = if_valid_13 _ e

  pub rank1_none : (pos : ℕ) → invalid ws len ≡ false → len < pos → rank1_of ws len pos ≡ none
  unfolding rank1_of
  rank1_none pos e h = if_valid_ok _ e ∙ ap (λ (t : Bool). cond t (value (count (bit_at ws) pos)) none) (lt-leb pos len h)

  pub rank1_ok : (pos : ℕ) → invalid ws len ≡ false → pos ≤ len → rank1_of ws len pos ≡ value (count (bit_at ws) pos)
  unfolding rank1_of
  rank1_ok pos e h = if_valid_ok _ e ∙ ap (λ (t : Bool). cond t (value (count (bit_at ws) pos)) none) (le-leb pos len h)

  pub num_ones_13 : invalid ws len ≡ true → num_ones_of ws len ≡ refused 13
  unfolding num_ones_of
  num_ones_13 e = if_valid_13 _ e

  pub num_ones_ok : invalid ws len ≡ false → num_ones_of ws len ≡ value (count (bit_at ws) len)
  unfolding num_ones_of
  num_ones_ok e = if_valid_ok _ e

  -- ---- the selects and predecessor1

  pub select_13 : (b : Bool) (k : ℕ) → invalid ws len ≡ true → select_bit_of ws len b k ≡ refused 13
  unfolding select_bit_of
  select_13 b k e = if_valid_13 _ e

  pub select_ok : (b : Bool) (k : ℕ) (a : Option ℕ) → invalid ws len ≡ false → select (bit_over b ws) len k ≡ a → select_bit_of ws len b k ≡ of_option a
  unfolding select_bit_of
  select_ok b k a e h = if_valid_ok _ e ∙ ap of_option h

  pub predecessor1_13 : (pos : ℕ) → invalid ws len ≡ true → predecessor1_of ws len pos ≡ refused 13
  unfolding predecessor1_of
  predecessor1_13 pos e = if_valid_13 _ e

  pub predecessor1_ok : (pos end : ℕ) (a : Option ℕ) → invalid ws len ≡ false → min (pos + 1) len ≡ end → last (bit_at ws) end ≡ a → predecessor1_of ws len pos ≡ of_option a
  unfolding predecessor1_of
  predecessor1_ok pos end a e h l = if_valid_ok _ e ∙ ap of_option (ap (last (bit_at ws)) h ∙ l)

-- ---- calls that alter words

module _ (ws : List ℕ) (len : ℕ) where
  pub set-bit_13 : (pos : ℕ) (b : Bool) → invalid ws len ≡ true → set_bit_of ws len pos b ≡ leaves (refused 13) ws
  unfolding set_bit_of
  set-bit_13 pos b e = simp e

  pub set-bit_16 : (pos : ℕ) (b : Bool) → invalid ws len ≡ false → len ≤ pos → set_bit_of ws len pos b ≡ leaves (refused 16) ws
  unfolding set_bit_of
  set-bit_16 pos b e h = simp (e, le-ltb pos len h)

  pub set-bit_ok : (pos : ℕ) (b : Bool) → invalid ws len ≡ false → pos < len → set_bit_of ws len pos b ≡ leaves done (set ws (pos / 64) (put_bit (get_or ws (pos / 64) 0) (pos % 64) (flag b)))
  unfolding set_bit_of
  set-bit_ok pos b e h = simp (e, lt-ltb pos len h)

  module _ (bits width : ℕ) where
    pub push_13 : invalid ws len ≡ true → push_bits_of ws len bits width ≡ leaves (refused 13) ws
    unfolding push_bits_of
    push_13 e = simp e

    pub push_14 : invalid ws len ≡ false → 64 < width → push_bits_of ws len bits width ≡ leaves (refused 14) ws
    unfolding push_bits_of
    push_14 e h = simp (e, lt-ltb 64 width h)

    pub push_15_long : invalid ws len ≡ false → width ≤ 64 → 2 ^ 64 ≤ len + width → push_bits_of ws len bits width ≡ leaves (refused 15) ws
    unfolding push_bits_of
    push_15_long e h l = simp (e, le-ltb 64 width h, le-leb (2 ^ 64) (len + width) l)

    pub push_15_full : invalid ws len ≡ false → width ≤ 64 → len + width < 2 ^ 64 → length ws < words_for (len + width) → push_bits_of ws len bits width ≡ leaves (refused 15) ws
    unfolding push_bits_of
    push_15_full e h l f = simp (e, le-ltb 64 width h, lt-leb (2 ^ 64) (len + width) l, lt-ltb (length ws) (words_for (len + width)) f)

    pub push_ok : invalid ws len ≡ false → width ≤ 64 → len + width < 2 ^ 64 → words_for (len + width) ≤ length ws → push_bits_of ws len bits width ≡ leaves (value (len + width)) (appended ws len (bits % 2 ^ width) width)
    unfolding push_bits_of
    push_ok e h l f = simp (e, le-ltb 64 width h, lt-leb (2 ^ 64) (len + width) l, le-ltb (length ws) (words_for (len + width)) f)

  pub from_bit_13 : (b : Bool) → length ws < words_for len → from_bit_of b len ws ≡ leaves (refused 13) ws
  unfolding from_bit_of
  from_bit_13 b h = simp (lt-ltb (length ws) (words_for len) h)

  pub from_bit_ok : (b : Bool) → words_for len ≤ length ws → from_bit_of b len ws ≡ leaves done (number_words (words_for len) (flag b * (2 ^ len - 1)) ++ drop (words_for len) ws)
  unfolding from_bit_of
  from_bit_ok b h = simp (le-ltb (length ws) (words_for len) h)
