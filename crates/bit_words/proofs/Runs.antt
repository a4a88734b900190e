-- Laws of the bits of a slice of words: of a place in a word, of counts and of selects, for the ones and for the zeros. Assumes nothing.
use Rattle.std.specs.Prelude.{Some, None}
use mathlib.Core.Path.{◌≡◌, refl, sym, ap, ap₂, ◌∙◌}
use mathlib.Core.List.{List, [], ◌∷◌}
use mathlib.Core.Bool.{Bool, true, false}
use Prim.Native.Nat.{ℕ, zero, suc, ◌+◌, ◌-◌, ◌*◌, ◌/◌, ◌%◌, ◌^◌, ◌≤◌, ◌<◌}
use native.Mathlib.Nat.{lt_of_not-le, le_of_eq, le_dest, mul_assoc, mul-div_cancel, pow-suc, zero-add, not-suc-le-zero, le_refl, lt_of_lt_of_le, le_of_suc-le-suc, mul-one, mod-eq_of_lt, div-add-mod', le_trans}
use native.Mathlib.Decide.{dec_lt}
use native.Mathlib.Omega.{arith}
use lib.ListN.{length, get_or, take, drop}
use lib.Seq.{get_or-take, get_or-drop}
use lib.Dec.{eqb}
use lib.Pow.{pow_pos, pow-add}
use Rattle.broadword.specs.Bits.{bit, count, ones}
use Rattle.broadword.specs.Fields.{digit, flag, word}
use Rattle.broadword.specs.Places.{select}
use Rattle.broadword.proofs.Count.{bit_le, bit-mod, bit_shift, count_zero, count_add, count_same, count_le, count_mono}
use Rattle.broadword.proofs.Fields.{digit_is, digit_lt, digit-word, word-digits, word-sub}
use Rattle.broadword.proofs.Table.{each_eq}
use Rattle.broadword.proofs.Find.{selected, select_at, select_none, select_some}
use Rattle.bit_words.specs.Vector.{bit_at, bit_over, word_over}

-- ---- a word's complement

pub bit-digit_1 : (w j : ℕ) → digit 1 w j ≡ bit w j
unfolding bit
bit-digit_1 w j = digit_is 1 w j ∙ ap (λ (n : ℕ). w / 2 ^ n % 2) (mul-one j)

all_ones : word 1 (λ i. 1) 64 ≡ 2 ^ 64 - 1
unfolding word
all_ones = refl

pub bit_not : (w j : ℕ) → w < 2 ^ 64 → j < 64 → bit (2 ^ 64 - 1 - w) j ≡ 1 - bit w j
bit_not w j h l =
    let d : ℕ → ℕ = digit 1 w in
    let is : w ≡ word 1 d 64 = sym (word-digits 1 64 w ∙ mod-eq_of_lt {n = w} {m = 2 ^ 64} h) in
    let s : 2 ^ 64 - 1 - w ≡ word 1 (λ i. 1 - d i) 64 = ap₂ (λ (p q : ℕ). p - q) (sym all_ones) is ∙ word-sub 1 (λ i. 1) d 64 (λ i _. le_of_suc-le-suc (digit_lt 1 w i)) in
    sym (bit-digit_1 (2 ^ 64 - 1 - w) j) ∙ ap (λ (x : ℕ). digit 1 x j) s ∙ digit-word 1 (λ i. 1 - d i) 64 (λ i _. omega arith) j l
    ∙ ap (λ (x : ℕ). 1 - x) (bit-digit_1 w j)

-- ---- a place by its word

-- past the end of a list
pub get_d_past : (ws : List ℕ) (i : ℕ) → length ws ≤ i → get_or ws i 0 ≡ 0
get_d_past [] i h = refl
get_d_past (w ∷ ws) zero h = absurd (not-suc-le-zero h)
get_d_past (w ∷ ws) (suc i) h = get_d_past ws i (le_of_suc-le-suc h)

-- every word of the list is one
abbrev pub Fit : List ℕ → Type 0
Fit ws = (i : ℕ) → get_or ws i 0 < 2 ^ 64

pub bit_at-word : (ws : List ℕ) (i j : ℕ) → j < 64 → bit_at ws (i * 64 + j) ≡ bit (get_or ws i 0) j
unfolding bit_at
bit_at-word ws i j h =
    let p : (i * 64 + j) / 64 ≡ i = omega arith in
    let q : (i * 64 + j) % 64 ≡ j = omega arith in
    ap₂ (λ (a b : ℕ). bit (get_or ws a 0) b) p q

-- the first words hold the places below their end
pub bit_at-take : (n : ℕ) (ws : List ℕ) (i : ℕ) → i < n * 64 → bit_at (take n ws) i ≡ bit_at ws i
unfolding bit_at
bit_at-take n ws i h = ap (λ (w : ℕ). bit w (i % 64)) (get_or-take n ws (i / 64) 0 (omega arith))

pub bit_at_le : (ws : List ℕ) (i : ℕ) → bit_at ws i ≤ 1
unfolding bit_at
bit_at_le ws i = bit_le (get_or ws (i / 64) 0) (i % 64)

-- the bit as a test of the word, shifted down
pub bit-flag : (ws : List ℕ) (i : ℕ) → flag (eqb (get_or ws (i / 64) 0 / 2 ^ (i % 64) % 2) 1) ≡ bit_at ws i
unfolding bit_at bit
bit-flag ws i = test (get_or ws (i / 64) 0 / 2 ^ (i % 64) % 2) (omega arith)
  where
    test : (b : ℕ) → b < 2 → flag (eqb b 1) ≡ b
    test = each_eq (λ b. flag (eqb b 1)) (λ b. b) 2 tt

pub bit_over_le : (b : Bool) (ws : List ℕ) (i : ℕ) → bit_over b ws i ≤ 1
unfolding bit_over
bit_over_le true ws i = bit_at_le ws i
bit_over_le false ws i = omega arith

pub bit_over-word : (b : Bool) (ws : List ℕ) → Fit ws → (i j : ℕ) → j < 64 → bit_over b ws (i * 64 + j) ≡ bit (word_over b (get_or ws i 0)) j
unfolding bit_over
bit_over-word true ws fit i j h = bit_at-word ws i j h
bit_over-word false ws fit i j h = ap (λ (x : ℕ). 1 - x) (bit_at-word ws i j h) ∙ sym (bit_not (get_or ws i 0) j (fit i) h)

pub word_over_lt : (b : Bool) (w : ℕ) → w < 2 ^ 64 → word_over b w < 2 ^ 64
word_over_lt true w h = h
word_over_lt false w h = omega arith

-- ---- counts and selects by words, for a run f whose word i is W i

module _ (f W : ℕ → ℕ) (by_word_lem : (i j : ℕ) → j < 64 → f (i * 64 + j) ≡ bit (W i) j) where
  -- the first n bits of the word i
  pub count_word : (i n : ℕ) → n ≤ 64 → count f (i * 64 + n) ≡ count f (i * 64) + ones (W i) n
  count_word i n h =
      count_add f (i * 64) n
      ∙ ap (λ (y : ℕ). count f (i * 64) + y) (count_same (λ j. f (i * 64 + j)) (bit (W i)) n (λ j l. by_word_lem i j (lt_of_lt_of_le l h)))

  -- a whole word
  pub count_next : (i : ℕ) → count f ((i + 1) * 64) ≡ count f (i * 64) + ones (W i) 64
  count_next i = let e : (i + 1) * 64 ≡ i * 64 + 64 = omega arith in ap (count f) e ∙ count_word i 64 (le_refl 64)

-- ---- what a turn over a word adds, for the ones (true) or the zeros (false)

module _ (b : Bool) (ws : List ℕ) (fit : Fit ws) where
  pub over_next : (i : ℕ) → count (bit_over b ws) ((i + 1) * 64) ≡ count (bit_over b ws) (i * 64) + ones (word_over b (get_or ws i 0)) 64
  over_next = count_next (bit_over b ws) (λ i. word_over b (get_or ws i 0)) (bit_over-word b ws fit)

  -- x is the word i, and p its ones
  pub turn : (i x p : ℕ) → x ≡ word_over b (get_or ws i 0) → p ≡ ones x 64 → count (bit_over b ws) ((i + 1) * 64) ≡ count (bit_over b ws) (i * 64) + p
  turn i x p ex ep = over_next i ∙ ap (λ (y : ℕ). count (bit_over b ws) (i * 64) + y) (sym (ep ∙ ap (λ (y : ℕ). ones y 64) ex))

  -- and over the words of a part of them
  pub turn_part : (first n i x p : ℕ) → i < n → x ≡ word_over b (get_or (take n (drop first ws)) i 0) → p ≡ ones x 64
      → (p ≤ 64) × (count (bit_over b ws) ((first + (i + 1)) * 64) ≡ count (bit_over b ws) ((first + i) * 64) + p)
  turn_part first n i x p h ex ep =
      let e : get_or (take n (drop first ws)) i 0 ≡ get_or ws (first + i) 0 = get_or-take n (drop first ws) i 0 h ∙ get_or-drop first ws i 0 in
      let j : (first + (i + 1)) * 64 ≡ (first + i + 1) * 64 = omega arith in
      (omega (arith, ep, count_le (bit x) 64 (bit_le x)), ap (count (bit_over b ws)) j ∙ turn (first + i) x p (ex ∙ ap (word_over b) e) ep)

  -- fewer than the ones of the word i, which is x
  pub left_lt : (i left x : ℕ) → x ≡ word_over b (get_or ws i 0) → count (bit_over b ws) (i * 64) + left < count (bit_over b ws) ((i + 1) * 64) → left < ones x 64
  left_lt i left x ex h = let t = turn i x (ones x 64) ex refl in omega arith

-- ---- a rank: whole words, and the low bits of one

-- a bit below those of a number shifted up
pub bit_under : (w s j : ℕ) → j < s → bit (w * 2 ^ s) j ≡ 0
unfolding bit
bit_under w s j h =
    let d = le_dest h in
    let p : 2 ^ s ≡ 2 ^ d.0 * 2 * 2 ^ j = ap (λ (y : ℕ). 2 ^ y) (let q : s ≡ suc d.0 + j = omega (arith, d.1) in q) ∙ pow-add 2 (suc d.0) j ∙ ap (λ (y : ℕ). y * 2 ^ j) (pow-suc 2 d.0) in
    let e : w * 2 ^ s ≡ w * 2 ^ d.0 * 2 * 2 ^ j = ap (λ (y : ℕ). w * y) p ∙ simp mul_assoc in
    let r : w * 2 ^ s / 2 ^ j ≡ w * 2 ^ d.0 * 2 = ap (λ (y : ℕ). y / 2 ^ j) e ∙ mul-div_cancel (w * 2 ^ d.0 * 2) (pow_pos j) in
    omega arith

-- the ones of a word shifted up are those of its low bits
pub ones_shl : (w s n : ℕ) → s + n ≡ 64 → ones ((w * 2 ^ s) % 2 ^ 64) 64 ≡ ones w n
ones_shl w s n e =
    let y : ℕ = (w * 2 ^ s) % 2 ^ 64 in
    let low : count (bit y) s ≡ 0 = count_zero (bit y) s (λ j h. bit-mod (w * 2 ^ s) 64 j (omega arith) ∙ bit_under w s j h) in
    let high : count (λ i. bit y (s + i)) n ≡ ones w n =
    count_same (λ i. bit y (s + i)) (bit w) n (λ i h.
    bit-mod (w * 2 ^ s) 64 (s + i) (omega arith) ∙ sym (bit_shift (w * 2 ^ s) s i) ∙ ap (λ (z : ℕ). bit z i) (mul-div_cancel w (pow_pos s))) in
    ap (count (bit y)) (sym e) ∙ count_add (bit y) s n ∙ ap₂ (λ (p q : ℕ). p + q) low high ∙ zero-add (ones w n)

module _ (ws : List ℕ) (r p pos : ℕ) where
  -- of the word i the bits below pos
  pub rank_part : (i : ℕ) → r ≡ count (bit_at ws) (i * 64) → i ≡ pos / 64 → p ≡ ones ((get_or ws (pos / 64) 0 * 2 ^ (64 - pos % 64)) % 2 ^ 64) 64 → r + p ≡ count (bit_at ws) pos
  rank_part i er ei ep =
      let n : ℕ = pos % 64 in
      let s : 64 - n + n ≡ 64 = omega arith in
      ap₂ (λ (a b : ℕ). a + b) (er ∙ ap (λ (j : ℕ). count (bit_at ws) (j * 64)) ei) (ep ∙ ones_shl (get_or ws (pos / 64) 0) (64 - n) n s)
      ∙ sym (count_word (bit_at ws) (λ i. get_or ws i 0) (bit_at-word ws) (pos / 64) n (omega arith)) ∙ ap (count (bit_at ws)) (div-add-mod' pos 64)

-- the whole words before the place, counted as ones from the first word on
pub rank_from : (ws : List ℕ) (n r : ℕ) → count (bit_over true ws) (0 * 64) + r ≡ count (bit_over true ws) (n * 64) → r ≡ count (bit_at ws) (n * 64)
unfolding count bit_over
rank_from ws n r e =
    let s : count (bit_over true ws) (n * 64) ≡ count (bit_at ws) (n * 64) = count_same (bit_over true ws) (bit_at ws) (n * 64) (λ i _. refl) in
    omega arith

pub rank_le : (ws : List ℕ) (n : ℕ) → count (bit_at ws) n ≤ n
rank_le ws n = count_le (bit_at ws) n (bit_at_le ws)

-- ---- a select in more places

module _ (f : ℕ → ℕ) (bits : (i : ℕ) → f i ≤ 1) (m n k : ℕ) where
  pub narrow_in : (p : ℕ) → select f m k ≡ Some p → p < n → select f n k ≡ Some p
  narrow_in p e l = let r = selected f m k p e in select_at f n k p l r.one r.before

  pub narrow_past : (p : ℕ) → select f m k ≡ Some p → n ≤ p → select f n k ≡ None
  narrow_past p e h = select_none f n k (le_trans (count_mono f n p h) (le_of_eq (selected f m k p e).before))

  pub select_few : select f m k ≡ None → count f m ≤ k
  select_few e = go (dec_lt k (count f m))
    where
      go : Dec (k < count f m) → count f m ≤ k
      go (yes l) =
          let s = select_some f m k bits l in
          let a = select_at f m k s.0 s.1.within s.1.one s.1.before in
          let z : ◌≡◌ {A = ℕ} 0 1 = cc in
          absurd (omega arith)
      go (no g) = omega (arith, lt_of_not-le g)

  pub narrow_none : select f m k ≡ None → n ≤ m → select f n k ≡ None
  narrow_none e h = select_none f n k (le_trans (count_mono f n m h) (select_few e))

-- counted from the first place
pub from_first : (f : ℕ → ℕ) (k : ℕ) → count f 0 + k ≡ k
unfolding count
from_first f k = zero-add k

-- in no place
pub select_empty : (f : ℕ → ℕ) (n k : ℕ) → n ≡ 0 → select f n k ≡ None
unfolding select
select_empty f n k e = ap (λ (m : ℕ). select f m k) e
