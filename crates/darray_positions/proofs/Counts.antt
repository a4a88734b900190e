-- Counting and seeking the positions of a bit vector word by word. Assumes nothing.
use Rattle.std.specs.Prelude.{Some}
use mathlib.Core.Path.{◌≡◌, refl, sym, ap, ap₂, ◌∙◌, subst}
use mathlib.Core.List.{List}
use mathlib.Core.Bool.{Bool}
use Prim.Native.Nat.{ℕ, ◌+◌, ◌-◌, ◌*◌, ◌/◌, ◌%◌, ◌^◌, ◌≤◌, ◌<◌}
use native.Mathlib.Nat.{le_refl, le_of_lt, le_dest, lt_of_lt_of_le, mod-lt, div-add-mod', lt_of_mul-lt-mul_right, add-zero}
use native.Mathlib.Omega.{arith}
use lib.Pow.{pow_pos, pow_mono}
use lib.ListN.{length, get_or}
use Rattle.broadword.specs.Bits.{bit, count, ones}
use Rattle.broadword.specs.Places.{select}
use Rattle.broadword.proofs.Count.{bit-above, bit-mod, count_add, count_le, count_mono, count_same, count_zero}
use Rattle.broadword.proofs.Find.{selected}
use Rattle.bit_words.specs.Vector.{bit_over, word_over}
use Rattle.bit_words.proofs.Runs.{Fit, bit_over_le, bit_over-word, count_word, count_next}
use Rattle.darray_positions.specs.declared.scan.Cursor.{Cursor}
use Rattle.darray_positions.specs.Scan.{Position, Ahead, Inside, Ranging, Reaches}
use Rattle.darray_positions.proofs.Positions.{below}

-- the ones of the n low bits
pub ones_low : (w n : ℕ) → n ≤ 64 → ones (w % 2 ^ n) 64 ≡ ones w n
ones_low w n h =
    let d = le_dest h in
    ap (count (bit (w % 2 ^ n))) (sym d.1)
    ∙ count_add (bit (w % 2 ^ n)) n d.0
    ∙ ap₂ (λ (x y : ℕ). x + y)
    (count_same (bit (w % 2 ^ n)) (bit w) n (λ i l. bit-mod w n i l))
    (count_zero (λ i. bit (w % 2 ^ n) (n + i)) d.0 (λ i _. bit-above (w % 2 ^ n) (n + i) (lt_of_lt_of_le (mod-lt w (pow_pos n)) (pow_mono (omega arith)))))
    ∙ add-zero (count (bit w) n)

module _ (b : Bool) (ws : List ℕ) (fit : Fit ws) where
  pub count_up : (n i m : ℕ) → n ≡ count (bit_over b ws) (i * 64) → m ≡ ones (word_over b (get_or ws i 0)) 64 → n + m ≡ count (bit_over b ws) ((i + 1) * 64)
  count_up n i m p q = ap₂ (λ (x y : ℕ). x + y) p q ∙ sym (count_next (bit_over b ws) (λ i. word_over b (get_or ws i 0)) (bit_over-word b ws fit) i)

  pub count_part : (len n m : ℕ) → n ≡ count (bit_over b ws) (len / 64 * 64) → m ≡ ones (word_over b (get_or ws (len / 64) 0) % 2 ^ (len % 64)) 64 → n + m ≡ count (bit_over b ws) len
  count_part len n m p q =
      ap₂ (λ (x y : ℕ). x + y) p (q ∙ ones_low (word_over b (get_or ws (len / 64) 0)) (len % 64) (omega arith))
      ∙ sym (count_word (bit_over b ws) (λ i. word_over b (get_or ws i 0)) (bit_over-word b ws fit) (len / 64) (len % 64) (omega arith))
      ∙ ap (count (bit_over b ws)) (div-add-mod' len 64)

pub count_few : (b : Bool) (ws : List ℕ) (n : ℕ) → count (bit_over b ws) n ≤ n
count_few b ws n = count_le (bit_over b ws) n (bit_over_le b ws)

-- a word before which no more than k positions stand, of more than k, is there
pub word_below : (b : Bool) (ws : List ℕ) (i k : ℕ) → count (bit_over b ws) (i * 64) ≤ k → Inside (bit_over b ws) (length ws) k → i < length ws
word_below b ws i k h l = lt_of_mul-lt-mul_right 64 (lt_of_lt_of_le (below (bit_over b ws) (i * 64) l.bits (omega (arith, l.there))) l.room)

-- the position with the number k, found in its word
module _ (b : Bool) (ws : List ℕ) (fit : Fit ws) (c : Cursor) (k : ℕ) (a : Ahead (bit_over b ws) c k) where
  pub hit_at : (s : ℕ) → Some s ≡ select (bit (word_over b (get_or ws c.word 0))) 64 (k - c.before) → Position (bit_over b ws) k (c.word * 64 + s)
  hit_at s e =
      let f : ℕ → ℕ = bit_over b ws in
      let w : ℕ = word_over b (get_or ws c.word 0) in
      let r = selected (bit w) 64 (k - c.before) s (sym e) in
      let l : s < 64 = r.within in
      record {
        one = bit_over-word b ws fit c.word s l ∙ r.one;
        before = count_word f (λ i. word_over b (get_or ws i 0)) (bit_over-word b ws fit) c.word s (omega arith) ∙ omega (arith, r.before, a.counted, a.to_come);
      }

-- a position that is inside lies below 2^63
pub position_lt : (f : ℕ → ℕ) (m k i : ℕ) → Inside f m k → Position f k i → i < 2 ^ 63
position_lt f m k i n p = lt_of_lt_of_le (below f i n.bits (omega (arith, p.before, n.there))) n.few

-- nor does the word of a position that is inside
pub word_le : (f : ℕ → ℕ) (m k i : ℕ) → count f (i * 64) ≤ k → Inside f m k → i * 64 ≤ 2 ^ 63
word_le f m k i h n = le_of_lt (lt_of_lt_of_le (below f (i * 64) n.bits (omega (arith, n.there))) n.few)

-- a position stands in a word that is there
pub position_word : (b : Bool) (ws : List ℕ) (k p : ℕ) → Position (bit_over b ws) k p → Inside (bit_over b ws) (length ws) k → p / 64 < length ws
position_word b ws k p q n = word_below b ws (p / 64) k (omega (arith, q.before, count_mono (bit_over b ws) (p / 64 * 64) p (omega arith))) n

-- a cursor at the word of the position with the number m, which stands at p: c of the word's ones stand below it
pub cursor_at : (b : Bool) (ws : List ℕ) → Fit ws → (m p c : ℕ) → Position (bit_over b ws) m p → c ≡ ones (word_over b (get_or ws (p / 64) 0) % 2 ^ (p % 64)) 64
    → Ahead (bit_over b ws) (record { word = p / 64; before = m - c }) m
cursor_at b ws fit m p c q e =
    let s = count_part b ws fit p (count (bit_over b ws) (p / 64 * 64)) c refl e in
    record { counted = omega (arith, q.before); to_come = omega arith }

pub below_le : (b : Bool) (ws : List ℕ) → Fit ws → (m p c : ℕ) → Position (bit_over b ws) m p → c ≡ ones (word_over b (get_or ws (p / 64) 0) % 2 ^ (p % 64)) 64 → c ≤ m
below_le b ws fit m p c q e = omega (arith, q.before, count_part b ws fit p (count (bit_over b ws) (p / 64 * 64)) c refl e)

-- ---- a position that is inside, looked for in all words

module _ (b : Bool) (ws : List ℕ) (k : ℕ) (n : Inside (bit_over b ws) (length ws) k) where
  word_in : (c : Cursor) → Ahead (bit_over b ws) c k → c.word < length ws
  word_in c a = word_below b ws c.word k (subst (λ (x : ℕ). x ≤ k) a.counted a.to_come) n

  pub ranging : (c : Cursor) → Ahead (bit_over b ws) c k → Ranging c (length ws) (length ws)
  ranging c a = record { upto = le_of_lt (word_in c a); room = le_refl (length ws) }

  -- it is reached
  pub reached : (from c : Cursor) → Reaches b ws from k (length ws) c → (c.word < length ws) × (c.word * 64 ≤ 2 ^ 63) × (k < c.before + ones (word_over b (get_or ws c.word 0)) 64)
  reached from c r =
      let a = r.ahead in
      (word_in c a, word_le (bit_over b ws) (length ws) k c.word (subst (λ (x : ℕ). x ≤ k) a.counted a.to_come) n, r.here (word_in c a))

-- where a position is reached before the word `end`, it is one of the words before that
pub reached_below : (b : Bool) (ws : List ℕ) → Fit ws → (from c : Cursor) (k end : ℕ) → Reaches b ws from k end c → c.word < end → k < count (bit_over b ws) (end * 64)
reached_below b ws fit from c k end r h =
    let e = count_up b ws fit c.before c.word (ones (word_over b (get_or ws c.word 0)) 64) r.ahead.counted refl in
    omega (arith, r.here h, count_mono (bit_over b ws) ((c.word + 1) * 64) (end * 64) (omega arith))
