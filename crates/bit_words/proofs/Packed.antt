-- Words as one number: a number that is added above the last used bit, a run of equal bits, and one bit of a word. Assumes nothing.
use mathlib.Core.Path.{◌≡◌, refl, sym, ap, ap₂, ◌∙◌, subst, subst⁻¹}
use mathlib.Core.List.{List, [], ◌∷◌, ◌++◌, append_assoc, append-nil}
use Prim.Native.Nat.{ℕ, zero, suc, ◌+◌, ◌-◌, ◌*◌, ◌/◌, ◌%◌, ◌^◌, ◌≤◌, ◌<◌}
use native.Mathlib.Nat.{div-eq_of_lt, div-le_self, lt_of_le_of_lt, le_of_eq, lt_of_not-le, zero-add, add-zero, suc-add, zero-mul, suc-mul, one-mul, div-add-mod', mod-lt, mod-eq_of_lt, div-lt_iff_lt-mul, le_of_suc-le-suc, not-suc-le-zero, lt_of_lt_of_le, zero-mod, mod-one}
use native.Mathlib.Numerals.{add-one}
use native.Mathlib.Decide.{dec_le}
use native.Mathlib.Omega.{arith}
use lib.Arith.{digits_lt, digits_div, digits_mod}
use lib.Bits.{bit_and, bit_or, and_block, and_high, and_mask, or_block, or_shifted, or_shifted_r, or_zero_r}
use lib.Dec.{lit<}
use lib.ListN.{length, get_or, set, take, drop, replicate, length-replicate, take-append-drop}
use lib.Pow.{pow_pos, pow-add, pow_mono, pow-lt, split, ones_split, ones_lt, low}
use lib.Seq.{set_split, set_at, drop-cons}
use Rattle.errors.specs.Answer.{value, leaves}
use Rattle.broadword.specs.Bits.{bit}
use Rattle.broadword.specs.Fields.{word}
use Rattle.bit_words.specs.Vector.{words_for, number_words, put_bit, appended}
use Rattle.bit_words.proofs.Runs.{Fit}

-- ---- a number above some whole words

pub base : (b : ℕ) → 2 ^ (suc b * 64) ≡ 2 ^ (b * 64) * 2 ^ 64
base b = ap (λ (e : ℕ). 2 ^ e) (suc-mul b 64) ∙ pow-add 2 (b * 64) 64

-- the highest field apart
word_snoc : (f : ℕ → ℕ) (n : ℕ) → word 64 f (suc n) ≡ word 64 f n + f n * 2 ^ (n * 64)
unfolding word
word_snoc f zero = let e : (0 * 2 ^ 64) + f 0 ≡ 0 + f 0 * 2 ^ 0 = omega arith in e
word_snoc f (suc n) =
    let g : ℕ → ℕ = λ i. f (suc i) in
    let w : ℕ = word 64 g n in
    let P : ℕ = 2 ^ (n * 64) in
    let d : (x : ℕ) → (w + x * P) * 2 ^ 64 + f 0 ≡ (w * 2 ^ 64 + f 0) + x * (P * 2 ^ 64) = λ x. omega arith in
    ap (λ (y : ℕ). y * 2 ^ 64 + f 0) (word_snoc g n) ∙ d (f (suc n)) ∙ ap (λ (y : ℕ). (w * 2 ^ 64 + f 0) + f (suc n) * y) (sym (base n))

-- the words of a number whose lowest words are those of the list
pub words-above : (ws : List ℕ) (b m y : ℕ) → Fit ws → b ≤ length ws → number_words (b + m) (word 64 (λ i. get_or ws i 0) b + y * 2 ^ (b * 64)) ≡ take b ws ++ number_words m y
unfolding word number_words
words-above ws zero m y fit h =
    let e : 0 + y * 2 ^ (0 * 64) ≡ y = let d : 0 + y * 1 ≡ y = omega arith in d in
    ap₂ number_words (zero-add m) e
words-above [] (suc b) m y fit h = absurd (not-suc-le-zero h)
words-above (w ∷ ws) (suc b) m y fit h =
    let W : ℕ = word 64 (λ i. get_or ws i 0) b in
    let P : ℕ = 2 ^ (b * 64) in
    let l : w < 2 ^ 64 = fit 0 in
    let d : (W * 2 ^ 64 + w) + y * (P * 2 ^ 64) ≡ (W + y * P) * 2 ^ 64 + w = omega arith in
    let e : (W * 2 ^ 64 + w) + y * 2 ^ (suc b * 64) ≡ (W + y * P) * 2 ^ 64 + w = ap (λ (z : ℕ). (W * 2 ^ 64 + w) + y * z) (base b) ∙ d in
    ap (λ (k : ℕ). number_words k ((W * 2 ^ 64 + w) + y * 2 ^ (suc b * 64))) (suc-add b m)
    ∙ ap (number_words (suc (b + m))) e
    ∙ ap₂ (λ (a z : ℕ). a ∷ number_words (b + m) z) (digits_mod (W + y * P) {m = 2 ^ 64} {r = w} l) (digits_div (W + y * P) {m = 2 ^ 64} {r = w} l)
    ∙ ap (λ (r : List ℕ). w ∷ r) (words-above ws b m y (λ i. fit (suc i)) (le_of_suc-le-suc h))

-- ---- x above s bits of w

module _ (s x w : ℕ) (hs : s ≤ 64) (hw : w < 2 ^ s) where
  parts : 2 ^ (64 - s) * 2 ^ s ≡ 2 ^ 64
  parts = sym (pow-add 2 (64 - s) s) ∙ ap (λ (y : ℕ). 2 ^ y) (let e : 64 - s + s ≡ 64 = omega arith in e)

  abbrev Q : ℕ
  Q = 2 ^ (64 - s)

  abbrev rest : ℕ
  rest = x % Q * 2 ^ s + w

  rest_lt : rest < 2 ^ 64
  rest_lt = subst (λ (y : ℕ). rest < y) parts (digits_lt (mod-lt x (pow_pos (64 - s))) hw)

  whole : w + x * 2 ^ s ≡ x / Q * 2 ^ 64 + rest
  whole =
      let d : (a b P : ℕ) → w + (a * Q + b) * P ≡ a * (Q * P) + (b * P + w) = λ a b P. omega arith in
      ap (λ (y : ℕ). w + y * 2 ^ s) (sym (div-add-mod' x Q)) ∙ d (x / Q) (x % Q) (2 ^ s) ∙ ap (λ (y : ℕ). x / Q * y + rest) parts

  pub upper : x / Q ≡ (w + x * 2 ^ s) / 2 ^ 64
  upper = sym (ap (λ (y : ℕ). y / 2 ^ 64) whole ∙ digits_div (x / Q) {m = 2 ^ 64} {r = rest} rest_lt)

  pub lower : bit_or w ((x * 2 ^ s) % 2 ^ 64) ≡ (w + x * 2 ^ s) % 2 ^ 64
  lower =
      let d : (a b P : ℕ) → (a * Q + b) * P ≡ a * (Q * P) + (b * P + 0) = λ a b P. omega arith in
      let shifted : x * 2 ^ s ≡ x / Q * 2 ^ 64 + (x % Q * 2 ^ s + 0) =
      ap (λ (y : ℕ). y * 2 ^ s) (sym (div-add-mod' x Q)) ∙ d (x / Q) (x % Q) (2 ^ s) ∙ ap (λ (y : ℕ). x / Q * y + (x % Q * 2 ^ s + 0)) parts in
      let l : x % Q * 2 ^ s + 0 < 2 ^ 64 = subst (λ (y : ℕ). x % Q * 2 ^ s + 0 < y) parts (digits_lt (mod-lt x (pow_pos (64 - s))) (pow_pos s)) in
      ap (bit_or w) (ap (λ (y : ℕ). y % 2 ^ 64) shifted ∙ digits_mod (x / Q) {m = 2 ^ 64} {r = x % Q * 2 ^ s + 0} l ∙ add-zero (x % Q * 2 ^ s))
      ∙ or_shifted_r (x % Q) s w hw
      ∙ sym (ap (λ (y : ℕ). y % 2 ^ 64) whole ∙ digits_mod (x / Q) {m = 2 ^ 64} {r = rest} rest_lt)

-- ---- what a push leaves

-- two neighbours stored
pub set-two : (l : List ℕ) (i a b : ℕ) → suc i < length l → set (set l i a) (suc i) b ≡ take i l ++ a ∷ b ∷ drop (suc (suc i)) l
set-two [] i a b h = absurd (not-suc-le-zero h)
set-two (x ∷ []) zero a b h = absurd (not-suc-le-zero (le_of_suc-le-suc h))
set-two (x ∷ z ∷ l) zero a b h = refl
set-two (x ∷ l) (suc i) a b h = ap (λ (r : List ℕ). x ∷ r) (set-two l i a b (le_of_suc-le-suc h))

module _ (ws : List ℕ) (len x width : ℕ) (fit : Fit ws) (room : words_for (len + width) ≤ length ws) where
  abbrev at : ℕ
  at = len / 64

  abbrev g : ℕ → ℕ
  g i = get_or ws i 0

  -- the used words and x above them, as the whole words below the last and a number y
  by_last : (y m : ℕ) → word 64 g (words_for len) + x * 2 ^ len ≡ word 64 g at + y * 2 ^ (at * 64) → words_for (len + width) ≡ at + m
      → appended ws len x width ≡ (take at ws ++ number_words m y) ++ drop (at + m) ws
  unfolding appended
  by_last y m e em =
      ap₂ (λ (k v : ℕ). number_words k v ++ drop k ws) em e
      ∙ ap (λ (l : List ℕ). l ++ drop (at + m) ws) (words-above ws at m y fit (omega arith))

  one_word : (y : ℕ) → y < 2 ^ 64 → at < length ws → (take at ws ++ number_words 1 y) ++ drop (at + 1) ws ≡ set ws at y
  unfolding number_words
  one_word y h l =
      append_assoc (take at ws) ((y % 2 ^ 64) ∷ []) (drop (at + 1) ws)
      ∙ ap₂ (λ (a k : ℕ). take at ws ++ a ∷ drop k ws) (mod-eq_of_lt {n = y} {m = 2 ^ 64} h) (add-one at)
      ∙ sym (set_split ws at y l)

  two-words : (y : ℕ) → y / 2 ^ 64 < 2 ^ 64 → at + 1 < length ws → (take at ws ++ number_words 2 y) ++ drop (at + 2) ws ≡ set (set ws at (y % 2 ^ 64)) (at + 1) (y / 2 ^ 64)
  unfolding number_words
  two-words y h l =
      append_assoc (take at ws) ((y % 2 ^ 64) ∷ (y / 2 ^ 64 % 2 ^ 64) ∷ []) (drop (at + 2) ws)
      ∙ ap₂ (λ (b k : ℕ). take at ws ++ (y % 2 ^ 64) ∷ b ∷ drop k ws) (mod-eq_of_lt {n = y / 2 ^ 64} {m = 2 ^ 64} h) (let e : at + 2 ≡ suc (suc at) = omega arith in e)
      ∙ sym (set-two ws at (y % 2 ^ 64) (y / 2 ^ 64) (omega arith)) ∙ ap (λ (k : ℕ). set (set ws at (y % 2 ^ 64)) k (y / 2 ^ 64)) (sym (add-one at))

  pow_len : 2 ^ len ≡ 2 ^ (len % 64) * 2 ^ (at * 64)
  pow_len = ap (λ (y : ℕ). 2 ^ y) (let e : len ≡ len % 64 + at * 64 = omega arith in e) ∙ pow-add 2 (len % 64) (at * 64)

  -- the last word is not used yet
  pub fresh : len % 64 ≡ 0 → x < 2 ^ 64 → words_for (len + width) ≡ at + 1 → set ws at x ≡ appended ws len x width
  fresh z hx em =
      let u : words_for len ≡ at = omega arith in
      let e : word 64 g (words_for len) + x * 2 ^ len ≡ word 64 g at + x * 2 ^ (at * 64) =
      ap₂ (λ (k v : ℕ). word 64 g k + x * v) u (ap (λ (y : ℕ). 2 ^ y) (let d : len ≡ at * 64 = omega arith in d)) in
      sym (by_last x 1 e em ∙ one_word x hx (omega arith))

  -- or has some bits
  module _ (part : len % 64 ≡ 0 → ⊥) where
    abbrev y : ℕ
    y = g at + x * 2 ^ (len % 64)

    above : word 64 g (words_for len) + x * 2 ^ len ≡ word 64 g at + y * 2 ^ (at * 64)
    above =
        let u : words_for len ≡ suc at = omega arith in
        let d : (P S W G : ℕ) → (W + G * P) + x * (S * P) ≡ W + (G + x * S) * P = λ P S W G. omega arith in
        ap₂ (λ (k v : ℕ). word 64 g k + x * v) u pow_len
        ∙ ap (λ (v : ℕ). v + x * (2 ^ (len % 64) * 2 ^ (at * 64))) (word_snoc g at)
        ∙ d (2 ^ (at * 64)) (2 ^ (len % 64)) (word 64 g at) (g at)

    below : g at / 2 ^ (len % 64) ≡ 0 → g at < 2 ^ (len % 64)
    below e = subst (λ (k : ℕ). g at < k) (one-mul (2 ^ (len % 64))) ((div-lt_iff_lt-mul (pow_pos (len % 64))).0 (subst⁻¹ (λ (k : ℕ). k < 1) e (lit< tt)))

    -- x ends in the last word
    pub joined : g at / 2 ^ (len % 64) ≡ 0 → x < 2 ^ (64 - len % 64) → words_for (len + width) ≡ at + 1
        → set ws at (bit_or (g at) ((x * 2 ^ (len % 64)) % 2 ^ 64)) ≡ appended ws len x width
    joined e hx em =
        let s : ℕ = len % 64 in
        let hs : s ≤ 64 = omega arith in
        let z : y / 2 ^ 64 ≡ 0 = sym (upper s x (g at) hs (below e)) ∙ div-eq_of_lt {n = x} {m = 2 ^ (64 - s)} hx in
        let h : y < 2 ^ 64 = omega arith in
        ap (set ws at) (lower s x (g at) hs (below e) ∙ mod-eq_of_lt {n = y} {m = 2 ^ 64} h) ∙ sym (by_last y 1 above em ∙ one_word y h (omega arith))

    -- or in the word after it
    pub spilled : g at / 2 ^ (len % 64) ≡ 0 → x < 2 ^ 64 → words_for (len + width) ≡ at + 2
        → set (set ws at (bit_or (g at) ((x * 2 ^ (len % 64)) % 2 ^ 64))) (at + 1) (x / 2 ^ (64 - len % 64)) ≡ appended ws len x width
    spilled e hx em =
        let s : ℕ = len % 64 in
        let hs : s ≤ 64 = omega arith in
        let u = upper s x (g at) hs (below e) in
        let h : y / 2 ^ 64 < 2 ^ 64 = subst (λ (k : ℕ). k < 2 ^ 64) u (lt_of_le_of_lt (div-le_self x (2 ^ (64 - s))) hx) in
        ap₂ (λ (a b : ℕ). set (set ws at a) (at + 1) b) (lower s x (g at) hs (below e)) u ∙ sym (by_last y 2 above em ∙ two-words y h (omega arith))

-- nothing is pushed
pub push_nothing : (ws : List ℕ) (len bits width : ℕ) → Fit ws → words_for len ≤ length ws → width ≡ 0 → leaves (value (len + width)) (appended ws len (bits % 2 ^ width) width) ≡ leaves (value len) ws
unfolding appended number_words
push_nothing ws len bits width fit room z =
    let u : ℕ = words_for len in
    let x : bits % 2 ^ width ≡ 0 = ap (λ (k : ℕ). bits % 2 ^ k) z ∙ mod-one bits in
    let e : len + width ≡ len = omega arith in
    let d : (A B : ℕ) → A + 0 * B ≡ A + 0 * 2 ^ (u * 64) = λ A B. omega arith in
    ap₂ (λ (n v : ℕ). leaves (value n) (number_words (words_for n) (word 64 (λ i. get_or ws i 0) u + v * 2 ^ len) ++ drop (words_for n) ws)) e x
    ∙ ap₂ (λ (k v : ℕ). leaves (value len) (number_words k v ++ drop u ws)) (sym (add-zero u)) (d (word 64 (λ i. get_or ws i 0) u) (2 ^ len))
    ∙ ap (λ (l : List ℕ). leaves (value len) (l ++ drop u ws)) (words-above ws u 0 0 fit room ∙ append-nil (take u ws))
    ∙ ap (leaves (value len)) (take-append-drop u ws)

-- ---- equal bits

-- f is 0 or 1: the words of f at every place below q * 64 + s
pub equal_words : (f q m s : ℕ) → f ≤ 1 → number_words (q + m) (f * (2 ^ (q * 64 + s) - 1)) ≡ replicate q (f * (2 ^ 64 - 1)) ++ number_words m (f * (2 ^ s - 1))
unfolding number_words
equal_words f zero m s h = ap₂ (λ (k e : ℕ). number_words k (f * (2 ^ e - 1))) (zero-add m) (let d : 0 * 64 + s ≡ s = omega arith in d)
equal_words f (suc q) m s h =
    let X : ℕ = 2 ^ (q * 64 + s) in
    let p : 1 ≤ X = pow_pos (q * 64 + s) in
    let ex : 2 ^ (suc q * 64 + s) ≡ X * 2 ^ 64 = ap (λ (e : ℕ). 2 ^ e) (let d : suc q * 64 + s ≡ q * 64 + s + 64 = omega arith in d) ∙ pow-add 2 (q * 64 + s) 64 in
    let c : X * 2 ^ 64 - 1 ≡ (X - 1) * 2 ^ 64 + (2 ^ 64 - 1) = omega arith in
    let d : (a b : ℕ) → f * (a * 2 ^ 64 + b) ≡ f * a * 2 ^ 64 + f * b = λ a b. omega arith in
    let e : f * (2 ^ (suc q * 64 + s) - 1) ≡ f * (X - 1) * 2 ^ 64 + f * (2 ^ 64 - 1) = ap (λ (z : ℕ). f * (z - 1)) ex ∙ ap (λ (z : ℕ). f * z) c ∙ d (X - 1) (2 ^ 64 - 1) in
    let l : f * (2 ^ 64 - 1) < 2 ^ 64 = omega arith in
    ap (λ (k : ℕ). number_words k (f * (2 ^ (suc q * 64 + s) - 1))) (suc-add q m)
    ∙ ap (number_words (suc (q + m))) e
    ∙ ap₂ (λ (a z : ℕ). a ∷ number_words (q + m) z) (digits_mod (f * (X - 1)) {m = 2 ^ 64} {r = f * (2 ^ 64 - 1)} l) (digits_div (f * (X - 1)) {m = 2 ^ 64} {r = f * (2 ^ 64 - 1)} l)
    ∙ ap (λ (r : List ℕ). f * (2 ^ 64 - 1) ∷ r) (equal_words f q m s h)

module _ (ws : List ℕ) (f len : ℕ) (h : f ≤ 1) (room : words_for len ≤ length ws) where
  abbrev q : ℕ
  q = len / 64

  abbrev W : ℕ
  W = f * (2 ^ 64 - 1)

  by_words : (m : ℕ) → words_for len ≡ q + m → number_words (words_for len) (f * (2 ^ len - 1)) ≡ replicate q W ++ number_words m (f * (2 ^ (len % 64) - 1))
  by_words m e =
      ap₂ (λ (k l : ℕ). number_words k (f * (2 ^ l - 1))) e (let d : len ≡ q * 64 + len % 64 = omega arith in d) ∙ equal_words f q m (len % 64) h

  pub filled : len % 64 ≡ 0 → replicate q W ++ drop q ws ≡ number_words (words_for len) (f * (2 ^ len - 1)) ++ drop (words_for len) ws
  unfolding number_words
  filled z =
      let e : words_for len ≡ q = omega arith in
      sym (ap₂ (λ (l : List ℕ) (k : ℕ). l ++ drop k ws) (by_words 0 (e ∙ sym (add-zero q)) ∙ append-nil (replicate q W)) e)

  last_word : W % 2 ^ (len % 64) ≡ f * (2 ^ (len % 64) - 1)
  last_word = cases (dec_le 1 f)
    where
      s : ℕ
      s = len % 64

      split64 : 2 ^ 64 - 1 ≡ (2 ^ (64 - len % 64) - 1) * 2 ^ (len % 64) + (2 ^ (len % 64) - 1)
      split64 = ap (λ (k : ℕ). 2 ^ k - 1) (let e : 64 ≡ 64 - len % 64 + len % 64 = omega arith in e) ∙ ones_split (64 - len % 64) (len % 64)

      cases : Dec (1 ≤ f) → W % 2 ^ (len % 64) ≡ f * (2 ^ (len % 64) - 1)
      cases (yes l) =
          let e : f ≡ 1 = omega arith in
          ap (λ (k : ℕ). k * (2 ^ 64 - 1) % 2 ^ (len % 64)) e ∙ ap (λ (k : ℕ). k % 2 ^ (len % 64)) split64
          ∙ low (2 ^ (64 - len % 64) - 1) (len % 64) (ones_lt (len % 64)) ∙ sym (one-mul (2 ^ (len % 64) - 1)) ∙ ap (λ (k : ℕ). k * (2 ^ (len % 64) - 1)) (sym e)
      cases (no g) =
          let e : f ≡ 0 = omega (arith, lt_of_not-le g) in
          ap (λ (k : ℕ). k * (2 ^ 64 - 1) % 2 ^ (len % 64)) e ∙ zero-mod (2 ^ (len % 64)) ∙ sym (zero-mul (2 ^ (len % 64) - 1)) ∙ ap (λ (k : ℕ). k * (2 ^ (len % 64) - 1)) (sym e)

  pub filled_part : (len % 64 ≡ 0 → ⊥) → set (replicate q W ++ drop q ws) q (W % 2 ^ (len % 64)) ≡ number_words (words_for len) (f * (2 ^ len - 1)) ++ drop (words_for len) ws
  unfolding number_words
  filled_part n =
      let e : words_for len ≡ q + 1 = omega arith in
      let L : ℕ = f * (2 ^ (len % 64) - 1) in
      let l : L < 2 ^ 64 = lt_of_le_of_lt (le_of_eq (sym last_word)) (lt_of_lt_of_le (mod-lt W (pow_pos (len % 64))) (pow_mono (let k : len % 64 ≤ 64 = omega arith in k))) in
      ap (λ (r : List ℕ). set (replicate q W ++ r) q (W % 2 ^ (len % 64))) (drop-cons ws q 0 (omega arith))
      ∙ set_at (replicate q W) (get_or ws q 0) (drop (suc q) ws) (W % 2 ^ (len % 64)) q (length-replicate q W)
      ∙ ap₂ (λ (a k : ℕ). replicate q W ++ a ∷ drop k ws) (last_word ∙ sym (mod-eq_of_lt {n = L} {m = 2 ^ 64} l)) (sym (add-one q))
      ∙ sym (append_assoc (replicate q W) ((L % 2 ^ 64) ∷ []) (drop (q + 1) ws))
      ∙ sym (ap₂ (λ (r : List ℕ) (k : ℕ). r ++ drop k ws) (by_words 1 e) e)

-- ---- one bit of a word

pub one_shl : (s : ℕ) → s < 64 → (1 * 2 ^ s) % 2 ^ 64 ≡ 2 ^ s
one_shl s h = ap (λ (y : ℕ). y % 2 ^ 64) (one-mul (2 ^ s)) ∙ mod-eq_of_lt {n = 2 ^ s} {m = 2 ^ 64} (pow-lt h)

module _ (w s : ℕ) (hw : w < 2 ^ 64) (hs : s < 64) where
  abbrev j : ℕ
  j = 63 - s

  abbrev H : ℕ
  H = w / 2 ^ s

  pow_j : 2 ^ (j + 1) * 2 ^ s ≡ 2 ^ 64
  pow_j = sym (pow-add 2 (j + 1) s) ∙ ap (λ (y : ℕ). 2 ^ y) (let e : j + 1 + s ≡ 64 = omega arith in e)

  high_lt : H / 2 < 2 ^ j
  high_lt =
      let a : H < 2 ^ (j + 1) = (div-lt_iff_lt-mul (pow_pos s)).1 (subst⁻¹ (λ (y : ℕ). w < y) pow_j hw) in
      let b : 2 ^ (j + 1) ≡ 2 ^ j * 2 = pow-add 2 j 1 in
      omega arith

  -- all ones but the one at s
  but_one : 2 ^ 64 - 1 - 2 ^ s ≡ (2 ^ (j + 1) - 2 ^ 1) * 2 ^ s + (2 ^ s - 1)
  but_one =
      let A : ℕ = 2 ^ j in
      let S : ℕ = 2 ^ s in
      let p : 1 ≤ A = pow_pos j in
      let q : 1 ≤ S = pow_pos s in
      let b : 2 ^ (j + 1) ≡ A * 2 = pow-add 2 j 1 in
      let B : ℕ = A - 1 in
      let a : A ≡ B + 1 = omega arith in
      let t : 2 ^ 64 ≡ B * 2 * S + 2 * S = sym pow_j ∙ ap (λ (y : ℕ). y * S) (b ∙ ap (λ (y : ℕ). y * 2) a) ∙ (let d : (B + 1) * 2 * S ≡ B * 2 * S + 2 * S = omega arith in d) in
      let u : 2 ^ (j + 1) - 2 ^ 1 ≡ B * 2 = omega arith in
      let v : (X : ℕ) → X ≡ B * 2 * S + 2 * S → X - 1 - S ≡ B * 2 * S + (S - 1) = λ X e. omega arith in
      v (2 ^ 64) t ∙ ap (λ (y : ℕ). y * S + (S - 1)) (sym u)

  cleared : bit_and w (2 ^ 64 - 1 - 2 ^ s) ≡ H / 2 * 2 * 2 ^ s + w % 2 ^ s
  cleared =
      ap₂ bit_and (sym (split w s)) but_one
      ∙ and_block s H (2 ^ (j + 1) - 2 ^ 1) (w % 2 ^ s) (2 ^ s - 1) (mod-lt w (pow_pos s)) (ones_lt s)
      ∙ ap₂ (λ (p q : ℕ). p * 2 ^ s + q)
      (and_high H j 1 ∙ ap (λ (y : ℕ). y * 2 ^ 1) (mod-eq_of_lt {n = H / 2} {m = 2 ^ j} high_lt))
      (and_mask (w % 2 ^ s) s ∙ mod-eq_of_lt {n = w % 2 ^ s} {m = 2 ^ s} (mod-lt w (pow_pos s)))

  pub put : (b : ℕ) → b < 2 → bit_or (bit_and w (2 ^ 64 - 1 - 2 ^ s)) (b * 2 ^ s) ≡ put_bit w s b
  unfolding put_bit bit
  put b hb =
      let S : ℕ = 2 ^ s in
      let lo : ℕ = w % S in
      let e : w ≡ (H / 2 * 2 + H % 2) * S + lo = sym (split w s) ∙ ap (λ (y : ℕ). y * S + lo) (sym (div-add-mod' H 2)) in
      let d : (A r X : ℕ) → X ≡ (A * 2 + r) * S + lo → (A * 2 + b) * S + lo ≡ X - r * S + b * S = λ A r X q. omega arith in
      ap₂ bit_or cleared (sym (add-zero (b * S)))
      ∙ or_block s (H / 2 * 2) b lo 0 (mod-lt w (pow_pos s)) (pow_pos s)
      ∙ ap₂ (λ (p q : ℕ). p * S + q) (or_shifted (H / 2) 1 b hb) (or_zero_r lo)
      ∙ d (H / 2) (H % 2) w e
