-- What a store of some bits makes of a word, or of two neighbours, and of the words that they stand in. Assumes nothing.
use mathlib.Core.Path.{◌≡◌, sym, ap, ap₂, ◌∙◌, subst, subst⁻¹}
use mathlib.Core.List.{List, [], ◌∷◌, ◌++◌}
use Prim.Native.Nat.{ℕ, zero, suc, ◌+◌, ◌-◌, ◌*◌, ◌/◌, ◌%◌, ◌^◌, ◌≤◌, ◌<◌, max}
use native.Mathlib.Nat.{add-zero, add_comm, mul_assoc, mod-lt, mod-eq_of_lt, mul-add-div_right, mul-add-mod_self_right, lt_of_le_of_lt, div-lt_iff_lt-mul}
use native.Mathlib.Numerals.{add-one}
use native.Mathlib.Omega.{arith}
use lib.Arith.{digits_lt, digits_div}
use lib.Bits.{bit_and, bit_or, and_block, and_high, and_mask, or_block, or_step, or_shifted, or_zero_r}
use lib.Dec.{lit<}
use lib.ListN.{length, get_or, set, take, drop}
use lib.Pow.{pow_pos, pow-add, ones_lt, ones_split, high_ones, shr-shr, shr_lt, shl_exact, split, high}
use lib.Seq.{get_or-drop, length-take-le, split_at, drop-cons, set_split}
use Rattle.broadword.specs.Fields.{word}
use Rattle.bit_words.specs.Vector.{number, number_words, overwrite}
use Rattle.bit_words.proofs.Runs.{Fit}
use Rattle.bit_words.proofs.Packed.{upper, lower, set-two, one_shl}
use Rattle.bit_words.proofs.Overwrite.{over, over_lt, over_right, over-left, over_none}

-- ---- one word

pub mask_is : (w : ℕ) → w ≤ 64 → (2 ^ 64 - 1) / 2 ^ (64 - w) ≡ 2 ^ w - 1
mask_is w h =
    ap (λ (y : ℕ). (2 ^ y - 1) / 2 ^ (64 - w)) (let e : 64 ≡ w + (64 - w) = omega arith in e)
    ∙ ap (λ (y : ℕ). y / 2 ^ (64 - w)) (ones_split w (64 - w)) ∙ high (2 ^ w - 1) (64 - w) (ones_lt (64 - w))

-- v by its bits from s + width on, those before them, and those below s
module _ (v s : ℕ) where
  one_bit : bit_or (v / 2 ^ s) 1 ≡ v / 2 ^ (s + 1) * 2 + 1
  one_bit =
      let H : ℕ = v / 2 ^ s in
      let m : max (H % 2) 1 ≡ 1 = omega arith in
      or_step H 1 ∙ ap₂ (λ (a b : ℕ). a * 2 + b) (or_zero_r (H / 2) ∙ shr-shr v s 1) m

  -- a one at s
  pub or_one : bit_or v (2 ^ s) ≡ over v s 1 1
  unfolding over
  or_one =
      let S : ℕ = 2 ^ s in
      let d : (a b : ℕ) → (a * 2 + 1) * S + b ≡ a * (S * 2) + 1 * S + b = λ a b. omega arith in
      ap₂ bit_or (sym (split v s)) (let e : (y : ℕ) → y ≡ 1 * y + 0 = λ y. omega arith in e S)
      ∙ or_block s (v / S) 1 (v % S) 0 (mod-lt v (pow_pos s)) (pow_pos s)
      ∙ ap₂ (λ (a b : ℕ). a * S + b) one_bit (or_zero_r (v % S))
      ∙ d (v / 2 ^ (s + 1)) (v % S)
      ∙ ap (λ (y : ℕ). v / 2 ^ (s + 1) * y + 1 * S + v % S) (sym (pow-add 2 s 1))

module _ (v s w x : ℕ) (hv : v < 2 ^ 64) (h : s + w ≤ 64) (hx : x < 2 ^ w) where
  abbrev t : ℕ
  t = 64 - (s + w)

  all : 2 ^ 64 ≡ 2 ^ t * 2 ^ w * 2 ^ s
  all =
      ap (λ (y : ℕ). 2 ^ y) (let e : 64 ≡ t + w + s = omega arith in e) ∙ pow-add 2 (t + w) s ∙ ap (λ (y : ℕ). y * 2 ^ s) (pow-add 2 t w)

  -- all ones but the w from s on
  but_mask : 2 ^ 64 - 1 - (2 ^ w - 1) * 2 ^ s ≡ (2 ^ (t + w) - 2 ^ w) * 2 ^ s + (2 ^ s - 1)
  but_mask =
      let T : ℕ = 2 ^ t - 1 in
      let W : ℕ = 2 ^ w - 1 in
      let S : ℕ = 2 ^ s in
      let e_t : 2 ^ t ≡ T + 1 = omega (arith, pow_pos t) in
      let e_w : 2 ^ w ≡ W + 1 = omega (arith, pow_pos w) in
      let p : 1 ≤ S = pow_pos s in
      let e : 2 ^ 64 ≡ (T + 1) * (W + 1) * S = all ∙ ap₂ (λ (a b : ℕ). a * b * S) e_t e_w in
      let d : (X : ℕ) → X ≡ (T + 1) * (W + 1) * S → X - 1 - W * S ≡ T * (W + 1) * S + (S - 1) = λ X q. omega arith in
      d (2 ^ 64) e ∙ ap (λ (y : ℕ). T * y * S + (S - 1)) (sym e_w) ∙ ap (λ (y : ℕ). y * S + (S - 1)) (sym (high_ones t w))

  cleared : bit_and v (2 ^ 64 - 1 - (2 ^ w - 1) * 2 ^ s) ≡ v / 2 ^ (s + w) * 2 ^ w * 2 ^ s + v % 2 ^ s
  cleared =
      let lt : v / 2 ^ s / 2 ^ w < 2 ^ t =
      subst⁻¹ (λ (y : ℕ). y < 2 ^ t) (shr-shr v s w) (shr_lt t (s + w) (subst (λ (y : ℕ). v < 2 ^ y) (let e : 64 ≡ t + (s + w) = omega arith in e) hv)) in
      ap₂ bit_and (sym (split v s)) but_mask
      ∙ and_block s (v / 2 ^ s) (2 ^ (t + w) - 2 ^ w) (v % 2 ^ s) (2 ^ s - 1) (mod-lt v (pow_pos s)) (ones_lt s)
      ∙ ap₂ (λ (p q : ℕ). p * 2 ^ s + q)
      (and_high (v / 2 ^ s) t w ∙ ap (λ (y : ℕ). y * 2 ^ w) (mod-eq_of_lt {n = v / 2 ^ s / 2 ^ w} {m = 2 ^ t} lt ∙ shr-shr v s w))
      (and_mask (v % 2 ^ s) s ∙ mod-eq_of_lt {n = v % 2 ^ s} {m = 2 ^ s} (mod-lt v (pow_pos s)))

  -- x at s, the w bits there gone
  pub put_in : bit_or (bit_and v (2 ^ 64 - 1 - ((2 ^ w - 1) * 2 ^ s) % 2 ^ 64)) ((x * 2 ^ s) % 2 ^ 64) ≡ over v s w x
  unfolding over
  put_in =
      let S : ℕ = 2 ^ s in
      let q : ℕ = v / 2 ^ (s + w) in
      let l : w + s ≤ 64 = omega arith in
      let d : (a b : ℕ) → (q * a + x) * S + b ≡ q * (S * a) + x * S + b = λ a b. omega arith in
      ap₂ (λ (a b : ℕ). bit_or (bit_and v (2 ^ 64 - 1 - a)) b) (shl_exact w s 64 (ones_lt w) l) (shl_exact w s 64 hx l)
      ∙ ap₂ bit_or cleared (sym (add-zero (x * S)))
      ∙ or_block s (q * 2 ^ w) x (v % S) 0 (mod-lt v (pow_pos s)) (pow_pos s)
      ∙ ap₂ (λ (a b : ℕ). a * S + b) (or_shifted q w x hx) (or_zero_r (v % S))
      ∙ d (2 ^ w) (v % S) ∙ ap (λ (y : ℕ). q * y + x * S + v % S) (sym (pow-add 2 s w))

-- ---- two neighbours, g before h

module _ (g h s w x : ℕ) (hg : g < 2 ^ 64) (hh : h < 2 ^ 64) (hs : s ≤ 64) (hr : 64 ≤ s + w) (hw : w ≤ 64) (hx : x < 2 ^ w) where
  abbrev r : ℕ
  r = w - (64 - s)

  abbrev low : ℕ
  low = g % 2 ^ s

  low_lt : low < 2 ^ s
  low_lt = mod-lt g (pow_pos s)

  abbrev top : ℕ
  top = h / 2 ^ r * 2 ^ r

  -- the bits of h from r on, x and the bits of g below s
  over-two : over (h * 2 ^ 64 + g) s w x ≡ top * 2 ^ 64 + (low + x * 2 ^ s)
  unfolding over
  over-two =
      let v : ℕ = h * 2 ^ 64 + g in
      let e : s + w ≡ 64 + r = omega arith in
      let hi : v / 2 ^ (s + w) ≡ h / 2 ^ r = ap (λ (n : ℕ). v / 2 ^ n) e ∙ sym (shr-shr v 64 r) ∙ ap (λ (n : ℕ). n / 2 ^ r) (digits_div h {m = 2 ^ 64} {r = g} hg) in
      let P : 2 ^ (s + w) ≡ 2 ^ r * 2 ^ 64 = ap (λ (n : ℕ). 2 ^ n) (e ∙ add_comm 64 r) ∙ pow-add 2 r 64 in
      let Q : 2 ^ 64 ≡ 2 ^ (64 - s) * 2 ^ s = ap (λ (n : ℕ). 2 ^ n) (let f : 64 ≡ 64 - s + s = omega arith in f) ∙ pow-add 2 (64 - s) s in
      let lo : v % 2 ^ s ≡ low =
      ap (λ (n : ℕ). (h * n + g) % 2 ^ s) Q ∙ ap (λ (n : ℕ). (n + g) % 2 ^ s) (sym (mul_assoc h (2 ^ (64 - s)) (2 ^ s))) ∙ mul-add-mod_self_right (h * 2 ^ (64 - s)) (2 ^ s) g in
      let d : (a b c f : ℕ) → a * (b * 2 ^ 64) + c + f ≡ a * b * 2 ^ 64 + (f + c) = λ a b c f. omega arith in
      ap₂ (λ (m n : ℕ). m * n + x * 2 ^ s + v % 2 ^ s) hi P ∙ ap (λ (n : ℕ). h / 2 ^ r * (2 ^ r * 2 ^ 64) + x * 2 ^ s + n) lo ∙ d (h / 2 ^ r) (2 ^ r) (x * 2 ^ s) low

  carry_lt : x / 2 ^ (64 - s) < 2 ^ r
  carry_lt = shr_lt r (64 - s) (subst (λ (y : ℕ). x < 2 ^ y) (let e : w ≡ r + (64 - s) = omega arith in e) hx)

  second_lt : top + x / 2 ^ (64 - s) < 2 ^ 64
  second_lt =
      let e : 64 ≡ 64 - r + r = omega arith in
      subst⁻¹ (λ (y : ℕ). top + x / 2 ^ (64 - s) < y) (ap (λ (n : ℕ). 2 ^ n) e ∙ pow-add 2 (64 - r) r) (digits_lt (shr_lt (64 - r) r (subst (λ (y : ℕ). h < 2 ^ y) e hh)) carry_lt)

  pub first_word : bit_or low ((x * 2 ^ s) % 2 ^ 64) ≡ over (h * 2 ^ 64 + g) s w x % 2 ^ 64
  first_word = lower s x low hs low_lt ∙ sym (ap (λ (y : ℕ). y % 2 ^ 64) over-two ∙ mul-add-mod_self_right top (2 ^ 64) (low + x * 2 ^ s))

  pub second_word : bit_or (top % 2 ^ 64) (x / 2 ^ (64 - s)) ≡ over (h * 2 ^ 64 + g) s w x / 2 ^ 64
  second_word =
      ap (λ (y : ℕ). bit_or y (x / 2 ^ (64 - s))) (mod-eq_of_lt {n = top} {m = 2 ^ 64} (lt_of_le_of_lt (let e : top ≤ top + x / 2 ^ (64 - s) = omega arith in e) second_lt))
      ∙ or_shifted (h / 2 ^ r) r (x / 2 ^ (64 - s)) carry_lt
      ∙ ap (λ (y : ℕ). top + y) (upper s x low hs low_lt)
      ∙ sym (ap (λ (y : ℕ). y / 2 ^ 64) over-two ∙ mul-add-div_right (pow_pos 64) top (low + x * 2 ^ s))

-- ---- the words that they stand in

fit-take : (n : ℕ) (ws : List ℕ) → Fit ws → Fit (take n ws)
fit-take zero ws fit i = lit< tt
fit-take (suc n) [] fit i = lit< tt
fit-take (suc n) (w ∷ ws) fit zero = fit 0
fit-take (suc n) (w ∷ ws) fit (suc i) = fit-take n ws (λ j. fit (suc j)) i

pub fit-drop : (n : ℕ) (ws : List ℕ) → Fit ws → Fit (drop n ws)
fit-drop n ws fit i = subst⁻¹ (λ (y : ℕ). y < 2 ^ 64) (get_or-drop n ws i 0) (fit (n + i))

-- the words M, between A and C
over-between : (A M C : List ℕ) (s width x : ℕ) → Fit A → Fit M → Fit C → s + width ≤ 64 * length M → x < 2 ^ width
    → overwrite (A ++ (M ++ C)) (64 * length A + s) width x ≡ A ++ (overwrite M s width x ++ C)
over-between A M C s width x fa fm fc h hx = over_right A (M ++ C) s width x fa ∙ ap (λ (l : List ℕ). A ++ l) (over-left M C s width x fm fc h hx)

module _ (ws : List ℕ) (pos width x : ℕ) (fit : Fit ws) (hx : x < 2 ^ width) where
  abbrev at : ℕ
  at = pos / 64

  abbrev s : ℕ
  s = pos % 64

  place : at ≤ length ws → pos ≡ 64 * length (take at ws) + s
  place h = let e = length-take-le at ws h in omega arith

  fit-one : Fit (get_or ws at 0 ∷ [])
  fit-one zero = fit at
  fit-one (suc i) = lit< tt

  -- a word, where no bit leaves it
  pub over_word : at < length ws → s + width ≤ 64 → set ws at (over (get_or ws at 0) s width x) ≡ overwrite ws pos width x
  unfolding overwrite over number word number_words
  over_word h l =
      let g : ℕ = get_or ws at 0 in
      let A : List ℕ = take at ws in
      let C : List ℕ = drop (suc at) ws in
      let z : 0 * 2 ^ 64 + g ≡ g = omega arith in
      let m : over g s width x % 2 ^ 64 ≡ over g s width x = mod-eq_of_lt {n = over g s width x} {m = 2 ^ 64} (over_lt 64 g s width x (fit at) l hx) in
      let one : overwrite (g ∷ []) s width x ≡ over g s width x ∷ [] = ap (λ (y : ℕ). (over y s width x % 2 ^ 64) ∷ []) z ∙ ap (λ (y : ℕ). y ∷ []) m in
      set_split ws at (over g s width x) h ∙ ap (λ (k : List ℕ). A ++ (k ++ C)) (sym one)
      ∙ sym (over-between A (g ∷ []) C s width x (fit-take at ws fit) fit-one (fit-drop (suc at) ws fit) l hx)
      ∙ ap₂ (λ (k : List ℕ) (p : ℕ). overwrite k p width x) (sym (split_at ws at 0 h)) (sym (place (omega arith)))

  -- two neighbours, as one number
  abbrev two : ℕ
  two = get_or ws (at + 1) 0 * 2 ^ 64 + get_or ws at 0

  fit-two : Fit (get_or ws at 0 ∷ get_or ws (at + 1) 0 ∷ [])
  fit-two zero = fit at
  fit-two (suc zero) = fit (at + 1)
  fit-two (suc (suc i)) = lit< tt

  two_lt : two < 2 ^ 128
  two_lt = digits_lt {m = 2 ^ 64} {c = 2 ^ 64} (fit (at + 1)) (fit at)

  pub over-words : at + 1 < length ws → s + width ≤ 128 → set (set ws at (over two s width x % 2 ^ 64)) (at + 1) (over two s width x / 2 ^ 64) ≡ overwrite ws pos width x
  unfolding overwrite over number word number_words
  over-words h l =
      let M : ℕ = 2 ^ 64 in
      let g : ℕ = get_or ws at 0 in
      let k : ℕ = get_or ws (at + 1) 0 in
      let A : List ℕ = take at ws in
      let C : List ℕ = drop (suc (suc at)) ws in
      let u : ℕ = over two s width x in
      let q : u / M < 2 ^ 64 = (div-lt_iff_lt-mul (pow_pos 64)).1 (over_lt 128 two s width x two_lt l hx) in
      let z : (0 * 2 ^ 64 + k) * 2 ^ 64 + g ≡ two = ap (λ (y : ℕ). y * 2 ^ 64 + g) (let e : 0 * 2 ^ 64 + k ≡ k = omega arith in e) in
      let pair : overwrite (g ∷ k ∷ []) s width x ≡ (u % M) ∷ (u / M) ∷ [] =
      ap (λ (y : ℕ). (over y s width x % 2 ^ 64) ∷ (over y s width x / 2 ^ 64 % 2 ^ 64) ∷ []) z ∙ ap (λ (y : ℕ). (u % M) ∷ y ∷ []) (mod-eq_of_lt {n = u / M} {m = 2 ^ 64} q) in
      let e : at + 1 ≡ suc at = add-one at in
      let h' : suc at < length ws = omega arith in
      let parts : ws ≡ A ++ (g ∷ k ∷ C) =
      split_at ws at 0 (omega arith) ∙ ap (λ (r : List ℕ). A ++ g ∷ r) (drop-cons ws (suc at) 0 h' ∙ ap (λ (n : ℕ). get_or ws n 0 ∷ C) (sym e)) in
      ap (λ (n : ℕ). set (set ws at (u % M)) n (u / M)) e ∙ set-two ws at (u % M) (u / M) h' ∙ ap (λ (m : List ℕ). A ++ (m ++ C)) (sym pair)
      ∙ sym (over-between A (g ∷ k ∷ []) C s width x (fit-take at ws fit) fit-two (fit-drop (suc (suc at)) ws fit) l hx)
      ∙ ap₂ (λ (m : List ℕ) (p : ℕ). overwrite m p width x) (sym parts) (sym (place (omega arith)))

  -- the store of x in one word, by the mask m
  pub put-within : (m : ℕ) → m ≡ 2 ^ width - 1 → at < length ws → width ≤ 64 - s → set ws at (bit_or (bit_and (get_or ws at 0) (2 ^ 64 - 1 - (m * 2 ^ s) % 2 ^ 64)) ((x * 2 ^ s) % 2 ^ 64)) ≡ overwrite ws pos width x
  put-within m e h l =
      let k : s + width ≤ 64 = omega arith in
      ap (λ (y : ℕ). set ws at (bit_or (bit_and (get_or ws at 0) (2 ^ 64 - 1 - (y * 2 ^ s) % 2 ^ 64)) ((x * 2 ^ s) % 2 ^ 64))) e
      ∙ ap (set ws at) (put_in (get_or ws at 0) s width x (fit at) k hx) ∙ over_word h k

  -- and in two
  pub put_across : (m : ℕ) → m ≡ 2 ^ s - 1 → at + 1 < length ws → 64 - s < width → width ≤ 64
      → set (set ws at (bit_or (bit_and (get_or ws at 0) m) ((x * 2 ^ s) % 2 ^ 64))) (at + 1)
      (bit_or ((get_or ws (at + 1) 0 / 2 ^ (width - (64 - s)) * 2 ^ (width - (64 - s))) % 2 ^ 64) (x / 2 ^ (64 - s)))
      ≡ overwrite ws pos width x
  put_across m e h l k =
      let g : ℕ = get_or ws at 0 in
      let hs : s ≤ 64 = omega arith in
      let hr : 64 ≤ s + width = omega arith in
      ap₂ (λ (a b : ℕ). set (set ws at a) (at + 1) b)
      (ap (λ (y : ℕ). bit_or y ((x * 2 ^ s) % 2 ^ 64)) (ap (bit_and g) e ∙ and_mask g s) ∙ first_word g (get_or ws (at + 1) 0) s width x (fit at) (fit (at + 1)) hs hr k hx)
      (second_word g (get_or ws (at + 1) 0) s width x (fit at) (fit (at + 1)) hs hr k hx)
      ∙ over-words h (omega arith)

-- the store of no bits
pub put_none : (ws : List ℕ) (pos width x : ℕ) → Fit ws → width ≡ 0 → x < 2 ^ width → ws ≡ overwrite ws pos width x
put_none ws pos width x fit e h =
    let z : x ≡ 0 = let l : x < 1 = subst (λ (w : ℕ). x < 2 ^ w) e h in omega arith in
    sym (ap₂ (λ (w y : ℕ). overwrite ws pos w y) e z ∙ over_none ws pos fit)

-- the store of a one
pub put_one : (ws : List ℕ) (pos : ℕ) → Fit ws → pos / 64 < length ws → set ws (pos / 64) (bit_or (get_or ws (pos / 64) 0) ((1 * 2 ^ (pos % 64)) % 2 ^ 64)) ≡ overwrite ws pos 1 1
put_one ws pos fit h =
    let s : ℕ = pos % 64 in
    ap (λ (y : ℕ). set ws (pos / 64) (bit_or (get_or ws (pos / 64) 0) y)) (one_shl s (omega arith))
    ∙ ap (set ws (pos / 64)) (or_one (get_or ws (pos / 64) 0) s) ∙ over_word ws pos 1 1 fit (lit< tt) h (omega arith)
