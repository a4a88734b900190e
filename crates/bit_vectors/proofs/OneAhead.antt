-- What a walk finds from a place on: in the rest of its word, and in the words after it. Assumes nothing.
use Rattle.std.specs.Prelude.{Some, None}
use mathlib.Core.Path.{◌≡◌, refl, sym, ap, ap₂, ◌∙◌, subst, subst⁻¹}
use mathlib.Core.List.{List}
use mathlib.Core.Bool.{true}
use Prim.Native.Nat.{ℕ, ◌+◌, ◌-◌, ◌*◌, ◌/◌, ◌%◌, ◌^◌, ◌≤◌, ◌<◌}
use native.Mathlib.Nat.{mul-one, div-one, le_refl, le_trans, le_of_eq, lt_of_lt_of_le, lt_of_le_of_lt, lt_of_not-le, zero-mul, mul-div_cancel, add-zero, div-lt_iff_lt-mul, one-mul, mul_comm, zero-div}
use native.Mathlib.Decide.{dec_lt, ℕ_discrete}
use native.Mathlib.Omega.{arith}
use lib.Arith.{digits_div}
use lib.Bits.{bit_and, and_self, and_block, and_zero_l}
use lib.Dec.{lit<}
use lib.ListN.{length, get_or, take}
use lib.Pow.{pow_pos, pow-add, pow_mono, ones_lt, shr-shr, split}
use lib.Seq.{get_or-take, length-take-le}
use Rattle.broadword.specs.Bits.{bit, count, ones}
use Rattle.broadword.specs.Places.{select}
use Rattle.broadword.proofs.Count.{bit-above, count_zero, count_mono}
use Rattle.broadword.proofs.Find.{selected, select_at, select_none}
use Rattle.broadword.proofs.Lowest.{odd_times, bit-one, none_below, short}
use Rattle.bit_words.specs.Vector.{bit_over, words_for}
use Rattle.bit_words.specs.Inner.{Skipped}
use Rattle.bit_vectors.specs.Inner.{OneAhead}
use Rattle.bit_vectors.specs.Walk.{rest_of}
use Rattle.bit_words.proofs.Search.{rest_at, rest_over}
use Rattle.bit_words.proofs.Runs.{Fit, get_d_past, bit_over-word, over_next}
use Rattle.bit_words.proofs.Valid.{Valid}

-- ---- ones lie below the length

pub one_below : (ws : List ℕ) (len i t : ℕ) → Valid ws len → i < words_for len → t < 64 → bit (get_or ws i 0) t ≡ 1 → i * 64 + t < len
one_below ws len i t v h l o = go (dec_lt (i * 64 + t) len)
  where
    go : Dec (i * 64 + t < len) → i * 64 + t < len
    go (yes g) = g
    go (no g) =
        let past : len ≤ i * 64 + t = omega (arith, lt_of_not-le g) in
        let n : len % 64 ≡ 0 → ⊥ = λ z. omega arith in
        let e : len / 64 ≡ i = omega arith in
        let m : len % 64 ≤ t = omega arith in
        let q : get_or ws i 0 / 2 ^ (len % 64) ≡ 0 = ap (λ (k : ℕ). get_or ws k 0 / 2 ^ (len % 64)) (sym e) ∙ v.clear n in
        let k : get_or ws i 0 < 2 ^ (len % 64) = subst (λ (y : ℕ). get_or ws i 0 < y) (one-mul (2 ^ (len % 64))) ((div-lt_iff_lt-mul (pow_pos (len % 64))).0 (subst⁻¹ (λ (y : ℕ). y < 1) q (lit< tt))) in
        let z : bit (get_or ws i 0) t ≡ 0 = bit-above (get_or ws i 0) t (lt_of_lt_of_le k (pow_mono m)) in
        absurd (omega arith)

-- ---- the lowest one

pub lowest_none : (x : ℕ) → x < 2 ^ 64 → select (bit x) 64 0 ≡ None → x ≡ 0
lowest_none x h e = go (ℕ_discrete x 0)
  where
    go : Dec (x ≡ 0) → x ≡ 0
    go (yes z) = z
    go (no n) =
        let o = odd_times x (omega arith) in
        let a = select_at (bit x) 64 0 o.0 (short x o.0 o.1 o.2 64 h) (bit-one x o.0 o.1 o.2) (none_below x o.0 o.1 o.2) in
        let z : ◌≡◌ {A = ℕ} 0 1 = cc in
        absurd (omega arith)

pub zero_ones : (n : ℕ) → ones 0 n ≡ 0
zero_ones n = count_zero (bit 0) n (λ i _. bit-above 0 i (pow_pos i))

pub lowest_zero : (t : ℕ) → select (bit 0) 64 0 ≡ Some t → ⊥
lowest_zero t e = let o = (selected (bit 0) 64 0 t e).one in let z = bit-above 0 t (pow_pos t) in omega arith

pub lowest_pos : (x t : ℕ) → select (bit x) 64 0 ≡ Some t → 1 ≤ x
lowest_pos x t e = go (ℕ_discrete x 0)
  where
    go : Dec (x ≡ 0) → 1 ≤ x
    go (yes z) = absurd (lowest_zero t (ap (λ (y : ℕ). select (bit y) 64 0) (sym z) ∙ e))
    go (no n) = omega arith

and_even : (m : ℕ) → bit_and (m * 2 + 1) (m * 2) ≡ m * 2
and_even m =
    ap (bit_and (m * 2 + 1)) (sym (add-zero (m * 2))) ∙ and_block 1 m m 1 0 (lit< tt) (lit< tt)
    ∙ ap (λ (a : ℕ). a * 2 + 0) (and_self m) ∙ add-zero (m * 2)

-- without it
pub lowest_cleared : (x t : ℕ) → x < 2 ^ 64 → select (bit x) 64 0 ≡ Some t → bit_and x (x - 1) ≡ x / 2 ^ (t + 1) * 2 ^ (t + 1)
lowest_cleared x t h e =
    let o = odd_times x (lowest_pos x t e) in
    let u : ℕ = o.0 in
    let m : ℕ = o.1 in
    let a = select_at (bit x) 64 0 u (short x u m o.2 64 h) (bit-one x u m o.2) (none_below x u m o.2) in
    let same : u ≡ t = cc in
    let U : ℕ = 2 ^ u in
    let p : 1 ≤ U = pow_pos u in
    let up : 2 ^ (t + 1) ≡ 2 * U = ap (λ (y : ℕ). 2 ^ (y + 1)) (sym same) ∙ pow-add 2 u 1 ∙ mul_comm U 2 in
    let less : x - 1 ≡ m * 2 * U + (U - 1) = (let d : (X : ℕ) → X ≡ (m * 2 + 1) * U → X - 1 ≡ m * 2 * U + (U - 1) = λ X q. omega arith in d x o.2) in
    let high : x / 2 ^ (t + 1) ≡ m =
    ap₂ (λ (a b : ℕ). a / b) (o.2 ∙ (let d : (m * 2 + 1) * U ≡ m * (2 * U) + U = omega arith in d)) up ∙ digits_div m (omega arith) in
    ap₂ bit_and (o.2 ∙ sym (add-zero ((m * 2 + 1) * U))) less
    ∙ and_block u (m * 2 + 1) (m * 2) 0 (U - 1) p (ones_lt u)
    ∙ ap₂ (λ (a b : ℕ). a * U + b) (and_even m) (and_zero_l (U - 1))
    ∙ (let d : m * 2 * U + 0 ≡ m * (2 * U) = omega arith in d) ∙ ap₂ (λ (a b : ℕ). a * b) (sym high) (sym up)

-- ---- the rest that a walk keeps

module _ (ws : List ℕ) (len : ℕ) (room : words_for len ≤ length ws) where
  pub rest_is : (i p q : ℕ) → p / 64 ≡ i → i < words_for len → rest_of ws len p q ≡ get_or ws i 0 / 2 ^ (q - i * 64) * 2 ^ (q - i * 64)
  unfolding rest_of
  rest_is i p q e h =
      ap (λ (k : ℕ). get_or (take (words_for len) ws) k 0 / 2 ^ (q - k * 64) * 2 ^ (q - k * 64)) e
      ∙ ap (λ (w : ℕ). w / 2 ^ (q - i * 64) * 2 ^ (q - i * 64)) (get_or-take (words_for len) ws i 0 h)

  pub rest_from : (from : ℕ) → from / 64 < words_for len → get_or ws (from / 64) 0 / 2 ^ (from % 64) * 2 ^ (from % 64) ≡ rest_of ws len from from
  rest_from from h =
      ap (λ (s : ℕ). get_or ws (from / 64) 0 / 2 ^ s * 2 ^ s) (let e : from % 64 ≡ from - from / 64 * 64 = omega arith in e) ∙ sym (rest_is (from / 64) from from refl h)

  pub rest_past : (p q : ℕ) → words_for len ≤ p / 64 → rest_of ws len p q ≡ 0
  unfolding rest_of
  rest_past p q h =
      ap (λ (w : ℕ). w / 2 ^ (q - p / 64 * 64) * 2 ^ (q - p / 64 * 64)) (get_d_past (take (words_for len) ws) (p / 64) (le_trans (le_of_eq (length-take-le (words_for len) ws room)) h))
      ∙ ap (λ (k : ℕ). k * 2 ^ (q - p / 64 * 64)) (zero-div (2 ^ (q - p / 64 * 64))) ∙ zero-mul (2 ^ (q - p / 64 * 64))

  pub rest_end : ((len % 64 ≡ 0 → ⊥) → get_or ws (len / 64) 0 / 2 ^ (len % 64) ≡ 0) → 0 ≡ rest_of ws len len len
  rest_end clear = go (ℕ_discrete (len % 64) 0)
    where
      go : Dec (len % 64 ≡ 0) → 0 ≡ rest_of ws len len len
      go (yes z) = sym (rest_past len len (omega arith))
      go (no n) = sym (ap (λ (k : ℕ). k * 2 ^ (len % 64)) (clear n) ∙ zero-mul (2 ^ (len % 64))) ∙ rest_from len (omega arith)

-- ---- what is ahead

module _ (ws : List ℕ) (len from at : ℕ) (fit : Fit ws) (v : Valid ws len) where
  abbrev g : ℕ → ℕ
  g = bit_over true ws

  -- nothing
  pub ahead_none : count g len ≤ count g from → OneAhead ws len from at 0
  ahead_none h = record { small = lit< tt; nothing = λ _. select_none g len (count g from + 0) (omega arith); place = λ t e. absurd (lowest_zero t e) }

  -- in the word `at`, from the place `start` on, with as many ones before it
  module _ (start x : ℕ) (lo : at * 64 ≤ start) (hi : start ≤ at * 64 + 64) (in_used : at < words_for len)
      (same : count g start ≡ count g from) (is : x ≡ get_or ws at 0 / 2 ^ (start - at * 64) * 2 ^ (start - at * 64)) where
    x_lt : x < 2 ^ 64
    x_lt =
        let s : ℕ = start - at * 64 in
        let d = split (get_or ws at 0) s in
        lt_of_le_of_lt (le_trans (le_of_eq is) (omega arith)) (fit at)

    pub ahead_some : (x ≡ 0 → ⊥) → OneAhead ws len from at x
    ahead_some n = record { small = x_lt; nothing = λ e. absurd (n e); place = found }
      where
        found : (t : ℕ) → select (bit x) 64 0 ≡ Some t → (at * 64 + t < len) × (select g len (count g from + 0) ≡ Some (at * 64 + t)) × (x / 2 ^ (t + 1) * 2 ^ (t + 1) ≡ rest_of ws len (at * 64 + t) (at * 64 + t + 1))
        found t e =
            let s : ℕ = start - at * 64 in
            let w : ℕ = get_or ws at 0 in
            let r = rest_at true ws fit start at lo hi 0 t (ap (λ (y : ℕ). select (bit y) 64 0) (sym is) ∙ e) in
            let l = r.0 in
            let below : at * 64 + t < len = one_below ws len at t v in_used l (sym (bit_over-word true ws fit at t l) ∙ r.1) in
            let d : ℕ = t + 1 - s in
            let sd : t + 1 ≡ s + d = omega (arith, r.3) in
            let high : x / 2 ^ (t + 1) ≡ w / 2 ^ (t + 1) =
            ap (λ (k : ℕ). x / 2 ^ k) sd ∙ sym (shr-shr x s d) ∙ ap (λ (y : ℕ). y / 2 ^ d) (ap (λ (y : ℕ). y / 2 ^ s) is ∙ mul-div_cancel (w / 2 ^ s) (pow_pos s)) ∙ shr-shr w s d ∙ ap (λ (k : ℕ). w / 2 ^ k) (sym sd) in
            let q : at * 64 + t + 1 - at * 64 ≡ t + 1 = omega arith in (
              below,
              select_at g len (count g from + 0) (at * 64 + t) below r.1 (r.2 ∙ ap (λ (y : ℕ). y + 0) same),
              ap (λ (y : ℕ). y * 2 ^ (t + 1)) high ∙ ap (λ (k : ℕ). w / 2 ^ k * 2 ^ k) (sym q) ∙ sym (rest_is ws len v.room at (at * 64 + t) (at * 64 + t + 1) (omega arith) in_used),
            )

-- a word that is not 0 has a one
pub some_ones : (x : ℕ) → x < 2 ^ 64 → (x ≡ 0 → ⊥) → 0 < ones x 64
some_ones x h n = go (dec_lt 0 (ones x 64))
  where
    go : Dec (0 < ones x 64) → 0 < ones x 64
    go (yes l) = l
    go (no g) = absurd (n (lowest_none x h (select_none (bit x) 64 0 (omega (arith, lt_of_not-le g)))))

-- ---- what is left of a walk

module _ (ws : List ℕ) (len p q buf : ℕ) (fit : Fit ws) (v : Valid ws len) (behind : p ≤ q) (near : q ≤ p + 1) (is : buf ≡ rest_of ws len p q) where
  in_word : p / 64 < words_for len → buf ≡ get_or ws (p / 64) 0 / 2 ^ (q - p / 64 * 64) * 2 ^ (q - p / 64 * 64)
  in_word l = is ∙ rest_is ws len v.room (p / 64) p q refl l

  pub left_buf : (buf ≡ 0 → ⊥) → OneAhead ws len q (p / 64) buf
  left_buf n = go (dec_lt (p / 64) (words_for len))
    where
      go : Dec (p / 64 < words_for len) → OneAhead ws len q (p / 64) buf
      go (yes l) = ahead_some ws len q (p / 64) fit v q buf (omega arith) (omega arith) l refl (in_word l) n
      go (no g) = absurd (n (is ∙ rest_past ws len v.room p q (omega (arith, lt_of_not-le g))))

  -- nothing is left of the word: the ones below the next word are those below `from`
  after : buf ≡ 0 → p / 64 < words_for len → count (bit_over true ws) ((p / 64 + 1) * 64) ≡ count (bit_over true ws) q
  after z l =
      rest_over true ws fit q (p / 64) (omega arith) (omega arith)
      ∙ ap (λ (x : ℕ). count (bit_over true ws) q + ones x 64) (sym (in_word l) ∙ z) ∙ ap (λ (x : ℕ). count (bit_over true ws) q + x) (zero_ones 64) ∙ add-zero (count (bit_over true ws) q)

  pub left_end : buf ≡ 0 → words_for len ≤ p / 64 + 1 → OneAhead ws len q (p / 64) 0
  left_end z h = go (dec_lt (p / 64) (words_for len))
    where
      go : Dec (p / 64 < words_for len) → OneAhead ws len q (p / 64) 0
      go (yes l) = ahead_none ws len q (p / 64) fit v (le_trans (count_mono (bit_over true ws) len ((p / 64 + 1) * 64) (omega arith)) (le_of_eq (after z l)))
      go (no g) = let m = lt_of_not-le g in ahead_none ws len q (p / 64) fit v (count_mono (bit_over true ws) len q (omega arith))

  module _ (z : buf ≡ 0) (l : p / 64 + 1 < words_for len) (i : ℕ) (s : Skipped (bit_over true ws) (p / 64 + 1) (words_for len) 0 i 0) where
    pub same : count (bit_over true ws) (i * 64) ≡ count (bit_over true ws) q
    same = let e = s.before in let a = after z (omega arith) in omega arith

    pub left_none : i ≡ words_for len → OneAhead ws len q (p / 64) 0
    left_none e = ahead_none ws len q (p / 64) fit v (le_trans (count_mono (bit_over true ws) len (i * 64) (omega arith)) (le_of_eq same))

    pub left_word : i < words_for len → OneAhead ws len q i (get_or ws i 0)
    left_word h =
        ahead_some ws len q i fit v (i * 64) (get_or ws i 0) (le_refl (i * 64)) (omega arith) h same whole
        (λ e. let a = over_next true ws fit i in let o : ones (get_or ws i 0) 64 ≡ 0 = ap (λ (x : ℕ). ones x 64) e ∙ zero_ones 64 in let m = s.here h in omega arith)
      where
        whole : get_or ws i 0 ≡ get_or ws i 0 / 2 ^ (i * 64 - i * 64) * 2 ^ (i * 64 - i * 64)
        whole =
            let e : i * 64 - i * 64 ≡ 0 = omega arith in
            let d : get_or ws i 0 ≡ get_or ws i 0 / 1 * 1 = sym (mul-one (get_or ws i 0 / 1) ∙ div-one (get_or ws i 0)) in
            d ∙ ap (λ (k : ℕ). get_or ws i 0 / 2 ^ k * 2 ^ k) (sym e)
