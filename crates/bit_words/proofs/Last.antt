-- The last one at or before a place, by words: the low bits of its word, and else the last word below that is not 0. Assumes nothing.
use Rattle.std.specs.Prelude.{Some, None, Option}
use Rattle.std.specs.Option.{IsSome}
use mathlib.Core.Path.{◌≡◌, refl, sym, ap, ◌∙◌}
use mathlib.Core.List.{List}
use Prim.Native.Nat.{ℕ, zero, suc, ◌+◌, ◌-◌, ◌*◌, ◌/◌, ◌%◌, ◌^◌, ◌≤◌, ◌<◌}
use native.Mathlib.Nat.{lt_of_not-le, mod-eq_of_lt, mod-lt, lt_of_lt_of_le}
use native.Mathlib.Decide.{dec_le, dec_lt}
use native.Mathlib.Omega.{arith}
use lib.ListN.{length, get_or, take}
use lib.Pow.{pow_pos, pow_mono}
use Rattle.broadword.specs.Bits.{bit, count}
use Rattle.broadword.specs.Fields.{digit, word}
use Rattle.broadword.specs.Places.{last}
use Rattle.broadword.proofs.Count.{bit_le, bit-mod, bit-above, count_zero}
use Rattle.broadword.proofs.Fields.{word-digits, word_same}
use Rattle.broadword.proofs.Find.{last_is, last_nothing, last_at, last_none}
use Rattle.bit_words.specs.Vector.{bit_at}
use Rattle.bit_words.specs.Inner.{Ending, Within, place_in}
use Rattle.bit_words.proofs.Runs.{bit-digit_1, bit_at-word, bit_at_le}
use Rattle.bit_words.proofs.Windows.{window_at}

-- a bit that is not 1 is 0
pub not_one : (b : ℕ) → b ≤ 1 → (b ≡ 1 → ⊥) → b ≡ 0
not_one b h n = go (dec_le 1 b)
  where
    go : Dec (1 ≤ b) → b ≡ 0
    go (yes l) = absurd (n (omega arith))
    go (no g) = omega (arith, lt_of_not-le g)

zeros : word 1 (λ i. 0) 64 ≡ 0
unfolding word
zeros = refl

-- a number below 2 ^ 64 with no one is 0
pub no_bits : (w : ℕ) → w < 2 ^ 64 → ((j : ℕ) → j < 64 → bit w j ≡ 0) → w ≡ 0
no_bits w h z =
    sym (word-digits 1 64 w ∙ mod-eq_of_lt {n = w} {m = 2 ^ 64} h)
    ∙ word_same 1 (digit 1 w) (λ i. 0) 64 (λ i l. bit-digit_1 w i ∙ z i l) ∙ zeros

module _ (ws : List ℕ) (pos : ℕ) where
  abbrev at : ℕ
  at = pos / 64

  abbrev low : ℕ
  low = get_or ws at 0 % 2 ^ (pos % 64 + 1)

  low_bit : (j : ℕ) → j < pos % 64 + 1 → bit low j ≡ bit_at ws (at * 64 + j)
  low_bit j h = bit-mod (get_or ws at 0) (pos % 64 + 1) j h ∙ sym (bit_at-word ws at j (omega arith))

  -- in the word of pos
  pub here : (b : ℕ) → last (bit low) 64 ≡ Some b → (b < 64) × (last (bit_at ws) (pos + 1) ≡ Some (at * 64 + b))
  here b e =
      let r = last_is (bit low) 64 b e in
      let l : b < pos % 64 + 1 = within (dec_lt b (pos % 64 + 1)) in (
        r.within,
        last_at (bit_at ws) (pos + 1) (at * 64 + b) (omega arith) (sym (low_bit b l) ∙ r.one) (λ j p q.
            let d : ℕ = j - at * 64 in
            let s : at * 64 + d ≡ j = omega arith in
            let k : d < pos % 64 + 1 = omega arith in
            not_one (bit_at ws j) (bit_at_le ws j) (λ o. r.after d (omega arith) (omega arith) (low_bit d k ∙ ap (bit_at ws) s ∙ o))),
      )
    where
      within : Dec (b < pos % 64 + 1) → b < pos % 64 + 1
      within (yes l) = l
      within (no g) =
          let m : pos % 64 + 1 ≤ b = omega (arith, lt_of_not-le g) in
          let z = bit-above low b (lt_of_lt_of_le (mod-lt (get_or ws at 0) (pow_pos (pos % 64 + 1))) (pow_mono m)) in
          let o = (last_is (bit low) 64 b e).one in
          absurd (omega arith)

  -- none in it, nor in the words from n on
  module _ (n : ℕ) (e : last (bit low) 64 ≡ None) (end : Ending ws at n) where
    zero_from : (j : ℕ) → n * 64 ≤ j → j < pos + 1 → bit_at ws j ≡ 0
    zero_from j h l = go (dec_le (at * 64) j)
      where
        go : Dec (at * 64 ≤ j) → bit_at ws j ≡ 0
        go (yes m) =
            let d : ℕ = j - at * 64 in
            let s : at * 64 + d ≡ j = omega arith in
            let k : d < pos % 64 + 1 = omega arith in
            not_one (bit_at ws j) (bit_at_le ws j) (λ o. last_nothing (bit low) 64 e d (omega arith) (low_bit d k ∙ ap (bit_at ws) s ∙ o))
        go (no g) =
            let i : ℕ = j / 64 in
            let s : i * 64 + j % 64 ≡ j = omega arith in
            let b = lt_of_not-le g in
            sym (ap (bit_at ws) s) ∙ bit_at-word ws i (j % 64) (omega arith) ∙ ap (λ (w : ℕ). bit w (j % 64)) (end.zeros i (omega arith) (omega arith)) ∙ bit-above 0 (j % 64) (pow_pos (j % 64))

    pub nowhere : n ≡ 0 → last (bit_at ws) (pos + 1) ≡ None
    nowhere z = last_none (bit_at ws) (pos + 1) (λ j h. zero_from j (omega arith) h)

    -- in the word before them
    pub below : (i b : ℕ) → n ≡ suc i → last (bit (get_or ws i 0)) 64 ≡ Some b → (b < 64) × (last (bit_at ws) (pos + 1) ≡ Some (i * 64 + b))
    below i b en eb =
        let r = last_is (bit (get_or ws i 0)) 64 b eb in
        let l : b < 64 = r.within in
        let u = end.upto in (
          l,
          last_at (bit_at ws) (pos + 1) (i * 64 + b) (omega arith) (bit_at-word ws i b l ∙ r.one) (λ j p q. after j p q (dec_lt j (n * 64))),
        )
      where
        after : (j : ℕ) → i * 64 + b < j → j < pos + 1 → Dec (j < n * 64) → bit_at ws j ≡ 0
        after j p q (no g) = zero_from j (omega (arith, lt_of_not-le g)) q
        after j p q (yes m) =
            let d : ℕ = j - i * 64 in
            let s : i * 64 + d ≡ j = omega arith in
            let k : d < 64 = omega arith in
            not_one (bit_at ws j) (bit_at_le ws j) (λ o. (last_is (bit (get_or ws i 0)) 64 b eb).after d (omega arith) k (sym (bit_at-word ws i d k) ∙ ap (bit_at ws) s ∙ o))

    pub not_zero : (i : ℕ) → n ≡ suc i → get_or ws i 0 < 2 ^ 64 → last (bit (get_or ws i 0)) 64 ≡ None → ⊥
    not_zero i en h z =
        end.some i en (no_bits (get_or ws i 0) h (λ j l. not_one (bit (get_or ws i 0) j) (bit_le (get_or ws i 0) j) (last_nothing (bit (get_or ws i 0)) 64 z j l)))

-- a place found in a word is one of its 64
pub last_within : (x : ℕ) (r : Option ℕ) → r ≡ last (bit x) 64 → Within r
last_within x r er t e = (last_is (bit x) 64 t (sym er ∙ e)).within

module _ (ws : List ℕ) (pos : ℕ) where
  -- the word of pos has one
  pub found_here : (x : ℕ) → x ≡ low ws pos → (r : Option ℕ) → r ≡ last (bit x) 64 → (x ≡ 0 → ⊥) → place_in (pos / 64) r ≡ last (bit_at ws) (pos + 1)
  found_here x ex (Some b) e z = sym (here ws pos b (ap (λ (y : ℕ). last (bit y) 64) (sym ex) ∙ sym e)).1
  found_here x ex None e z =
      let n : last (bit (low ws pos)) 64 ≡ None = ap (λ (y : ℕ). last (bit y) 64) (sym ex) ∙ sym e in
      let h : low ws pos < 2 ^ 64 = lt_of_lt_of_le (mod-lt (get_or ws (pos / 64) 0) (pow_pos (pos % 64 + 1))) (pow_mono (let d : pos % 64 + 1 ≤ 64 = omega arith in d)) in
      absurd (z (ex ∙ no_bits (low ws pos) h (λ j l. not_one (bit (low ws pos) j) (bit_le (low ws pos) j) (last_nothing (bit (low ws pos)) 64 n j l))))

  module _ (n : ℕ) (z : low ws pos ≡ 0) (end : Ending ws (pos / 64) n) where
    none_here : last (bit (low ws pos)) 64 ≡ None
    none_here = ap (λ (x : ℕ). last (bit x) 64) z ∙ last_none (bit 0) 64 (λ j _. bit-above 0 j (pow_pos j))

    pub found_nowhere : n ≡ 0 → None ≡ last (bit_at ws) (pos + 1)
    found_nowhere e = sym (nowhere ws pos n none_here end e)

    -- the last word before it that is not 0 has it
    pub found_before : (i : ℕ) → n ≡ suc i → (r : Option ℕ) → r ≡ last (bit (get_or ws i 0)) 64 → get_or ws i 0 < 2 ^ 64 → place_in i r ≡ last (bit_at ws) (pos + 1)
    found_before i en (Some b) e h = sym (below ws pos n none_here end i b en (sym e)).1
    found_before i en None e h = absurd (not_zero ws pos n none_here end i en h (sym e))

-- ---- a last one that there is

pub some_last : (f : ℕ → ℕ) → ((j : ℕ) → f j ≤ 1) → (end : ℕ) → 0 < count f end → last f end ≡ None → ⊥
some_last f bits end h e = let z = count_zero f end (λ j l. not_one (f j) (bits j) (last_nothing f end e j l)) in omega arith

pub some_place : (f : ℕ → ℕ) (end : ℕ) → 0 < count f end → 1 ≤ end
unfolding count
some_place f zero h = absurd (omega arith)
some_place f (suc end) h = omega arith

pub some_there : (f : ℕ → ℕ) → ((j : ℕ) → f j ≤ 1) → (end : ℕ) → 0 < count f end → (o : Option ℕ) → o ≡ last f end → IsSome o
some_there f bits end h None e = absurd (some_last f bits end h (sym e))
some_there f bits end h (Some p) e = refl

-- in the 64 bits before the end
pub near : (ws : List ℕ) (end w b : ℕ) → 64 ≤ end → end ≤ length ws * 64 → w ≡ word 1 (λ i. bit_at (take (length ws) ws) (end - 64 + i)) 64 → last (bit w) 64 ≡ Some b
    → (b < 64) × (last (bit_at ws) end ≡ Some (end - 64 + b))
near ws end w b h u ew e =
    let r = last_is (bit w) 64 b e in
    let l : b < 64 = r.within in (
      l,
      last_at (bit_at ws) end (end - 64 + b) (omega arith) (sym (at b l) ∙ r.one) (λ j p q.
          let d : ℕ = j - (end - 64) in
          let s : end - 64 + d ≡ j = omega arith in
          let k : d < 64 = omega arith in
          not_one (bit_at ws j) (bit_at_le ws j) (λ o. r.after d (omega arith) k (at d k ∙ ap (bit_at ws) s ∙ o))),
    )
  where
    at : (j : ℕ) → j < 64 → bit w j ≡ bit_at ws (end - 64 + j)
    at j l = ap (λ (y : ℕ). bit y j) ew ∙ window_at ws (length ws) (end - 64) j l (omega arith)
