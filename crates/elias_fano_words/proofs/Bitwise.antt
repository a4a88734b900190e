-- Runs of bits with ones in the same places are the same, and words with the same bits are. Assumes nothing.
use mathlib.Core.Path.{◌≡◌, refl, sym, ◌∙◌}
use mathlib.Core.List.{List, ◌++◌}
use Prim.Native.Nat.{ℕ, suc, ◌+◌, ◌*◌, ◌^◌, ◌≤◌, ◌<◌}
use native.Mathlib.Nat.{lt_of_not-le, lt_of_le_of_lt, le_of_eq, mod-eq_of_lt}
use native.Mathlib.Decide.{ℕ_discrete, dec_lt}
use native.Mathlib.Omega.{arith}
use lib.Dec.{lit<}
use lib.ListN.{length, get_or, get_or-append}
use lib.Seq.{ext_get_or, get_or-append-add}
use Rattle.broadword.specs.Bits.{bit, count}
use Rattle.broadword.specs.Fields.{digit}
use Rattle.broadword.specs.Places.{select}
use Rattle.broadword.proofs.Count.{count_mono}
use Rattle.broadword.proofs.Fields.{word-digits, word_same}
use Rattle.broadword.proofs.Find.{selected, select_at}
use Rattle.bit_words.specs.Vector.{bit_at}
use Rattle.bit_words.proofs.Last.{not_one}
use Rattle.bit_words.proofs.Runs.{Fit, bit-digit_1, bit_at-word, get_d_past}

-- ---- runs

pub count_suc : (f : ℕ → ℕ) (n : ℕ) → count f (suc n) ≡ count f n + f n
unfolding count
count_suc f n = refl

-- more ones stand before a place after a one
pub count-one : (f : ℕ → ℕ) (i n : ℕ) → f i ≡ 1 → i < n → count f i < count f n
unfolding count
count-one f i n e h = omega (arith, count_mono f (suc i) n h)

module _ (f g : ℕ → ℕ) (n : ℕ) (places : (k : ℕ) → k < count f n → select f n k ≡ select g n k) where
  pub one_too : (i : ℕ) → i < n → f i ≡ 1 → g i ≡ 1
  one_too i h e =
      let k : ℕ = count f i in
      (selected g n k i (sym (places k (count-one f i n e h)) ∙ select_at f n k i h e refl)).one

module _ (f g : ℕ → ℕ) (f-bits : (i : ℕ) → f i ≤ 1) (g-bits : (i : ℕ) → g i ≤ 1) (n : ℕ) where
  -- they have as many ones, each in the same place
  pub same_run : count f n ≡ count g n → ((k : ℕ) → k < count f n → select f n k ≡ select g n k) → (i : ℕ) → i < n → f i ≡ g i
  same_run e places i h = go (ℕ_discrete (f i) 1)
    where
      back : (k : ℕ) → k < count g n → select g n k ≡ select f n k
      back k l = sym (places k (omega arith))

      go : Dec (f i ≡ 1) → f i ≡ g i
      go (yes o) = o ∙ sym (one_too f g n places i h o)
      go (no z) = not_one (f i) (f-bits i) z ∙ sym (not_one (g i) (g-bits i) (λ o. z (one_too g f n back i h o)))

-- ---- words

-- a word by its bits
word_is : (v w : ℕ) → v < 2 ^ 64 → w < 2 ^ 64 → ((j : ℕ) → j < 64 → bit v j ≡ bit w j) → v ≡ w
word_is v w hv hw e =
    sym (word-digits 1 64 v ∙ mod-eq_of_lt {n = v} {m = 2 ^ 64} hv)
    ∙ word_same 1 (digit 1 v) (digit 1 w) 64 (λ j l. bit-digit_1 v j ∙ e j l ∙ sym (bit-digit_1 w j))
    ∙ (word-digits 1 64 w ∙ mod-eq_of_lt {n = w} {m = 2 ^ 64} hw)

pub same_bits : (A B : List ℕ) → Fit A → Fit B → length A ≡ length B → ((i : ℕ) → bit_at A i ≡ bit_at B i) → A ≡ B
same_bits A B fA fB n e =
    ext_get_or 0 A B n (λ i _.
    word_is (get_or A i 0) (get_or B i 0) (fA i) (fB i) (λ j l. sym (bit_at-word A i j l) ∙ e (i * 64 + j) ∙ bit_at-word B i j l))

-- the parts of words fit
module _ (A B : List ℕ) (fit : Fit (A ++ B)) where
  pub fit-left : Fit A
  fit-left i = go (dec_lt i (length A))
    where
      go : Dec (i < length A) → get_or A i 0 < 2 ^ 64
      go (yes l) = lt_of_le_of_lt (le_of_eq (sym (get_or-append A B 0 i l))) (fit i)
      go (no g) = lt_of_le_of_lt (le_of_eq (get_d_past A i (let r = lt_of_not-le g in omega arith))) (lit< tt)

  pub fit_right : Fit B
  fit_right i = lt_of_le_of_lt (le_of_eq (sym (get_or-append-add A B i 0))) (fit (length A + i))
