-- The value with a number, read from an opened image through its index. Assumes nothing.
use Rattle.std.specs.Prelude.{Some, None, Option}
use mathlib.Core.Path.{◌≡◌, refl, sym, ap, ap₂, ◌∙◌, subst}
use mathlib.Core.List.{List, [], append-nil}
use mathlib.Core.Bool.{true}
use Prim.Native.Nat.{ℕ, ◌+◌, ◌-◌, ◌*◌, ◌/◌, ◌%◌, ◌^◌, ◌≤◌, ◌<◌}
use native.Mathlib.Nat.{mod-eq_of_lt, mul-le-mul, le_refl}
use native.Mathlib.Omega.{arith}
use mir.Syntax.{w64}
use mir.Val.{Fits}
use borrow.Author.Tests.{le-ltb, lt-ltb}
use lib.ListN.{length, get_or, take, drop}
use lib.Pow.{split}
use Rattle.errors.specs.Answer.{value, none}
use Rattle.broadword.specs.Places.{select}
use Rattle.bit_words.specs.Vector.{bit_at, bit_over, words_for, number_words}
use Rattle.bit_words.proofs.Overwrite.{length-number_words}
use Rattle.darray_positions.specs.Index.{index_words}
use Rattle.darray_positions.specs.Positions.{positions}
use Rattle.darray.specs.Select.{Indexed}
use Rattle.darray_positions.proofs.Index.{length-table}
use Rattle.elias_fano_words.specs.Checks.{Held, low_bits}
use Rattle.elias_fano_words.specs.Image.{high_words, low_number}
use Rattle.elias_fano_words.specs.Sizes.{low_len, high_len}
use Rattle.elias_fano_words.specs.Times.{times_in}
use Rattle.elias_fano_words.proofs.Bounds as bounds
use Rattle.elias_fano_words.proofs.Decode.{select_high, low_words_lem}
use Rattle.elias_fano_words.proofs.Ones.{place_of}
use Rattle.elias_fano_words.proofs.Rising.{rising_lt}
use Rattle.elias_fano_words.proofs.Lengths as lengths
use Rattle.elias_fano.specs.declared.image.Parts.{Parts}
use Rattle.elias_fano.specs.Accept.{universe, declared, pushed, ranked, times, accepted, parts_by, parts_of}
use Rattle.elias_fano.specs.Ask.{Select, nth, ask, asked}
use Rattle.elias_fano.specs.Opening.{high_in}
use Rattle.elias_fano.proofs.Accepting.{found}
use Rattle.elias_fano.proofs.Images as images
use Rattle.elias_fano.proofs.Limits as limits
use Rattle.elias_fano.proofs.Parts as parts
use Rattle.elias_fano.proofs.Standing as standing

module _ (i : List ℕ) (ok : accepted i ≡ true) (p : Parts) (ep : p ≡ parts_of i) where
  abbrev u : ℕ
  u = universe i

  abbrev n : ℕ
  n = declared i

  abbrev T : List ℕ
  T = times i

  abbrev l : ℕ
  l = low_len u n

  abbrev hw : ℕ
  hw = words_for (high_len u n)

  abbrev lw : ℕ
  lw = words_for (length T * low_len u n)

  pushed-times : length T ≡ pushed i
  unfolding times times_in
  pushed-times = length-table _ (pushed i)

  pub pushed_is : p.num_pushed ≡ length T
  unfolding parts_by
  pushed_is = ap (λ (q : Parts). q.num_pushed) ep ∙ sym pushed-times

  pub low_len_is : p.low_len ≡ l
  unfolding parts_by
  low_len_is = ap (λ (q : Parts). q.low_len) ep

  pub high_len_is : p.high_len ≡ high_len u n
  unfolding parts_by
  high_len_is = ap (λ (q : Parts). q.high_len) ep

  pub high_is : take (p.low_at - 6) (drop 6 i) ≡ high_words u n T
  high_is = standing.high_part_lem i p ep (found i ok).head ∙ ap high_in (images.is_image i ok) ∙ parts.high_in_lem u n (ranked i) T (images.is_fit i ok)

  low_is : take (p.ones_at - p.low_at) (drop p.low_at i) ≡ number_words lw (low_number l T)
  low_is =
      let a = standing.low_is i p ep (found i ok).head in
      let b = standing.ones_is i p ep (found i ok).head in
      let e = ap (λ (k : ℕ). words_for (k * low_len u n)) pushed-times in
      ap₂ (λ (k j : ℕ). take k (drop j i)) (let d : p.ones_at - p.low_at ≡ lw = omega arith in d) a
      ∙ ap (λ (w : List ℕ). take lw (drop (6 + hw) w)) (images.is_image i ok)
      ∙ parts.low_in u n (ranked i) T (images.is_fit i ok)

  -- ---- what the calls demand

  pub indexed : Indexed (take (p.low_at - 6) (drop 6 i)) p.high_len true (take (p.zeros_at - p.ones_at) (drop p.ones_at i)) p.num_pushed
  indexed =
      let f = found i ok in
      let v = standing.indexable i p ep f.head (images.is_fit i ok).small f.bits in
      record {
        ok = v.0;
        short = v.1;
        is = standing.ones_part i p ep f.head ∙ f.indexed.ones ∙ (λ x. index_words (positions true (sym (standing.high_part_lem i p ep f.head) x) (sym high_len_is x)));
        number = pushed_is ∙ sym (lengths.ones_many u n T (images.is_fit i ok).rises (images.is_fit i ok).few) ∙ (λ x. length (positions true (sym high_is x) (sym high_len_is x)));
      }

  pub low_small : p.low_len < 64
  low_small = subst (λ (y : ℕ). y < 64) (sym low_len_is) (bounds.low_lt u n (images.is_fit i ok).small (images.is_fit i ok).some)

  product_small : length T * l ≤ 16777216 * 63
  product_small = limits.product_small u n (length T) (images.is_fit i ok).small (images.is_fit i ok).some (images.is_fit i ok).most (images.is_fit i ok).few

  module _ (k : ℕ) (h : k < p.num_pushed) where
    in_list : k < length T
    in_list = subst (λ (y : ℕ). k < y) pushed_is h

    up_to : (k + 1) * p.low_len ≤ length T * l
    up_to = subst (λ (y : ℕ). (k + 1) * y ≤ length T * l) (sym low_len_is) (mul-le-mul (let g = in_list in let d : k + 1 ≤ length T = omega arith in d) (le_refl l))

    pub low_held : Held p.low_len (take (p.ones_at - p.low_at) (drop p.low_at i)) (k + 1)
    low_held =
        let a = up_to in
        let b = product_small in
        let e = ap length low_is ∙ length-number_words lw (low_number l T) in
        record { number = omega (arith, in_list, (images.is_fit i ok).few, (images.is_fit i ok).most); room = omega arith; few = omega arith }

    -- ---- what they find

    abbrev t : ℕ
    t = get_or T k 0

    time_small : t < 2 ^ 64
    time_small = let a = rising_lt u T k (images.is_fit i ok).rises in_list in let b = (images.is_fit i ok).small in omega arith

    over_one : bit_over true (take (p.low_at - 6) (drop 6 i)) ≡ bit_at (take (p.low_at - 6) (drop 6 i))
    unfolding bit_over
    over_one = refl

    pub place_is : select (bit_over true (take (p.low_at - 6) (drop 6 i))) p.high_len k ≡ Some (place_of l T k)
    place_is =
        ap (λ (f : ℕ → ℕ). select f p.high_len k) over_one ∙ ap₂ (λ (w : List ℕ) (j : ℕ). select (bit_at w) j k) high_is high_len_is
        ∙ select_high u n T (images.is_fit i ok).rises (images.is_fit i ok).few k in_list

    at_inj : (a b : ℕ) → Some a ≡ Some b → a ≡ b
    at_inj a b e = cc

    at_nothing : (a : ℕ) → None ≡ Some a → ⊥
    at_nothing a e = let z : ◌≡◌ {A = ℕ} 0 1 = cc in omega arith

    pub some_place : (r : Option ℕ) → r ≡ select (bit_over true (take (p.low_at - 6) (drop 6 i))) p.high_len k → r ≡ None → ⊥
    some_place r er e = at_nothing (place_of l T k) (sym e ∙ er ∙ place_is)

    pub is_value : (v : ℕ) → v ≡ t → value v ≡ asked i (Select k)
    unfolding ask nth
    is_value v e = ap value e ∙ sym (simp (lt-ltb k (length T) in_list))

    pub lower : (low : ℕ) → low ≡ low_bits p.low_len (take (p.ones_at - p.low_at) (drop p.low_at i)) k → low ≡ t % 2 ^ l
    lower low el =
        el ∙ ap₂ (λ (y : ℕ) (w : List ℕ). low_bits y w k) low_len_is (low_is ∙ sym (append-nil (number_words lw (low_number l T))))
        ∙ low_words_lem l T lw [] k (le_refl lw) in_list

    module _ (x : ℕ) (e : select (bit_over true (take (p.low_at - 6) (drop 6 i))) p.high_len k ≡ Some x) where
      here : x ≡ place_of l T k
      here = at_inj x (place_of l T k) (sym e ∙ place_is)

      pub at_or_past : k ≤ x
      at_or_past = let a = here in omega arith

      pub upper : x - k ≡ t / 2 ^ l
      upper = let a = here in let d : (y : ℕ) → y + k - k ≡ y = λ y. omega arith in ap (λ (y : ℕ). y - k) a ∙ d (t / 2 ^ l)

      module _ (low : ℕ) (el : low ≡ low_bits p.low_len (take (p.ones_at - p.low_at) (drop p.low_at i)) k) where
        small : t / 2 ^ l * 2 ^ l < 2 ^ 64
        small = let a = split t l in let b = time_small in omega arith

        shifted : ((x - k) * 2 ^ p.low_len) % 2 ^ 64 ≡ t / 2 ^ l * 2 ^ l
        shifted = ap₂ (λ (y z : ℕ). (y * 2 ^ z) % 2 ^ 64) upper low_len_is ∙ mod-eq_of_lt {n = t / 2 ^ l * 2 ^ l} {m = 2 ^ 64} small

        pub value_is : ((x - k) * 2 ^ p.low_len) % 2 ^ 64 + low ≡ t
        value_is = ap₂ (λ (a b : ℕ). a + b) shifted (lower low el) ∙ split t l

        pub value_fits : Fits w64 (((x - k) * 2 ^ p.low_len) % 2 ^ 64 + low)
        value_fits = record { fits = subst (λ (y : ℕ). y < 2 ^ 64) (sym value_is) time_small }

  pub no_time : (k : ℕ) → p.num_pushed ≤ k → none ≡ asked i (Select k)
  unfolding ask nth
  no_time k h = sym (simp (le-ltb k (length T) (subst (λ (y : ℕ). y ≤ k) pushed_is h)))
