-- Where the parts of an image with a right header stand: each ends where the next begins, inside the image. Assumes nothing.
use Rattle.std.specs.Prelude.{Some, None, Option, is_some}
use mathlib.Core.Path.{◌≡◌, refl, sym, ap, ap₂, ◌∙◌, subst}
use mathlib.Core.List.{List, []}
use mathlib.Core.Bool.{Bool, true, false, cond}
use Prim.Native.Nat.{ℕ, ◌+◌, ◌-◌, ◌*◌, ◌^◌, ◌≤◌, ◌<◌}
use native.Mathlib.Nat.{le_of_eq}
use native.Mathlib.Omega.{arith}
use lib.ListN.{length, take, drop, length-drop, drop_of_length-le}
use lib.Seq.{length-take-le, take_all}
use Rattle.broadword.specs.Bits.{count}
use Rattle.broadword.proofs.Count.{count_le}
use Rattle.bit_words.specs.Vector.{bit_over, words_for, invalid}
use Rattle.bit_words.proofs.Runs.{bit_over_le}
use Rattle.bit_words.proofs.Valid.{valid}
use Rattle.elias_fano_words.specs.Checks.{Checkable}
use Rattle.elias_fano_words.specs.Sizes.{low_len}
use Rattle.elias_fano_words.specs.Times.{holds, holds_if}
use Rattle.elias_fano.specs.declared.image.Parts.{Parts}
use Rattle.elias_fano.specs.Accept.{universe, declared, pushed, ranked, parts_by, parts_of}
use Rattle.elias_fano.specs.Opening.{high_of, ones_in, zeros_in, high_in, bits_in, Headed}
use Rattle.elias_fano.proofs.Accepting.{valid_part, ones_in_lem, zeros_in_lem}
use Rattle.elias_fano.proofs.Limits as limits

-- what a check says
some_if : (b : Bool) (t : ℕ) → is_some (cond b (Some t) None) ≡ b
some_if true t = refl
some_if false t = refl

module _ (i : List ℕ) (p : Parts) (ep : p ≡ parts_of i) (h : Headed i) where
  abbrev hw : ℕ
  hw = words_for (high_of i)

  abbrev lw : ℕ
  lw = words_for (pushed i * low_len (universe i) (declared i))

  pub low_is : p.low_at ≡ 6 + hw
  unfolding parts_by
  low_is = ap (λ (q : Parts). q.low_at) ep

  pub ones_is : p.ones_at ≡ ones_in i
  unfolding parts_by
  ones_is = ap (λ (q : Parts). q.ones_at) ep

  pub zeros_is : p.zeros_at ≡ zeros_in i
  unfolding parts_by
  zeros_is = ap (λ (q : Parts). q.zeros_at) ep

  pub six_low : 6 ≤ p.low_at
  six_low = let e = low_is in omega arith

  pub low_ones : p.low_at ≤ p.ones_at
  low_ones = let e = low_is in let d = ones_is in omega arith

  pub six_ones : 6 ≤ p.ones_at
  six_ones = let e = ones_is in omega arith

  pub ones-zeros : p.ones_at ≤ p.zeros_at
  ones-zeros = let e = zeros_is in let d = ones_is in omega arith

  pub zeros_end : p.zeros_at ≤ length i
  zeros_end = let e = zeros_is in let d = h.complete.long in omega arith

  pub ones_end : p.ones_at ≤ length i
  ones_end = let a = ones-zeros in let b = zeros_end in omega arith

  pub low_end : p.low_at ≤ length i
  low_end = let a = low_ones in let b = ones_end in omega arith

  -- ---- the parts that are lent

  pub high_part_lem : take (p.low_at - 6) (drop 6 i) ≡ high_in i
  high_part_lem = ap (λ (k : ℕ). take k (drop 6 i)) (let e = low_is in let d : p.low_at - 6 ≡ hw = omega arith in d)

  pub bits_part : take (p.ones_at - 6) (drop 6 i) ≡ bits_in i
  bits_part = ap (λ (k : ℕ). take k (drop 6 i)) (let e = ones_is in let d : p.ones_at - 6 ≡ hw + lw = omega arith in d)

  pub ones_part : take (p.zeros_at - p.ones_at) (drop p.ones_at i) ≡ take (zeros_in i - ones_in i) (drop (ones_in i) i)
  ones_part = ap₂ (λ (a b : ℕ). take (a - b) (drop b i)) zeros_is ones_is

  pub zeros_part : take (length i - p.zeros_at) (drop p.zeros_at i) ≡ drop (zeros_in i) i
  zeros_part =
      take_all (length i - p.zeros_at) (drop p.zeros_at i) (le_of_eq (length-drop p.zeros_at i)) ∙ ap (λ (k : ℕ). drop k i) zeros_is

  -- without the rank index nothing follows the index over the ones
  pub no_zeros : ranked i ≡ false → drop (zeros_in i) i ≡ []
  no_zeros e = drop_of_length-le i {i = zeros_in i} (let l = h.complete.long in let d : length i ≡ zeros_in i + 0 = l ∙ rw e in omega arith)

  length_bits : length (take (p.ones_at - 6) (drop 6 i)) ≡ p.ones_at - 6
  length_bits = length-take-le (p.ones_at - 6) (drop 6 i) (let l = length-drop 6 i in let e = ones_end in let s = h.six in omega arith)

  pub checkable : Checkable p.universe p.num_vals p.num_pushed p.low_len p.high_len (take (p.ones_at - 6) (drop 6 i))
  unfolding parts_by
  checkable =
      subst (λ (q : Parts). Checkable q.universe q.num_vals q.num_pushed q.low_len q.high_len (take (p.ones_at - 6) (drop 6 i))) (sym ep)
      (record {
        some = h.counts.some;
        few = h.counts.most;
        upto = h.counts.few;
        low = refl;
        high = refl;
        room = let l = length_bits in let e = ones_is in omega arith;
      })

  module _ (strict : Bool) where
    held_is : holds_if p.universe p.num_vals strict p.num_pushed (take (p.ones_at - 6) (drop 6 i)) ≡ holds_if (universe i) (declared i) strict (pushed i) (bits_in i)
    unfolding parts_by
    held_is = ap (λ (q : Parts). holds_if q.universe q.num_vals strict q.num_pushed (take (p.ones_at - 6) (drop 6 i))) ep ∙ ap (holds_if (universe i) (declared i) strict (pushed i)) bits_part

    module _ (r : Option ℕ) (t : ℕ) (er : r ≡ cond (holds_if p.universe p.num_vals strict p.num_pushed (take (p.ones_at - 6) (drop 6 i))) (Some t) None) where
      pub held : is_some r ≡ holds_if (universe i) (declared i) strict (pushed i) (bits_in i)
      held = ap is_some er ∙ some_if _ t ∙ held_is

-- what is demanded of the high words to compare an index with theirs, or to select through it
module _ (i : List ℕ) (p : Parts) (ep : p ≡ parts_of i) (h : Headed i) (hu : universe i < 2 ^ 64) (b : holds (universe i) (declared i) (pushed i) (bits_in i) ≡ true) where
  high_len_is : p.high_len ≡ high_of i
  unfolding parts_by
  high_len_is = ap (λ (q : Parts). q.high_len) ep

  pushed_is : p.num_pushed ≡ pushed i
  unfolding parts_by
  pushed_is = ap (λ (q : Parts). q.num_pushed) ep

  abbrev part : List ℕ
  part = take (p.low_at - 6) (drop 6 i)

  count_is : (c : Bool) → count (bit_over c (high_in i)) (high_of i) ≡ count (bit_over c part) p.high_len
  count_is c = sym (ap₂ (λ (w : List ℕ) (k : ℕ). count (bit_over c w) k) (high_part_lem i p ep h) high_len_is)

  pub indexable : (invalid part p.high_len ≡ false) × (p.high_len < 2 ^ 63)
  indexable =
      let l = limits.high_small (universe i) (declared i) (pushed i) hu h.counts.some h.counts.most h.counts.few in
      (ap₂ invalid (high_part_lem i p ep h) high_len_is ∙ valid_part i h b, omega (arith, high_len_is))

  pub high_room : words_for p.high_len ≤ length part
  high_room = (valid part p.high_len indexable.0).room

  pub ones-count : p.num_pushed ≡ count (bit_over true part) p.high_len
  ones-count = pushed_is ∙ ones_in_lem i h b ∙ count_is true

  pub zeros-count : p.high_len - p.num_pushed ≡ count (bit_over false part) p.high_len
  zeros-count = ap₂ (λ (x y : ℕ). x - y) high_len_is pushed_is ∙ zeros_in_lem i h b ∙ count_is false

  pub ones-fit : p.num_pushed ≤ p.high_len
  ones-fit = omega (arith, ones-count, count_le (bit_over true part) p.high_len (bit_over_le true part))
