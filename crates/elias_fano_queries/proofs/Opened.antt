-- What an opened image gives a question: its list in order, the index over the zeros, and the laws of the high bits in terms of its parts. Assumes nothing.
use Rattle.std.specs.Prelude.{Some}
use mathlib.Core.Path.{◌≡◌, refl, sym, ap, ap₂, ◌∙◌, subst}
use mathlib.Core.List.{List, []}
use mathlib.Core.Bool.{Bool, true, false, ◌&&◌, cond}
use Prim.Native.Nat.{ℕ, suc, ◌+◌, ◌-◌, ◌*◌, ◌/◌, ◌%◌, ◌^◌, ◌≤◌, ◌<◌}
use native.Mathlib.Nat.{le_of_eq, lt_of_le_of_lt}
use native.Mathlib.Omega.{arith}
use borrow.Author.Tests.{lt-ltb, le-ltb}
use lib.Dec.{eqb}
use lib.ListN.{length, get_or, take, drop, length-drop}
use lib.Seq.{take_all, length-take-le}
use Rattle.broadword.specs.Bits.{bit, count}
use Rattle.broadword.specs.Fields.{word}
use Rattle.broadword.specs.Places.{select}
use Rattle.bit_words.specs.Vector.{bit_at, bit_over}
use Rattle.bit_words.proofs.Runs.{bit_over_le}
use Rattle.darray.specs.Select.{Indexed}
use Rattle.darray_positions.specs.Index.{index_words}
use Rattle.darray_positions.specs.Positions.{positions}
use Rattle.darray_positions.proofs.Positions.{length-places}
use Rattle.elias_fano_words.specs.Image.{high_words}
use Rattle.elias_fano_words.specs.Sizes.{low_len, high_len}
use Rattle.elias_fano_words.specs.Times.{rising}
use Rattle.elias_fano.specs.declared.image.Parts.{Parts}
use Rattle.elias_fano.specs.Accept.{universe, declared, ranked, times, accepted, parts_by, parts_of}
use Rattle.elias_fano.specs.Ask.{below}
use Rattle.elias_fano.specs.Opening.{high_in, high_of, high_part}
use Rattle.elias_fano.proofs.Accepting.{found}
use Rattle.elias_fano.proofs.Images as images
use Rattle.elias_fano.proofs.Selecting as selecting
use Rattle.elias_fano.proofs.Standing as standing
use Rattle.elias_fano_queries.specs.Demands.{crowded}
use Rattle.elias_fano_queries.proofs.Bucket as bucket

-- the laws at the parts of the image itself
module _ (i : List ℕ) (ok : accepted i ≡ true) where
  abbrev u : ℕ
  u = universe i

  abbrev n : ℕ
  n = declared i

  abbrev T : List ℕ
  T = times i

  pub rises : rising (universe i) 0 (times i) ≡ true
  rises = (images.is_fit i ok).rises

  pub few : length (times i) ≤ declared i
  few = (images.is_fit i ok).few

  high_is : high_part i (parts_of i) ≡ high_words u n T
  high_is = selecting.high_is i ok (parts_of i) refl

  -- what is asked of the high words, as of the high words of the list
  abbrev Law : (Parts → Type 0) → Type 0
  Law P = (p : Parts) → p ≡ parts_of i → P p

  law : (P : Parts → Type 0) → P (parts_of i) → Law P
  law P h p e = subst P (sym e) h

  pub universe_is : Law (λ p. p.universe ≡ universe i)
  unfolding parts_by
  universe_is = law _ refl

  pub rank_is : Law (λ p. p.rank ≡ ranked i)
  unfolding parts_by
  rank_is = law _ refl

  pub count_rank : Law (λ p. (w : ℕ) → w ≤ p.universe → count (bit_at (high_part i p)) (w / 2 ^ p.low_len + below w T) ≡ below w T)
  unfolding parts_by
  count_rank = law _ (λ w h. ap (λ (W : List ℕ). count (bit_at W) (w / 2 ^ low_len u n + below w T)) high_is ∙ bucket.count_rank u n T rises few w h)

  pub within : Law (λ p. (w k : ℕ) → w ≤ p.universe → k ≤ length T → w / 2 ^ p.low_len + k < p.high_len)
  unfolding parts_by
  within = law _ (bucket.within_high u n T rises few)

  zero_of : Law (λ p. (h x : ℕ) → select (bit_over false (high_part i p)) p.high_len h ≡ Some x → (h ≤ x) × (x - h ≡ below ((h + 1) * 2 ^ p.low_len) T))
  unfolding parts_by
  zero_of = law _ (λ h x e.
      let d = ap (λ (W : List ℕ). select (bit_over false W) (high_len u n) h) (sym high_is) ∙ e in
      (bucket.after-zeros u n T rises few h x d, bucket.zero_rank u n T rises few h x d))

  pub after-zeros : Law (λ p. (h x : ℕ) → select (bit_over false (high_part i p)) p.high_len h ≡ Some x → h ≤ x)
  after-zeros p e h x d = (zero_of p e h x d).0

  pub zero_rank : Law (λ p. (h x : ℕ) → select (bit_over false (high_part i p)) p.high_len h ≡ Some x → x - h ≡ below ((h + 1) * 2 ^ p.low_len) T)
  zero_rank p e h x d = (zero_of p e h x d).1

  pub upto_high : Law (λ p. (v k : ℕ) → below v T ≤ suc k → suc k ≤ below ((v / 2 ^ p.low_len + 1) * 2 ^ p.low_len) T → get_or T k 0 / 2 ^ p.low_len ≤ v / 2 ^ p.low_len)
  unfolding parts_by
  upto_high = law _ (λ v k lo hi. bucket.upto_high u n T rises few v k lo hi)

  pub same_high : Law (λ p. (v k : ℕ) → below v T ≤ suc k → suc k ≤ below ((v / 2 ^ p.low_len + 1) * 2 ^ p.low_len) T → v / 2 ^ p.low_len + k < p.high_len → bit_at (high_part i p) (v / 2 ^ p.low_len + k) ≡ 1 → v / 2 ^ p.low_len ≤ get_or T k 0 / 2 ^ p.low_len)
  unfolding parts_by
  same_high = law _ (λ v k lo hi h o. bucket.same_high u n T rises few v k lo hi h (ap (λ (W : List ℕ). bit_at W (v / 2 ^ low_len u n + k)) (sym high_is) ∙ o))

  pub less_high : Law (λ p. (v k : ℕ) → below v T ≤ suc k → suc k ≤ below ((v / 2 ^ p.low_len + 1) * 2 ^ p.low_len) T → (bit_at (high_part i p) (v / 2 ^ p.low_len + k) ≡ 1 → ⊥) → get_or T k 0 < v)
  unfolding parts_by
  less_high = law _ (λ v k lo hi g. bucket.less_high u n T rises few v k lo hi (λ o. g (ap (λ (W : List ℕ). bit_at W (v / 2 ^ low_len u n + k)) high_is ∙ o)))

  -- ---- the high words

  pub part_length : (p : Parts) → p ≡ parts_of i → length (high_part i p) ≡ p.low_at - 6
  part_length p e =
      let a = standing.low_end i p e (found i ok).head in
      let b = length-drop 6 i in
      length-take-le (p.low_at - 6) (drop 6 i) (omega arith)

  pub part_room : (p : Parts) → p ≡ parts_of i → p.high_len ≤ (p.low_at - 6) * 64
  part_room p e =
      let a = standing.high_room i p e (found i ok).head (images.is_fit i ok).small (found i ok).bits in
      let b = part_length p e in
      omega arith

  pub high_small : (p : Parts) → p ≡ parts_of i → p.high_len < 2 ^ 63
  high_small p e = (standing.indexable i p e (found i ok).head (images.is_fit i ok).small (found i ok).bits).1

  pub part_whole : (p : Parts) → p ≡ parts_of i → take (p.low_at - 6) (high_part i p) ≡ high_part i p
  part_whole p e = take_all (p.low_at - 6) (high_part i p) (le_of_eq (part_length p e))

  -- the window before a place
  pub crowded_is : (p : Parts) → p ≡ parts_of i → (x w b : ℕ) → 16 < x → w ≡ word 1 (λ j. bit_at (take (p.low_at - 6) (high_part i p)) (x - 16 - 1 + j)) 64 → b ≡ w % 2 ^ 17 → eqb b (2 ^ 17 - 1) ≡ crowded (high_part i p) x
  crowded_is p e x w b h ew eb =
      let d : x - 16 - 1 ≡ x - 17 = omega arith in
      ap (λ (y : ℕ). eqb y (2 ^ 17 - 1)) (eb ∙ ap (λ (y : ℕ). y % 2 ^ 17) (ew ∙ ap₂ (λ (W : List ℕ) (y : ℕ). word 1 (λ j. bit_at W (y + j)) 64) (part_whole p e) d))
      ∙ sym (ap (λ (t : Bool). t && eqb (word 1 (λ j. bit_at (high_part i p) (x - 17 + j)) 64 % 2 ^ 17) (2 ^ 17 - 1)) (lt-ltb 16 x h))

  -- ---- the zeros

  many_zeros : Law (λ p. p.universe / 2 ^ p.low_len < p.high_len - p.num_pushed)
  unfolding parts_by high_len
  many_zeros = law _ (let a = few in let b = selecting.pushed_is i ok (parts_of i) refl in omega arith)

  zeros-count : Law (λ p. p.high_len - p.num_pushed ≡ count (bit_over false (high_part i p)) p.high_len)
  zeros-count p e = standing.zeros-count i p e (found i ok).head (images.is_fit i ok).small (found i ok).bits

  pub zero_in : (p : Parts) → p ≡ parts_of i → (h : ℕ) → h ≤ p.universe / 2 ^ p.low_len → h < p.high_len - p.num_pushed
  zero_in p e h g = lt_of_le_of_lt g (many_zeros p e)

  pub indexed_zeros : (p : Parts) → p ≡ parts_of i → p.rank ≡ true → Indexed (high_part i p) p.high_len false (take (length i - p.zeros_at) (drop p.zeros_at i)) (p.high_len - p.num_pushed)
  indexed_zeros p e c =
      let f = found i ok in
      let v = standing.indexable i p e f.head (images.is_fit i ok).small f.bits in
      record {
        ok = v.0;
        short = v.1;
        is = standing.zeros_part i p e f.head ∙ f.indexed.zeros ∙ ap (λ (b : Bool). cond b (index_words (positions false (high_in i) (high_of i))) []) (sym (rank_is p e) ∙ c) ∙ ap₂ (λ (W : List ℕ) (k : ℕ). index_words (positions false W k)) (sym (standing.high_part_lem i p e f.head)) (sym (selecting.high_len_is i ok p e));
        number = zeros-count p e ∙ sym (length-places (bit_over false (high_part i p)) (bit_over_le false (high_part i p)) p.high_len);
      }

-- ---- a bit

pub high_bit : (ws : List ℕ) (x : ℕ) → get_or ws (x / 64) 0 / 2 ^ (x % 64) % 2 ≡ bit_at ws x
unfolding bit_at bit
high_bit ws x = refl

pub not_crowded : (ws : List ℕ) (x : ℕ) → x ≤ 16 → false ≡ crowded ws x
not_crowded ws x h = sym (ap (λ (t : Bool). t && eqb (word 1 (λ j. bit_at ws (x - 17 + j)) 64 % 2 ^ 17) (2 ^ 17 - 1)) (le-ltb 16 x h))
