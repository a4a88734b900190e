-- The positions of the high bits of the record of a bit vector, by its ones: where they stand, and what a block of them spills. Assumes nothing.
use mathlib.Core.Path.{◌≡◌, sym, ap, ap₂, ◌∙◌, subst}
use mathlib.Core.List.{List}
use mathlib.Core.Bool.{Bool, true, false, cond}
use Prim.Native.Nat.{ℕ, suc, ◌+◌, ◌-◌, ◌*◌, ◌/◌, ◌^◌, ◌≤◌, ◌<◌, min}
use native.Mathlib.Nat.{le_refl}
use native.Mathlib.Omega.{arith}
use lib.Dec.{leb}
use lib.ListN.{length, get_or}
use lib.Pow.{shr_mono}
use Rattle.broadword.specs.Bits.{count}
use Rattle.bit_words.specs.Vector.{bit_over}
use Rattle.bit_words.proofs.Runs.{bit_over_le}
use Rattle.darray_positions.specs.Index.{pos, before}
use Rattle.darray_positions.proofs.Index as index
use Rattle.darray_positions.proofs.Positions as position
use Rattle.elias_fano_words.specs.Image.{high_words}
use Rattle.elias_fano_words.specs.Sizes.{high_len}
use Rattle.elias_fano_words.proofs.Bounds as bounds
use Rattle.elias_fano_words.proofs.Lengths as lengths
use Rattle.elias_fano.proofs.Spilled as spilled
use Rattle.elias_fano.specs.Ask.{below}
use Rattle.elias_fano_queries.proofs.Bucket as bucket
use Rattle.elias_fano_from_bits.specs.Building.{Countable, low_of, positions_of}
use Rattle.elias_fano_from_bits.specs.FromBits.{ones_of}
use Rattle.elias_fano_from_bits.proofs.Ones as ones

module _ (ws : List ℕ) (len : ℕ) (ok : Countable ws len) where
  abbrev T : List ℕ
  T = ones_of ws len

  abbrev n : ℕ
  n = length (ones_of ws len)

  abbrev l : ℕ
  l = low_of ws len

  abbrev W : List ℕ
  W = high_words len n T

  pub low_small : low_of ws len < 64
  low_small = bounds.low_lt len n ok.small ok.some

  pub high_small : (x : ℕ) → x ≤ len → x / 2 ^ low_of ws len < 2 * length (ones_of ws len)
  high_small x h = let a = shr_mono l h in let d = bounds.high_lt len n ok.small ok.some in omega arith

  -- ---- how many there are

  pub ones_many : length (positions_of ws len true) ≡ length (ones_of ws len)
  ones_many = lengths.ones_many len n T (ones.rises ws len) (le_refl n)

  pub zeros_many : length (positions_of ws len false) ≡ high_len len (length (ones_of ws len)) - length (ones_of ws len)
  zeros_many = lengths.zeros_many len n T (ones.rises ws len) (le_refl n)

  pub few : (b : Bool) → length (positions_of ws len b) ≤ 50331649
  unfolding high_len
  few true = let a = ones_many in let c = ok.most in omega arith
  few false = let a = zeros_many in let c = ok.most in let d = bounds.high_lt len n ok.small ok.some in omega arith

  -- ---- where they stand

  pub one_is : (k : ℕ) → k < length (positions_of ws len true) → pos (positions_of ws len true) k ≡ get_or (ones_of ws len) k 0 / 2 ^ low_of ws len + k
  one_is k h = spilled.pos_high len n T (ones.rises ws len) (le_refl n) k (subst (λ (y : ℕ). k < y) ones_many h)

  pub zero_is : (k : ℕ) → k < length (positions_of ws len false) → pos (positions_of ws len false) k ≡ count (bit_over true ws) (min ((k + 1) * 2 ^ low_of ws len) len) + k
  unfolding pos
  zero_is k h =
      let x : ℕ = get_or (positions_of ws len false) k 0 in
      let s = position.place_select (bit_over false W) (bit_over_le false W) (high_len len n) k (subst (λ (y : ℕ). k < y) (position.length-places (bit_over false W) (bit_over_le false W) (high_len len n)) h) in
      let a = bucket.zero_rank len n T (ones.rises ws len) (le_refl n) k x s in
      let b = bucket.after-zeros len n T (ones.rises ws len) (le_refl n) k x s in
      let c = ones.below-upto ws len ((k + 1) * 2 ^ l) in
      (let e : x ≡ below ((k + 1) * 2 ^ low_of ws len) T + k = omega arith in e) ∙ ap (λ (y : ℕ). y + k) c

-- ---- blocks

-- a block by its ends: what it spills is added
pub next_before : (P : List ℕ) (j z first last : ℕ) → z ≡ min 1024 (length P - 1024 * j) → first ≡ pos P (1024 * j) → last ≡ pos P (1024 * j + (z - 1))
    → (o s : ℕ) → o ≡ before P j → s ≡ cond (leb 65536 (last - first)) z 0 → o + s ≡ before P (suc j)
next_before P j z first last ez ef el o s eo es = ap₂ (λ (x y : ℕ). x + y) eo (es ∙ index.spill_by P j z first last ez ef el) ∙ sym (index.before_next P j)
