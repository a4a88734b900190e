-- The cases of each call's definition, one law to a case. Assumes nothing.
use Rattle.std.specs.Prelude.{Ok}
use mathlib.Core.Path.{◌≡◌, ap₂}
use mathlib.Core.List.{List, ◌++◌}
use mathlib.Core.Bool.{Bool, true, false}
use Prim.Native.Nat.{ℕ, ◌^◌, ◌≤◌, ◌<◌}
use borrow.Author.Tests.{le-leb, lt-leb, lt-ltb, le-ltb}
use lib.ListN.{length, drop}
use Rattle.errors.specs.Answer.{value, refused, leaves}
use Rattle.broadword.specs.Fields.{flag}
use Rattle.bit_words.specs.Vector.{invalid}
use Rattle.darray_positions.specs.Positions.{positions}
use Rattle.darray_positions.specs.Index.{blocks, lanes, overflow, index_words}
use Rattle.darray.specs.Queries.{sizes, unmeasured, of_measured, measure_of, build_index_of, validate_of, same}
use Rattle.darray.specs.Sizes.{Sized}
use Rattle.darray.specs.declared.inner.Sizes.{Sizes}
use Rattle.darray_positions.proofs.Index.{length-overflow}

module _ (ws : List ℕ) (len : ℕ) (b : Bool) where
  pub measure_13 : invalid ws len ≡ true → measure_of ws len b ≡ unmeasured 13
  unfolding measure_of
  measure_13 h = rw h

  pub measure_2 : invalid ws len ≡ false → 2 ^ 63 ≤ len → measure_of ws len b ≡ unmeasured 2
  unfolding measure_of
  measure_2 h l = rw (h, le-leb (2 ^ 63) len l)

  pub measure_sizes : invalid ws len ≡ false → len < 2 ^ 63 → measure_of ws len b ≡ sizes (length (positions b ws len)) (blocks (positions b ws len)) (lanes (positions b ws len)) (length (overflow (positions b ws len) (blocks (positions b ws len))))
  unfolding measure_of
  measure_sizes h l = rw (h, lt-leb (2 ^ 63) len l)

  pub measure_ok : invalid ws len ≡ false → len < 2 ^ 63 → (s : Sizes) → Sized (positions b ws len) s → measure_of ws len b ≡ of_measured (Ok s)
  measure_ok h l s z =
      rw (measure_sizes h l)
      (cc (z.positions, z.entries, z.lanes, z.overflow, length-overflow (positions b ws len) (blocks (positions b ws len))))

  module _ (out : List ℕ) where
    pub build_13 : invalid ws len ≡ true → build_index_of ws len b out ≡ leaves (refused 13) out
    unfolding build_index_of
    build_13 h = rw h

    pub build_2 : invalid ws len ≡ false → 2 ^ 63 ≤ len → build_index_of ws len b out ≡ leaves (refused 2) out
    unfolding build_index_of
    build_2 h l = rw (h, le-leb (2 ^ 63) len l)

    pub build_3 : invalid ws len ≡ false → len < 2 ^ 63 → length out < length (index_words (positions b ws len)) → build_index_of ws len b out ≡ leaves (refused 3) out
    unfolding build_index_of
    build_3 h l g = rw (h, lt-leb (2 ^ 63) len l, lt-ltb (length out) (length (index_words (positions b ws len))) g)

    pub build_ok : invalid ws len ≡ false → len < 2 ^ 63 → length (index_words (positions b ws len)) ≤ length out
        → (n : ℕ) (l : List ℕ) → n ≡ length (index_words (positions b ws len)) → l ≡ index_words (positions b ws len) ++ drop (length (index_words (positions b ws len))) out
        → leaves (value n) l ≡ build_index_of ws len b out
    unfolding build_index_of
    build_ok h l g n m p q =
        rw (h, lt-leb (2 ^ 63) len l, le-ltb (length out) (length (index_words (positions b ws len))) g) (ap₂ (λ (x : ℕ) (y : List ℕ). leaves (value x) y) p q)

  module _ (index : List ℕ) where
    pub validate_13 : invalid ws len ≡ true → validate_of ws len b index ≡ refused 13
    unfolding validate_of
    validate_13 h = rw h

    pub validate_2 : invalid ws len ≡ false → 2 ^ 63 ≤ len → validate_of ws len b index ≡ refused 2
    unfolding validate_of
    validate_2 h l = rw (h, le-leb (2 ^ 63) len l)

    pub validate_ok : invalid ws len ≡ false → len < 2 ^ 63 → validate_of ws len b index ≡ value (flag (same index (index_words (positions b ws len))))
    unfolding validate_of
    validate_ok h l = rw (h, lt-leb (2 ^ 63) len l)
