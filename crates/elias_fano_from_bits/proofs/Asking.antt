-- Every question of the image that an accepted call leaves is asked of the places of the ones. Assumes nothing.
use mathlib.Core.Path.{◌≡◌, refl, sym, ap, ap₂, ◌∙◌}
use mathlib.Core.List.{List}
use mathlib.Core.Bool.{Bool, true, false, cond}
use Prim.Native.Nat.{ℕ, ◌^◌, ◌<◌}
use native.Mathlib.Omega.{arith}
use borrow.Author.Tests.{ltb-false, eqb-false}
use lib.Dec.{eqb, ltb}
use lib.ListN.{length, take, drop}
use lib.Seq.{take-append_seam}
use Rattle.errors.specs.Answer.{Answer, value, done, refused, Outcome, leaves, passing}
use Rattle.bit_words.specs.Vector.{invalid}
use Rattle.elias_fano.specs.Ask.{Question, ask, query}
use Rattle.elias_fano.proofs.Answers.{value_inj, refused_value}
use Rattle.elias_fano.proofs.Images.{image-query}
use Rattle.elias_fano_from_bits.specs.Building.{Countable}
use Rattle.elias_fano_from_bits.specs.FromBits.{ones_of, bits_image, ones_test, bits_test, bits_written, from_bits_of, AsksBits}
use Rattle.elias_fano_from_bits.proofs.Ones as ones

module _ (ws : List ℕ) (len : ℕ) (c : Bool) (w : List ℕ) (k : ℕ) (x : List ℕ) (small : len < 2 ^ 64) where
  abbrev N : ℕ
  N = length (ones_of ws len)

  abbrev wrote : Outcome
  wrote = bits_written ws len c w

  -- the tests by their five questions
  abbrev test : Bool → Bool → Bool → Bool → Bool → Answer
  test a b d e f = cond a (refused 13) (cond b (refused 10) (cond d (refused 11) (cond e (refused 2) (cond f (refused 3) done))))

  abbrev Asks : Type 0
  Asks = (q : Question) → query (take k x) q ≡ ask len N c (ones_of ws len) q

  asks : Countable ws len → wrote ≡ leaves (value k) x → Asks
  unfolding bits_image
  asks ok g q =
      let n = value_inj (length (bits_image ws len c)) k (ap (λ (o : Outcome). o.answer) g) in
      ap (λ (i : List ℕ). query i q) (ap₂ take (sym n) (sym (ap (λ (o : Outcome). o.words) g)) ∙ take-append_seam (bits_image ws len c) (drop (length (bits_image ws len c)) w))
      ∙ image-query len N c (ones_of ws len) (ones.fits ws len ok) q

  by_tests : (a b d e f : Bool) → invalid ws len ≡ a → eqb N 0 ≡ d → ltb 16777216 N ≡ e → passing (test a b d e f) w wrote ≡ leaves (value k) x → Asks
  by_tests true b d e f ea ed ee g = absurd (refused_value 13 k (ap (λ (o : Outcome). o.answer) g))
  by_tests false true d e f ea ed ee g = absurd (refused_value 10 k (ap (λ (o : Outcome). o.answer) g))
  by_tests false false true e f ea ed ee g = absurd (refused_value 11 k (ap (λ (o : Outcome). o.answer) g))
  by_tests false false false true f ea ed ee g = absurd (refused_value 2 k (ap (λ (o : Outcome). o.answer) g))
  by_tests false false false false true ea ed ee g = absurd (refused_value 3 k (ap (λ (o : Outcome). o.answer) g))
  by_tests false false false false false ea ed ee g =
      let h = eqb-false N 0 ed in
      asks (record { valid = ea; small = small; some = omega arith; most = ltb-false _ _ ee }) g

pub asks_bits : AsksBits
unfolding from_bits_of bits_test ones_test
asks_bits ws len c w k x small e =
    by_tests ws len c w k x small (invalid ws len) (eqb len 0) (eqb (length (ones_of ws len)) 0) (ltb 16777216 (length (ones_of ws len))) (ltb (length w) (length (bits_image ws len c))) refl refl refl e
