-- The call case by case. Assumes nothing.
use Rattle.std.specs.Prelude.{Ok, Result}
use mathlib.Core.Path.{◌≡◌, sym, ap, ◌∙◌, subst}
use mathlib.Core.List.{List, ◌++◌}
use mathlib.Core.Bool.{Bool, true, false}
use Prim.Native.Nat.{ℕ, ◌≤◌, ◌<◌}
use borrow.Author.Tests.{lt-ltb, le-ltb, eq-eqb, ne_eqb}
use lib.ListN.{length, drop}
use Rattle.errors.specs.Answer.{Answer, value, done, refused, Outcome, leaves, passing}
use Rattle.errors.specs.declared.Refusal.{Refusal}
use Rattle.bit_words.specs.Vector.{invalid}
use Rattle.elias_fano_from_bits.specs.Building.{Countable, Ready, Tests}
use Rattle.elias_fano_from_bits.specs.FromBits.{ones_of, bits_image, ones_test, bits_test, bits_written, from_bits_of}
use Rattle.elias_fano_from_bits.specs.declared.build.Job.{Job}

-- ---- the tests

module _ (ws : List ℕ) (len : ℕ) (c : Bool) (k : ℕ) where
  pub ones_2 : 16777216 < length (ones_of ws len) → ones_test ws len c k ≡ refused 2
  unfolding ones_test
  ones_2 h = simp (lt-ltb 16777216 (length (ones_of ws len)) h)

  module _ (ok : Countable ws len) where
    pub ones_3 : k < length (bits_image ws len c) → ones_test ws len c k ≡ refused 3
    unfolding ones_test
    ones_3 h = simp (le-ltb 16777216 (length (ones_of ws len)) ok.most, lt-ltb k (length (bits_image ws len c)) h)

    pub ones_done : length (bits_image ws len c) ≤ k → ones_test ws len c k ≡ done
    unfolding ones_test
    ones_done h = simp (le-ltb 16777216 (length (ones_of ws len)) ok.most, le-ltb k (length (bits_image ws len c)) h)

  module _ (r : Result Job Refusal) (t : Tests ws len c k r) where
    pub passed : (j : Job) → r ≡ Ok j → Ready ws len c k j
    passed j e = subst (Tests ws len c k) e t

-- ---- the calls

module _ (ws : List ℕ) (len : ℕ) (c : Bool) (w : List ℕ) where
  abbrev of_test : Answer → Outcome
  of_test a = passing a w (bits_written ws len c w)

  pub ones_written : ones_test ws len c (length w) ≡ done → (k : ℕ) → k ≡ length (bits_image ws len c) → (x : List ℕ) → x ≡ bits_image ws len c ++ drop (length (bits_image ws len c)) w → leaves (value k) x ≡ of_test (ones_test ws len c (length w))
  ones_written e k ek x ex = (λ i. leaves (value (ek i)) (ex i)) ∙ sym (ap of_test e)

  pub bits_13 : invalid ws len ≡ true → leaves (refused 13) w ≡ from_bits_of ws len c w
  unfolding from_bits_of bits_test
  bits_13 e = simp e

  module _ (ok : invalid ws len ≡ false) where
    pub bits_10 : len ≡ 0 → leaves (refused 10) w ≡ from_bits_of ws len c w
    unfolding from_bits_of bits_test
    bits_10 e = simp (ok, eq-eqb len 0 e)

    module _ (some : len ≡ 0 → ⊥) where
      pub bits_11 : length (ones_of ws len) ≡ 0 → leaves (refused 11) w ≡ from_bits_of ws len c w
      unfolding from_bits_of bits_test
      bits_11 e = simp (ok, ne_eqb len 0 some, eq-eqb (length (ones_of ws len)) 0 e)

      pub bits_ones : (length (ones_of ws len) ≡ 0 → ⊥) → of_test (ones_test ws len c (length w)) ≡ from_bits_of ws len c w
      unfolding from_bits_of bits_test
      bits_ones e = simp (ok, ne_eqb len 0 some, ne_eqb (length (ones_of ws len)) 0 e)
