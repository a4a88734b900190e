-- What a call writes is the vector of its bits: every question of it is that question of the plain bits. Assumes nothing.
use mathlib.Core.Path.{◌≡◌, refl, sym, ap, ap₂, ◌∙◌, subst}
use mathlib.Core.List.{List, []}
use mathlib.Core.Bool.{Bool, true, false, ◌&&◌, cond}
use Prim.Native.Nat.{ℕ, suc, ◌^◌, ◌<◌}
use native.Mathlib.Omega.{arith}
use borrow.Author.Tests.{eq-eqb, eqb-true, eqb-false, ltb-false}
use lib.Dec.{eqb, ltb}
use lib.ListN.{length, get_or, take, drop}
use lib.Seq.{take-append_seam}
use Rattle.errors.specs.Answer.{Answer, value, done, refused, Outcome, leaves, passing}
use Rattle.broadword.specs.Fields.{flag}
use Rattle.broadword.proofs.Truth.{true_and}
use Rattle.bit_words.specs.Vector.{bit_over, invalid}
use Rattle.bit_words.proofs.Runs.{bit_over_le}
use Rattle.darray_positions.proofs.Positions.{place_rises}
use Rattle.elias_fano_words.specs.Image.{image}
use Rattle.elias_fano_words.specs.Times.{unrepeated, unrepeated_if}
use Rattle.elias_fano_words.proofs.Rising.{no_repeat}
use Rattle.elias_fano.specs.Accept.{universe, declared, pushed, times, accepted, accepted_if}
use Rattle.elias_fano.proofs.Answers.{value_inj, refused_value}
use Rattle.elias_fano.proofs.Images as images
use Rattle.elias_fano_from_bits.specs.Building.{Countable}
use Rattle.elias_fano_from_bits.specs.FromBits.{ones_of, bits_image, ones_test, bits_written}
use Rattle.elias_fano_from_bits.proofs.Ones as ones
use Rattle.sarray.specs.Ask.{SparseQuestion, is_vector, sparse_ask, sparse_query}
use Rattle.sarray.specs.Build.{sparse_test, sparse_from_bits, plain, AsksPlain}
use Rattle.sarray.proofs.Answering.{nothing_in}
use Rattle.sarray.proofs.Plain.{plain_is}
use Rattle.sarray.proofs.Vectors.{words_are, zeros_are}

-- the places of the ones are not repeated
apart : (ws : List ℕ) (len : ℕ) → unrepeated (ones_of ws len) ≡ true
apart ws len = no_repeat (ones_of ws len) (λ k h. place_rises (bit_over true ws) (bit_over_le true ws) len k (suc k) (omega arith) (subst (λ (n : ℕ). suc k < n) (ones.many ws len) h))

-- ---- the image

module _ (u n : ℕ) (c : Bool) (T : List ℕ) where
  word_3 : get_or (image u n c T) 3 0 ≡ flag c
  unfolding image
  word_3 = refl

  some_words : length (image u n c T) ≡ 0 → ⊥
  unfolding image
  some_words e = omega arith

module _ (ws : List ℕ) (len : ℕ) (c : Bool) (q : SparseQuestion) where
  abbrev S : List ℕ
  S = ones_of ws len

  abbrev N : ℕ
  N = length (ones_of ws len)

  -- a vector is asked for its times
  asked_vector : (i : List ℕ) → is_vector len c i ≡ true → times i ≡ S → sparse_query len c i q ≡ sparse_ask len c S q
  unfolding sparse_query
  asked_vector i v e = ap (λ (b : Bool). cond b (sparse_ask len c (times i) q) (refused 7)) v ∙ ap (λ (T : List ℕ). sparse_ask len c T q) e

  zeros-asked : N ≡ 0 → sparse_query len c [] q ≡ sparse_ask len c S q
  zeros-asked e = asked_vector [] (zeros_are len c [] refl) (images.no_times [] refl ∙ sym (nothing_in S e))

  module _ (ok : Countable ws len) where
    abbrev I : List ℕ
    I = image len N c S

    times_are : times I ≡ S
    times_are = images.image-times len N c S (ones.fits ws len ok)

    is_vector_lem : is_vector len c I ≡ true
    is_vector_lem =
        words_are len c I (some_words len N c S)
        ∙ true_and (accepted_if true I) (eqb (universe I) len && (eqb (get_or I 3 0) (flag c) && eqb (pushed I) (declared I)))
        (true_and (unrepeated_if true (times I)) (accepted I) (ap unrepeated times_are ∙ apart ws len) (images.image-accepted len N c S (ones.fits ws len ok)))
        (true_and (eqb (universe I) len) (eqb (get_or I 3 0) (flag c) && eqb (pushed I) (declared I)) (eq-eqb (universe I) len (images.image-universe len N c S))
        (true_and (eqb (get_or I 3 0) (flag c)) (eqb (pushed I) (declared I)) (eq-eqb (get_or I 3 0) (flag c) (word_3 len N c S))
        (eq-eqb (pushed I) (declared I) (images.image-pushed len N c S ∙ sym (images.image-declared len N c S)))))

    image-asked : sparse_query len c (bits_image ws len c) q ≡ sparse_ask len c S q
    unfolding bits_image
    image-asked = asked_vector I is_vector_lem times_are

-- ---- the call

module _ (ws : List ℕ) (len : ℕ) (c : Bool) (w : List ℕ) (k : ℕ) (x : List ℕ) (small : len < 2 ^ 64) (q : SparseQuestion) where
  abbrev B : List ℕ
  B = bits_image ws len c

  -- the tests by their four questions
  abbrev test : Bool → Bool → Bool → Bool → Answer
  test a b d e = cond a (refused 13) (cond b (value 0) (cond d (refused 2) (cond e (refused 3) done)))

  answer_of_lem : {o : Outcome} → o ≡ leaves (value k) x → o.answer ≡ value k
  answer_of_lem g = ap (λ (o : Outcome). o.answer) g

  words_of : {o : Outcome} → o ≡ leaves (value k) x → x ≡ o.words
  words_of g = sym (ap (λ (o : Outcome). o.words) g)

  none_taken : 0 ≡ k → take k x ≡ []
  none_taken e = ap (λ (n : ℕ). take n x) (sym e)

  image_taken : bits_written ws len c w ≡ leaves (value k) x → take k x ≡ B
  image_taken g = ap₂ take (sym (value_inj (length B) k (answer_of_lem g))) (words_of g) ∙ take-append_seam B (drop (length B) w)

  abbrev Asked : Type 0
  Asked = sparse_query len c (take k x) q ≡ plain ws len c q

  by_tests : (a b d e : Bool) → invalid ws len ≡ a → eqb (length (ones_of ws len)) 0 ≡ b → ltb 16777216 (length (ones_of ws len)) ≡ d → passing (test a b d e) w (bits_written ws len c w) ≡ leaves (value k) x → Asked
  by_tests true b d e ea eb ed g = absurd (refused_value 13 k (answer_of_lem g))
  by_tests false true d e ea eb ed g =
      ap (λ (i : List ℕ). sparse_query len c i q) (none_taken (value_inj 0 k (answer_of_lem g))) ∙ zeros-asked ws len c q (eqb-true (length (ones_of ws len)) 0 eb) ∙ plain_is ws len c ea q
  by_tests false false true e ea eb ed g = absurd (refused_value 2 k (answer_of_lem g))
  by_tests false false false true ea eb ed g = absurd (refused_value 3 k (answer_of_lem g))
  by_tests false false false false ea eb ed g =
      let h = eqb-false (length (ones_of ws len)) 0 eb in
      ap (λ (i : List ℕ). sparse_query len c i q) (image_taken g)
      ∙ image-asked ws len c q (record { valid = ea; small = small; some = omega arith; most = ltb-false _ _ ed }) ∙ plain_is ws len c ea q

pub asks_plain : AsksPlain
unfolding sparse_from_bits sparse_test ones_test
asks_plain ws len c w k x small e q =
    by_tests ws len c w k x small q (invalid ws len) (eqb (length (ones_of ws len)) 0) (ltb 16777216 (length (ones_of ws len))) (ltb (length w) (length (bits_image ws len c))) refl refl refl e
