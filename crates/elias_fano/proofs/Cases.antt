-- The tests of each call, one law to a case, and what a call leaves where they refuse and where they are done: the code's proofs cite them at
-- each `return`, and the model's proof cites them again. Assumes nothing.
use mathlib.Core.Path.{◌≡◌, sym, ap, ◌∙◌}
use mathlib.Core.List.{List, ◌++◌}
use mathlib.Core.Bool.{Bool, true, false, ◌&&◌, cond}
use Prim.Native.Nat.{ℕ, ◌+◌, ◌≤◌, ◌<◌}
use native.Mathlib.Omega.{arith}
use borrow.Author.Tests.{le-ltb, lt-ltb, le-leb, lt-leb, eq-eqb, ne_eqb, leb-true}
use lib.Dec.{eqb, leb, ltb}
use lib.ListN.{length, drop, replicate}
use Rattle.errors.specs.Answer.{Answer, value, done, refused}
use Rattle.elias_fano_words.specs.Sizes.{start_len, limit}
use Rattle.broadword.proofs.Truth.{and_true}
use Rattle.elias_fano.specs.declared.builder.Builder.{Builder}
use Rattle.elias_fano.specs.Made.{Made, made, builder, nobody}
use Rattle.elias_fano.specs.Steps.{tested, limit_of, new_test, new_of, sound, builder_test, time_test, filed, push_test, push_of, intact, image_of, image_test, build_test, finished_words, build_of}

-- ---- any call

module _ (a : Answer) (b : Builder) (w : List ℕ) (m : Made) where
  tested_refused : (k : ℕ) → a ≡ refused k → tested a b w m ≡ made (refused k) b w
  tested_refused k e = ap (λ (x : Answer). tested x b w m) e

  tested_done : a ≡ done → tested a b w m ≡ m
  tested_done e = ap (λ (x : Answer). tested x b w m) e

-- ---- the limit

module _ (u n : ℕ) (c : Bool) where
  pub limit_1 : n ≡ 0 → refused 1 ≡ limit_of u n c
  unfolding limit_of
  limit_1 h = simp (eq-eqb _ _ h)

  pub limit_2 : (n ≡ 0 → ⊥) → 16777216 < n → refused 2 ≡ limit_of u n c
  unfolding limit_of
  limit_2 h i = simp (ne_eqb _ _ h, lt-ltb _ _ i)

  pub limit_value : (n ≡ 0 → ⊥) → n ≤ 16777216 → (k : ℕ) → k ≡ limit u n c → value k ≡ limit_of u n c
  unfolding limit_of
  limit_value h i k e = ap value e ∙ sym (simp (ne_eqb _ _ h, le-ltb _ _ i))

-- ---- new

module _ (u n k : ℕ) where
  pub new_1 : n ≡ 0 → new_test u n k ≡ refused 1
  unfolding new_test
  new_1 h = simp (eq-eqb _ _ h)

  pub new_2 : 16777216 < n → new_test u n k ≡ refused 2
  unfolding new_test
  new_2 h = simp (ne_eqb n 0 (λ (e : n ≡ 0). omega arith), lt-ltb _ _ h)

  pub new_3 : (n ≡ 0 → ⊥) → n ≤ 16777216 → k < start_len u n → new_test u n k ≡ refused 3
  unfolding new_test
  new_3 h i j = simp (ne_eqb _ _ h, le-ltb _ _ i, lt-ltb _ _ j)

  pub new_passed : (n ≡ 0 → ⊥) → n ≤ 16777216 → start_len u n ≤ k → new_test u n k ≡ done
  unfolding new_test
  new_passed h i j = simp (ne_eqb _ _ h, le-ltb _ _ i, le-ltb _ _ j)

module _ (u n : ℕ) (w : List ℕ) where
  pub new_refused : (k : ℕ) → new_test u n (length w) ≡ refused k → new_of u n w ≡ made (refused k) nobody w
  unfolding new_of
  new_refused k e = tested_refused _ _ _ _ k e

  pub new_done : new_test u n (length w) ≡ done → new_of u n w ≡ made done (builder u n 0 0) (replicate (start_len u n) 0 ++ drop (start_len u n) w)
  unfolding new_of
  new_done e = tested_done _ nobody w _ e

-- ---- the builder's numbers

module _ (b : Builder) where
  pub none_declared : b.num_vals ≡ 0 → sound b ≡ false
  unfolding sound
  none_declared h = simp (lt-leb 1 b.num_vals (omega arith))

  pub many_declared : 16777216 < b.num_vals → sound b ≡ false
  unfolding sound
  many_declared h = simp (le-leb 1 b.num_vals (omega arith), lt-leb _ _ h)

  pub past-declared : (b.num_vals ≡ 0 → ⊥) → b.num_vals ≤ 16777216 → b.num_vals < b.num_pushed → sound b ≡ false
  unfolding sound
  past-declared h i j = simp (le-leb 1 b.num_vals (omega arith), le-leb _ _ i, lt-leb _ _ j)

  pub none_pushed : (b.num_vals ≡ 0 → ⊥) → b.num_vals ≤ 16777216 → b.num_pushed ≤ b.num_vals → b.num_pushed ≡ 0 → sound b ≡ eqb b.last 0
  unfolding sound
  none_pushed h i j k = simp (le-leb 1 b.num_vals (omega arith), le-leb _ _ i, le-leb _ _ j, eq-eqb _ _ k)

  pub some_pushed : (b.num_vals ≡ 0 → ⊥) → b.num_vals ≤ 16777216 → b.num_pushed ≤ b.num_vals → (b.num_pushed ≡ 0 → ⊥) → sound b ≡ ltb b.last b.universe
  unfolding sound
  some_pushed h i j k = simp (le-leb 1 b.num_vals (omega arith), le-leb _ _ i, le-leb _ _ j, ne_eqb _ _ k)

-- what a builder with such numbers has
pub record Sound (b : Builder) : Type 0 where
  pub some : 0 < b.num_vals
  pub most : b.num_vals ≤ 16777216
  pub few : b.num_pushed ≤ b.num_vals

pub is_sound : (b : Builder) → sound b ≡ true → Sound b
unfolding sound
is_sound b h =
    let d = cond (eqb b.num_pushed 0) (eqb b.last 0) (ltb b.last b.universe) in
    let c₂ = leb b.num_pushed b.num_vals && d in
    let c₁ = leb b.num_vals 16777216 && c₂ in
    let p₀ = and_true (leb 1 b.num_vals) c₁ h in
    let p₁ = and_true (leb b.num_vals 16777216) c₂ p₀.1 in
    let p₂ = and_true (leb b.num_pushed b.num_vals) d p₁.1 in
    record {
      some = leb-true 1 b.num_vals p₀.0;
      most = leb-true b.num_vals 16777216 p₁.0;
      few = leb-true b.num_pushed b.num_vals p₂.0;
    }

-- ---- the tests that a push and a build begin with

module _ (b : Builder) (k : ℕ) (others : Answer) where
  pub builder_7 : sound b ≡ false → builder_test b k others ≡ refused 7
  unfolding builder_test
  builder_7 h = simp h

  pub builder_3 : sound b ≡ true → k < start_len b.universe b.num_vals → builder_test b k others ≡ refused 3
  unfolding builder_test
  builder_3 g h = simp (g, lt-ltb _ _ h)

  pub builder_passed : sound b ≡ true → start_len b.universe b.num_vals ≤ k → builder_test b k others ≡ others
  unfolding builder_test
  builder_passed g h = simp (g, le-ltb _ _ h)

-- ---- push

module _ (b : Builder) (t : ℕ) where
  pub time_4 : t < b.last → time_test b t ≡ refused 4
  unfolding time_test
  time_4 i = simp (lt-ltb _ _ i)

  pub time_5 : b.last ≤ t → b.universe ≤ t → time_test b t ≡ refused 5
  unfolding time_test
  time_5 i j = simp (le-ltb _ _ i, le-leb _ _ j)

  pub time_6 : b.last ≤ t → t < b.universe → b.num_pushed ≡ b.num_vals → time_test b t ≡ refused 6
  unfolding time_test
  time_6 i j k = simp (le-ltb _ _ i, lt-leb _ _ j, eq-eqb _ _ k)

  pub time_passed : b.last ≤ t → t < b.universe → (b.num_pushed ≡ b.num_vals → ⊥) → time_test b t ≡ done
  unfolding time_test
  time_passed i j k = simp (le-ltb _ _ i, lt-leb _ _ j, ne_eqb _ _ k)

module _ (b : Builder) (t : ℕ) (w : List ℕ) where
  pub push_refused : (k : ℕ) → push_test b t (length w) ≡ refused k → push_of b t w ≡ made (refused k) b w
  unfolding push_of
  push_refused k e = tested_refused _ _ _ _ k e

  pub push_done : push_test b t (length w) ≡ done
      → push_of b t w ≡ made done (builder b.universe b.num_vals (b.num_pushed + 1) t) (filed b.universe b.num_vals b.num_pushed t w)
  unfolding push_of
  push_done e = tested_done _ b w _ e

-- ---- build

module _ (b : Builder) (c : Bool) (w : List ℕ) where
  pub image_7 : intact b w ≡ false → image_test b c w ≡ refused 7
  unfolding image_test
  image_7 i = simp i

  pub image_3 : intact b w ≡ true → length w < length (image_of b c w) → image_test b c w ≡ refused 3
  unfolding image_test
  image_3 i j = simp (i, lt-ltb _ _ j)

  pub image_passed : intact b w ≡ true → length (image_of b c w) ≤ length w → image_test b c w ≡ done
  unfolding image_test
  image_passed i j = simp (i, le-ltb _ _ j)

  pub build_refused : (k : ℕ) → build_test b c w ≡ refused k → build_of b c w ≡ made (refused k) b w
  unfolding build_of
  build_refused k e = tested_refused _ _ _ _ k e

  pub build_done : build_test b c w ≡ done → build_of b c w ≡ made (value (length (image_of b c w))) b (finished_words b c w)
  unfolding build_of
  build_done e = tested_done _ b w _ e
