-- What the tests of a call find, inside the crate: no public contract rests on it. u is the universe, n the declared count, k how many words
-- are lent. Assumes nothing.
use Rattle.errors.specs.declared.Refusal.{Refusal}
use Rattle.std.specs.Prelude.{◌≡◌, List, Bool, true, ℕ, ◌≤◌, ◌<◌, Ok, Err, Result}
use Rattle.errors.specs.Answer.{Answer, refused}
use Rattle.errors.specs.Refusal.{number_of}
use Rattle.elias_fano_words.specs.Sizes.{start_len, sizes_of}
use Rattle.elias_fano_words.specs.declared.sizes.Sizes.{Sizes}
use Rattle.elias_fano.specs.declared.builder.Builder.{Builder}
use Rattle.elias_fano.specs.Finishing.{Finishable}
use Rattle.elias_fano.specs.Steps.{new_test, sound, builder_test, push_test, build_test}

-- nothing stands against a start
pub record Startable (u n k : ℕ) (s : Sizes) : Type 0 where
  pub some : n ≡ 0 → ⊥
  pub most : n ≤ 16777216
  pub long : start_len u n ≤ k
  pub sizes : s ≡ sizes_of u n

abbrev pub TestsNew : ℕ → ℕ → ℕ → Result Sizes Refusal → Type 0
TestsNew u n k (Ok s) = Startable u n k s
TestsNew u n k (Err e) = new_test u n k ≡ refused (number_of e)

-- the builder's numbers are sound, and the words as many as its start zeroes
pub record Roomy (b : Builder) (k : ℕ) (s : Sizes) : Type 0 where
  pub is_sound : sound b ≡ true
  pub long : start_len b.universe b.num_vals ≤ k
  pub sizes : s ≡ sizes_of b.universe b.num_vals

-- a refusal comes before what other tests say
abbrev pub TestsBuilder : Builder → ℕ → Result Sizes Refusal → Type 0
TestsBuilder b k (Ok s) = Roomy b k s
TestsBuilder b k (Err e) = (others : Answer) → builder_test b k others ≡ refused (number_of e)

-- nothing stands against a reading
pub record Fileable (b : Builder) (t k : ℕ) (s : Sizes) : Type 0 where
  pub roomy : Roomy b k s
  pub after : b.last ≤ t
  pub below : t < b.universe
  pub more : b.num_pushed ≡ b.num_vals → ⊥

abbrev pub TestsPush : Builder → ℕ → ℕ → Result Sizes Refusal → Type 0
TestsPush b t k (Ok s) = Fileable b t k s
TestsPush b t k (Err e) = push_test b t k ≡ refused (number_of e)

-- nothing stands against a finish
abbrev pub TestsBuild : Builder → Bool → List ℕ → Result Sizes Refusal → Type 0
TestsBuild b c w (Ok s) = Finishable b c s w
TestsBuild b c w (Err e) = build_test b c w ≡ refused (number_of e)
