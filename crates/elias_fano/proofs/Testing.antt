-- What the tests of a builder, of its words and of a time find. Assumes nothing.
use Rattle.std.specs.Option.{option_eq}
use Rattle.std.specs.Prelude.{Ok, Err, Some, None, Result, Option}
use mathlib.Core.Path.{◌≡◌, refl, sym, ap, ◌∙◌, subst}
use mathlib.Core.List.{List}
use mathlib.Core.Bool.{Bool, true, false, ◌&&◌, cond}
use Prim.Native.Nat.{ℕ, ◌-◌, ◌*◌, ◌≤◌}
use native.Mathlib.Nat.{le_refl, mul-le-mul}
use native.Mathlib.Omega.{arith}
use borrow.Author.Tests.{leb-true, leb-false}
use lib.Dec.{eqb, leb}
use lib.ListN.{length, take, drop, length-drop}
use lib.Seq.{length-take-le}
use Rattle.errors.specs.Answer.{Answer, done, refused}
use Rattle.errors.specs.Refusal.{number_of}
use Rattle.errors.specs.declared.Refusal.{Refusal}
use Rattle.elias_fano_words.specs.Checks.{Checkable}
use Rattle.elias_fano_words.specs.Sizes.{low_len, high_len, start_len}
use Rattle.elias_fano_words.specs.Times.{last_of, times_in, holds}
use Rattle.elias_fano_words.specs.declared.sizes.Sizes.{Sizes}
use Rattle.elias_fano.specs.declared.builder.Builder.{Builder}
use Rattle.elias_fano.specs.Finishing.{Holding, Finishable}
use Rattle.elias_fano.specs.Steps.{new_test, builder_test, time_test, push_test, held_words, held_times, intact, image_of, image_test, build_test}
use Rattle.elias_fano.specs.Testing.{Startable, TestsNew, Roomy, TestsBuilder, Fileable, TestsPush, TestsBuild}
use Rattle.elias_fano.proofs.Cases as cases

-- ---- what a match tells of a test

module _ (u n k : ℕ) (r : Result Sizes Refusal) (h : TestsNew u n k r) where
  pub passed_new : (s : Sizes) → r ≡ Ok s → Startable u n k s
  passed_new s e = subst (TestsNew u n k) e h

  pub refused_new : (x : Refusal) → r ≡ Err x → new_test u n k ≡ refused (number_of x)
  refused_new x e = subst (TestsNew u n k) e h

module _ (b : Builder) (k : ℕ) (r : Result Sizes Refusal) (h : TestsBuilder b k r) where
  pub passed_builder : (s : Sizes) → r ≡ Ok s → Roomy b k s
  passed_builder s e = subst (TestsBuilder b k) e h

  pub refused_builder : (x : Refusal) → r ≡ Err x → (others : Answer) → builder_test b k others ≡ refused (number_of x)
  refused_builder x e = subst (TestsBuilder b k) e h

module _ (b : Builder) (t k : ℕ) (r : Result Sizes Refusal) (h : TestsPush b t k r) where
  pub passed_push : (s : Sizes) → r ≡ Ok s → Fileable b t k s
  passed_push s e = subst (TestsPush b t k) e h

  pub refused_push : (x : Refusal) → r ≡ Err x → push_test b t k ≡ refused (number_of x)
  refused_push x e = subst (TestsPush b t k) e h

module _ (b : Builder) (c : Bool) (w : List ℕ) (r : Result Sizes Refusal) (h : TestsBuild b c w r) where
  pub passed_build : (s : Sizes) → r ≡ Ok s → Finishable b c s w
  passed_build s e = subst (TestsBuild b c w) e h

  pub refused_build : (x : Refusal) → r ≡ Err x → build_test b c w ≡ refused (number_of x)
  refused_build x e = subst (TestsBuild b c w) e h

-- ---- nothing stands against a call

pub nothing_against_new : (u n k : ℕ) (s : Sizes) → Startable u n k s → new_test u n k ≡ done
nothing_against_new u n k s h = cases.new_passed u n k h.some h.most h.long

module _ (b : Builder) (k : ℕ) (s : Sizes) (r : Roomy b k s) where
  -- what the later tests say is what all say
  pub others : (a : Answer) → builder_test b k a ≡ a
  others a = cases.builder_passed b k a r.is_sound r.long

  pub known : cases.Sound b
  known = cases.is_sound b r.is_sound

pub nothing_against_push : (b : Builder) (t k : ℕ) (s : Sizes) → Fileable b t k s → push_test b t k ≡ done
nothing_against_push b t k s h = others b k s h.roomy (time_test b t) ∙ cases.time_passed b t h.after h.below h.more

pub nothing_against_build : (b : Builder) (c : Bool) (w : List ℕ) (s : Sizes) → Finishable b c s w → build_test b c w ≡ done
nothing_against_build b c w s f =
    cases.builder_passed b (length w) (image_test b c w) f.holding.is_sound f.holding.long
    ∙ cases.image_passed b c w f.holding.is_intact f.room

-- ---- what a check of the bits says

last_if : (k : Bool) (t y : ℕ) → option_eq eqb (cond k (Some t) None) (Some y) ≡ (k && eqb t y)
last_if true t y = refl
last_if false t y = refl

-- ---- the bits

module _ (b : Builder) (w : List ℕ) (s : Sizes) (y : Roomy b (length w) s) where
  abbrev u : ℕ
  u = b.universe

  abbrev n : ℕ
  n = b.num_vals

  abbrev m : ℕ
  m = b.num_pushed

  low_is : s.low_len ≡ low_len u n
  low_is = ap (λ (x : Sizes). x.low_len) y.sizes

  high_is : s.high_len ≡ high_len u n
  high_is = ap (λ (x : Sizes). x.high_len) y.sizes

  start_is : s.start_len ≡ start_len u n
  start_is = ap (λ (x : Sizes). x.start_len) y.sizes

  pub six_le : 6 ≤ s.start_len
  unfolding start_len
  six_le = let e = start_is in omega arith

  pub start_le : s.start_len ≤ length w
  start_le = subst (λ (k : ℕ). k ≤ length w) (sym start_is) y.long

  -- the words that are lent to the check
  abbrev part : List ℕ
  part = take (s.start_len - 6) (drop 6 w)

  part_is : part ≡ held_words b w
  part_is = ap (λ (k : ℕ). take (k - 6) (drop 6 w)) start_is

  pub checkable : Checkable u n m s.low_len s.high_len part
  unfolding start_len
  checkable =
      let z = known b (length w) s y in
      record {
        some = z.some;
        few = z.most;
        upto = z.few;
        low = low_is;
        high = high_is;
        room =
            let a = length-take-le (s.start_len - 6) (drop 6 w) (let d = length-drop 6 w in let l = start_le in omega arith) in
            let p : m * low_len u n ≤ n * low_len u n = mul-le-mul z.few (le_refl (low_len u n)) in
            let e = start_is in
            omega arith;
      }

  module _ (r : Option ℕ) (e : r ≡ cond (holds u n m part) (Some (last_of (times_in u n m part))) None) where
    checks : r ≡ cond (holds u n m (held_words b w)) (Some (last_of (held_times b w))) None
    unfolding held_times
    checks = e ∙ ap (λ (x : List ℕ). cond (holds u n m x) (Some (last_of (times_in u n m x))) None) part_is

    pub decided : option_eq eqb r (Some b.last) ≡ intact b w
    unfolding intact
    decided = ap (λ (x : Option ℕ). option_eq eqb x (Some b.last)) checks ∙ last_if (holds u n m (held_words b w)) (last_of (held_times b w)) b.last

  pub is_holding : intact b w ≡ true → Holding b w
  is_holding ok = record { is_sound = y.is_sound; long = y.long; is_intact = ok }

  pub bits_refused : (c : Bool) → intact b w ≡ false → build_test b c w ≡ refused 7
  bits_refused c e = others b (length w) s y (image_test b c w) ∙ cases.image_7 b c w e

  module _ (c r : Bool) (ok : intact b w ≡ true) (e : r ≡ leb (length (image_of b c w)) (length w)) where
    pub image_refused : r ≡ false → build_test b c w ≡ refused 3
    image_refused d = others b (length w) s y (image_test b c w) ∙ cases.image_3 b c w ok (leb-false (length (image_of b c w)) (length w) (sym e ∙ d))

    pub finishable : r ≡ true → Finishable b c s w
    finishable d = record { holding = is_holding ok; sizes = y.sizes; room = leb-true (length (image_of b c w)) (length w) (sym e ∙ d) }
