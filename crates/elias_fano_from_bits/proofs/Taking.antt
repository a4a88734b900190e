-- The walk over the ones of the source, one after the other. Assumes nothing.
use Rattle.errors.specs.declared.Refusal.{Refusal}
use Rattle.std.specs.Prelude.{Ok, Err, Some, None, Result, Option, unwrap_or}
use Rattle.std.specs.Result.{result_unwrap_or}
use mathlib.Core.Path.{◌≡◌, refl, ap, ◌∙◌, subst⁻¹}
use mathlib.Core.List.{List}
use mathlib.Core.Bool.{true}
use Prim.Native.Nat.{ℕ, suc, ◌+◌, ◌*◌, ◌/◌, ◌%◌, ◌^◌, ◌<◌}
use native.Mathlib.Nat.{le_refl, add-zero}
use native.Mathlib.Numerals.{add-one}
use native.Mathlib.Omega.{arith}
use lib.ListN.{length, get_or}
use Rattle.errors.specs.Answer.{value, of_optional}
use Rattle.broadword.specs.Bits.{count}
use Rattle.broadword.specs.Places.{select}
use Rattle.broadword.proofs.Find.{select_at}
use Rattle.bit_words.specs.Vector.{bit_over}
use Rattle.bit_words.proofs.Valid.{valid}
use Rattle.bit_vectors.specs.Walk.{Step, step, of_stepped, walk_at, next_of}
use Rattle.bit_vectors.specs.declared.unary.Unary.{Unary}
use Rattle.bit_vectors.specs.declared.unary.Stepped.{Stepped}
use Rattle.bit_vectors.proofs.Steps as steps
use Rattle.darray_positions.proofs.Counts.{count_few}
use Rattle.elias_fano_from_bits.specs.Building.{Countable, OnesTaken, NextTaken}
use Rattle.elias_fano_from_bits.specs.FromBits.{ones_of}
use Rattle.elias_fano_from_bits.proofs.Ones as ones

-- the place that is answered
place_of : Result (Option ℕ) Refusal → ℕ
place_of q = unwrap_or (result_unwrap_or q None) 0

place_is : (q : Result (Option ℕ) Refusal) (x : ℕ) → of_optional q ≡ value x → place_of q ≡ x
unfolding place_of
place_is (Ok (Some y)) x e = cc
place_is (Ok None) x e = let z : ◌≡◌ {A = ℕ} 0 1 = cc in omega arith
place_is (Err r) x e = let z : ◌≡◌ {A = ℕ} 0 1 = cc in omega arith

-- a value is the answer of no place that is none
other_place : (q : Result (Option ℕ) Refusal) (x : ℕ) → of_optional q ≡ value x → ((y : ℕ) → q ≡ Ok (Some y) → ⊥) → ⊥
other_place (Ok (Some y)) x e k = k y refl
other_place (Ok None) x e k = let z : ◌≡◌ {A = ℕ} 0 1 = cc in omega arith
other_place (Err r) x e k = let z : ◌≡◌ {A = ℕ} 0 1 = cc in omega arith

-- ---- the beginning

module _ (ws : List ℕ) (len : ℕ) (ok : Countable ws len) where
  some_bits : 0 < len
  some_bits = let a = ones.many ws len in let b = count_few true ws len in omega (arith, ok.some)

  pub begin_room : 0 / 64 < length ws
  begin_room = let a = some_bits in let b = (valid ws len ok.valid).room in omega arith

  pub begun : (r : Unary) → r ≡ record { position = 0; from = 0; buf = get_or ws (0 / 64) 0 / 2 ^ (0 % 64) * 2 ^ (0 % 64) } → OnesTaken ws len 0 r
  unfolding count
  begun r e = subst⁻¹ (OnesTaken ws len 0) e (record { over = steps.walking ws len 0 ok.valid (let a = some_bits in omega arith); before = refl })

-- ---- a step

module _ (ws : List ℕ) (len i : ℕ) (w : Unary) (a : OnesTaken ws len i w) (h : i < length (ones_of ws len)) where
  abbrev f : ℕ → ℕ
  f = bit_over true ws

  abbrev x : ℕ
  x = get_or (ones_of ws len) i 0

  next : select f len i ≡ Some x
  next = let s = ones.has ws len i h in select_at f len i x s.within s.one s.before

  module _ (r : Stepped) (e : of_stepped r ≡ next_of ws len w) where
    is_step : of_stepped r ≡ step (value x) (walk_at ws len x (x + 1))
    is_step = e ∙ steps.step_ok ws len w true 1 0 (Some x) a.over.ok (ap (select f len) (add-zero (count f w.from) ∙ a.before) ∙ next)

    pub no_other : ((y : ℕ) → r.place ≡ Ok (Some y) → ⊥) → ⊥
    no_other k = other_place r.place x (ap (λ (y : Step). y.answer) is_step) k

    count_next : count f (x + 1) ≡ suc i
    unfolding count
    count_next = let s = ones.has ws len i h in ap (count f) (add-one x) ∙ (let b = s.before in let o = s.one in omega arith)

    pub one_taken : NextTaken ws len i (record { place = unwrap_or (result_unwrap_or r.place None) 0; rest = r.walk })
    unfolding place_of
    one_taken = record {
      place = place_is r.place x (ap (λ (z : Step). z.answer) is_step);
      rest = subst⁻¹ (OnesTaken ws len (suc i)) (ap (λ (z : Step). z.walk) is_step) (record {
        over = record { ok = a.over.ok; behind = omega arith; near = le_refl (x + 1); rest = refl };
        before = count_next;
      });
    }
