-- The cases of a walk's steps. Assumes nothing.
use Rattle.std.specs.Prelude.{Some, None, Option}
use mathlib.Core.Path.{◌≡◌, refl, sym, ap, ◌∙◌}
use mathlib.Core.List.{List}
use mathlib.Core.Bool.{Bool, true, false, cond}
use Prim.Native.Nat.{ℕ, ◌+◌, ◌*◌, ◌/◌, ◌%◌, ◌^◌, ◌≤◌, ◌<◌}
use native.Mathlib.Nat.{le_refl, le_trans, le_of_eq, lt_of_not-le}
use native.Mathlib.Decide.{dec_lt}
use native.Mathlib.Omega.{arith}
use borrow.Author.Tests.{le-ltb, lt-ltb, le-leb, lt-leb}
use lib.ListN.{get_or}
use Rattle.errors.specs.Answer.{Answer, none, refused}
use Rattle.broadword.specs.Bits.{count}
use Rattle.broadword.specs.Places.{select}
use Rattle.broadword.proofs.Count.{count_mono}
use Rattle.broadword.proofs.Find.{select_at, select_none}
use Rattle.bit_vectors.proofs.OneAhead.{rest_end, rest_from}
use Rattle.bit_words.proofs.Valid.{valid}
use Rattle.bit_words.specs.Vector.{bit_over, words_for, invalid}
use Rattle.bit_vectors.specs.Inner.{stop_at}
use Rattle.bit_vectors.specs.Walk.{begun, refused_by, step, walk_at, given, walk_new_of, walk_step_of, Walking}
use Rattle.bit_vectors.specs.declared.unary.Unary.{Unary}

module _ (ws : List ℕ) (len : ℕ) where
  pub new_13 : (start : ℕ) → invalid ws len ≡ true → walk_new_of ws len start ≡ refused_by 13
  unfolding walk_new_of
  new_13 start e = simp e

  pub new_16 : (start : ℕ) → invalid ws len ≡ false → words_for len ≤ start / 64 → walk_new_of ws len start ≡ refused_by 16
  unfolding walk_new_of
  new_16 start e h = simp (e, le-leb (words_for len) (start / 64) h)

  pub new_ok : (start : ℕ) → invalid ws len ≡ false → start / 64 < words_for len → walk_new_of ws len start ≡ begun (walk_at ws len start start)
  unfolding walk_new_of
  new_ok start e h = simp (e, lt-leb (words_for len) (start / 64) h)

  pub step_13 : (w : Unary) (b : Bool) (taken k : ℕ) → invalid ws len ≡ true → walk_step_of ws len w b taken k ≡ step (refused 13) w
  unfolding walk_step_of
  step_13 w b taken k e = ap (λ (t : Bool). cond t (step (refused 13) w) (given ws len taken (select (bit_over b ws) len (count (bit_over b ws) w.from + k)))) e

  pub step_ok : (w : Unary) (b : Bool) (taken k : ℕ) (a : Option ℕ) → invalid ws len ≡ false → select (bit_over b ws) len (count (bit_over b ws) w.from + k) ≡ a → walk_step_of ws len w b taken k ≡ given ws len taken a
  unfolding walk_step_of
  step_ok w b taken k a e s =
      ap (λ (t : Bool). cond t (step (refused 13) w) (given ws len taken (select (bit_over b ws) len (count (bit_over b ws) w.from + k)))) e ∙ ap (given ws len taken) s

  pub stop_in : (p : ℕ) → p < len → stop_at ws len p ≡ given ws len 0 (Some p)
  stop_in p h = ap (λ (t : Bool). cond t (given ws len 0 (Some p)) (given ws len 0 None)) (lt-ltb p len h)

  pub stop_past : (p : ℕ) → len ≤ p → stop_at ws len p ≡ given ws len 0 None
  stop_past p h = ap (λ (t : Bool). cond t (given ws len 0 (Some p)) (given ws len 0 None)) (le-ltb p len h)

  -- the walk stops on the place that has as many before it
  pub stop_is : (w : Unary) (b : Bool) (k p : ℕ) → invalid ws len ≡ false → bit_over b ws p ≡ 1 → count (bit_over b ws) p ≡ count (bit_over b ws) w.from + k → walk_step_of ws len w b 0 k ≡ stop_at ws len p
  stop_is w b k p e o c = go (dec_lt p len)
    where
      go : Dec (p < len) → walk_step_of ws len w b 0 k ≡ stop_at ws len p
      go (yes l) = step_ok w b 0 k (Some p) e (select_at (bit_over b ws) len (count (bit_over b ws) w.from + k) p l o c) ∙ sym (stop_in p l)
      go (no g) =
          let h : len ≤ p = omega (arith, lt_of_not-le g) in
          step_ok w b 0 k None e (select_none (bit_over b ws) len (count (bit_over b ws) w.from + k) (le_trans (count_mono (bit_over b ws) len p h) (le_of_eq c))) ∙ sym (stop_past p h)

  -- or ends
  pub end_is : (w : Unary) (b : Bool) (taken k m : ℕ) → invalid ws len ≡ false → len ≤ m → count (bit_over b ws) m ≤ count (bit_over b ws) w.from + k → walk_step_of ws len w b taken k ≡ given ws len taken None
  end_is w b taken k m e h c = step_ok w b taken k None e (select_none (bit_over b ws) len (count (bit_over b ws) w.from + k) (le_trans (count_mono (bit_over b ws) len m h) c))

  pub ended_is : (taken : ℕ) → invalid ws len ≡ false → step none (record { position = len; from = len; buf = 0 }) ≡ given ws len taken None
  ended_is taken e = let v = valid ws len e in ap (λ (r : ℕ). step none (record { position = len; from = len; buf = r })) (rest_end ws len v.room v.clear)

  pub walk_is : (a : Answer) (p : ℕ) → invalid ws len ≡ false → p / 64 < words_for len → step a (record { position = p; from = p; buf = get_or ws (p / 64) 0 / 2 ^ (p % 64) * 2 ^ (p % 64) }) ≡ step a (walk_at ws len p p)
  walk_is a p e h = let v = valid ws len e in ap (λ (r : ℕ). step a (record { position = p; from = p; buf = r })) (rest_from ws len v.room p h)

  pub walking : (p : ℕ) → invalid ws len ≡ false → p / 64 < words_for len → Walking ws len (record { position = p; from = p; buf = get_or ws (p / 64) 0 / 2 ^ (p % 64) * 2 ^ (p % 64) })
  walking p e h = let v = valid ws len e in record { ok = e; behind = le_refl p; near = omega arith; rest = rest_from ws len v.room p h }

  -- a step goes by `from` alone
  pub by_from : (w w' : Unary) (b : Bool) (taken k : ℕ) → invalid ws len ≡ false → w.from ≡ w'.from → walk_step_of ws len w b taken k ≡ walk_step_of ws len w' b taken k
  by_from w w' b taken k e h =
      step_ok w b taken k (select (bit_over b ws) len (count (bit_over b ws) w'.from + k)) e (ap (λ (q : ℕ). select (bit_over b ws) len (count (bit_over b ws) q + k)) h)
      ∙ sym (step_ok w' b taken k (select (bit_over b ws) len (count (bit_over b ws) w'.from + k)) e refl)
