-- A walk stays a walk: `new` begins one, and a step that gives a place leaves one, further on. Assumes nothing.
use Rattle.std.specs.Prelude.{Ok, Err, Some, None, Result, Option}
use Rattle.std.specs.Result.{result_unwrap_or}
use Rattle.errors.specs.declared.Refusal.{Refusal}
use Rattle.std.proofs.Common.{◌≡◌, ℕ, ◌+◌, ◌-◌, ◌/◌, ◌<◌, ◌≤◌, Bool, true, false, leb, List, sym, refl, ap, ◌∙◌, subst, le_refl, lt_of_not-le, add-one, arith}
use native.Mathlib.Decide.{dec_lt}
use Rattle.errors.specs.Answer.{value, none, of_optional}
use Rattle.broadword.specs.Bits.{count}
use Rattle.broadword.specs.Places.{select}
use Rattle.broadword.proofs.Count.{count_mono}
use Rattle.broadword.proofs.Find.{selected}
use Rattle.bit_words.specs.Vector.{bit_over, words_for, invalid}
use Rattle.bit_vectors.specs.Walk.{begun, refused_by, of_started, Step, of_stepped, walk_at, given, walk_new_of, next_of, Walking}
use Rattle.bit_vectors.specs.declared.unary.Unary.{Unary}
use Rattle.bit_vectors.specs.declared.unary.Stepped.{Stepped}
use Rattle.bit_vectors.proofs.Steps.{step_ok}

-- a place with as many ones before it as `from`, which is a one, does not lie below `from`
onward : (f : ℕ → ℕ) (from p : ℕ) → f p ≡ 1 → count f p ≡ count f from + 0 → from ≤ p
unfolding count
onward f from p o e = go (dec_lt p from)
  where
    go : Dec (p < from) → from ≤ p
    go (yes l) =
        let m : count f (p + 1) ≤ count f from = count_mono f (p + 1) from (omega arith) in
        let s : count f (p + 1) ≡ count f p + f p = ap (count f) (add-one p) in
        absurd (omega arith)
    go (no g) = omega (arith, lt_of_not-le g)

-- a place that is given
given_place : (q : Result (Option ℕ) Refusal) (p : ℕ) → result_unwrap_or q None ≡ Some p → q ≡ Ok (Some p)
given_place (Ok x) p e = ap Ok e
given_place (Err x) p e = let z : ◌≡◌ {A = ℕ} 0 1 = cc in absurd (omega arith)

module _ (ws : List ℕ) (len : ℕ) where
  at : (p q : ℕ) → invalid ws len ≡ false → p ≤ q → q ≤ p + 1 → Walking ws len (walk_at ws len p q)
  at p q e b n = record { ok = e; behind = b; near = n; rest = refl }

  pub step_keeps : (w : Unary) (r : Stepped) (p : ℕ)
      → Walking ws len w
      → of_stepped r ≡ next_of ws len w
      → result_unwrap_or r.place None ≡ Some p
      → Walking ws len r.walk × (len - r.walk.from < len - w.from)
  step_keeps w r p h e a = go (select (bit_over true ws) len (count (bit_over true ws) w.from + 0)) refl
    where
      go : (x : Option ℕ)
          → select (bit_over true ws) len (count (bit_over true ws) w.from + 0) ≡ x
          → Walking ws len r.walk × (len - r.walk.from < len - w.from)
      go (Some q) s =
          let t : of_stepped r ≡ given ws len 1 (Some q) = e ∙ step_ok ws len w true 1 0 (Some q) h.ok s in
          let v : walk_at ws len q (q + 1) ≡ r.walk = sym (ap (λ (y : Step). y.walk) t) in
          let y = selected (bit_over true ws) len (count (bit_over true ws) w.from + 0) q s in
          let o = onward (bit_over true ws) w.from q y.one y.before in
          let l : q < len = y.within in
          subst (λ (u : Unary). Walking ws len u × (len - u.from < len - w.from)) v (at q (q + 1) h.ok (omega arith) (le_refl (q + 1)), omega arith)
      go None s =
          let t : of_stepped r ≡ given ws len 1 None = e ∙ step_ok ws len w true 1 0 None h.ok s in
          let v : of_optional r.place ≡ none = ap (λ (y : Step). y.answer) t in
          let u : of_optional r.place ≡ value p = ap of_optional (given_place r.place p a) in
          let z : ◌≡◌ {A = ℕ} 0 1 = cc in
          absurd (omega arith)

  pub new_keeps : (start : ℕ) (w : Unary) → of_started (Ok w) ≡ walk_new_of ws len start → Walking ws len w
  unfolding walk_new_of
  new_keeps start w e = go (invalid ws len) refl
    where
      go : (b : Bool) → invalid ws len ≡ b → Walking ws len w
      go true i = let v : begun w ≡ refused_by 13 = e ∙ simp i in let z : ◌≡◌ {A = ℕ} 0 1 = cc in absurd (omega arith)
      go false i = then (leb (words_for len) (start / 64)) refl
        where
          then : (b : Bool) → leb (words_for len) (start / 64) ≡ b → Walking ws len w
          then true j = let v : begun w ≡ refused_by 16 = e ∙ simp (i, j) in let z : ◌≡◌ {A = ℕ} 0 1 = cc in absurd (omega arith)
          then false j =
              let v : begun w ≡ begun (walk_at ws len start start) = e ∙ simp (i, j) in
              let u : walk_at ws len start start ≡ w = cc in
              subst (λ (u : Unary). Walking ws len u) u (at start start i (le_refl start) (omega arith))
