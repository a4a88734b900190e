-- What an index that was built says of the call that built it. Assumes nothing.
use mathlib.Core.Path.{◌≡◌, refl, sym, ap, ◌∙◌}
use mathlib.Core.List.{List, ◌++◌}
use mathlib.Core.Bool.{Bool, true, false}
use Prim.Native.Nat.{ℕ, ◌^◌, ◌≤◌, ◌<◌}
use native.Mathlib.Nat.{lt_of_not-le}
use native.Mathlib.Decide.{dec_lt}
use native.Mathlib.Omega.{arith}
use borrow.Author.Tests.{le-leb, lt-leb, lt-ltb, le-ltb}
use lib.ListN.{length, length-append, take, drop}
use lib.Seq.{take_at}
use Rattle.errors.specs.Answer.{value, refused, Outcome, leaves, of_option}
use Rattle.broadword.specs.Places.{select}
use Rattle.bit_words.specs.Vector.{bit_over, invalid}
use Rattle.darray_positions.specs.Positions.{positions}
use Rattle.darray_positions.specs.Index.{index_words}
use Rattle.darray.specs.Queries.{sizes, unmeasured, measure_of, build_index_of, select_built_of}
use Rattle.darray.proofs.Cases as cases

module _ (ws : List ℕ) (len : ℕ) (b : Bool) (out : List ℕ) where
  abbrev I : List ℕ
  I = index_words (positions b ws len)

  -- the cases of a build
  data Case : Type 0 where
    is_13 : invalid ws len ≡ true → Case
    is_2 : invalid ws len ≡ false → 2 ^ 63 ≤ len → Case
    is_3 : invalid ws len ≡ false → len < 2 ^ 63 → length out < length I → Case
    is_ok : invalid ws len ≡ false → len < 2 ^ 63 → length I ≤ length out → Case

  case_of : Case
  case_of = go (invalid ws len) refl (dec_lt len (2 ^ 63)) (dec_lt (length out) (length I))
    where
      go : (t : Bool) → invalid ws len ≡ t → Dec (len < 2 ^ 63) → Dec (length out < length I) → Case
      go true e d g = is_13 e
      go false e (no l) g = is_2 e (omega (arith, lt_of_not-le l))
      go false e (yes l) (yes g) = is_3 e l g
      go false e (yes l) (no g) = is_ok e l (omega (arith, lt_of_not-le g))

  pub select_13 : (k : ℕ) → invalid ws len ≡ true → select_built_of ws len b out k ≡ leaves (refused 13) out
  unfolding select_built_of
  select_13 k h = rw h

  pub select_2 : (k : ℕ) → invalid ws len ≡ false → 2 ^ 63 ≤ len → select_built_of ws len b out k ≡ leaves (refused 2) out
  unfolding select_built_of
  select_2 k h l = rw (h, le-leb (2 ^ 63) len l)

  pub select_3 : (k : ℕ) → invalid ws len ≡ false → len < 2 ^ 63 → length out < length I → select_built_of ws len b out k ≡ leaves (refused 3) out
  unfolding select_built_of
  select_3 k h l g = rw (h, lt-leb (2 ^ 63) len l, lt-ltb (length out) (length I) g)

  pub select_ok : (k : ℕ) → invalid ws len ≡ false → len < 2 ^ 63 → length I ≤ length out → select_built_of ws len b out k ≡ leaves (of_option (select (bit_over b ws) len k)) (I ++ drop (length I) out)
  unfolding select_built_of
  select_ok k h l g = rw (h, lt-leb (2 ^ 63) len l, le-ltb (length out) (length I) g)

  apart : (n m : ℕ) (x y : List ℕ) → leaves (value n) x ≡ leaves (refused m) y → ⊥
  apart n m x y e = let q : value n ≡ refused m = ap (λ (o : Outcome). o.answer) e in let z : ◌≡◌ {A = ℕ} 0 1 = cc in omega arith

  -- a build that was refused refuses the select
  pub refused_so : (e k : ℕ) (left : List ℕ) → leaves (refused e) left ≡ build_index_of ws len b out → leaves (refused e) left ≡ select_built_of ws len b out k
  refused_so e k left h = go case_of
    where
      go : Case → leaves (refused e) left ≡ select_built_of ws len b out k
      go (is_13 i) = h ∙ cases.build_13 ws len b out i ∙ sym (select_13 k i)
      go (is_2 i l) = h ∙ cases.build_2 ws len b out i l ∙ sym (select_2 k i l)
      go (is_3 i l g) = h ∙ cases.build_3 ws len b out i l g ∙ sym (select_3 k i l g)
      go (is_ok i l g) = absurd (apart (length I) e (I ++ drop (length I) out) left (sym (h ∙ sym (cases.build_ok ws len b out i l g (length I) (I ++ drop (length I) out) refl refl))))

  -- what a build that was not refused leaves
  pub record Made (n : ℕ) (left : List ℕ) : Type 0 where
    pub ok : invalid ws len ≡ false
    pub short : len < 2 ^ 63
    pub room : length I ≤ length out
    pub number : n ≡ length I
    pub words : left ≡ I ++ drop (length I) out

  pub made_so : (n : ℕ) (left : List ℕ) → leaves (value n) left ≡ build_index_of ws len b out → Made n left
  made_so n left h = go case_of
    where
      go : Case → Made n left
      go (is_13 i) = absurd (apart n 13 left out (h ∙ cases.build_13 ws len b out i))
      go (is_2 i l) = absurd (apart n 2 left out (h ∙ cases.build_2 ws len b out i l))
      go (is_3 i l g) = absurd (apart n 3 left out (h ∙ cases.build_3 ws len b out i l g))
      go (is_ok i l g) =
          let e = h ∙ sym (cases.build_ok ws len b out i l g (length I) (I ++ drop (length I) out) refl refl) in
          record { ok = i; short = l; room = g; number = (let a : value n ≡ value (length I) = ap (λ (o : Outcome). o.answer) e in let q : n ≡ length I = cc in q); words = ap (λ (o : Outcome). o.words) e }

  pub fits : (n : ℕ) (left : List ℕ) → Made n left → n ≤ length left
  fits n left m = let a = m.number in let l = ap length m.words ∙ length-append I (drop (length I) out) in omega arith

  pub front : (n : ℕ) (left : List ℕ) → Made n left → take n left ≡ I
  front n left m = ap (take n) m.words ∙ take_at I (drop (length I) out) n (sym m.number)

  -- how many positions are measured
  pub positions_so : (p e l o : ℕ) → invalid ws len ≡ false → len < 2 ^ 63 → sizes p e l o ≡ measure_of ws len b → p ≡ length (positions b ws len)
  positions_so p e l o i s h = let q = h ∙ cases.measure_sizes ws len b i s in let r : p ≡ length (positions b ws len) = cc in r

  pub measures : (e : ℕ) → invalid ws len ≡ false → len < 2 ^ 63 → unmeasured e ≡ measure_of ws len b → ⊥
  measures e i s h = let q = h ∙ cases.measure_sizes ws len b i s in let z : ◌≡◌ {A = ℕ} 0 1 = cc in omega arith
