-- A walk over the values of an image: how it begins, what a step finds, and what it leaves. Assumes nothing.
use Rattle.std.specs.Prelude.{Some, None, Option, IsSome}
use mathlib.Core.Path.{◌≡◌, refl, sym, ap, ap₂, ◌∙◌, subst, subst⁻¹}
use mathlib.Core.List.{List}
use mathlib.Core.Bool.{true, false}
use Prim.Native.Nat.{ℕ, suc, ◌+◌, ◌-◌, ◌*◌, ◌/◌, ◌%◌, ◌^◌, ◌≤◌, ◌<◌}
use native.Mathlib.Nat.{le_refl, add-zero, mul-one, div-one, lt_of_not-le}
use native.Mathlib.Numerals.{add-one}
use native.Mathlib.Decide.{dec_lt}
use native.Mathlib.Omega.{arith}
use borrow.Author.Tests.{le-ltb, lt-ltb}
use lib.Bits.{bit_and}
use lib.ListN.{length, get_or}
use Rattle.errors.specs.Answer.{value, none}
use Rattle.broadword.specs.Bits.{bit, count}
use Rattle.broadword.specs.Places.{select}
use Rattle.broadword.proofs.Find.{Selected, selected}
use Rattle.broadword.proofs.Lowest.{none_zero}
use Rattle.bit_words.specs.Inner.{Skipped}
use Rattle.bit_words.specs.Vector.{bit_over, words_for, invalid}
use Rattle.bit_words.proofs.Runs.{Fit}
use Rattle.bit_words.proofs.Valid.{Valid, valid}
use Rattle.bit_vectors.specs.Inner.{OneAhead}
use Rattle.bit_vectors.specs.Walk.{rest_of, walk_at}
use Rattle.bit_vectors.specs.declared.unary.Unary.{Unary}
use Rattle.bit_vectors.proofs.OneAhead.{left_buf, left_end, left_none, left_word, same, lowest_cleared}
use Rattle.bit_vectors.proofs.Steps as steps
use Rattle.elias_fano.specs.declared.image.Parts.{Parts}
use Rattle.elias_fano_words.specs.Checks.{low_bits}
use Rattle.elias_fano_words.proofs.Valid.{fit_high}
use Rattle.elias_fano.specs.Accept.{universe, declared, times, accepted, parts_of}
use Rattle.elias_fano.specs.Ask.{nth}
use Rattle.elias_fano.specs.Opening.{Headed, OneAt, high_part}
use Rattle.elias_fano.proofs.Accepting.{found}
use Rattle.elias_fano.proofs.Images as images
use Rattle.elias_fano.proofs.Selecting as selecting
use Rattle.elias_fano.proofs.Standing as standing
use Rattle.elias_fano_walk.specs.Walking.{low_part, OnesAhead, LowsAhead, ValuesAhead, value_step_of}
use Rattle.elias_fano_walk.proofs.Lows.{none_read, some_wanted, lowest as low_read, go_on_lem}

module _ (i : List ℕ) (ok : accepted i ≡ true) (p : Parts) (ep : p ≡ parts_of i) where
  head : Headed i
  head = (found i ok).head

  abbrev ones : ℕ → ℕ
  ones = bit_over true (high_part i p)

  high_ok : invalid (high_part i p) p.high_len ≡ false
  high_ok = (standing.indexable i p ep head (images.is_fit i ok).small (found i ok).bits).0

  fit : Fit (high_part i p)
  fit = subst⁻¹ Fit (selecting.high_is i ok p ep) (fit_high (universe i) (declared i) (times i))

  pub high_room : words_for p.high_len ≤ length (high_part i p)
  high_room = standing.high_room i p ep head (images.is_fit i ok).small (found i ok).bits

  -- ---- the beginning

  module _ (k x : ℕ) (o : OneAt i p k x) where
    there : Selected ones p.high_len k x
    there = selected ones p.high_len k x o.place

    pub begin_room : x / 64 < length (high_part i p)
    begin_room =
        let r = high_room in
        let s = there.within in
        omega arith

    pub begun : (r : Unary) → r ≡ record { position = x; from = x; buf = get_or (high_part i p) (x / 64) 0 / 2 ^ (x % 64) * 2 ^ (x % 64) } → ValuesAhead i p (record { number = k; base = x / 64 * 64; rest = r.buf; lows = 1 })
    begun r e = record {
      ones = record {
        ones = record { position = x; from = x; buf = get_or (high_part i p) (x / 64) 0 / 2 ^ (x % 64) * 2 ^ (x % 64) };
        over = steps.walking (high_part i p) p.high_len x high_ok (let s = there.within in omega arith);
        before = there.before;
        stands = refl;
        left = ap (λ (v : Unary). v.buf) e;
      };
      lows = none_read (low_part i p) (k * p.low_len);
    }

  -- ---- a step

  module _ (k : ℕ) (h : k < p.num_pushed) where
    none_not : select ones p.high_len k ≡ None → ⊥
    none_not s = selecting.some_place i ok p ep k h None (sym s) refl

    module _ (base rest : ℕ) (a : OnesAhead i p k base rest) where
      v : Valid (high_part i p) p.high_len
      v = valid (high_part i p) p.high_len a.over.ok

      -- the ones from there on are those from the number k on
      from_is : count ones a.ones.from + 0 ≡ k
      from_is = add-zero (count ones a.ones.from) ∙ a.before

      ahead_not : (at : ℕ) → OneAhead (high_part i p) p.high_len a.ones.from at 0 → ⊥
      ahead_not at o = none_not (ap (select ones p.high_len) (sym from_is) ∙ o.nothing refl)

      -- nothing is left of the word
      module _ (z : rest ≡ 0) where
        gone : a.ones.buf ≡ 0
        gone = sym a.left ∙ z

        at_is : base / 64 ≡ a.ones.position / 64
        at_is = let e = a.stands in omega arith

        pub more_words : base / 64 + 1 < words_for p.high_len
        more_words = go (dec_lt (base / 64 + 1) (words_for p.high_len))
          where
            go : Dec (base / 64 + 1 < words_for p.high_len) → base / 64 + 1 < words_for p.high_len
            go (yes l) = l
            go (no n) =
                absurd (ahead_not (a.ones.position / 64) (left_end (high_part i p) p.high_len a.ones.position a.ones.from a.ones.buf fit v a.over.behind a.over.near a.over.rest gone (let e = at_is in omega (arith, lt_of_not-le n))))

        module _ (used j : ℕ) (eu : used ≡ words_for p.high_len) (s : Skipped ones (base / 64 + 1) used 0 j 0) where
          skipped : Skipped ones (a.ones.position / 64 + 1) (words_for p.high_len) 0 j 0
          skipped = subst (λ (n : ℕ). Skipped ones (a.ones.position / 64 + 1) n 0 j 0) eu (subst (λ (n : ℕ). Skipped ones (n + 1) used 0 j 0) at_is s)

          more : a.ones.position / 64 + 1 < words_for p.high_len
          more = subst (λ (n : ℕ). n + 1 < words_for p.high_len) at_is more_words

          pub in_words : j < words_for p.high_len
          in_words = go (dec_lt j (words_for p.high_len))
            where
              go : Dec (j < words_for p.high_len) → j < words_for p.high_len
              go (yes l) = l
              go (no n) =
                  absurd (ahead_not (a.ones.position / 64) (left_none (high_part i p) p.high_len a.ones.position a.ones.from a.ones.buf fit v a.over.behind a.over.near a.over.rest gone more j skipped (let e = skipped.upto in omega (arith, lt_of_not-le n))))

          pub in_high : j < length (high_part i p)
          in_high = let r = v.room in let l = in_words in omega arith

          pub word_fits : j * 64 < 2 ^ 64
          word_fits = let l = in_words in let m = (standing.indexable i p ep head (images.is_fit i ok).small (found i ok).bits).1 in omega arith

          whole : get_or (high_part i p) j 0 ≡ get_or (high_part i p) (j * 64 / 64) 0 / 2 ^ (j * 64 % 64) * 2 ^ (j * 64 % 64)
          whole =
              let e : j * 64 / 64 ≡ j = omega arith in
              let d : j * 64 % 64 ≡ 0 = omega arith in
              sym (ap₂ (λ (y t : ℕ). get_or (high_part i p) y 0 / 2 ^ t * 2 ^ t) e d ∙ mul-one (get_or (high_part i p) j 0 / 1) ∙ div-one (get_or (high_part i p) j 0))

          pub next_word : OnesAhead i p k (j * 64) (get_or (high_part i p) j 0) × (get_or (high_part i p) j 0 ≡ 0 → ⊥)
          next_word = (
            record {
              ones = record { position = j * 64; from = j * 64; buf = get_or (high_part i p) (j * 64 / 64) 0 / 2 ^ (j * 64 % 64) * 2 ^ (j * 64 % 64) };
              over = steps.walking (high_part i p) p.high_len (j * 64) high_ok (let l = in_words in omega arith);
              before = same (high_part i p) p.high_len a.ones.position a.ones.from a.ones.buf fit v a.over.behind a.over.near a.over.rest gone more j skipped ∙ a.before;
              stands = let e : j * 64 ≡ j * 64 / 64 * 64 = omega arith in e;
              left = whole;
            },
            λ e. none_not (ap (select ones p.high_len) (sym from_is) ∙ (left_word (high_part i p) p.high_len a.ones.position a.ones.from a.ones.buf fit v a.over.behind a.over.near a.over.rest gone more j skipped in_words).nothing e),
          )

      -- the lowest one of what is left
      module _ (n : rest ≡ 0 → ⊥) where
        ahead : OneAhead (high_part i p) p.high_len a.ones.from (a.ones.position / 64) rest
        ahead =
            subst⁻¹ (OneAhead (high_part i p) p.high_len a.ones.from (a.ones.position / 64)) a.left
            (left_buf (high_part i p) p.high_len a.ones.position a.ones.from a.ones.buf fit v a.over.behind a.over.near a.over.rest (λ e. n (a.left ∙ e)))

        pub some_lowest : (o : Option ℕ) → o ≡ select (bit rest) 64 0 → IsSome o
        some_lowest (Some b) e = refl
        some_lowest None e = absurd (n (none_zero rest ahead.small (sym e)))

        module _ (t : ℕ) (e : select (bit rest) 64 0 ≡ Some t) where
          place_is : a.ones.position / 64 * 64 + t ≡ base + t
          place_is = ap (λ (y : ℕ). y + t) (sym a.stands)

          lowest : (base + t < p.high_len) × (select ones p.high_len (count ones a.ones.from + 0) ≡ Some (base + t)) × (rest / 2 ^ (t + 1) * 2 ^ (t + 1) ≡ rest_of (high_part i p) p.high_len (base + t) (base + t + 1))
          lowest =
              subst (λ (y : ℕ). (y < p.high_len) × (select ones p.high_len (count ones a.ones.from + 0) ≡ Some y) × (rest / 2 ^ (t + 1) * 2 ^ (t + 1) ≡ rest_of (high_part i p) p.high_len y (y + 1))) place_is
              (ahead.place t e)

          next : select ones p.high_len k ≡ Some (base + t)
          next = ap (select ones p.high_len) (sym from_is) ∙ lowest.1

          pub place_fits : base + t < 2 ^ 64
          place_fits = let l = lowest.0 in let m = (standing.indexable i p ep head (images.is_fit i ok).small (found i ok).bits).1 in omega arith

          count_next : count ones (base + t + 1) ≡ suc k
          unfolding count
          count_next =
              let s = selected ones p.high_len k (base + t) next in
              ap (count ones) (add-one (base + t)) ∙ (let b : count ones (base + t) ≡ k = s.before in let o : ones (base + t) ≡ 1 = s.one in omega arith)

          pub one_taken : OneAt i p k (base + t) × OnesAhead i p (suc k) base (bit_and rest (rest - 1))
          one_taken = (
            record { ok = ok; parts = ep; below = h; place = next },
            record {
              ones = walk_at (high_part i p) p.high_len (base + t) (base + t + 1);
              over = record { ok = a.over.ok; behind = omega arith; near = le_refl (base + t + 1); rest = refl };
              before = count_next;
              stands = let s = a.stands in let l = (selected (bit rest) 64 0 t e).within in omega arith;
              left = lowest_cleared rest t ahead.small e ∙ lowest.2;
            },
          )

    -- ---- its low bits

    pub low_room : k * p.low_len + p.low_len ≤ length (low_part i p) * 64
    low_room = let r = (selecting.low_held i ok p ep k h).room in omega arith

    -- the low bits of the value are read from its own on
    pub low_below : (x : ℕ) → LowsAhead (low_part i p) (k * p.low_len) x → x / 2 ^ p.low_len ≡ 0 → k * p.low_len < length (low_part i p) * 64
    low_below x a z = let r = low_room in let l = some_wanted (low_part i p) (k * p.low_len) x p.low_len a z in omega arith

    pub low_is : (x : ℕ) → LowsAhead (low_part i p) (k * p.low_len) x → (x / 2 ^ p.low_len ≡ 0 → ⊥) → bit_and x ((1 * 2 ^ p.low_len) % 2 ^ 64 - 1) ≡ low_bits p.low_len (low_part i p) k
    low_is x a n = low_read (low_part i p) (k * p.low_len) x p.low_len a n (selecting.low_small i ok p ep) low_room

    pub low_fits : k * p.low_len < 2 ^ 64
    low_fits = let r = (selecting.low_held i ok p ep k h).few in omega arith

  -- the walk after it
  pub goes_on : (k base rest x : ℕ) → OnesAhead i p (suc k) base rest → LowsAhead (low_part i p) (k * p.low_len) x → (x / 2 ^ p.low_len ≡ 0 → ⊥) → ValuesAhead i p (record { number = k + 1; base = base; rest = rest; lows = x / 2 ^ p.low_len })
  goes_on k base rest x o l n = record {
    ones = subst⁻¹ (λ (y : ℕ). OnesAhead i p y base rest) (add-one k) o;
    lows =
        let e : (k + 1) * p.low_len ≡ k * p.low_len + p.low_len = omega arith in
        subst⁻¹ (λ (y : ℕ). LowsAhead (low_part i p) y (x / 2 ^ p.low_len)) e (go_on_lem (low_part i p) (k * p.low_len) x p.low_len l n);
  }

  -- ---- a step, or none

  pub stepped_none : (k : ℕ) → p.num_pushed ≤ k → record { answer = none; number = k } ≡ value_step_of (times i) k
  unfolding value_step_of nth
  stepped_none k h = sym (simp (le-ltb k (length (times i)) (subst (λ (y : ℕ). y ≤ k) (selecting.pushed_is i ok p ep) h)))

  pub stepped_some : (k v m : ℕ) → k < p.num_pushed → m ≡ suc k → v ≡ get_or (times i) k 0 → record { answer = value v; number = m } ≡ value_step_of (times i) k
  unfolding value_step_of nth
  stepped_some k v m h em e =
      let l : k < length (times i) = subst (λ (y : ℕ). k < y) (selecting.pushed_is i ok p ep) h in
      ap₂ (λ (y z : ℕ). record { answer = value y; number = z }) e em ∙ sym (simp (lt-ltb k (length (times i)) l))
