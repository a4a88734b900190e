-- The summary of a time and those of a span after it, one after the other, and the loop over them. T is a list of times, i an image. Assumes nothing.
use mathlib.Core.Path.{◌≡◌, refl, sym, ap, ap₂, ◌∙◌, subst}
use mathlib.Core.List.{List, [], ◌∷◌}
use mathlib.Core.Bool.{true}
use Prim.Native.Nat.{ℕ, suc, ◌+◌, ◌-◌, ◌≤◌, ◌<◌, min}
use native.Mathlib.Nat.{le_trans}
use native.Mathlib.Omega.{arith}
use lib.ListN.{length, get_or, drop, length-drop, drop_of_length-le}
use lib.Seq.{get_or-drop}
use Rattle.elias_fano_words.specs.Times.{last_from}
use Rattle.elias_fano.specs.declared.image.Parts.{Parts}
use Rattle.elias_fano.specs.Accept.{times, accepted, parts_of}
use Rattle.elias_fano.proofs.Images as images
use Rattle.elias_fano.proofs.Selecting as selecting
use Rattle.elias_fano_walk.specs.declared.walk.Walk.{Walk}
use Rattle.elias_fano_walk.specs.Walking.{WalkOver}
use Rattle.elias_fano_walk.proofs.Halved.{not_falling}
use Rattle.winters.specs.declared.Summary.{Summary}
use Rattle.winters.specs.Adding.{NoneBelow, summary, with_others}
use Rattle.winters.specs.Winters.{in_span, gaps_from, gaps, least_from, least, summary_of}
use Rattle.winters.proofs.Spans as spans

-- ---- a time and those after it

pub nothing_told : summary 0 0 0 0 ≡ summary_of []
unfolding summary_of gaps least
nothing_told = refl

-- a gap that begins with e, where the next time is below e
told : (e first : ℕ) (S : List ℕ) → ((j : ℕ) → j < length S → get_or S j 0 < e) → with_others first (length S) (last_from first S) (least_from e (gaps_from first S)) ≡ summary_of (first ∷ S)
unfolding summary_of gaps gaps_from least least_from
told e first [] h = refl
told e first (t ∷ S) h =
    ap (λ (x : ℕ). summary (suc (suc (length S))) first (last_from t S) (least_from x (gaps_from t S))) (let q = h 0 (omega arith) in let m : min e (t - first) ≡ t - first = omega arith in m)

-- one time more
gap_next : (gap last x : ℕ) (S : List ℕ) → least_from gap (gaps_from last (x ∷ S)) ≡ least_from (min gap (x - last)) (gaps_from x S)
unfolding gaps_from least_from
gap_next gap last x S = refl

gap_end : (gap last : ℕ) → least_from gap (gaps_from last []) ≡ gap
unfolding gaps_from least_from
gap_end gap last = refl

-- ---- the loop

-- the times of the span from the number k on
abbrev after : List ℕ → ℕ → ℕ → List ℕ
after i e k = in_span 0 e (drop k (times i))

-- last and gap are those of the time first and the times of the span from the number k on and before the walk
pub record SumsOn (i : List ℕ) (p : Parts) (first e k : ℕ) (w : Walk) (last gap : ℕ) : Type 0 where
  pub walking : WalkOver i p w
  pub from : k ≤ w.number
  pub few : w.number - k ≤ p.num_pushed
  pub above_first : NoneBelow first (drop w.number (times i))
  pub above_last : NoneBelow last (drop w.number (times i))
  pub counts : w.number - k + length (after i e w.number) ≡ length (after i e k)
  pub lasts : last_from last (after i e w.number) ≡ last_from first (after i e k)
  pub gaps : least_from gap (gaps_from last (after i e w.number)) ≡ least_from e (gaps_from first (after i e k))

module _ (i : List ℕ) (ok : accepted i ≡ true) (p : Parts) (ep : p ≡ parts_of i) where
  many : p.num_pushed ≡ length (times i)
  many = selecting.pushed_is i ok p ep

  few_times : p.num_pushed ≤ 16777216
  few_times = let f = images.is_fit i ok in omega (arith, many, f.few, f.most)

  -- no time from a number on is below that number's
  pub none_below : (k x : ℕ) → x ≡ get_or (times i) k 0 → (m : ℕ) → k ≤ m → NoneBelow x (drop m (times i))
  none_below k x ex m l j b =
      let q = length-drop m (times i) in
      subst (λ (y : ℕ). y ≤ get_or (drop m (times i)) j 0) (sym ex) (subst (λ (y : ℕ). get_or (times i) k 0 ≤ y) (sym (get_or-drop m (times i) j 0)) (not_falling _ (times i) (images.is_fit i ok).rises k (m + j) (omega arith) (omega arith)))

  -- no time is left
  pub none_after : (e k : ℕ) → p.num_pushed ≤ k → after i e k ≡ []
  none_after e k h = ap (in_span 0 e) (drop_of_length-le (times i) {i = k} (omega (arith, many))) ∙ spans.span_nil 0 e

  -- the next time is not below the span's end, and no later one is
  pub none_within : (e k x : ℕ) → x ≡ get_or (times i) k 0 → e ≤ x → after i e k ≡ []
  none_within e k x ex h = spans.span_none 0 e (drop k (times i)) (λ j m. le_trans h (none_below k x ex k (omega arith) j m))

  pub one_more : (e k x : ℕ) → k < p.num_pushed → x ≡ get_or (times i) k 0 → x < e → (m : ℕ) → m ≡ suc k → after i e k ≡ x ∷ after i e m
  one_more e k x l ex h m q =
      spans.span_next e k (times i) (omega (arith, many)) (subst (λ (y : ℕ). y < e) ex h) ∙ ap₂ (λ (y n : ℕ). y ∷ after i e n) (sym ex) (sym q)

  module _ (first e : ℕ) where
    module _ (k : ℕ) (w : Walk) (last gap : ℕ) (g : SumsOn i p first e k w last gap) where
      pub sums_few : w.number - k ≤ 16777216
      sums_few = le_trans g.few few_times

      -- no time of the span is left
      pub sums_end : after i e w.number ≡ [] → (r : Summary) → r ≡ with_others first (w.number - k) last gap → r ≡ summary_of (first ∷ after i e k)
      sums_end h r q =
          let n : w.number - k ≡ length (after i e k) = (let z : w.number - k ≡ w.number - k + 0 = omega arith in z) ∙ ap (λ (S : List ℕ). w.number - k + length S) (sym h) ∙ g.counts in
          let l : last ≡ last_from first (after i e k) = ap (last_from last) (sym h) ∙ g.lasts in
          let m : gap ≡ least_from e (gaps_from first (after i e k)) = sym (gap_end gap last) ∙ ap (λ (S : List ℕ). least_from gap (gaps_from last S)) (sym h) ∙ g.gaps in
          q
          ∙ ap (λ (y : ℕ). with_others first y last gap) n
          ∙ ap₂ (with_others first (length (after i e k))) l m
          ∙ told e first (after i e k) (spans.span_below 0 e (drop k (times i)))

      module _ (l : w.number < p.num_pushed) (x : ℕ) (ex : x ≡ get_or (times i) w.number 0) where
        -- the next time is not below those before it
        next_above : (y : ℕ) → NoneBelow y (drop w.number (times i)) → y ≤ x
        next_above y h =
            let q = length-drop w.number (times i) in
            let z : w.number + 0 ≡ w.number = omega arith in
            subst (λ (v : ℕ). y ≤ v) (get_or-drop w.number (times i) 0 0 ∙ ap (λ (j : ℕ). get_or (times i) j 0) z ∙ sym ex) (h 0 (omega (arith, many)))

        pub next_upto : (first ≤ x) × (last ≤ x)
        next_upto = (next_above first g.above_first, next_above last g.above_last)

        module _ (h : x < e) (w' : Walk) (o : WalkOver i p w') (n : w'.number ≡ suc w.number) where
          next : after i e w.number ≡ x ∷ after i e w'.number
          next = one_more e w.number x l ex h w'.number n

          pub sums_more : (gap' : ℕ) → gap' ≡ min gap (x - last) → SumsOn i p first e k w' x gap'
          sums_more gap' q =
              let f = g.from in
              record {
                walking = o;
                from = omega arith;
                few = omega arith;
                above_first = λ j b. le_trans next_upto.0 (none_below w.number x ex w'.number (omega arith) j b);
                above_last = none_below w.number x ex w'.number (omega arith);
                counts = let c = g.counts in let a = ap length next in omega arith;
                lasts = ap (last_from last) (sym next) ∙ g.lasts;
                gaps = ap (λ (y : ℕ). least_from y (gaps_from x (after i e w'.number))) q ∙ sym (gap_next gap last x (after i e w'.number)) ∙ ap (λ (S : List ℕ). least_from gap (gaps_from last S)) (sym next) ∙ g.gaps;
              }
