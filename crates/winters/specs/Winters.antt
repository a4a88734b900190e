-- Spans of time side by side. s to e is a span, T the list of times, ss the seconds that cut the spans, i an image. Assumes nothing.
use Rattle.std.specs.Prelude.{◌≡◌, List, [], ◌∷◌, ◌++◌, Bool, true, ◌&&◌, cond, ℕ, suc, ◌+◌, ◌-◌, ◌*◌, ◌≤◌, ◌<◌, min, leb, ltb, length, get_or, take, drop}
use Rattle.errors.specs.Answer.{value, refused, Outcome, leaves}
use Rattle.elias_fano_words.specs.Image.{image}
use Rattle.elias_fano_words.specs.Times.{last_of}
use Rattle.elias_fano.specs.Accept.{fit, times, accepted}
use Rattle.winters.specs.declared.Summary.{Summary}

-- the times of a span: s belongs to it, e does not
unfoldable pub in_span : ℕ → ℕ → List ℕ → List ℕ
in_span s e [] = []
in_span s e (t ∷ T) = cond (leb s t && ltb t e) (t ∷ in_span s e T) (in_span s e T)

-- the gaps of times after the time x, each to the one before it
unfoldable pub gaps_from : ℕ → List ℕ → List ℕ
gaps_from x [] = []
gaps_from x (t ∷ T) = (t - x) ∷ gaps_from t T

-- the gaps between neighbours
unfoldable pub gaps : List ℕ → List ℕ
gaps [] = []
gaps (t ∷ T) = gaps_from t T

-- the least of x and some numbers
unfoldable pub least_from : ℕ → List ℕ → ℕ
least_from x [] = x
least_from x (y ∷ L) = least_from (min x y) L

-- the least number, 0 where there is none
unfoldable pub least : List ℕ → ℕ
least [] = 0
least (x ∷ L) = least_from x L

-- what is told of the times of a span; 0 where there is none, and for the gap where there are not two
unfoldable pub summary_of : List ℕ → Summary
summary_of T = record { count = length T; first = get_or T 0 0; last = last_of T; gap = least (gaps T) }

abbrev pub words_of : Summary → List ℕ
words_of r = r.count ∷ r.first ∷ r.last ∷ r.gap ∷ []

-- four words for each span: from each second to the next
unfoldable pub span_words : List ℕ → List ℕ → List ℕ
span_words T [] = []
span_words T (s ∷ []) = []
span_words T (s ∷ e ∷ ss) = words_of (summary_of (in_span s e T)) ++ span_words T (e ∷ ss)

abbrev pub num_spans : List ℕ → ℕ
num_spans ss = length ss - 1

-- of a list: 3 where out is short, and else the number of spans and their words; the later words stay
unfoldable pub compare_answer : List ℕ → List ℕ → List ℕ → Outcome
compare_answer T ss out =
    cond (leb (4 * num_spans ss) (length out)) (leaves (value (num_spans ss)) (span_words T ss ++ drop (4 * num_spans ss) out)) (leaves (refused 3) out)

-- of an image: 7 comes first
unfoldable pub compare_of : List ℕ → List ℕ → List ℕ → Outcome
compare_of i ss out = cond (accepted i) (compare_answer (times i) ss out) (leaves (refused 7) out)

-- ---- what is claimed of it

pub record Claims : Type 0 where
  -- the four words with the number j are those of the span from the j-th second to the next
  pub each : (T ss : List ℕ) (j : ℕ) → suc j < length ss → take 4 (drop (4 * j) (span_words T ss)) ≡ words_of (summary_of (in_span (get_or ss j 0) (get_or ss (suc j) 0) T))
  -- the counts of two spans that meet add up
  pub adds : (s m e : ℕ) (T : List ℕ) → s ≤ m → m ≤ e → length (in_span s m T) + length (in_span m e T) ≡ length (in_span s e T)
  -- a span that is empty or reversed has no time
  pub no_span : (s e : ℕ) (T : List ℕ) → e ≤ s → words_of (summary_of (in_span s e T)) ≡ 0 ∷ 0 ∷ 0 ∷ 0 ∷ []
  -- no two neighbours are closer than the gap that is told
  pub gap_least : (T : List ℕ) (j : ℕ) → suc j < length T → (summary_of T).gap ≤ get_or T (suc j) 0 - get_or T j 0
  -- and of two times or more some neighbours have it
  pub gap_met : (T : List ℕ) → 1 < length T → (j : ℕ) × (suc j < length T) × ((summary_of T).gap ≡ get_or T (suc j) 0 - get_or T j 0)
  -- of the image of a list it is that list that is compared
  pub of_list : (u n : ℕ) (c : Bool) (T ss out : List ℕ) → fit u n T ≡ true → compare_of (image u n c T) ss out ≡ compare_answer T ss out
