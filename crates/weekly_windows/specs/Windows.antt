-- Times inside weekly windows: document 02 (vi). ws are the words of the windows, a b a b .., s to e is a span, T the list of times, i an image. Assumes nothing.
use Rattle.std.specs.Prelude.{◌≡◌, List, [], ◌∷◌, Bool, true, false, ◌&&◌, ◌||◌, cond, ℕ, ◌+◌, ◌-◌, ◌%◌, ◌≤◌, leb, ltb, length}
use Rattle.errors.specs.Answer.{Answer, value, refused}
use Rattle.broadword.specs.Fields.{flag}
use Rattle.elias_fano_words.specs.Image.{image}
use Rattle.elias_fano.specs.Accept.{fit, times, accepted}
use Rattle.elias_fano.specs.Ask.{below}

-- the seconds of a week
abbrev pub week : ℕ
week = 604800

-- from a on and below b: a belongs to it, b does not
abbrev pub between : ℕ → ℕ → ℕ → Bool
between a b r = leb a r && ltb r b

-- a second of the week is in some window
unfoldable pub in_some : List ℕ → ℕ → Bool
in_some [] r = false
in_some (a ∷ []) r = false
in_some (a ∷ b ∷ ws) r = between a b r || in_some ws r

-- each pair has a below b, and b at most the week's end
unfoldable pub in_form : List ℕ → Bool
in_form [] = true
in_form (a ∷ []) = false
in_form (a ∷ b ∷ ws) = ltb a b && (leb b week && in_form ws)

-- 32 windows at most, two words each
unfoldable pub are_windows : List ℕ → Bool
are_windows ws = leb (length ws) 64 && in_form ws

-- a time of the span, e left out, whose remainder by the week is in some window
abbrev pub is_counted : List ℕ → ℕ → ℕ → ℕ → Bool
is_counted ws s e t = between s e t && in_some ws (t % week)

-- how many times are such
unfoldable pub count_in : List ℕ → ℕ → ℕ → List ℕ → ℕ
count_in ws s e [] = 0
count_in ws s e (t ∷ T) = flag (is_counted ws s e t) + count_in ws s e T

-- of a list: 17, and else how many
unfoldable pub count_answer : List ℕ → List ℕ → ℕ → ℕ → Answer
count_answer T ws s e = cond (are_windows ws) (value (count_in ws s e T)) (refused 17)

-- of an image: 7 comes first
unfoldable pub count_of : List ℕ → List ℕ → ℕ → ℕ → Answer
count_of i ws s e = cond (accepted i) (count_answer (times i) ws s e) (refused 7)

-- ---- what is claimed of it

pub record Claims : Type 0 where
  -- the counts of two spans that meet add up
  pub adds : (ws : List ℕ) (s m e : ℕ) (T : List ℕ) → s ≤ m → m ≤ e → count_in ws s m T + count_in ws m e T ≡ count_in ws s e T
  -- so do the answers
  pub answers_add : (i ws : List ℕ) (s m e x y : ℕ) → s ≤ m → m ≤ e → count_of i ws s m ≡ value x → count_of i ws m e ≡ value y → count_of i ws s e ≡ value (x + y)
  -- the whole week as a window counts every time of the span: those below e, less those below s
  pub whole_week : (s e : ℕ) (T : List ℕ) → count_in (0 ∷ week ∷ []) s e T ≡ below e T - below s T
  -- a span that is empty or reversed counts none, and so do no windows
  pub no_span : (ws : List ℕ) (s e : ℕ) (T : List ℕ) → e ≤ s → count_in ws s e T ≡ 0
  pub no_windows : (s e : ℕ) (T : List ℕ) → count_in [] s e T ≡ 0
  -- of the image of a list it is that list that is counted
  pub of_list : (u n : ℕ) (c : Bool) (T ws : List ℕ) (s e : ℕ) → fit u n T ≡ true → count_of (image u n c T) ws s e ≡ count_answer T ws s e
