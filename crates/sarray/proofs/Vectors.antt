-- What an opened vector has: the parts of an accepted image, or no words and no times. Assumes nothing.
use Rattle.std.specs.Prelude.{Ok, Err, Result}
use mathlib.Core.Path.{◌≡◌, refl, sym, ap, ap₂, ◌∙◌, subst}
use mathlib.Core.List.{List}
use mathlib.Core.Bool.{Bool, true, false, ◌&&◌, ◌||◌, cond}
use Prim.Native.Nat.{ℕ}
use native.Mathlib.Omega.{arith}
use borrow.Author.Tests.{eq-eqb, ne_eqb, eqb-true}
use lib.Dec.{eqb}
use lib.ListN.{length, get_or}
use Rattle.errors.specs.Answer.{Answer, refused}
use Rattle.errors.specs.Refusal.{number_of}
use Rattle.errors.specs.declared.Refusal.{Refusal}
use Rattle.broadword.specs.Fields.{flag}
use Rattle.broadword.proofs.Truth.{and_true}
use Rattle.elias_fano_words.specs.Times.{unrepeated_if}
use Rattle.elias_fano.specs.declared.image.Parts.{Parts}
use Rattle.elias_fano.specs.Accept.{unopened, universe, declared, pushed, ranked, times, accepted, accepted_if, parts_by, parts_of, no_parts, of_opened, open_if}
use Rattle.elias_fano.proofs.Accepting.{found, flag_eqb}
use Rattle.elias_fano.proofs.Answers.{image_by, refused_by_lem}
use Rattle.elias_fano.proofs.Images.{flag_one, no_times}
use Rattle.elias_fano.proofs.Selecting as selecting
use Rattle.sarray.specs.Ask.{SparseQuestion, is_vector, sparse_ask, sparse_query}
use Rattle.sarray.specs.declared.vector.SArray.{SArray}
use Rattle.sarray.specs.Opened.{vector_of, vector, no_vector, of_vector, sparse_open, OpenVector}

-- ---- words

-- what the test of words asks
abbrev fits : ℕ → Bool → List ℕ → Bool
fits len c i = eqb (universe i) len && (eqb (get_or i 3 0) (flag c) && eqb (pushed i) (declared i))

abbrev sarray : ℕ → Bool → ℕ → Parts → SArray
sarray len c n p = record { num_bits = len; num_ones = n; parts = p; has_rank = c }

module _ (len : ℕ) (c : Bool) (i : List ℕ) where
  pub zeros_are : length i ≡ 0 → is_vector len c i ≡ true
  unfolding is_vector
  zeros_are e = ap (λ (b : Bool). b || (accepted_if true i && fits len c i)) (eq-eqb (length i) 0 e)

  pub words_are : (length i ≡ 0 → ⊥) → is_vector len c i ≡ (accepted_if true i && fits len c i)
  unfolding is_vector
  words_are h = ap (λ (b : Bool). b || (accepted_if true i && fits len c i)) (ne_eqb (length i) 0 h)

  -- its parts
  abbrev parts_of_lem : Bool → Parts
  parts_of_lem b = cond b no_parts (parts_of i)

  pub zeros_vector : length i ≡ 0 → (n : ℕ) → n ≡ 0 → (p : Parts) → p ≡ no_parts → record { num_bits = len; num_ones = n; parts = p; has_rank = c } ≡ vector_of len c i
  zeros_vector e n en p ep =
      ap₂ (λ (k : ℕ) (q : Parts). sarray len c k q) (en ∙ sym (ap length (no_times i e))) (ep ∙ sym (ap parts_of_lem (eq-eqb (length i) 0 e)))

  pub image_vector : (length i ≡ 0 → ⊥) → accepted i ≡ true → (p : Parts) → p ≡ parts_of i → record { num_bits = len; num_ones = p.num_pushed; parts = p; has_rank = c } ≡ vector_of len c i
  image_vector h ok p ep =
      ap₂ (λ (k : ℕ) (q : Parts). sarray len c k q) (selecting.pushed_is i ok p ep) (ep ∙ sym (ap parts_of_lem (ne_eqb (length i) 0 h)))

-- ---- the numbers of a header

module _ (p : Parts) (len : ℕ) (c : Bool) where
  abbrev whole : Bool
  whole = eqb p.universe len && (eqb (flag p.rank) (flag c) && eqb p.num_pushed p.num_vals)

  pub other_length : (p.universe ≡ len → ⊥) → false ≡ whole
  other_length h = sym (ap (λ (b : Bool). b && (eqb (flag p.rank) (flag c) && eqb p.num_pushed p.num_vals)) (ne_eqb p.universe len h))

-- ---- opening

module _ (i : List ℕ) (len : ℕ) (c : Bool) where
  by_vector : {b : Bool} → is_vector len c i ≡ b → sparse_open len c i ≡ cond b (vector (vector_of len c i)) (no_vector 7)
  unfolding sparse_open
  by_vector e = ap (λ (b : Bool). cond b (vector (vector_of len c i)) (no_vector 7)) e

  pub opens_zeros : length i ≡ 0 → (p : Parts) → p ≡ no_parts → vector (sarray len c 0 p) ≡ sparse_open len c i
  opens_zeros e p ep = ap vector (zeros_vector len c i e 0 refl p ep) ∙ sym (by_vector (zeros_are len c i e))

  module _ (some : length i ≡ 0 → ⊥) where
    -- opening refuses the image
    pub opens_refused : (x : ℕ) → unopened x ≡ open_if true i → no_vector x ≡ sparse_open len c i
    opens_refused x e =
        let d = refused_by_lem (accepted_if true i) x (parts_of i) e in
        ap no_vector d.1 ∙ sym (by_vector (words_are len c i some ∙ ap (λ (b : Bool). b && fits len c i) d.0))

    module _ (r : Result Parts Refusal) (p : Parts) (er : of_opened r ≡ open_if true i) (e : r ≡ Ok p) where
      is_open : (accepted_if true i ≡ true) × (p ≡ parts_of i)
      is_open = image_by (accepted_if true i) p (parts_of i) (sym (ap of_opened e) ∙ er)

      ok : accepted i ≡ true
      ok = (and_true (unrepeated_if true (times i)) (accepted i) is_open.0).1

      -- word 3 of an accepted image is its choice
      choice_is : flag p.rank ≡ get_or i 3 0
      unfolding parts_by
      choice_is = ap (λ (q : Parts). flag q.rank) is_open.1 ∙ sym (flag_eqb (get_or i 3 0) (found i ok).head.counts.choice (ranked i) refl)

      -- whether the parts fit is whether the header does
      fits_is : whole p len c ≡ fits len c i
      unfolding parts_by
      fits_is =
          ap (λ (x : ℕ). eqb p.universe len && (eqb x (flag c) && eqb p.num_pushed p.num_vals)) choice_is
          ∙ ap (λ (q : Parts). eqb q.universe len && (eqb (get_or i 3 0) (flag c) && eqb q.num_pushed q.num_vals)) is_open.1

      vector_is : is_vector len c i ≡ whole p len c
      vector_is = words_are len c i some ∙ ap (λ (b : Bool). b && fits len c i) is_open.0 ∙ sym fits_is

      pub opens_other : whole p len c ≡ false → no_vector 7 ≡ sparse_open len c i
      opens_other h = sym (by_vector (vector_is ∙ h))

      pub opens_image : whole p len c ≡ true → vector (sarray len c p.num_pushed p) ≡ sparse_open len c i
      opens_image h = ap vector (image_vector len c i some ok p is_open.1) ∙ sym (by_vector (vector_is ∙ h))

-- ---- an opened vector

module _ (i : List ℕ) (len : ℕ) (c : Bool) where
  -- words that pass are accepted, and have the length and the choice
  module _ (some : length i ≡ 0 → ⊥) (h : is_vector len c i ≡ true) where
    all : (accepted_if true i ≡ true) × (fits len c i ≡ true)
    all = and_true (accepted_if true i) (fits len c i) (sym (words_are len c i some) ∙ h)

    words_ok : accepted i ≡ true
    words_ok = (and_true (unrepeated_if true (times i)) (accepted i) all.0).1

    rest : (eqb (universe i) len ≡ true) × ((eqb (get_or i 3 0) (flag c) && eqb (pushed i) (declared i)) ≡ true)
    rest = and_true (eqb (universe i) len) _ all.1

    words_long : universe i ≡ len
    words_long = eqb-true (universe i) len rest.0

    words_choice : ranked i ≡ c
    words_choice = ap (λ (w : ℕ). eqb w 1) (eqb-true (get_or i 3 0) (flag c) (and_true (eqb (get_or i 3 0) (flag c)) _ rest.1).0) ∙ flag_one c

  vector_by : (b : Bool) (v u : SArray) → vector v ≡ cond b (vector u) (no_vector 7) → (b ≡ true) × (v ≡ u)
  vector_by true v u e = (refl, cc)
  vector_by false v u e = let z : ◌≡◌ {A = ℕ} 0 1 = cc in absurd (omega arith)

  no_vector_by : (b : Bool) (k : ℕ) (u : SArray) → no_vector k ≡ cond b (vector u) (no_vector 7) → (b ≡ false) × (k ≡ 7)
  no_vector_by true k u e = let z : ◌≡◌ {A = ℕ} 0 1 = cc in absurd (omega arith)
  no_vector_by false k u e = (refl, cc)

  module _ (r : Result SArray Refusal) (er : of_vector r ≡ sparse_open len c i) where
    module _ (v : SArray) (e : r ≡ Ok v) where
      pub told : (is_vector len c i ≡ true) × (v ≡ vector_of len c i)
      unfolding sparse_open
      told = vector_by (is_vector len c i) v (vector_of len c i) (sym (ap of_vector e) ∙ er)

      pub open_vector : OpenVector i v
      open_vector = subst (OpenVector i) (sym told.1) (record { ok = told.0; is = refl })

      pub query_opened : (q : SparseQuestion) (a : Answer) → a ≡ sparse_ask v.num_bits v.has_rank (times i) q → a ≡ sparse_query len c i q
      unfolding sparse_query
      query_opened q a ea =
          ea ∙ ap (λ (u : SArray). sparse_ask u.num_bits u.has_rank (times i) q) told.1
          ∙ sym (ap (λ (b : Bool). cond b (sparse_ask len c (times i) q) (refused 7)) told.0)

    pub not_vector : (x : Refusal) → r ≡ Err x → (is_vector len c i ≡ false) × (number_of x ≡ 7)
    unfolding sparse_open
    not_vector x e = no_vector_by (is_vector len c i) (number_of x) (vector_of len c i) (sym (ap of_vector e) ∙ er)

    pub query_refused : (x : Refusal) → r ≡ Err x → (q : SparseQuestion) → refused (number_of x) ≡ sparse_query len c i q
    unfolding sparse_query
    query_refused x e q =
        let d = not_vector x e in
        ap refused d.1 ∙ sym (ap (λ (b : Bool). cond b (sparse_ask len c (times i) q) (refused 7)) d.0)

module _ (i : List ℕ) (v : SArray) (o : OpenVector i v) where
  abbrev len : ℕ
  len = v.num_bits

  abbrev c : Bool
  c = v.has_rank

  pub many : v.num_ones ≡ length (times i)
  many = ap (λ (u : SArray). u.num_ones) o.is

  module _ (some : v.num_ones ≡ 0 → ⊥) where
    -- one with a one has an image
    words : length i ≡ 0 → ⊥
    words e = some (many ∙ ap length (no_times i e))

    pub image_ok : accepted i ≡ true
    image_ok = words_ok i len c words o.ok

    pub parts_are : v.parts ≡ parts_of i
    parts_are = ap (λ (u : SArray). u.parts) o.is ∙ ap (λ (b : Bool). cond b no_parts (parts_of i)) (ne_eqb (length i) 0 words)

    pub long : universe i ≡ v.num_bits
    long = words_long i len c words o.ok

    pub choice : ranked i ≡ v.has_rank
    choice = words_choice i len c words o.ok
