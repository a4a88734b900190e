-- The answers of opening and of the questions, case by case. Assumes nothing.
use Rattle.std.specs.Prelude.{Ok, Some, None, Option}
use mathlib.Core.Path.{◌≡◌, refl, sym, ap, ◌∙◌, subst}
use mathlib.Core.List.{List}
use mathlib.Core.Bool.{Bool, true, false, cond}
use Prim.Native.Nat.{ℕ}
use native.Mathlib.Omega.{arith}
use Rattle.errors.specs.Answer.{Answer, value, refused}
use Rattle.elias_fano.specs.declared.image.Parts.{Parts}
use Rattle.elias_fano.specs.declared.opened.Image.{Image}
use Rattle.elias_fano.specs.Opened.{Opens}
use Rattle.elias_fano.specs.Accept.{accepted, parts_of, parts, unopened, accepted_if, open_if, open_of}
use Rattle.elias_fano.specs.Ask.{Question, asked, query}
use Rattle.elias_fano.specs.Opening.{Headed, Heads, Open}

-- ---- an answer has one case

pub value_inj : (a b : ℕ) → value a ≡ value b → a ≡ b
value_inj a b e = cc

pub refused_value : (a b : ℕ) → refused a ≡ value b → ⊥
refused_value a b e = let z : ◌≡◌ {A = ℕ} 0 1 = cc in omega arith

-- ---- what a test of an image decides

pub image_by : (b : Bool) (p q : Parts) → parts p ≡ cond b (parts q) (unopened 7) → (b ≡ true) × (p ≡ q)
image_by true p q e = (refl, cc)
image_by false p q e = let z : ◌≡◌ {A = ℕ} 0 1 = cc in absurd (omega arith)

pub refused_by_lem : (b : Bool) (k : ℕ) (q : Parts) → unopened k ≡ cond b (parts q) (unopened 7) → (b ≡ false) × (k ≡ 7)
refused_by_lem true k q e = let z : ◌≡◌ {A = ℕ} 0 1 = cc in absurd (omega arith)
refused_by_lem false k q e = (refl, cc)

module _ (i : List ℕ) where
  -- ---- a header

  pub heads_parts : (r : Option Parts) (p : Parts) → Heads i r → r ≡ Some p → (p ≡ parts_of i) × Headed i
  heads_parts r p h e = subst (Heads i) e h

  pub heads_wrong : (r : Option Parts) → Heads i r → r ≡ None → accepted i ≡ true → ⊥
  heads_wrong r h e = subst (Heads i) e h

  -- ---- opening

  not_accepted : (b : Bool) → (b ≡ true → ⊥) → b ≡ false
  not_accepted true h = absurd (h refl)
  not_accepted false h = refl

  pub open_refused : (strict : Bool) → (accepted_if strict i ≡ true → ⊥) → unopened 7 ≡ open_if strict i
  open_refused strict h = sym (ap (λ (b : Bool). cond b (parts (parts_of i)) (unopened 7)) (not_accepted (accepted_if strict i) h))

  pub open_image : (strict : Bool) (p : Parts) → p ≡ parts_of i → accepted_if strict i ≡ true → parts p ≡ open_if strict i
  open_image strict p e h = ap parts e ∙ sym (ap (λ (b : Bool). cond b (parts (parts_of i)) (unopened 7)) h)

  -- ---- a question

  pub opened : (p : Parts) → parts p ≡ open_of i → Open i p
  unfolding open_of
  opened p e = let h = image_by (accepted i) p (parts_of i) e in record { ok = h.0; parts = h.1 }

  pub not_open : (x : ℕ) → unopened x ≡ open_of i → (accepted i ≡ false) × (x ≡ 7)
  unfolding open_of
  not_open x e = refused_by_lem (accepted i) x (parts_of i) e

  pub query_refused : (x : ℕ) (q : Question) → unopened x ≡ open_of i → refused x ≡ query i q
  unfolding query
  query_refused x q e =
      let d = not_open x e in
      ap refused d.1 ∙ sym (ap (λ (b : Bool). cond b (asked i q) (refused 7)) d.0)

  pub query_opened : (a : Answer) (q : Question) → accepted i ≡ true → a ≡ asked i q → a ≡ query i q
  unfolding query
  query_opened a q h e = e ∙ sym (ap (λ (b : Bool). cond b (asked i q) (refused 7)) h)

-- the answer of words that are opened
pub query_image : (w : List ℕ) (i : Image) → Opens w (Ok i) → (a : Answer) (q : Question) → a ≡ asked i.words.now q → a ≡ query w q
query_image w i o a q e = subst (λ (v : List ℕ). a ≡ query v q) o.0 (query_opened i.words.now a q i.ok e)
