-- Laws of a file's words as a record. Assumes nothing.
use Rattle.std.proofs.Common.{◌&&◌, Bool, not, cond, ltb, Result, Ok, Err, IfOk, length-append, ◌≡◌, ℕ, ◌+◌, ◌-◌, ◌<◌, ◌≤◌, eqb, List, [], ◌∷◌, ◌++◌, length, get_or, take, drop, sym, refl, ap, ◌∙◌, subst, ap₂, arith, length-drop, length-take-le, get_or-take}
use Rattle.std.proofs.lemmas.List.{take_at, drop-take, length-take, take-append-le, take-append-drop}
use Rattle.std.proofs.lemmas.Slice.{take-put_mid_below}
use Rattle.std.specs.List.{copy_within}
use Rattle.std.specs.Result.{is_ok}
use lib.Seq.{take_all}
use borrow.Rule.Slice.PartMut.{put_mid}
use mathlib.Core.Path.{subst⁻¹}
use borrow.Author.Tests.{le-ltb}
use Rattle.elias_fano_words.specs.Sizes.{start_len}
use Rattle.elias_fano_words.specs.Times.{last_of, times_in, holds}
use Rattle.elias_fano.specs.Steps.{sound, builder_test, held_words, held_times, intact, unfinished, zeros, resume_test, resume_of}
use Rattle.errors.specs.Answer.{done, refused}
use Rattle.errors.specs.Refusal.{number_of}
use Rattle.errors.specs.declared.Refusal.{Refusal}
use Rattle.darray.specs.Pending.{Decides}
use Rattle.darray.proofs.Matching.{it_is, it_is_not}
use Rattle.elias_fano.specs.declared.builder.Builder.{Builder}
use Rattle.elias_fano.specs.Made.{Made, of_pushed}
use Rattle.elias_fano.proofs.Cases.{Sound}
use Rattle.elias_fano.proofs.Resuming as held
use Rattle.record_file.specs.declared.KeptError.{KeptError}
use Rattle.record_file.specs.Stored.{Restores, head_of, stored, builder_of, StartLen, Right, Stores}
use Rattle.record_file.specs.Sum.{sum_of}

-- ---- moving words to the front

-- the words after the head, once they are copied to the front and the later ones are written
pub moved_front : (l w z : List ℕ) (n k : ℕ) → 5 ≤ n → n ≤ length l → w ≡ copy_within l 5 n 0 → take (n - 5) (put_mid (n - 5) k w z) ≡ drop 5 (take n l)
moved_front l w z n k h g e =
    let m = n - 5 in
    let moved = take m (drop 5 l) in
    let len : length moved ≡ m = length-take-le m (drop 5 l) (omega (arith, length-drop 5 l)) in
    let long : m ≤ length w = omega (arith, ap length e, length-append moved (drop (0 + m) l)) in
    let j : 5 + m ≡ n = omega arith in
    take-put_mid_below m k w z m (omega arith) long
    ∙ ap (take m) e
    ∙ take_at moved (drop (0 + m) l) m len
    ∙ sym (drop-take 5 m l)
    ∙ ap (λ (i : ℕ). drop 5 (take i l)) j

-- ---- the file's words

five : (f : List ℕ) → 5 ≤ length f → f ≡ head_of (builder_of f) (get_or f 4 0) ++ drop 5 f
unfolding head_of builder_of
five (a ∷ b ∷ c ∷ d ∷ e ∷ f) h = refl
five [] h = absurd (omega arith)
five (a ∷ []) h = absurd (omega arith)
five (a ∷ b ∷ []) h = absurd (omega arith)
five (a ∷ b ∷ c ∷ []) h = absurd (omega arith)
five (a ∷ b ∷ c ∷ d ∷ []) h = absurd (omega arith)

builder_front : (l : List ℕ) (n : ℕ) → 5 ≤ n → builder_of (take n l) ≡ builder_of l
unfolding builder_of
builder_front l n h = rw (get_or-take n l 0 0 (omega arith), get_or-take n l 1 0 (omega arith), get_or-take n l 2 0 (omega arith), get_or-take n l 3 0 (omega arith))

-- ---- the case of the test

refusal_apart : (k : ℕ) → done ≡ refused k → ⊥
refusal_apart k e = let z : ◌≡◌ {A = ℕ} 0 1 = cc in omega arith

-- what resume answers tells whether some run leaves them
pub resumes : (b : Builder) (ws : List ℕ) (r : Result Builder Refusal) → of_pushed b r ws ≡ resume_of b ws → Decides (is_ok r) (resume_test b ws ≡ done)
unfolding resume_of
resumes b ws (Ok x) e = it_is (sym (ap (λ (m : Made). m.answer) e))
resumes b ws (Err x) e = it_is_not (λ d. refusal_apart (number_of x) (sym d ∙ sym (ap (λ (m : Made). m.answer) e)))

-- ---- what a file stores, taken apart

module _ (file : List ℕ) (b : Builder) (ws : List ℕ) (s : Stores file b ws) where
  builder-stored : builder_of file ≡ b
  unfolding stored head_of builder_of
  builder-stored = ap builder_of s.is

  sum-stored : get_or file 4 0 ≡ sum_of b ws
  unfolding stored head_of
  sum-stored = ap (λ (f : List ℕ). get_or f 4 0) s.is

  words-stored : drop 5 file ≡ ws
  unfolding stored head_of
  words-stored = ap (drop 5) s.is

  length-stored : length file ≡ 5 + length ws
  unfolding stored head_of
  length-stored = ap length s.is ∙ omega arith

  -- its settings are in range: some run leaves it
  known : Sound b
  unfolding resume_of
  known = held.known b ws s.resumed

  pub start-stored : StartLen b (length file - 5)
  start-stored = let k = known in (k.some, k.most, ap (λ (x : ℕ). x - 5) length-stored ∙ (let z : 5 + length ws - 5 ≡ length ws = omega arith in z) ∙ s.whole)

-- fewer words than stand in front
pub too_few : (file : List ℕ) → length file < 5 → (b : Builder) (ws : List ℕ) → Stores file b ws → ⊥
too_few file h b ws s = omega (arith, h, length-stored file b ws s)

-- ---- n words of a file at the front of l, of which o has those after the head at its front

module _ (l o : List ℕ) (n c : ℕ) (b : Builder) (h : 5 ≤ n) (g : n ≤ length l) (eb : b ≡ builder_of l) where
  abbrev file : List ℕ
  file = take n l

  length_file : length file ≡ n
  length_file = length-take-le n l g

  same-builder : builder_of file ≡ b
  same-builder = builder_front l n h ∙ sym eb

  -- another number of words than the start has
  pub other_start : (StartLen b (n - 5) → ⊥) → (d : Builder) (ws : List ℕ) → Stores file d ws → ⊥
  other_start other d ws s =
      other (subst (λ (x : ℕ). StartLen b (x - 5)) length_file
      (subst (λ (x : Builder). StartLen x (length file - 5)) (sym (builder-stored file d ws s) ∙ same-builder) (start-stored file d ws s)))

  module _ (ec : c ≡ get_or l 4 0) (em : take (n - 5) o ≡ drop 5 file) where
    same_sum : get_or file 4 0 ≡ c
    same_sum = get_or-take n l 4 0 (omega arith) ∙ sym ec

    pub held_stored : StartLen b (n - 5) → Right b c (take (n - 5) o) → Stores file b (take (length file - 5) o)
    unfolding stored
    held_stored start right =
        subst⁻¹ (λ (x : ℕ). Stores file b (take (x - 5) o)) length_file
        (record {
          is =
              five file (omega (arith, length_file))
              ∙ ap (λ (x : Builder). head_of x (get_or file 4 0) ++ drop 5 file) same-builder
              ∙ ap (λ (x : ℕ). head_of b x ++ drop 5 file) (same_sum ∙ right.summed)
              ∙ ap (λ (x : List ℕ). head_of b (sum_of b (take (n - 5) o)) ++ x) (sym em);
          whole = ap length em ∙ length-drop 5 file ∙ ap (λ (x : ℕ). x - 5) length_file ∙ start.2;
          resumed = right.resumed;
        })

    -- a wrong sum, or words that no run leaves
    pub not_right : (Right b c (take (n - 5) o) → ⊥) → (d : Builder) (ws : List ℕ) → Stores file d ws → ⊥
    not_right wrong d ws s =
        let eb' : d ≡ b = sym (builder-stored file d ws s) ∙ same-builder in
        let ew : ws ≡ take (n - 5) o = sym (words-stored file d ws s) ∙ sym em in
        wrong (record {
          summed = sym same_sum ∙ sum-stored file d ws s ∙ ap₂ sum_of eb' ew;
          resumed = sym (ap₂ resume_test eb' ew) ∙ s.resumed;
        })

-- ---- what was handed back is gone on with

module _ (b : Builder) (o : List ℕ) (long : start_len b.universe b.num_vals ≤ length o) where
  abbrev start : List ℕ
  start = take (start_len b.universe b.num_vals) o

  same-held : held_words b start ≡ held_words b o
  unfolding start_len
  same-held =
      let k = start_len b.universe b.num_vals - 6 in
      let j : start_len b.universe b.num_vals ≡ 6 + k = omega arith in
      ap (λ (i : ℕ). take k (drop 6 (take i o))) j
      ∙ ap (take k) (drop-take 6 k o)
      ∙ take_all k (take k (drop 6 o)) (omega (arith, length-take k (drop 6 o)))

  same_header : take 6 start ≡ take 6 o
  unfolding start_len
  same_header =
      let l = start_len b.universe b.num_vals in
      sym (take-append-le 6 start (drop l o) (omega (arith, length-take-le l o long)))
      ∙ ap (take 6) (take-append-drop l o)

  same_test : unfinished b start ≡ unfinished b o
  unfolding unfinished intact held_times
  same_test = ap₂ (λ (h w : List ℕ). zeros h && (holds b.universe b.num_vals b.num_pushed w && eqb (last_of (times_in b.universe b.num_vals b.num_pushed w)) b.last)) same_header same-held

  same_room : ltb (length start) (start_len b.universe b.num_vals) ≡ ltb (length o) (start_len b.universe b.num_vals)
  same_room =
      let l = start_len b.universe b.num_vals in
      le-ltb (length start) l (omega (arith, length-take-le l o long)) ∙ sym (le-ltb (length o) l long)

  -- more words pass the test that those of its start pass
  resumes_in_more : resume_test b start ≡ done → resume_test b o ≡ done
  unfolding builder_test
  resumes_in_more e = sym (ap₂ (λ (few whole : Bool). cond (not (sound b)) (refused 7) (cond few (refused 3) (cond whole done (refused 7)))) same_room same_test) ∙ e

pub restored : (file o : List ℕ) (r : Result Builder KeptError) → length file ≤ length o → Restores file o r → IfOk r (λ b. resume_test b o ≡ done)
restored file o (Ok b) h s =
    let k : length (take (length file - 5) o) ≡ length file - 5 = length-take-le (length file - 5) o (omega arith) in
    let j : length file - 5 ≡ start_len b.universe b.num_vals = sym k ∙ s.whole in
    resumes_in_more b o (omega arith) (ap (λ (i : ℕ). resume_test b (take i o)) (sym j) ∙ s.resumed)
restored file o (Err e) h s = tt
