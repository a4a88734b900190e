-- A list of as many times as are declared, filed one after the other into words that a start zeroes, and finished: what stands in the words at each time, and at the end.
-- Whoever writes the record of a whole list rests on this. Assumes nothing.
use mathlib.Core.Path.{◌≡◌, refl, sym, ap, ap₂, ◌∙◌, subst, subst⁻¹}
use mathlib.Core.List.{List, [], ◌∷◌, ◌++◌, append_assoc}
use mathlib.Core.Bool.{Bool, true, false, cond}
use Prim.Native.Nat.{ℕ, zero, suc, ◌+◌, ◌-◌, ◌*◌, ◌^◌, ◌≤◌, ◌<◌}
use native.Mathlib.Nat.{le_refl, le_of_eq, not-suc-le-zero, le_of_suc-le-suc}
use native.Mathlib.Omega.{arith}
use borrow.Author.Tests.{le-leb}
use lib.Dec.{leb}
use lib.ListN.{length, get_or, take, drop, replicate, length-append, length-drop, length-replicate}
use lib.Seq.{take_all, take-suc, length-take-le, drop-append-add, drop-drop, drop_at}
use Rattle.bit_words.specs.Vector.{words_for}
use Rattle.bit_words.proofs.Runs.{Fit}
use Rattle.darray_positions.specs.Index.{blocks, before}
use Rattle.darray_positions.proofs.Index.{length-overflow}
use Rattle.elias_fano_words.specs.Image.{spilled, high_positions, image}
use Rattle.elias_fano_words.specs.Sizes.{low_len, high_len, start_len, sizes_of, image_len, limit}
use Rattle.elias_fano_words.specs.Times.{rising, last_from, last_of, bit_words}
use Rattle.elias_fano_words.specs.declared.sizes.Sizes.{Sizes}
use Rattle.elias_fano_words.proofs.Decode.{length-words}
use Rattle.elias_fano_words.proofs.Lengths as lengths
use Rattle.elias_fano_words.proofs.Limit as limit-law
use Rattle.elias_fano_words.proofs.Rising.{rising_first, rising_cons, rising_none, rising_lt, last_of_snoc}
use Rattle.elias_fano.specs.Finishing.{Holding, Finishable, filed_in}
use Rattle.elias_fano.specs.Made.{builder}
use Rattle.elias_fano.specs.Steps.{sound, intact, filed, image_of, finished_words}
use Rattle.elias_fano.specs.Testing.{Fileable}
use Rattle.elias_fano.specs.declared.builder.Builder.{Builder}
use Rattle.elias_fano.proofs.Filled as filled
use Rattle.elias_fano.proofs.Filled.{Room}
use Rattle.elias_fano.proofs.Images.{Fits}
use Rattle.elias_fano.proofs.Limits as limits

-- the first times of a list in order are in order
rising-take : (u x k : ℕ) (T : List ℕ) → rising u x T ≡ true → rising u x (take k T) ≡ true
rising-take u x zero T r = rising_none u x
rising-take u x (suc k) [] r = rising_none u x
rising-take u x (suc k) (t ∷ T) r = let f = rising_first u x t T r in rising_cons u x t (take k T) f.0 f.1 (rising-take u t k T f.2)

-- a time is not below the last of those before it
last_le : (u x i : ℕ) (T : List ℕ) → rising u x T ≡ true → i < length T → last_from x (take i T) ≤ get_or T i 0
last_le u x i [] r h = absurd (not-suc-le-zero h)
last_le u x zero (t ∷ T) r h = (rising_first u x t T r).0
last_le u x (suc i) (t ∷ T) r h = last_le u t i T (rising_first u x t T r).2 (le_of_suc-le-suc h)

module _ (u n : ℕ) (T : List ℕ) (f : Fits u n T) (many : length T ≡ n) where
  -- ---- how long the image is

  image-length : (c : Bool) → length (image u n c T) ≡ image_len u n n c (spilled (high_positions u n true T)) (cond c (spilled (high_positions u n false T)) 0)
  image-length c = lengths.image-length u n T f.rises f.few c ∙ ap (λ (m : ℕ). image_len u n m c (spilled (high_positions u n true T)) (cond c (spilled (high_positions u n false T)) 0)) many

  pub start_le : (c : Bool) → start_len u n ≤ length (image u n c T)
  unfolding start_len
  start_le c = let e = image-length c in omega arith

  -- by what is measured, or by the limit
  module _ (c : Bool) (s : Sizes) (es : s ≡ sizes_of u n) where
    pub limit_ready : (s.start_len < 2 ^ 32) × (s.high_len < 2 ^ 32) × (n < 2 ^ 32)
    limit_ready = limit-law.limit_ready u n f.small f.some f.most s es

    pub limit_room : (x k : ℕ) → x ≡ limit u n c → x ≤ k → true ≡ leb (length (image u n c T)) k
    limit_room x k e h = sym (le-leb (length (image u n c T)) k (let a = limit-law.image_most u n T f.rises f.few c in omega arith))

    over_is : (b : Bool) → spilled (high_positions u n b T) ≡ before (high_positions u n b T) (blocks (high_positions u n b T))
    over_is b = length-overflow (high_positions u n b T) (blocks (high_positions u n b T))

    over_small : (b : Bool) → before (high_positions u n b T) (blocks (high_positions u n b T)) < 2 ^ 32
    over_small b = let h = limits.high_small u n n f.small f.some f.most (le_refl n) in omega (arith, limit-law.spilled_most u n b T, over_is b)

    module _ (o z : ℕ) (eo : o ≡ before (high_positions u n true T) (blocks (high_positions u n true T))) (ez : z ≡ cond c (before (high_positions u n false T) (blocks (high_positions u n false T))) 0) where
      pub len_ready : (s.low_at < 2 ^ 32) × (n * s.low_len < 2 ^ 32) × (s.high_len < 2 ^ 32) × (n ≤ s.high_len) × (o < 2 ^ 32) × (z < 2 ^ 32)
      unfolding high_len
      len_ready =
          let h = limits.high_small u n n f.small f.some f.most (le_refl n) in
          let p = limits.product_small u n n f.small f.some f.most (le_refl n) in
          subst⁻¹ (λ (x : Sizes). (x.low_at < 2 ^ 32) × (n * x.low_len < 2 ^ 32) × (x.high_len < 2 ^ 32) × (n ≤ x.high_len) × (o < 2 ^ 32) × (z < 2 ^ 32)) es
          (omega arith, omega arith, omega arith, omega arith, omega (arith, over_small true), omega (arith, limit-law.if_le c (before (high_positions u n false T) (blocks (high_positions u n false T))), over_small false))

      pub measured_is : (k : ℕ) → ((u n : ℕ) → s ≡ sizes_of u n → k ≡ image_len u n (length T) c o z) → k ≡ length (image u n c T)
      measured_is k e =
          e u n es ∙ (λ x. image_len u n (length T) c (eo x) (ez x))
          ∙ (λ x. image_len u n (length T) c (sym (over_is true) x) (cond c (sym (over_is false) x) 0)) ∙ sym (lengths.image-length u n T f.rises f.few c)

  -- ---- filing

  module _ (w : List ℕ) (fw : Fit w) (long : start_len u n ≤ length w) where
    room : Room u n w
    room = record {
      small = f.small;
      some = λ (e : n ≡ 0). let a = f.some in omega arith;
      most = f.most;
      long = long;
      words = fw;
    }

    words_are : (S : List ℕ) → filled.W u n w room S ≡ filed_in u n S w
    unfolding filed_in
    words_are S = refl

    -- the start's words zeroed
    pub zeroed : (x : List ℕ) → x ≡ replicate (start_len u n) 0 ++ drop (start_len u n) w → (drop (start_len u n) x ≡ drop (start_len u n) w) × (length x ≡ length w)
    zeroed x e =
        let Z : List ℕ = replicate (start_len u n) 0 in
        let z = length-replicate {A = ℕ} (start_len u n) 0 in
        let d = length-drop (start_len u n) w in
        (ap (drop (start_len u n)) e ∙ drop_at Z (drop (start_len u n) w) (start_len u n) z, ap length e ∙ length-append Z (drop (start_len u n) w) ∙ omega arith)

    pub same_later : (x : List ℕ) → drop (start_len u n) x ≡ drop (start_len u n) w → filed_in u n T x ≡ filed_in u n T w
    unfolding filed_in
    same_later x e = ap (λ (D : List ℕ). replicate 6 0 ++ (bit_words u n (words_for (n * low_len u n)) T ++ D)) e

    pub begins : replicate (start_len u n) 0 ++ drop (start_len u n) w ≡ filed_in u n (take 0 T) w
    begins = filled.start-words u n w room ∙ words_are []

    pub ends : filed_in u n (take n T) w ≡ filed_in u n T w
    ends = ap (λ (S : List ℕ). filed_in u n S w) (take_all n T (le_of_eq many))

    pub length_held : (S : List ℕ) → length (filed_in u n S w) ≡ length w
    length_held S = ap length (sym (words_are S)) ∙ filled.length-words u n w room S

    module _ (i : ℕ) (h : i < n) where
      length_first : length (take i T) ≡ i
      length_first = length-take-le i T (let a = many in omega arith)

      fits_first : Fits u n (take i T)
      fits_first = record { small = f.small; some = f.some; most = f.most; few = let a = length_first in omega arith; rises = rising-take u 0 i T f.rises }

      in_list : i < length T
      in_list = let a = many in omega arith

      below : get_or T i 0 < u
      below = rising_lt u T i f.rises in_list

      more : take (suc i) T ≡ take i T ++ (get_or T i 0 ∷ [])
      more = take-suc T i 0 in_list

      after : last_of (take i T) ≤ get_or T i 0
      after = last_le u 0 i T f.rises in_list

      -- it is the last of those up to it
      pub last_next : last_of (take (suc i) T) ≡ get_or T i 0
      last_next = ap last_of more ∙ last_of_snoc (take i T) (get_or T i 0)

      pub fileable : (x : ℕ) → x ≡ last_of (take i T) → (t : ℕ) → t ≡ get_or T i 0 → (s : Sizes) → s ≡ sizes_of u n → (k : ℕ) → k ≡ length w → Fileable (builder u n i x) t k s
      fileable x ex t et s es k ek = record {
        roomy = record {
          is_sound = ap sound (ap₂ (builder u n) (sym length_first) ex) ∙ filled.numbers-sound u n w room (take i T) fits_first;
          long = subst⁻¹ (λ (y : ℕ). start_len u n ≤ y) ek long;
          sizes = es;
        };
        after = subst⁻¹ (λ (y : ℕ). y ≤ t) ex (subst⁻¹ (λ (y : ℕ). last_of (take i T) ≤ y) et after);
        below = subst⁻¹ (λ (y : ℕ). y < u) et below;
        more = λ (e : i ≡ n). omega arith;
      }

      pub files : (t : ℕ) → t ≡ get_or T i 0 → (x : List ℕ) → x ≡ filed_in u n (take i T) w → filed u n i t x ≡ filed_in u n (take (suc i) T) w
      files t et x ex =
          ap₂ (λ (y : ℕ) (z : List ℕ). filed u n i y z) et (ex ∙ sym (words_are (take i T))) ∙ ap (λ (k : ℕ). filed u n k (get_or T i 0) (filled.W u n w room (take i T))) (sym length_first)
          ∙ filled.file u n w room (take i T) (get_or T i 0) fits_first after below (let a = length_first in omega arith)
          ∙ words_are (take i T ++ (get_or T i 0 ∷ []))
          ∙ ap (λ (S : List ℕ). filed_in u n S w) (sym more)

    -- ---- the finish

    abbrev b : Builder
    b = builder u n n (last_of T)

    numbers_all : filled.B u n w room T ≡ b
    numbers_all = ap (λ (k : ℕ). builder u n k (last_of T)) many

    image_is : (c : Bool) → image_of b c (filed_in u n T w) ≡ image u n c T
    image_is c = ap₂ (λ (x : Builder) (y : List ℕ). image_of x c y) (sym numbers_all) (sym (words_are T)) ∙ filled.image_is u n w room T f c

    holding : Holding b (filed_in u n T w)
    holding = record {
      is_sound = ap sound (sym numbers_all) ∙ filled.numbers-sound u n w room T f;
      long = subst (λ (y : List ℕ). start_len u n ≤ length y) (words_are T) (filled.long u n w room T);
      is_intact = ap₂ (λ (x : Builder) (y : List ℕ). intact x y) (sym numbers_all) (sym (words_are T)) ∙ filled.held_intact u n w room T f;
    }

    module _ (c : Bool) where
      -- the image is as long as the start at least, so what follows it was never touched
      later_words : drop (length (image u n c T)) (filed_in u n T w) ≡ drop (length (image u n c T)) w
      unfolding filed_in start_len
      later_words =
          let k : ℕ = words_for (n * low_len u n) in
          let X : List ℕ = replicate 6 0 ++ bit_words u n k T in
          let D : List ℕ = drop (start_len u n) w in
          let L : ℕ = length (image u n c T) in
          let m : length X ≡ start_len u n = (let a = length-append (replicate 6 0) (bit_words u n k T) in let c = length-words u n T k in omega arith) in
          let g : start_len u n ≤ L = start_le c in
          let d : ℕ = L - start_len u n in
          let e : L ≡ length X + d = omega arith in
          let f : start_len u n + d ≡ L = omega arith in
          ap (drop L) (sym (append_assoc (replicate 6 0) (bit_words u n k T) D)) ∙ ap (λ (y : ℕ). drop y (X ++ D)) e ∙ drop-append-add X D d
          ∙ drop-drop d (start_len u n) w ∙ ap (λ (y : ℕ). drop y w) f

      -- of the builder and the words as a program has them
      module _ (b' : Builder) (eb : b' ≡ builder u n n (last_of T)) (x : List ℕ) (ex : x ≡ filed_in u n T w) where
        same-image : image_of b' c x ≡ image u n c T
        same-image = ap₂ (λ (z : Builder) (v : List ℕ). image_of z c v) eb ex ∙ image_is c

        pub ready : (s : Sizes) → s ≡ sizes_of u n → length (image u n c T) ≤ length w → Finishable b' c s x
        ready s es r = record {
          holding = subst⁻¹ (λ (y : Builder). Holding y x) eb (subst⁻¹ (Holding b) ex holding);
          sizes = es ∙ ap (λ (y : Builder). sizes_of y.universe y.num_vals) (sym eb);
          room = subst⁻¹ (λ (y : ℕ). length (image_of b' c x) ≤ y) (ap length ex ∙ length_held T) (subst⁻¹ (λ (I : List ℕ). length I ≤ length w) same-image r);
        }

        pub wrote : (y : List ℕ) → y ≡ finished_words b' c x → y ≡ image u n c T ++ drop (length (image u n c T)) w
        wrote y e =
            e ∙ ap₂ (λ (I v : List ℕ). I ++ drop (length I) v) same-image ex
            ∙ ap (λ (r : List ℕ). image u n c T ++ r) later_words

        pub wrote_length : (k : ℕ) → k ≡ length (image_of b' c x) → k ≡ length (image u n c T)
        wrote_length k e = e ∙ ap length same-image
