-- Words as one number, and bits of it that are overwritten: a number and its words, the words before and after those that change, and bits
-- above all others. Assumes nothing.
use mathlib.Core.Path.{◌≡◌, refl, sym, ap, ap₂, ◌∙◌, subst, subst⁻¹}
use mathlib.Core.List.{List, [], ◌∷◌, ◌++◌}
use Prim.Native.Nat.{ℕ, zero, suc, ◌+◌, ◌*◌, ◌/◌, ◌%◌, ◌^◌, ◌≤◌, ◌<◌}
use native.Mathlib.Nat.{zero-add, add_comm, suc-add, mul_comm, mul_assoc, div-eq_of_lt, div-add-mod', mod-lt, mod-eq_of_lt, mod-one, div-lt_iff_lt-mul, mul-add-div_right, mul-add-mod_self_right, lt_of_lt_of_le, suc-mul, le_dest, not-suc-le-zero, le_of_suc-le-suc}
use native.Mathlib.Omega.{arith}
use lib.Arith.{digits_lt, digits_div, digits_mod}
use lib.Dec.{lit<}
use lib.ListN.{length, get_or, length-append}
use lib.Pow.{pow_pos, pow-add, pow_mono, mod-pow-add, shr-shr, shr_lt, split, high, low}
use Rattle.broadword.specs.Bits.{bit}
use Rattle.broadword.specs.Fields.{digit, word}
use Rattle.broadword.proofs.Count.{bit-digit}
use Rattle.broadword.proofs.Fields.{word_lt}
use Rattle.bit_words.specs.Vector.{bit_at, number, number_words, overwrite}
use Rattle.bit_words.proofs.Runs.{Fit}
use Rattle.bit_words.proofs.Packed.{base}

-- ---- a number and its words

pub length-number_words : (k v : ℕ) → length (number_words k v) ≡ k
unfolding number_words
length-number_words zero v = refl
length-number_words (suc k) v = ap suc (length-number_words k (v / 2 ^ 64))

-- the word j of a number
get_d_number : (k v j : ℕ) → j < k → get_or (number_words k v) j 0 ≡ digit 64 v j
unfolding number_words digit
get_d_number zero v j h = absurd (not-suc-le-zero h)
get_d_number (suc k) v zero h = refl
get_d_number (suc k) v (suc j) h = get_d_number k (v / 2 ^ 64) j (le_of_suc-le-suc h)

pub fit-number_words : (k v : ℕ) → Fit (number_words k v)
unfolding number_words
fit-number_words zero v i = lit< tt
fit-number_words (suc k) v zero = mod-lt v {m = 2 ^ 64} (lit< tt)
fit-number_words (suc k) v (suc i) = fit-number_words k (v / 2 ^ 64) i

pub bit_at-number : (k v i : ℕ) → i < k * 64 → bit_at (number_words k v) i ≡ bit v i
unfolding bit_at
bit_at-number k v i h =
    ap (λ (w : ℕ). bit w (i % 64)) (get_d_number k v (i / 64) (omega arith)) ∙ bit-digit 64 v (i / 64) (i % 64) (omega arith) ∙ ap (bit v) (div-add-mod' i 64)

pub number-words : (ws : List ℕ) → Fit ws → number_words (length ws) (number ws) ≡ ws
unfolding number word number_words
number-words [] fit = refl
number-words (w ∷ ws) fit =
    ap₂ (λ (a : ℕ) (l : List ℕ). a ∷ l) (digits_mod (number ws) {m = 2 ^ 64} {r = w} (fit 0))
    (ap (number_words (length ws)) (digits_div (number ws) {m = 2 ^ 64} {r = w} (fit 0)) ∙ number-words ws (λ i. fit (suc i)))

pub number-mod : (k v : ℕ) → number (number_words k v) ≡ v % 2 ^ (k * 64)
unfolding number word number_words
number-mod zero v = sym (mod-one v)
number-mod (suc k) v =
    ap (λ (y : ℕ). y * 2 ^ 64 + v % 2 ^ 64) (number-mod k (v / 2 ^ 64)) ∙ sym (mod-pow-add v (k * 64) 64) ∙ ap (λ (y : ℕ). v % 2 ^ y) (sym (suc-mul k 64))

pub number_of_words : (k v : ℕ) → v < 2 ^ (k * 64) → number (number_words k v) ≡ v
number_of_words k v h = number-mod k v ∙ mod-eq_of_lt {n = v} {m = 2 ^ (k * 64)} h

pub number_lt : (ws : List ℕ) → Fit ws → number ws < 2 ^ (length ws * 64)
unfolding number
number_lt ws fit = word_lt 64 (λ i. get_or ws i 0) (length ws) (λ i _. fit i)

pub number_append : (A B : List ℕ) → number (A ++ B) ≡ number B * 2 ^ (length A * 64) + number A
unfolding number word
number_append [] B = let d : (y : ℕ) → y ≡ y * 1 + 0 = λ y. omega arith in d (number B)
number_append (a ∷ A) B =
    let d : (b P n : ℕ) → (b * P + n) * 2 ^ 64 + a ≡ b * (P * 2 ^ 64) + (n * 2 ^ 64 + a) = λ b P n. omega arith in
    ap (λ (y : ℕ). y * 2 ^ 64 + a) (number_append A B) ∙ d (number B) (2 ^ (length A * 64)) (number A)
    ∙ ap (λ (y : ℕ). number B * y + (number A * 2 ^ 64 + a)) (sym (base (length A)))

-- the words of a number above another's
pub words_append : (j k y z : ℕ) → z < 2 ^ (j * 64) → number_words (j + k) (y * 2 ^ (j * 64) + z) ≡ number_words j z ++ number_words k y
unfolding number_words
words_append zero k y z h =
    let e : z ≡ 0 = omega arith in
    let d : y * 1 + z ≡ y = omega arith in
    ap₂ number_words (zero-add k) d
words_append (suc j) k y z h =
    let P : ℕ = 2 ^ (j * 64) in
    let q : ℕ = z / 2 ^ 64 in
    let r : ℕ = z % 2 ^ 64 in
    let l : r < 2 ^ 64 = mod-lt z {m = 2 ^ 64} (lit< tt) in
    let lq : q < P = (div-lt_iff_lt-mul (pow_pos 64)).1 (subst (λ (b : ℕ). z < b) (base j) h) in
    let d : (a b : ℕ) → y * (P * 2 ^ 64) + (a * 2 ^ 64 + b) ≡ (y * P + a) * 2 ^ 64 + b = λ a b. omega arith in
    let e : y * 2 ^ (suc j * 64) + z ≡ (y * P + q) * 2 ^ 64 + r = ap₂ (λ (b c : ℕ). y * b + c) (base j) (sym (div-add-mod' z (2 ^ 64))) ∙ d q r in
    ap₂ number_words (suc-add j k) e
    ∙ ap₂ (λ (a b : ℕ). a ∷ number_words (j + k) b) (digits_mod (y * P + q) {m = 2 ^ 64} {r = r} l) (digits_div (y * P + q) {m = 2 ^ 64} {r = r} l)
    ∙ ap (λ (m : List ℕ). r ∷ m) (words_append j k y q lq)

-- ---- bits of a number that are overwritten

-- the number after the width bits from the place p on become x
unfoldable pub over : ℕ → ℕ → ℕ → ℕ → ℕ
over v p width x = v / 2 ^ (p + width) * 2 ^ (p + width) + x * 2 ^ p + v % 2 ^ p

pub over_lt : (a v p width x : ℕ) → v < 2 ^ a → p + width ≤ a → x < 2 ^ width → over v p width x < 2 ^ a
unfolding over
over_lt a v p width x hv h hx =
    let e = le_dest h in
    let ea : a ≡ e.0 + (p + width) = omega (arith, e.1) in
    let U : ℕ = 2 ^ (p + width) in
    let hu : v / U < 2 ^ e.0 = shr_lt e.0 (p + width) (subst (λ (y : ℕ). v < 2 ^ y) ea hv) in
    let hm : x * 2 ^ p + v % 2 ^ p < U = subst (λ (y : ℕ). x * 2 ^ p + v % 2 ^ p < y) (sym (pow-add 2 width p) ∙ ap (λ (y : ℕ). 2 ^ y) (add_comm width p)) (digits_lt hx (mod-lt v (pow_pos p))) in
    let l : v / U * U + (x * 2 ^ p + v % 2 ^ p) < 2 ^ e.0 * U = digits_lt hu hm in
    let s : 2 ^ e.0 * U ≡ 2 ^ a = sym (pow-add 2 e.0 (p + width)) ∙ ap (λ (y : ℕ). 2 ^ y) (sym ea) in
    let d : (i j k : ℕ) → i + j + k ≡ i + (j + k) = λ i j k. omega arith in
    subst⁻¹ (λ (y : ℕ). y < 2 ^ a) (d (v / U * U) (x * 2 ^ p) (v % 2 ^ p)) (subst (λ (y : ℕ). v / U * U + (x * 2 ^ p + v % 2 ^ p) < y) s l)

-- in the number y above z
over-above : (a y z p width x : ℕ) → z < 2 ^ a → over (y * 2 ^ a + z) (a + p) width x ≡ over y p width x * 2 ^ a + z
unfolding over
over-above a y z p width x h =
    let v : ℕ = y * 2 ^ a + z in
    let hi : v / 2 ^ (a + p + width) ≡ y / 2 ^ (p + width) =
    ap (λ (n : ℕ). v / 2 ^ n) (let e : a + p + width ≡ a + (p + width) = omega arith in e) ∙ sym (shr-shr v a (p + width)) ∙ ap (λ (n : ℕ). n / 2 ^ (p + width)) (high y a h) in
    let P : 2 ^ (a + p + width) ≡ 2 ^ (p + width) * 2 ^ a = ap (λ (n : ℕ). 2 ^ n) (let e : a + p + width ≡ p + width + a = omega arith in e) ∙ pow-add 2 (p + width) a in
    let Q : 2 ^ (a + p) ≡ 2 ^ p * 2 ^ a = ap (λ (n : ℕ). 2 ^ n) (add_comm a p) ∙ pow-add 2 p a in
    let lo : v % 2 ^ (a + p) ≡ y % 2 ^ p * 2 ^ a + z =
    ap (λ (n : ℕ). v % 2 ^ n) (add_comm a p) ∙ mod-pow-add v p a ∙ ap₂ (λ (m n : ℕ). m % 2 ^ p * 2 ^ a + n) (high y a h) (low y a h) in
    let d : (i j k l m : ℕ) → i * (j * m) + x * (k * m) + (l * m + z) ≡ (i * j + x * k + l) * m + z = λ i j k l m. omega arith in
    ap₂ (λ (m n : ℕ). m * n + x * 2 ^ (a + p) + v % 2 ^ (a + p)) hi P
    ∙ ap₂ (λ (m n : ℕ). y / 2 ^ (p + width) * (2 ^ (p + width) * 2 ^ a) + x * m + n) Q lo
    ∙ d (y / 2 ^ (p + width)) (2 ^ (p + width)) (2 ^ p) (y % 2 ^ p) (2 ^ a)

-- in the number z below y
over_below : (a y z p width x : ℕ) → p + width ≤ a → over (y * 2 ^ a + z) p width x ≡ y * 2 ^ a + over z p width x
unfolding over
over_below a y z p width x h =
    let v : ℕ = y * 2 ^ a + z in
    let c = le_dest h in
    let D : ℕ = 2 ^ c.0 in
    let U : ℕ = 2 ^ (p + width) in
    let E : ℕ = 2 ^ (c.0 + width) in
    let A : 2 ^ a ≡ D * U = ap (λ (n : ℕ). 2 ^ n) (let e : a ≡ c.0 + (p + width) = omega (arith, c.1) in e) ∙ pow-add 2 c.0 (p + width) in
    let B : 2 ^ a ≡ E * 2 ^ p = ap (λ (n : ℕ). 2 ^ n) (let e : a ≡ c.0 + width + p = omega (arith, c.1) in e) ∙ pow-add 2 (c.0 + width) p in
    let hi : v / U ≡ y * D + z / U =
    ap (λ (n : ℕ). (y * n + z) / U) A ∙ ap (λ (n : ℕ). (n + z) / U) (sym (mul_assoc y D U)) ∙ mul-add-div_right (pow_pos (p + width)) (y * D) z in
    let lo : v % 2 ^ p ≡ z % 2 ^ p =
    ap (λ (n : ℕ). (y * n + z) % 2 ^ p) B ∙ ap (λ (n : ℕ). (n + z) % 2 ^ p) (sym (mul_assoc y E (2 ^ p))) ∙ mul-add-mod_self_right (y * E) (2 ^ p) z in
    let d : (i j k l m : ℕ) → (y * i + j) * k + l + m ≡ y * (i * k) + (j * k + l + m) = λ i j k l m. omega arith in
    ap₂ (λ (m n : ℕ). m * U + x * 2 ^ p + n) hi lo ∙ d D (z / U) U (x * 2 ^ p) (z % 2 ^ p) ∙ ap (λ (n : ℕ). y * n + over z p width x) (sym A)

-- ---- words that are overwritten

pub length-overwrite : (ws : List ℕ) (p width x : ℕ) → length (overwrite ws p width x) ≡ length ws
unfolding overwrite over
length-overwrite ws p width x = length-number_words (length ws) (over (number ws) p width x)

-- in the words after A
pub over_right : (A B : List ℕ) (p width x : ℕ) → Fit A → overwrite (A ++ B) (64 * length A + p) width x ≡ A ++ overwrite B p width x
unfolding overwrite over
over_right A B p width x fit =
    let a : ℕ = length A * 64 in
    let l : number A < 2 ^ a = number_lt A fit in
    ap (λ (n : ℕ). overwrite (A ++ B) (n + p) width x) (mul_comm 64 (length A))
    ∙ ap₂ (λ (k n : ℕ). number_words k (over n (a + p) width x)) (length-append A B) (number_append A B)
    ∙ ap (number_words (length A + length B)) (over-above a (number B) (number A) p width x l)
    ∙ words_append (length A) (length B) (over (number B) p width x) (number A) l
    ∙ ap (λ (m : List ℕ). m ++ overwrite B p width x) (number-words A fit)

-- in the words before B
pub over-left : (A B : List ℕ) (p width x : ℕ) → Fit A → Fit B → p + width ≤ 64 * length A → x < 2 ^ width → overwrite (A ++ B) p width x ≡ overwrite A p width x ++ B
unfolding overwrite over
over-left A B p width x fitA fitB h hx =
    let a : ℕ = length A * 64 in
    let h' : p + width ≤ a = omega arith in
    ap₂ (λ (k n : ℕ). number_words k (over n p width x)) (length-append A B) (number_append A B)
    ∙ ap (number_words (length A + length B)) (over_below a (number B) (number A) p width x h')
    ∙ words_append (length A) (length B) (number B) (over (number A) p width x) (over_lt a (number A) p width x (number_lt A fitA) h' hx)
    ∙ ap (λ (m : List ℕ). overwrite A p width x ++ m) (number-words B fitB)

-- above all bits of a number
pub over-number : (k v p width x : ℕ) → v < 2 ^ p → v < 2 ^ (k * 64) → overwrite (number_words k v) p width x ≡ number_words k (v + x * 2 ^ p)
unfolding overwrite
over-number k v p width x hp hk =
    let U : ℕ = 2 ^ (p + width) in
    let z : v / U ≡ 0 = div-eq_of_lt {n = v} {m = U} (lt_of_lt_of_le hp (pow_mono (let e : p ≤ p + width = omega arith in e))) in
    let d : (n y : ℕ) → 0 * n + y + v ≡ v + y = λ n y. omega arith in
    ap₂ (λ (l n : ℕ). number_words l (n / U * U + x * 2 ^ p + n % 2 ^ p)) (length-number_words k v) (number_of_words k v hk)
    ∙ ap₂ (λ (m n : ℕ). number_words k (m * U + x * 2 ^ p + n)) z (mod-eq_of_lt {n = v} {m = 2 ^ p} hp)
    ∙ ap (number_words k) (d U (x * 2 ^ p))

-- no bits
pub over_none : (ws : List ℕ) (p : ℕ) → Fit ws → overwrite ws p 0 0 ≡ ws
unfolding overwrite
over_none ws p fit =
    let v : ℕ = number ws in
    let d : (m n P : ℕ) → m * P + 0 * P + n ≡ m * P + n = λ m n P. omega arith in
    ap (λ (n : ℕ). number_words (length ws) (v / 2 ^ n * 2 ^ n + 0 * 2 ^ p + v % 2 ^ p)) (let e : p + 0 ≡ p = omega arith in e)
    ∙ ap (number_words (length ws)) (d (v / 2 ^ p) (v % 2 ^ p) (2 ^ p) ∙ split v p) ∙ number-words ws fit
