-- What is claimed of the sum: words with one of them changed have another sum. Each step is one to one in either argument, since the factor is odd. Assumes nothing.
use Rattle.std.proofs.Common.{◌≡◌, ℕ, zero, suc, ◌+◌, ◌*◌, ◌/◌, ◌%◌, ◌^◌, ◌<◌, List, [], ◌∷◌, length, get_or, set, sym, refl, ap, ◌∙◌, mod-eq_of_lt, arith}
use native.Mathlib.Nat.{div-add-mod, add-mul-mod_self_right}
use Rattle.record_file.specs.Sum.{sum_with, sum_from, SeesOne}

with_small : (c w : ℕ) → sum_with c w < 2 ^ 64
unfolding sum_with
with_small c w = omega arith

same_word : (c v w : ℕ) → v < 2 ^ 64 → w < 2 ^ 64 → sum_with c v ≡ sum_with c w → v ≡ w
unfolding sum_with
same_word c v w hv hw e = omega arith

-- J undoes the product with K
undone : (M K J Q c : ℕ) → J * K ≡ 1 + Q * M → (J * ((c * K) % M)) % M ≡ c % M
undone M K J Q c e =
    let r = (c * K) % M in
    let q = (c * K) / M in
    let left : (j m q r : ℕ) → j * r + j * q * m ≡ j * (m * q + r) = λ j m q r. omega arith in
    let turn : (j c k : ℕ) → j * (c * k) ≡ c * (j * k) = λ j c k. omega arith in
    let right : (c q m : ℕ) → c * (1 + q * m) ≡ c + c * q * m = λ c q m. omega arith in
    sym (add-mul-mod_self_right (J * r) (J * q) M)
    ∙ ap (λ (x : ℕ). x % M) (left J M q r ∙ ap (λ (x : ℕ). J * x) (div-add-mod (c * K) M) ∙ turn J c K ∙ ap (λ (x : ℕ). c * x) e ∙ right c Q M)
    ∙ add-mul-mod_self_right c (c * Q) M

same_factor : (c d : ℕ) → c < 2 ^ 64 → d < 2 ^ 64 → (c * 1099511628211) % 2 ^ 64 ≡ (d * 1099511628211) % 2 ^ 64 → c ≡ d
same_factor c d hc hd e =
    let inverse : (x : ℕ) → (14886173955864302971 * ((x * 1099511628211) % 2 ^ 64)) % 2 ^ 64 ≡ x % 2 ^ 64 = λ x. undone (2 ^ 64) 1099511628211 14886173955864302971 887285111055 x refl in
    sym (mod-eq_of_lt hc) ∙ sym (inverse c) ∙ ap (λ (x : ℕ). (14886173955864302971 * x) % 2 ^ 64) e ∙ inverse d ∙ mod-eq_of_lt hd

same_sum : (c d w : ℕ) → c < 2 ^ 64 → d < 2 ^ 64 → sum_with c w ≡ sum_with d w → c ≡ d
unfolding sum_with
same_sum c d w hc hd e =
    let less : (x y : ℕ) → (x + w) % 2 ^ 64 ≡ (y + w) % 2 ^ 64 → x % 2 ^ 64 ≡ y % 2 ^ 64 = λ x y f. omega arith in
    same_factor c d hc hd (less (c * 1099511628211) (d * 1099511628211) e)

-- from equal ends back to equal starts
same_start : (ws : List ℕ) (c d : ℕ) → c < 2 ^ 64 → d < 2 ^ 64 → sum_from c ws ≡ sum_from d ws → c ≡ d
unfolding sum_from
same_start [] c d hc hd e = e
same_start (w ∷ ws) c d hc hd e = same_sum c d w hc hd (same_start ws (sum_with c w) (sum_with d w) (with_small c w) (with_small d w) e)

one_seen : (ws : List ℕ) (c i v : ℕ) → ((k : ℕ) → get_or ws k 0 < 2 ^ 64) → v < 2 ^ 64 → i < length ws → sum_from c (set ws i v) ≡ sum_from c ws → v ≡ get_or ws i 0
unfolding sum_from
one_seen [] c i v hs hv h e = absurd (omega arith)
one_seen (w ∷ ws) c zero v hs hv h e = same_word c v w hv (hs 0) (same_start ws (sum_with c v) (sum_with c w) (with_small c v) (with_small c w) e)
one_seen (w ∷ ws) c (suc i) v hs hv h e = one_seen ws (sum_with c w) i v (λ k. hs (suc k)) hv (omega arith) e

pub claims : SeesOne
unfolding SeesOne
claims ws i v hs hv h ne e = ne (one_seen ws 1 i v hs hv h e)
