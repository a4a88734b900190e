-- Laws of the sum. Assumes nothing.
use Rattle.std.proofs.Common.{◌≡◌, ℕ, suc, [], ◌∷◌, ◌+◌, ◌*◌, ◌%◌, ◌^◌, ◌<◌, ◌≤◌, List, length, get_or, drop, sym, ap, ◌∙◌, add-one, drop_of_length-le, drop-cons}
use native.Mathlib.Nat.{mod-add-mod}
use Rattle.record_file.specs.Sum.{sum_with, sum_from, sum_of}
use Rattle.elias_fano.specs.declared.builder.Builder.{Builder}

pub sum_with_is : (c w m r : ℕ) → m ≡ (c * 1099511628211) % 2 ^ 64 → r ≡ (m + w) % 2 ^ 64 → r ≡ sum_with c w
unfolding sum_with
sum_with_is c w m r e f = f ∙ ap (λ (x : ℕ). (x + w) % 2 ^ 64) e ∙ mod-add-mod (c * 1099511628211) (2 ^ 64) w

module _ (c : ℕ) (ws : List ℕ) (i : ℕ) where
  pub sum_more : (d : ℕ) → i < length ws → d ≡ sum_with c (get_or ws i 0) → sum_from c (drop i ws) ≡ sum_from d (drop (i + 1) ws)
  unfolding sum_from
  sum_more d h e = ap (sum_from c) (drop-cons ws i 0 h) ∙ ap (λ (x : ℕ). sum_from x (drop (suc i) ws)) (sym e) ∙ ap (λ (k : ℕ). sum_from d (drop k ws)) (sym (add-one i))

  pub sum_done : length ws ≤ i → sum_from c (drop i ws) ≡ c
  unfolding sum_from
  sum_done h = ap (sum_from c) (drop_of_length-le ws h)

-- the four numbers of a builder, and then the words
pub sum_is : (b : Builder) (ws ns : List ℕ) (c d : ℕ) → ns ≡ b.universe ∷ b.num_vals ∷ b.num_pushed ∷ b.last ∷ [] → c ≡ sum_from 1 ns → d ≡ sum_from c ws → d ≡ sum_of b ws
unfolding sum_of sum_from
sum_is b ws ns c d en ec ed = ed ∙ ap (λ (x : ℕ). sum_from x ws) (ec ∙ ap (sum_from 1) en)
