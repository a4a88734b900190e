-- What is claimed of words as bytes: the bytes of words spell the words again. Assumes nothing.
use mathlib.Core.Path.{◌≡◌, refl, ap, ap₂, ◌∙◌}
use mathlib.Core.List.{[], ◌∷◌}
use Prim.Native.Nat.{ℕ, zero, suc, ◌+◌, ◌*◌, ◌/◌, ◌%◌, ◌^◌, ◌<◌}
use native.Mathlib.Nat.{pow-suc}
use native.Mathlib.Omega.{arith}
use lib.ListN.{length}
use lib.Seq.{take_at, drop_at}
use Rattle.word_files.specs.Bytes.{digits, bytes_of, number, words_of, PackedBack}
use Rattle.word_files.proofs.Packing.{length_digits}

number_digits : (k w : ℕ) → w < 256 ^ k → number (digits k w) ≡ w
unfolding number digits
number_digits zero w h = omega arith
number_digits (suc k) w h =
    let p : w / 256 < 256 ^ k = omega (arith, pow-suc 256 k) in
    ap (λ (n : ℕ). w % 256 + 256 * n) (number_digits k (w / 256) p) ∙ omega arith

pub claims : PackedBack
unfolding PackedBack words_of bytes_of
claims [] h = refl
claims (w ∷ ws) h =
    let e = length_digits 8 w in
    ap₂ ◌∷◌ (ap number (take_at (digits 8 w) (bytes_of ws) 8 e) ∙ number_digits 8 w (h 0))
    (ap (words_of (length ws)) (drop_at (digits 8 w) (bytes_of ws) 8 e) ∙ claims ws (λ i. h (suc i)))
