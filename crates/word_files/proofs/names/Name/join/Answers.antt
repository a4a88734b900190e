-- `word_files::names::Name::join` meets its contract. Assumes nothing.
use Rattle.std.proofs.Common.{List, ℕ, ◌≡◌, ◌+◌, ◌-◌, ◌++◌, ◌≤◌, ◌<◌, ◌⊎◌, inl, inr, min, length, take, drop, arith, ap, ap₂, ◌∙◌, sym, length-append}
use Rattle.std.proofs.lemmas.Bool.{cases_lt}
use Rattle.std.proofs.lemmas.List.{append-nil, length-take-le, take_min, take_at, take-append-le}
use Rattle.std.proofs.lemmas.Slice.{take-put_mid}
use Rattle.std.proofs.Math.Seq.{take-length, take-append-add}
use borrow.Rule.Slice.PartMut.{put_mid}
use Rattle.word_files.proofs.names.Name.join.Goals as goal

-- the front of a list, and what it leaves room for of another
front : (n k m : ℕ) (xs ys : List ℕ) → k ≡ min (length xs) n → m ≡ min (length ys) (n - k) → take k xs ++ take m ys ≡ take n (xs ++ ys)
front n k m xs ys hk hm = by (cases_lt (length xs) n)
  where
    by : (length xs < n) ⊎ (n ≤ length xs) → take k xs ++ take m ys ≡ take n (xs ++ ys)
    by (inl l) =
        let a : k ≡ length xs = omega arith in
        let b : m ≡ min (n - length xs) (length ys) = omega arith in
        let j : length xs + (n - length xs) ≡ n = omega arith in
        ap₂ ◌++◌ (ap (λ (i : ℕ). take i xs) a ∙ take-length xs) (ap (λ (i : ℕ). take i ys) b ∙ take_min (n - length xs) ys)
        ∙ sym (take-append-add xs ys (n - length xs))
        ∙ ap (λ (i : ℕ). take i (xs ++ ys)) j
    by (inr l) =
        let a : k ≡ n = omega arith in
        let b : m ≡ 0 = omega arith in
        ap₂ (λ (i j : ℕ). take i xs ++ take j ys) a b
        ∙ append-nil (take n xs)
        ∙ sym (take-append-le n xs ys l)

joined : (k m : ℕ) (p s b y z : List ℕ) → k ≡ min (length p) 4096 → m ≡ min (length s) (4096 - k) → 4096 ≡ length b → y ≡ take k p → z ≡ take m s → take (k + m) (put_mid k (k + m - k) (y ++ drop k b) z) ≡ take 4096 (p ++ s)
joined k m p s b y z hk hm hb hy hz =
    let ly : length y ≡ k = ap length hy ∙ length-take-le k p (omega arith) in
    let lz : length z ≡ m = ap length hz ∙ length-take-le m s (omega arith) in
    take-put_mid k _ (y ++ drop k b) z (k + m) (omega arith) (omega (arith, length-append y (drop k b)))
    ∙ ap₂ ◌++◌ (take_at y (drop k b) k ly ∙ hy) hz
    ∙ front 4096 k m p s hk hm

pub returns : goal.returns
returns c =
    joined c.min-k.result c.min-m.result c.args.path.now c.args.suffix.now c.buffer-space.result _ _
    c.min-k.ensures c.min-m.ensures c.buffer-space.ensures c.copy_from_slice.ensures.after c.copy_from_slice-2.ensures.after
