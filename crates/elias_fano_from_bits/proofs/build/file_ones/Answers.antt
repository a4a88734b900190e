-- `elias_fano_from_bits::build::file_ones` meets its contract.
-- Assumes nothing.
use mathlib.Core.Path.{◌≡◌, refl, sym, ap, ◌∙◌, subst}
use mathlib.Core.List.{List, ◌++◌}
use Prim.Native.Nat.{ℕ, ◌≤◌}
use lib.ListN.{length, drop, replicate}
use Rattle.bit_words.proofs.Runs.{Fit}
use Rattle.elias_fano_words.specs.Sizes.{start_len}
use Rattle.elias_fano_words.specs.declared.sizes.Sizes.{Sizes}
use Rattle.elias_fano.proofs.Listing as listing
use Rattle.elias_fano_from_bits.specs.Building.{Writing}
use Rattle.elias_fano_from_bits.specs.FromBits.{ones_of}
use Rattle.elias_fano_from_bits.proofs.Ones as ones
use Rattle.elias_fano_from_bits.proofs.build.file_ones.Goals as goal

-- the words that are zeroed, as the start leaves them
module _ (ws : List ℕ) (len n : ℕ) (s : Sizes) (w : List ℕ) (p : Writing ws len n s (length w)) (fw : Fit w) (x : List ℕ) (e : x ≡ replicate s.start_len 0 ++ drop s.start_len w) where
  abbrev N : ℕ
  N = length (ones_of ws len)

  start_is : s.start_len ≡ start_len len N
  start_is = ap (λ (z : Sizes). z.start_len) p.sizable.sizes

  begun : x ≡ replicate (start_len len N) 0 ++ drop (start_len len N) w
  begun = e ∙ ap (λ (k : ℕ). replicate k 0 ++ drop k w) start_is

  same : (drop (start_len len N) x ≡ drop (start_len len N) w) × (length x ≡ length w)
  same = listing.zeroed len N (ones_of ws len) (ones.fits ws len p.sizable.countable) refl w fw p.room x begun

  zeroed : x ≡ replicate (start_len len N) 0 ++ drop (start_len len N) x
  zeroed = begun ∙ ap (λ (D : List ℕ). replicate (start_len len N) 0 ++ D) (sym same.0)

  writing : Writing ws len n s (length x)
  writing = record { sizable = p.sizable; room = subst (λ (k : ℕ). start_len len N ≤ k) (sym same.1) p.room }

pub returns : goal.returns
returns c =
    let ws = c.args.words.now in
    let fw : Fit c.args.buffer.now = λ k. (c.slice_known-1.given k).fits in
    let e = c.fill.ensures in
    let h = same ws c.args.len c.args.n c.args.s c.args.buffer.now c.requires fw _ e in
    let q = c.file_all.ensures in
    (q.0 ∙ listing.same_later c.args.len (length (ones_of ws c.args.len)) (ones_of ws c.args.len) (ones.fits ws c.args.len c.requires.sizable.countable) refl c.args.buffer.now fw c.requires.room _ h.0, q.1)
