-- The sparse vector of a bit vector, and what its questions are of the plain bits. Document 02 (ii). ws are the words of the bits, len is their length, c the
-- rank choice. Assumes nothing.
use Rattle.std.specs.Prelude.{◌≡◌, List, Bool, true, not, cond, ℕ, ◌^◌, ◌<◌, eqb, leb, length, take}
use Rattle.errors.specs.Answer.{Answer, value, none, refused, Outcome, leaves, passing}
use Rattle.broadword.specs.Bits.{count}
use Rattle.bit_words.specs.Vector.{bit_at, invalid}
use Rattle.bit_vectors.specs.Queries.{access_of, rank1_of, select_bit_of, predecessor1_of}
use Rattle.elias_fano_from_bits.specs.FromBits.{ones_of, ones_test, bits_written}
use Rattle.sarray.specs.Ask.{SparseQuestion, Access, Rank1, Select1, Predecessor1, Successor1, sparse_query}

-- 13; zeros have no image, and answer with no words; 2, 3, with k words lent
unfoldable pub sparse_test : List ℕ → ℕ → Bool → ℕ → Answer
sparse_test ws len c k =
    cond (invalid ws len) (refused 13)
    (cond (eqb (length (ones_of ws len)) 0) (value 0)
    (ones_test ws len c k))

-- else the image of the record of those bits stands at the front, and the later words stay
unfoldable pub sparse_from_bits : List ℕ → ℕ → Bool → List ℕ → Outcome
sparse_from_bits ws len c w = passing (sparse_test ws len c (length w)) w (bits_written ws len c w)

module _ (ws : List ℕ) (len : ℕ) (c : Bool) where
  -- the same questions of the plain bits, by the definitions of `bit_vectors`. It has no successor: that is the one that as many stand before as before p.
  -- From the length on there is no neighbour, though the plain bits have a predecessor there (document 02 (v))
  unfoldable pub plain : SparseQuestion → Answer
  plain (Access p) = access_of ws len p
  plain (Rank1 p) = cond (not c) (refused 8) (rank1_of ws len p)
  plain (Select1 k) = select_bit_of ws len true k
  plain (Predecessor1 p) = cond (not c) (refused 8) (cond (leb len p) none (predecessor1_of ws len p))
  plain (Successor1 p) = cond (not c) (refused 8) (cond (leb len p) none (select_bit_of ws len true (count (bit_at ws) p)))

-- every question of the first k words that an accepted call leaves is that question of the plain bits
abbrev pub AsksPlain : Type 0
AsksPlain =
    (ws : List ℕ) (len : ℕ) (c : Bool) (w : List ℕ) (k : ℕ) (x : List ℕ)
    → len < 2 ^ 64 → sparse_from_bits ws len c w ≡ leaves (value k) x → (q : SparseQuestion) → sparse_query len c (take k x) q ≡ plain ws len c q
