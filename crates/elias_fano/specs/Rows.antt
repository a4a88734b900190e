-- Document 01's examples of the calls as rows of one table, those of the search as document 02 (i) has them, of the predecessor as (iii), those of the limit (vii), some of going on, and the theorem that covers the table. Assumes nothing.
use Rattle.std.specs.Prelude.{◌≡◌, List, [], ◌∷◌, ◌++◌, map, Bool, true, false, ℕ, ◌-◌, ◌^◌, drop, replicate}
use Rattle.std.proofs.Common.{ap, zero-le, le-ltb, le-leb}
use Rattle.errors.specs.Answer.{Answer, value, none, done, refused, Outcome, leaves}
use Rattle.broadword.specs.Bits.{bit, count}
use Rattle.broadword.specs.Fields.{word}
use Rattle.broadword.specs.Places.{last, select}
use Rattle.bit_words.specs.Vector.{bit_at, bit_over, number, number_words, overwrite}
use Rattle.darray_positions.specs.Index.{table, pos, blocks, size, wide, spill, before, entry, lanes, lane, lane_word, lane_words, overflow, index_words}
use Rattle.darray_positions.specs.Positions.{places}
use Rattle.darray.specs.Queries.{same}
use Rattle.elias_fano_words.specs.Sizes.{low_len, high_len, start_len, limit}
use Rattle.elias_fano_words.specs.Image.{high_from, low_number, high_words, low_words, image}
use Rattle.elias_fano_words.specs.Times.{rising, bit_words, time_in, times_in, holds}
use Rattle.elias_fano.specs.Accept.{fit, times, accepted}
use Rattle.elias_fano.specs.Ask.{Select, Delta, Rank, Predecessor, Successor, Binsearch, BinsearchRange, nth, gap, below, greatest, smallest, first_index, searched, ask, query}
use Rattle.elias_fano.specs.Made.{Made, made, builder}
use Rattle.elias_fano.specs.Steps.{tested, new_test, new_of, sound, builder_test, time_test, filed, push_of, held_times, intact, image_of, image_test, build_of, limit_of, zeros, unfinished, resume_of}

-- what is asked, and what document 01 says: an answer, and the words that are left
pub record Row : Type 0 where
  pub asked : Outcome
  pub says : Outcome

-- a question leaves no words
abbrev row : Answer → Answer → Row
row a s = record { asked = leaves a []; says = leaves s [] }

-- a call on a builder leaves every word lent
abbrev call : Made → Answer → List ℕ → Row
call m s w = record { asked = leaves m.answer m.words; says = leaves s w }

-- 16 words of 5 are lent
unfoldable pub start : ℕ → ℕ → Made
start u n = new_of u n (replicate 16 5)

-- some readings: what the last of them leaves
unfoldable pub filed_from : Made → List ℕ → Made
filed_from m [] = m
filed_from m (t ∷ T) = filed_from (push_of m.builder t m.words) T

unfoldable pub reading : ℕ → ℕ → List ℕ → Made
reading u n T = filed_from (start u n) T

-- a finish after them
unfoldable pub finish : ℕ → ℕ → List ℕ → Bool → Made
finish u n T c = build_of (reading u n T).builder c (reading u n T).words

-- the image of u 20, n 4, times 3 4 4 13, with the rank index
unfoldable pub four : List ℕ
four = 20 ∷ 4 ∷ 4 ∷ 1 ∷ 0 ∷ 0 ∷ 77 ∷ 67 ∷ 0 ∷ 0 ∷ 1 ∷ 0 ∷ []

-- that of these settings and any times, without it
unfoldable pub unranked : List ℕ → List ℕ
unranked T = image 20 4 false T

-- that of u 2^64 - 1, n 1, time 2^64 - 2, without it
unfoldable pub widest : List ℕ
widest = (2 ^ 64 - 1) ∷ 1 ∷ 1 ∷ 0 ∷ 0 ∷ 0 ∷ 2 ∷ (2 ^ 63 - 2) ∷ 1 ∷ 0 ∷ []

-- t is any time
unfoldable pub rows : ℕ → List Row
rows t =
    call (reading 0 1 (t ∷ [])) (refused 5) (replicate 7 0 ++ replicate 9 5)
    ∷ call (finish 0 1 [] false) (value 7) (0 ∷ 1 ∷ 0 ∷ 0 ∷ 0 ∷ 0 ∷ 0 ∷ replicate 9 5)
    ∷ call (start 20 4) done (replicate 8 0 ++ replicate 8 5)
    ∷ call (reading 20 4 (3 ∷ 4 ∷ 4 ∷ 13 ∷ [])) done (replicate 6 0 ++ (77 ∷ 67 ∷ replicate 8 5))
    ∷ call (finish 20 4 (3 ∷ 4 ∷ 4 ∷ 13 ∷ []) true) (value 12) (four ++ replicate 4 5)
    ∷ row (query four (Select 0)) (value 3)
    ∷ row (query four (Select 1)) (value 4)
    ∷ row (query four (Select 2)) (value 4)
    ∷ row (query four (Select 3)) (value 13)
    ∷ row (query four (Select 4)) none
    ∷ row (query four (Rank 4)) (value 1)
    ∷ row (query four (Rank 14)) (value 4)
    ∷ row (query four (Rank 20)) (value 4)
    ∷ row (query four (Rank 21)) none
    ∷ row (query four (Predecessor 19)) (value 13)
    ∷ row (query four (Predecessor 20)) (value 13)
    ∷ row (query four (Successor 5)) (value 13)
    ∷ row (query four (Successor 14)) none
    ∷ row (query four (Delta 0)) (value 3)
    ∷ row (query four (Delta 1)) (value 1)
    ∷ row (query four (Delta 2)) (value 0)
    ∷ row (query four (Delta 3)) (value 9)
    ∷ row (query (0 ∷ 1 ∷ 0 ∷ 0 ∷ 0 ∷ 0 ∷ 0 ∷ []) (Rank 0)) (value 0)
    ∷ row (query (image 8 64 false (replicate 64 7)) (Binsearch 7)) (value 0)
    ∷ row (query (image 8 65 false (replicate 65 7)) (Binsearch 7)) (value 0)
    ∷ row (query (image 8 65 false (replicate 65 7)) (BinsearchRange 3 65 7)) (value 3)
    ∷ row (query (four ++ replicate 4 5) (Select 3)) (refused 7)
    ∷ call (finish (2 ^ 64 - 1) 1 ((2 ^ 64 - 2) ∷ []) false) (value 10) (widest ++ replicate 6 5)
    ∷ row (query widest (Select 0)) (value (2 ^ 64 - 2))
    ∷ row (query ((2 ^ 64 - 1) ∷ 1 ∷ 1 ∷ 0 ∷ 0 ∷ 0 ∷ 4 ∷ 5 ∷ 2 ∷ 0 ∷ []) (Select 0)) (refused 7)
    ∷ call (start 20 0) (refused 1) (replicate 16 5)
    ∷ call (start 20 16777217) (refused 2) (replicate 16 5)
    ∷ call (new_of 20 4 (replicate 7 5)) (refused 3) (replicate 7 5)
    ∷ call (reading 20 4 (4 ∷ 3 ∷ [])) (refused 4) (replicate 6 0 ++ (2 ∷ 0 ∷ replicate 8 5))
    ∷ call (reading 20 4 (20 ∷ [])) (refused 5) (replicate 8 0 ++ replicate 8 5)
    ∷ call (reading 20 4 (3 ∷ 4 ∷ 4 ∷ 13 ∷ 13 ∷ [])) (refused 6) (replicate 6 0 ++ (77 ∷ 67 ∷ replicate 8 5))
    ∷ row (query [] (Select 0)) (refused 7)
    ∷ row (query (unranked (3 ∷ 4 ∷ 4 ∷ 13 ∷ [])) (Rank 4)) (refused 8)
    ∷ row (query (unranked (3 ∷ 4 ∷ 4 ∷ 13 ∷ [])) (Predecessor 18)) (refused 8)
    ∷ row (query (unranked (3 ∷ 4 ∷ 4 ∷ 13 ∷ [])) (Predecessor 19)) (value 13)
    ∷ row (query (unranked (3 ∷ 4 ∷ 4 ∷ 13 ∷ [])) (Predecessor 20)) (value 13)
    ∷ row (query (unranked []) (Predecessor 18)) (refused 8)
    ∷ row (query (unranked []) (Predecessor 20)) none
    ∷ row (query four (BinsearchRange 0 5 3)) (refused 9)
    ∷ row (limit_of 20 4 true) (value 12)
    ∷ row (limit_of 20 4 false) (value 10)
    ∷ row (limit_of 20 0 true) (refused 1)
    ∷ row (limit_of 20 16777217 true) (refused 2)
    ∷ row (limit_of 157680000 50000 true) (value 16111)
    ∷ call (resume_of (start 20 4).builder (start 20 4).words) done (replicate 8 0 ++ replicate 8 5)
    ∷ call (resume_of (builder 20 4 4 13) (replicate 6 0 ++ (77 ∷ 67 ∷ replicate 8 5))) done (replicate 6 0 ++ (77 ∷ 67 ∷ replicate 8 5))
    ∷ row (resume_of (builder 20 4 5 13) (replicate 6 0 ++ (77 ∷ 67 ∷ []))).answer (refused 7)
    ∷ row (resume_of (builder 20 4 4 13) (replicate 6 0 ++ (77 ∷ []))).answer (refused 3)
    ∷ row (resume_of (builder 20 4 4 12) (replicate 6 0 ++ (77 ∷ 67 ∷ []))).answer (refused 7)
    ∷ row (resume_of (builder 20 4 4 13) four).answer (refused 7)
    -- what it cannot see: a changed bit that leaves other times, here 2 4 4 13
    ∷ row (resume_of (builder 20 4 4 13) (replicate 6 0 ++ (77 ∷ 66 ∷ []))).answer done
    ∷ []

-- no time is below the universe 0
past : (t : ℕ) → time_test (builder 0 1 0 0) t ≡ refused 5
unfolding time_test
past t = simp (le-ltb t 0 (zero-le {n = t}), le-leb 0 t (zero-le {n = t}))

-- by computation, but for the one row with a time that is not known
pub rows_right : (t : ℕ) → map (λ (r : Row). r.asked) (rows t) ≡ map (λ (r : Row). r.says) (rows t)
unfolding rows four unranked widest start filed_from reading finish bit count word last select bit_at bit_over number number_words overwrite table pos blocks size wide spill before entry lanes lane lane_word lane_words overflow index_words places same low_len high_len start_len high_from low_number high_words low_words image rising bit_words time_in times_in holds fit times accepted nth gap below greatest smallest first_index searched ask query new_test new_of sound builder_test time_test filed push_of held_times intact image_of image_test build_of limit limit_of zeros unfinished resume_of
rows_right t =
    let w : List ℕ = replicate 7 0 ++ replicate 9 5 in
    let m : Answer → Made = λ a. tested a (builder 0 1 0 0) w (made done (builder 0 1 1 t) (filed 0 1 0 t w)) in
    ap (λ (a : Answer). leaves (m a).answer (m a).words ∷ drop 1 (map (λ (r : Row). r.says) (rows t))) (past t)
