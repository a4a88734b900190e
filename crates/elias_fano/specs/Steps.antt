-- What each call on a builder answers and leaves: the builder and every word lent. u is the universe, n the declared count, m how many
-- times were accepted. Document 01, "The image" and "Refusals with an example"; the limit is document 02 (vii); going on after a power cut is the port's own. Assumes nothing.
use Rattle.std.specs.Prelude.{List, [], ◌∷◌, ◌++◌, Bool, true, not, ◌&&◌, cond, ℕ, ◌+◌, ◌-◌, ◌*◌, ◌/◌, ◌%◌, ◌^◌, eqb, leb, ltb, length, take, drop, replicate}
use Rattle.errors.specs.Answer.{Answer, value, none, done, refused}
use Rattle.bit_words.specs.Vector.{overwrite}
use Rattle.elias_fano_words.specs.Sizes.{low_len, low_at, start_len, limit}
use Rattle.elias_fano_words.specs.Image.{image}
use Rattle.elias_fano_words.specs.Times.{last_of, times_in, holds}
use Rattle.elias_fano.specs.declared.builder.Builder.{Builder}
use Rattle.elias_fano.specs.Made.{Made, made, builder, nobody}

-- ---- a call: first its tests, then its work

-- what a call leaves whose tests say `done` or refuse, and whose work leaves m. A refusal leaves builder and words as they were
abbrev pub tested : Answer → Builder → List ℕ → Made → Made
tested done b w m = m
tested (refused k) b w m = made (refused k) b w
tested (value k) b w m = made (value k) b w
tested none b w m = made none b w

-- ---- the limit: 1, 2

unfoldable pub limit_of : ℕ → ℕ → Bool → Answer
limit_of u n c =
    cond (eqb n 0) (refused 1)
    (cond (ltb 16777216 n) (refused 2)
    (value (limit u n c)))

-- ---- a start: 1, 2, 3

-- of k words lent
unfoldable pub new_test : ℕ → ℕ → ℕ → Answer
new_test u n k =
    cond (eqb n 0) (refused 1)
    (cond (ltb 16777216 n) (refused 2)
    (cond (ltb k (start_len u n)) (refused 3)
    done))

unfoldable pub new_of : ℕ → ℕ → List ℕ → Made
new_of u n w =
    tested (new_test u n (length w)) nobody w
    (made done (builder u n 0 0) (replicate (start_len u n) 0 ++ drop (start_len u n) w))

-- ---- a reading and a finish: 7 by the builder's numbers, 3 by the start's size, then others

-- a run could hold these numbers
unfoldable pub sound : Builder → Bool
sound b =
    leb 1 b.num_vals && (leb b.num_vals 16777216 && (leb b.num_pushed b.num_vals
    && cond (eqb b.num_pushed 0) (eqb b.last 0) (ltb b.last b.universe)))

-- of k words lent, where `others` is what the other tests say
unfoldable pub builder_test : Builder → ℕ → Answer → Answer
builder_test b k others =
    cond (not (sound b)) (refused 7)
    (cond (ltb k (start_len b.universe b.num_vals)) (refused 3)
    others)

-- ---- a reading: 7, 3, 4, 5, 6

unfoldable pub time_test : Builder → ℕ → Answer
time_test b t =
    cond (ltb t b.last) (refused 4)
    (cond (leb b.universe t) (refused 5)
    (cond (eqb b.num_pushed b.num_vals) (refused 6)
    done))

abbrev pub push_test : Builder → ℕ → ℕ → Answer
push_test b t k = builder_test b k (time_test b t)

-- the words after the time t with the number m is filed: its one high bit and its low bits, and no other
unfoldable pub filed : ℕ → ℕ → ℕ → ℕ → List ℕ → List ℕ
filed u n m t w =
    overwrite (overwrite w (64 * 6 + (t / 2 ^ low_len u n + m)) 1 1)
    (64 * low_at u n + m * low_len u n) (low_len u n) (t % 2 ^ low_len u n)

unfoldable pub push_of : Builder → ℕ → List ℕ → Made
push_of b t w =
    tested (push_test b t (length w)) b w
    (made done (builder b.universe b.num_vals (b.num_pushed + 1) t) (filed b.universe b.num_vals b.num_pushed t w))

-- ---- a finish: 7 by the builder's numbers, 3 by the start's size, 7 by the bits, 3 by the image's length

-- the high and low words of the start
abbrev pub held_words : Builder → List ℕ → List ℕ
held_words b w = take (start_len b.universe b.num_vals - 6) (drop 6 w)

-- the times in them
unfoldable pub held_times : Builder → List ℕ → List ℕ
held_times b w = times_in b.universe b.num_vals b.num_pushed (held_words b w)

-- they hold nothing else, and end in the last time
unfoldable pub intact : Builder → List ℕ → Bool
intact b w = holds b.universe b.num_vals b.num_pushed (held_words b w) && eqb (last_of (held_times b w)) b.last

-- the image that a finish writes
unfoldable pub image_of : Builder → Bool → List ℕ → List ℕ
image_of b c w = image b.universe b.num_vals c (held_times b w)

unfoldable pub image_test : Builder → Bool → List ℕ → Answer
image_test b c w =
    cond (not (intact b w)) (refused 7)
    (cond (ltb (length w) (length (image_of b c w))) (refused 3)
    done)

abbrev pub build_test : Builder → Bool → List ℕ → Answer
build_test b c w = builder_test b (length w) (image_test b c w)

-- the image stands at the front, and the later words stay
abbrev pub finished_words : Builder → Bool → List ℕ → List ℕ
finished_words b c w = image_of b c w ++ drop (length (image_of b c w)) w

unfoldable pub build_of : Builder → Bool → List ℕ → Made
build_of b c w = tested (build_test b c w) b w (made (value (length (image_of b c w))) b (finished_words b c w))

-- ---- going on with what was stored: 7 by the builder's numbers, 3 by the start's size, 7 by the words

unfoldable pub zeros : List ℕ → Bool
zeros [] = true
zeros (x ∷ xs) = eqb x 0 && zeros xs

-- the header's words are 0, as before a finish, and the others hold nothing but the times
unfoldable pub unfinished : Builder → List ℕ → Bool
unfinished b w = zeros (take 6 w) && intact b w

abbrev pub resume_test : Builder → List ℕ → Answer
resume_test b w = builder_test b (length w) (cond (unfinished b w) done (refused 7))

-- builder and words stay
unfoldable pub resume_of : Builder → List ℕ → Made
resume_of b w = made (resume_test b w) b w
