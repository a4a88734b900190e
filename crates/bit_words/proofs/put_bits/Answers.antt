-- `bit_words::put_bits` meets its contract.
-- Assumes nothing.
use native.Mathlib.Omega.{arith}
use Rattle.bit_words.proofs.Stores.{put_none, put-within, put_across}
use Rattle.bit_words.proofs.put_bits.Goals as goal

pub returns-then-width-eq0 : goal.returns-then-width-eq0
returns-then-width-eq0 c = put_none c.args.words.now c.args.pos c.args.width c.args.x (λ i. (c.slice_known-1.given i).fits) c.if-width-eq0.true c.requires.small

pub returns-then-width-room : goal.returns-then-width-room
returns-then-width-room c = put-within c.args.words.now c.args.pos c.args.width c.args.x (λ i. (c.slice_known-1.given i).fits) c.requires.small c.low_mask.result c.low_mask.ensures (omega (arith, c.requires.room)) c.if-width-room.true

pub returns : goal.returns
returns c = put_across c.args.words.now c.args.pos c.args.width c.args.x (λ i. (c.slice_known-1.given i).fits) c.requires.small c.low_mask-2.result c.low_mask-2.ensures (omega (arith, c.requires.room)) c.if-width-room.false c.requires.few
