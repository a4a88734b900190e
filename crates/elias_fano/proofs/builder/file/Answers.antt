-- `elias_fano::builder::file` meets its contract.
-- Assumes nothing.
use mathlib.Core.Path.{ap, ◌∙◌}
use mathlib.Core.List.{List}
use Prim.Native.Nat.{ℕ, ◌+◌, ◌-◌, ◌*◌, ◌/◌, ◌%◌, ◌^◌, ◌<◌}
use native.Mathlib.Nat.{le_of_lt}
use native.Mathlib.Omega.{arith}
use lib.ListN.{length}
use Rattle.bit_words.specs.Vector.{overwrite}
use Rattle.bit_words.proofs.Overwrite.{length-overwrite}
use Rattle.elias_fano.proofs.Placing as placing
use Rattle.elias_fano.proofs.builder.file.Goals as goal

pub overflow_shr-upper : goal.overflow_shr-upper
overflow_shr-upper c = placing.low_small _ _ _ _ (omega (arith, c.well_formed.0)) c.requires

pub overflow_add-upper : goal.overflow_add-upper
overflow_add-upper c = placing.place_fits _ _ _ _ (omega (arith, c.well_formed.0)) c.requires

pub overflow_add-upper-2 : goal.overflow_add-upper-2
overflow_add-upper-2 c = placing.high_place_fits _ _ _ _ (omega (arith, c.well_formed.0)) c.requires

pub set_one-requires : goal.set_one-requires
set_one-requires c = placing.high_word _ _ _ _ (omega (arith, c.well_formed.0)) c.requires

pub overflow_mul-s : goal.overflow_mul-s
overflow_mul-s c = placing.low_words-fit _ _ _ _ (omega (arith, c.well_formed.0)) c.requires

pub overflow_mul-at : goal.overflow_mul-at
overflow_mul-at c = placing.low_bit-fits _ _ _ _ (omega (arith, c.well_formed.0)) c.requires

pub overflow_add-s : goal.overflow_add-s
overflow_add-s c = placing.low_place_fits _ _ _ _ (omega (arith, c.well_formed.0)) c.requires

pub overflow_shl-upper : goal.overflow_shl-upper
overflow_shl-upper c = placing.low_small _ _ _ _ (omega (arith, c.well_formed.0)) c.requires

pub overflow_sub-val : goal.overflow_sub-val
overflow_sub-val c = placing.raised_le _ _ _ _ (omega (arith, c.well_formed.0)) c.requires

pub put_bits-requires : goal.put_bits-requires
put_bits-requires c =
    let hu : c.args.b.universe < 2 ^ 64 = omega (arith, c.well_formed.0) in
    record {
      few = le_of_lt (placing.low_small _ _ _ _ hu c.requires);
      small = placing.rest_small _ _ _ _ hu c.requires;
      room = placing.low_places _ _ _ _ hu c.requires _ (ap length c.set_one.ensures ∙ length-overwrite c.args.buffer.now _ 1 1);
    }

pub returns : goal.returns
returns c =
    let l : ℕ = c.args.s.low_len in
    c.put_bits.ensures
    ∙ ap (λ (w : List ℕ). overwrite w (64 * c.args.s.low_at + c.args.b.num_pushed * l) l (c.args.val - (c.args.val / 2 ^ l * 2 ^ l) % 2 ^ 64)) c.set_one.ensures
    ∙ placing.filed_is _ _ _ _ (omega (arith, c.well_formed.0)) c.requires c.args.buffer.now
