-- `broadword::bit_position` meets its contract: at the top six bits of the product the table has its rule. Assumes nothing.
use mathlib.Core.Path.{ap, ◌∙◌}
use Prim.Native.Nat.{ℕ, ◌*◌, ◌/◌, ◌%◌, ◌^◌}
use lib.ListN.{get_or}
use Rattle.broadword.proofs.PlaceTable.{entries, ruled}
use Rattle.broadword.proofs.bit_position.Goals as goal

pub returns : goal.returns
unfolding entries
returns c k h e = ap (λ (p : ℕ). get_or entries (p / 2 ^ 58) 0) (c.wrapping_mul.ensures ∙ ap (λ (x : ℕ). (0x07ED_D5E5_9A4E_28C2 * x) % 2 ^ 64) e) ∙ ruled k h
