-- `weekly_windows::order::Cuts::is_inside` meets its contract. Assumes nothing.
use Rattle.weekly_windows.proofs.Cutting as cutting
use Rattle.weekly_windows.proofs.order.Cuts.is_inside.Goals as goal

pub returns : goal.returns
returns c = cutting.upto_inside _ _ _ _ c.args.self.now.ordered c.cuts_upto.ensures
