-- `console_record::Command::done` meets its contract. Assumes nothing.
use Rattle.console_record.proofs.Command.done.Goals as goal

pub returns-in-Forge : goal.returns-in-Forge
returns-in-Forge c = rw c.in-Forge.is (c.forge.ensures c.args.buffer.now)
