-- `console_text::output::Output::byte` meets its contract. Assumes nothing.
use Rattle.console_text.proofs.Gathering.{byte_put}
use Rattle.console_text.specs.Held.{held}
use Rattle.console_text.proofs.output.Output.byte.Goals as goal

pub returns : goal.returns
returns c = byte_put (held c.args.self.now) (held c.make_room.new.self) c.args.b c.args.self.now.within c.make_room.ensures.value
