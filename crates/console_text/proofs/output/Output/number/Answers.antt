-- `console_text::output::Output::number` meets its contract. Assumes nothing.
use Rattle.console_text.specs.Held.{held}
use Rattle.console_text.proofs.Gathering.{number_written, written_within}
use Rattle.console_text.proofs.output.Output.number.Goals as goal

pub invariant_of-self : goal.invariant_of-self
invariant_of-self c =
    let o = c.make_room.new.self in
    record { within = written_within c.args.x o.bytes o.at c.in-Some.end c.write.new.out c.make_room.ensures.room c.in-Some.ensures }

pub returns-in-Some : goal.returns-in-Some
returns-in-Some c = number_written (held c.args.self.now) (held c.make_room.new.self) c.args.x c.write.new.out _ c.make_room.ensures.value c.in-Some.ensures

pub returns-in_default : goal.returns-in_default
returns-in_default c = number_written (held c.args.self.now) (held c.make_room.new.self) c.args.x c.write.new.out _ c.make_room.ensures.value c.in_default.ensures
