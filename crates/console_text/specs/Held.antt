-- What an output holds. Assumes nothing.
use Rattle.console_text.specs.declared.output.Output.{Output}
use Rattle.console_text.specs.Gathered.{Gathered, gathered}

abbrev pub held : Output → Gathered
held o = gathered o.at o.bytes
