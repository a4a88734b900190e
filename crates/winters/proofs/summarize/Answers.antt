-- `winters::summarize` meets its contract. Assumes nothing.
use mathlib.Core.Path.{sym, ap, ◌∙◌}
use Rattle.elias_fano.specs.Accept.{times}
use Rattle.elias_fano.proofs.Images as images
use Rattle.winters.specs.Winters.{summary_of}
use Rattle.winters.proofs.Spans as spans
use Rattle.winters.proofs.summarize.Goals as goal

pub returns : goal.returns
returns c =
    c.summarize_on.ensures
    ∙ sym (ap summary_of (spans.span_begins _ c.args.s c.args.e _ (times c.args.image.now.words.now) (images.is_fit _ c.args.image.now.ok).rises c.begin_from-from.ensures.1))
