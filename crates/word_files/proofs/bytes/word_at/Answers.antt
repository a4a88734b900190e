-- `word_files::bytes::word_at` meets its contract. Assumes nothing.
use Rattle.std.proofs.Common.{rules, ◌≡◌, ◌-◌, length, take, drop, arith, ap, ◌∙◌}
use Rattle.std.proofs.lemmas.List.{length-drop, length-take-le}
use Rattle.std.proofs.lemmas.Option.{MatchOption-at_some}
use lib.Seq.{take_all}
use Rattle.word_files.specs.Bytes.{number}
use Rattle.word_files.proofs.Packing.{eight_bytes}
use Rattle.word_files.proofs.bytes.word_at.Goals as goal

pub returns : goal.returns
returns c =
    let bs = c.args.bytes.now in
    let rest = drop c.args.at bs in
    let n = length-drop c.args.at bs in
    let same : take (length bs - c.args.at) rest ≡ rest = take_all _ rest (omega (arith, n)) in
    let e = MatchOption-at_some _ _ c.unwrap.result c.unwrap.ensures c.first_chunk.ensures.cases in
    let f : c.unwrap.result.now ≡ take 8 rest = e.same ∙ ap (take 8) same in
    search rules ∙ eight_bytes c.unwrap.result.now (ap length f ∙ length-take-le 8 rest (omega (arith, n))) ∙ ap number f
