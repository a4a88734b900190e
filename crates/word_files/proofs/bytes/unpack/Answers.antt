-- `word_files::bytes::unpack` meets its contract. Assumes nothing.
use Rattle.std.proofs.Common.{ℕ, ◌≡◌, ◌-◌, arith, sym, ap, ◌∙◌}
use Rattle.word_files.proofs.Packing.{unpack_more, unpack_done, unpacked}
use Rattle.word_files.specs.Bytes.{words_of}
use lib.Seq.{sets}
use Rattle.word_files.proofs.bytes.unpack.Goals as goal

pub loop-i-init : goal.loop-i-init
loop-i-init c = ap (λ (m : ℕ). sets c.args.words.now 0 (words_of m c.args.bytes.now)) (let d : (m : ℕ) → m ≡ m - 0 = λ m. omega arith in d c.min-n.result)

pub loop-i-preserved : goal.loop-i-preserved
loop-i-preserved c =
    let l = c.loop-i in
    l.invariant ∙ unpack_more c.args.bytes.now c.min-n.result l.i l.words c.word_at.result c.loop-i-test.true c.word_at.ensures

pub returns : goal.returns
returns c =
    let a = c.args in
    let l = c.loop-i in
    let n = c.min-n in
    unpacked a.bytes.now a.words.now l.words n.result n.ensures (sym (l.invariant ∙ unpack_done a.bytes.now n.result l.i l.words c.loop-i-test.false))
