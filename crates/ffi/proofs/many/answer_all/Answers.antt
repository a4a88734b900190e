-- `ffi::many::answer_all` meets its contract.
-- Assumes nothing.
use Rattle.std.specs.Prelude.{◌≡◌, List, ℕ, true}
use mathlib.Core.Path.{refl, ap, ◌∙◌, subst}
use Rattle.elias_fano.specs.Accept.{accepted}
use Rattle.elias_fano.specs.Ask.{asked, query}
use Rattle.elias_fano.specs.declared.opened.Image.{Image}
use Rattle.elias_fano.proofs.Answers as answers
use Rattle.ffi.specs.Answers.{ef_answer}
use Rattle.ffi.proofs.Answering as answering
use Rattle.ffi.proofs.many.answer_all.Goals as goal

pub returns-in-Ok : goal.returns-in-Ok
returns-in-Ok g c = λ q h.
    let i = c.in-Ok.image in
    let ok : accepted c.args.words.now ≡ true = subst (λ (w : List ℕ). accepted w ≡ true) c.in-Ok.ensures.0 i.ok in
    answering.opened_told (accepted c.args.words.now) (λ x. query c.args.words.now (q x)) c.args.args.now c.args.out.now _ _ _ ok
    (c.answer_each.ensures _ (λ x r p. p _ (λ i' e pp. h i' x r pp ∙ ap (λ (j : Image). ef_answer (asked j.words.now (q x))) e) ∙ ap ef_answer (answers.query_image _ i c.in-Ok.ensures _ _ refl))) c.tell.ensures

pub returns : goal.returns
returns g c = λ q h. answering.refused_told (accepted c.args.words.now) (λ x. query c.args.words.now (q x)) c.args.args.now c.args.out.now _ _ (answers.not_open _ _ c.in-Err.ensures) c.tell-in-Err.ensures
