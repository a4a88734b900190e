-- `ffi::sparse::answer_all` meets its contract.
-- Assumes nothing.
use mathlib.Core.Path.{refl, ap, ◌∙◌}
use Rattle.sarray.specs.Ask.{is_vector, sparse_query}
use Rattle.sarray.proofs.Vectors as vectors
use Rattle.ffi.specs.Answers.{ef_answer}
use Rattle.ffi.proofs.Answering as answering
use Rattle.ffi.proofs.sparse.answer_all.Goals as goal

pub answer_each-requires : goal.answer_each-requires
answer_each-requires g c = let h = vectors.open_vector c.args.image.now c.args.len c.args.rank _ c.in-Ok.ensures _ refl in record { at = λ x. c.requires _ _ h }

pub returns-in-Ok : goal.returns-in-Ok
returns-in-Ok g c = λ q h.
    let ok = (vectors.told c.args.image.now c.args.len c.args.rank _ c.in-Ok.ensures _ refl).0 in
    answering.opened_told (is_vector c.args.len c.args.rank c.args.image.now) (λ x. sparse_query c.args.len c.args.rank c.args.image.now (q x)) c.args.args.now c.args.out.now _ _ _ ok
    (c.answer_each.ensures _ (λ x r p. h _ x r p ∙ ap ef_answer (vectors.query_opened c.args.image.now c.args.len c.args.rank _ c.in-Ok.ensures _ refl (q x) _ refl))) c.tell.ensures

pub returns : goal.returns
returns g c = λ q h.
    answering.refused_told (is_vector c.args.len c.args.rank c.args.image.now) (λ x. sparse_query c.args.len c.args.rank c.args.image.now (q x)) c.args.args.now c.args.out.now _ _
    (vectors.not_vector c.args.image.now c.args.len c.args.rank _ c.in-Err.ensures _ refl) c.tell-in-Err.ensures
