-- `elias_fano_walk::search::binsearch_range_opened` meets its contract.
-- Assumes nothing.
use Rattle.elias_fano_walk.proofs.Searched as searched
use Rattle.elias_fano_walk.proofs.search.binsearch_range_opened.Goals as goal

pub returns-then-a-b : goal.returns-then-a-b
returns-then-a-b c = searched.search_empty c.args.image.now.words.now c.args.image.now.ok c.args.image.now.parts c.args.image.now.right c.args.val c.args.a c.args.b c.if-a-b.true

pub returns-then-b-image : goal.returns-then-b-image
returns-then-b-image c = searched.search_refused c.args.image.now.words.now c.args.image.now.ok c.args.image.now.parts c.args.image.now.right c.args.val c.args.a c.args.b c.if-a-b.false c.if-b-image.true

pub returns-then-value_of-val : goal.returns-then-value_of-val
returns-then-value_of-val c =
    searched.search_at c.args.image.now.words.now c.args.image.now.ok c.args.image.now.parts c.args.image.now.right c.args.val c.args.a c.args.b (record { some = c.if-a-b.false; upto = c.if-b-image.false }) _ c.value_of.ensures c.if-value_of-val.true

pub returns : goal.returns
returns c =
    searched.search_found c.args.image.now.words.now c.args.image.now.ok c.args.image.now.parts c.args.image.now.right c.args.val c.args.a c.args.b (record { some = c.if-a-b.false; upto = c.if-b-image.false }) _ c.scan_section-section.ensures _ c.scan_range.ensures
