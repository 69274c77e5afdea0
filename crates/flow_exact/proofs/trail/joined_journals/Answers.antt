use Rattle.std.proofs.Common.{◌∙◌, ap, length, map, sym}
use Rattle.std.specs.Iterator.Adapters.{zip_first, zip_second}
use Rattle.std.specs.Vec.Iter.{into_iter_items, into_iter_len}
use Rattle.std.proofs.lemmas.Iterator.{YieldsList-from_zip}
use Rattle.std.proofs.lemmas.Iterator.Adapters.{YieldsList-from_vec}
use Rattle.std.proofs.lemmas.Iterator.Consumers.{YieldsList-end}
use Rattle.savepoint.specs.Parts.{joined_journal}
use Rattle.savepoint.proofs.CutLemmas.{same_pairs}
use Rattle.flow_exact.proofs.trail.joined_journals.Goals as goal

pub returns : goal.returns
returns c =
    let from = c.into_iter-one-iterator.ensures.into_iter_gives in
    let one = YieldsList-from_vec {s = zip_first c.into_iter-one-iterator.result} c.args.first
    (ap into_iter_items (ap zip_first from ∙ c.zip-one-items.ensures.first)
    ∙ (c.into_iter.ensures.rest ∙ c.into_vec.ensures))
    (ap into_iter_len (ap zip_first from ∙ c.zip-one-items.ensures.first)
    ∙ (c.into_iter.ensures.len
    ∙ (c.into_vec.result.ok.0 ∙ ap length c.into_vec.ensures))) in
    let more = YieldsList-from_vec {s = zip_second c.into_iter-one-iterator.result} c.args.second
    (ap into_iter_items (ap zip_second from ∙ c.zip-one-items.ensures.second)
    ∙ (c.into_iter-2.ensures.rest ∙ c.into_vec-2.ensures))
    (ap into_iter_len (ap zip_second from ∙ c.zip-one-items.ensures.second)
    ∙ (c.into_iter-2.ensures.len
    ∙ (c.into_vec-2.result.ok.0 ∙ ap length c.into_vec-2.ensures))) in
    let all = YieldsList-end (YieldsList-from_zip one more) c.loop-one.yielded
    c.loop-one.one-iterator c.loop-one.yielded_by c.next.result c.next.new.self c.in-None.is
    c.next.ensures.steps in
    c.loop-one.invariant ∙ ap (map joined_journal) (sym (same_pairs c.loop-one.yielded) ∙ all.0)
