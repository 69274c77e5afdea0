use Rattle.std.proofs.Common.{◌∙◌, sym}
use Rattle.marker_align.proofs.MapLemmas.{next_tuple-map}
use Rattle.marker_align.proofs.decision.next_tuple.Goals as goal

pub returns-in-Some : goal.returns-in-Some
returns-in-Some g c =
    let found = sym c.first_tuple.ensures ∙ c.in-Some.is in
    sym (rw found at (next_tuple-map g.H.Holder.hand c.args.start c.args.hands.now _ _ c.split_at.ensures.front c.split_at.ensures.back))

pub returns-in-Some-first_tuple : goal.returns-in-Some-first_tuple
returns-in-Some-first_tuple g c =
    let none = sym c.first_tuple.ensures ∙ c.in-None.is in
    let found = sym c.first_tuple-in-None.ensures ∙ c.in-Some-first_tuple.is in
    sym (rw (none, found) at (next_tuple-map g.H.Holder.hand c.args.start c.args.hands.now _ _ c.split_at.ensures.front c.split_at.ensures.back))

pub returns-in-None-first_tuple : goal.returns-in-None-first_tuple
returns-in-None-first_tuple g c =
    let none = sym c.first_tuple.ensures ∙ c.in-None.is in
    let none_before = sym c.first_tuple-in-None.ensures ∙ c.in-None-first_tuple.is in
    sym (rw (none, none_before) at (next_tuple-map g.H.Holder.hand c.args.start c.args.hands.now _ _ c.split_at.ensures.front c.split_at.ensures.back))
