use Rattle.std.proofs.Common.{sym}
use Rattle.audit_stream.proofs.WorkerLemmas.{number_here, number_none}
use Rattle.audit_stream.proofs.workers.number_of.Goals as goal

pub returns-in-Some-clause-number : goal.returns-in-Some-clause-number
returns-in-Some-clause-number c =
    let s = c.in-Some.ensures.some in
    sym (number_here c.args.workers.now c.requires c.args.node.now c.args.place.now c.in-Some.number s.0 s.1 s.2)

pub returns-in-Some-search-clause-number : goal.returns-in-Some-search-clause-number
returns-in-Some-search-clause-number c =
    let s = c.in-Some-search.ensures.some in
    sym (number_here c.args.workers.now c.requires c.args.node.now c.args.place.now c.in-Some-search.number s.0 s.1 s.2)

pub returns-in-None-clause-number : goal.returns-in-None-clause-number
returns-in-None-clause-number c =
    sym (number_none c.args.workers.now c.args.node.now c.args.place.now c.min-near.result c.in_default.ensures.none c.in-None.ensures.none)
