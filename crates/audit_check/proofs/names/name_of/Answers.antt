use Rattle.std.proofs.Common.{◌≡◌, ◌∙◌, List, ℕ, Some, ap, ap₂, get_or, sym}
use Rattle.std.proofs.lemmas.Option.{get_or_from_slice_get}
use Rattle.jobs.specs.Job.{job_view}
use Rattle.jobs.specs.declared.func.NodeDef.{NodeDef}
use Rattle.flow_model.specs.declared.topology.WorkerAt.{WorkerAt}
use Rattle.flow_model.specs.Workers.{nth_worker}
use Rattle.flow_model.proofs.WorkerPlaces.{get-nth_worker, worker_at}
use Rattle.audit_check.specs.Cells.{named_as}
use Rattle.audit_check.proofs.NameLemmas.{worker_name}
use Rattle.audit_check.proofs.names.name_of.Goals as goal

pub returns : goal.returns
returns c =
    let job = job_view c.args.who.setup.now.job in
    let is = (worker_at job c.args.who.number c.args.who.there).1 in
    let name = worker_name job c.args.who.number (nth_worker job c.args.who.number) is.def (get-nth_worker job c.args.who.number c.args.who.there) is.node_is in
    let at = c.worker_at-at.ensures.at in
    let there : c.index-as_slice-at.result ≡ is.def =
    c.index-as_slice-at.is
    ∙ (ap₂ (λ (nodes : List NodeDef) (n : ℕ). get_or nodes n c.index-as_slice-at.result) c.as_slice.ensures (ap (λ (a : WorkerAt). a.node) at)
    ∙ get_or_from_slice_get job.nodes (nth_worker job c.args.who.number).node is.def c.index-as_slice-at.result is.node_is) in
    name
    ∙ ap₂ (λ (n : List ℕ) (p : ℕ). Some (named_as n p)) (sym (c.as_slice-2.ensures ∙ ap (λ (d : NodeDef). d.name) there)) (sym (ap (λ (a : WorkerAt). a.place) at))
