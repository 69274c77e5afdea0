use Rattle.std.proofs.Common.{◌≡◌, ◌∙◌, ◌++◌, ◌-◌, ℕ, suc, List, [], ◌∷◌, drop, Some, None, sym, ap, subst, arith}
use Rattle.std.specs.Prelude.{OnOk, slice_get}
use Rattle.std.specs.List.{flat_map}
use Rattle.std.proofs.lemmas.Grind.{common_steps}
use Rattle.std.proofs.lemmas.List.{append-nil, drop_all}
use Rattle.std.proofs.lemmas.Option.{gets}
use Rattle.jobs.specs.Job.{job_view}
use Rattle.operators.specs.declared.output.Output.{Output}
use Rattle.flow_model.specs.declared.landing.Landing.{Landing}
use Rattle.flow_model.specs.Alone.{landing, lands}
use Rattle.flow_model.proofs.LandingLemmas.{behind, lands-outputs, lands-sink}
use Rattle.flow_replay.proofs.AloneLemmas.{lands-none}
use Rattle.flow_replay.proofs.row_alone.Graph.+deliver.Goals as goal

pub returns-in_default : goal.returns-in_default
returns-in_default t c =
    let there : slice_get c.args.self.table.now c.args.node
    ≡ None = grind (arith, common_steps, gets, c.in_default.ensures.lookup) in
    rw (lands-none (job_view c.args.self.job.now) (slice_get c.args.self.table.now) c.args.self.nodes
    c.args.node c.args.tuple.now there) (sym (append-nil c.args.landings.now))

pub returns-then-is_sink : goal.returns-then-is_sink
returns-then-is_sink t c =
    let there : slice_get c.args.self.table.now c.args.node
    ≡ Some c.in-Some.func.now = grind (arith, common_steps, gets, c.in-Some.ensures.lookup) in
    let n : ℕ = c.args.self.nodes - 1 in
    let more : c.args.self.nodes ≡ suc n = omega (arith, c.if-self-eq0.false) in
    let lands_here : lands (job_view c.args.self.job.now) (slice_get c.args.self.table.now)
    c.args.self.nodes c.args.node c.args.tuple.now ≡ landing c.args.node c.args.tuple.now ∷ [] =
    ap (λ (k : ℕ). lands (job_view c.args.self.job.now) (slice_get c.args.self.table.now) k
    c.args.node c.args.tuple.now) more
    ∙ lands-sink (job_view c.args.self.job.now) (slice_get c.args.self.table.now) n c.args.node
    c.args.tuple.now c.in-Some.func.now there (sym c.is_sink.ensures ∙ c.if-is_sink.true) in
    subst (λ (x : List Landing). OnOk c.push.result (c.push.new.self ≡ c.args.landings.now ++ x)) (
    ap (λ (x : Landing). x ∷ []) c.in_ok-landing.ensures ∙ sym lands_here) c.push.ensures.ok

pub returns : goal.returns
returns t c =
    let job = job_view c.args.self.job.now in
    let table = slice_get c.args.self.table.now in
    let there : slice_get c.args.self.table.now c.args.node
    ≡ Some c.in-Some.func.now = grind (arith, common_steps, gets, c.in-Some.ensures.lookup) in
    let n : ℕ = c.args.self.nodes - 1 in
    let more : c.args.self.nodes ≡ suc n = omega (arith, c.if-self-eq0.false) in
    let items : List Output = c.as_slice-output-items.result.now in
    let done : drop c.loop-output.output-index items
    ≡ [] = drop_all c.loop-output.output-index items c.loop-output-test.false in
    let whole = lands-outputs job table n c.args.node c.args.tuple.now c.in-Some.func.now there (sym
    c.is_sink.ensures ∙ c.if-is_sink.false) in
    sym (append-nil c.loop-output.landings)
    ∙ ap (λ (x : List Output). c.loop-output.landings ++ flat_map (behind job table n c.args.node)
    x) (sym done)
    ∙ c.loop-output.invariant
    ∙ ap (λ (x : List Landing). c.args.landings.now ++ x) (
    ap (flat_map (behind job table n c.args.node)) (c.as_slice-output-items.ensures
    ∙ c.in_ok-outs.ensures) ∙ sym whole
    ∙ ap (λ (k : ℕ). lands job table k c.args.node c.args.tuple.now) (sym more))
