use Rattle.std.proofs.Common.{◌≡◌, ℕ, refl, sym, ap, ◌∙◌, subst, List, [], ◌∷◌, ◌+◌, ◌<◌, Bool, cond, length}
use Rattle.flow_dag.specs.Masks.{has}
use Rattle.sink_journal.specs.declared.journal.Entry.{Entry}
use Rattle.tuple_trace.specs.Reserved.{ReservedIs}
use Rattle.tuple_trace.specs.declared.tuple.Item.{Item}
use Rattle.tuple_trace.specs.declared.tuple.Item.TheVariants.{Mark}
use Rattle.flow_model.specs.Dues.{IsDueAfter, edges_in}
use Rattle.flow_model.specs.Setup.{setup_view}
use Rattle.flow_model.specs.Workers.{nth_worker, workers_in}
use Rattle.flow_model.specs.declared.worker_state.WorkerState.{WorkerState}
use Rattle.flow_worker.specs.Endpoints.{Appended, LaneOutIs, Reserved}
use Rattle.flow_worker.specs.Steps.{marker_on}
use Rattle.flow_worker.specs.Pairs.{EachOne, EachPair}
use Rattle.flow_worker.specs.Worker.{WorkerIs}
use Rattle.flow_worker.proofs.Pairs.{each_same, pairs_each}
use Rattle.flow_worker.proofs.Gaining.{appended_by, gains, room}
use Rattle.flow_worker.proofs.PlaceLemmas.{placed_node, placed_within}
use Rattle.flow_worker.proofs.LimitLemmas.{outs_small}
use Rattle.flow_worker.proofs.Results.{ok_fact}
use Rattle.flow_worker.proofs.worker.Worker.turn_for.Goals as goal

pub returns-then-is_err-clause-err : goal.returns-then-is_err-clause-err
returns-then-is_err-clause-err g c =
    rw (← c.self.view_is) (record { rest = rw c.reserve.ensures.items refl; outs = each_same _ _ (λ x. refl) })

pub push_markers-requires-clause-room : goal.push_markers-requires-clause-room
push_markers-requires-clause-room g c κs up =
    let was = c.self.inside.outs in
    let now = c.reserve-2.new.self in
    let p : EachPair (Reserved 1) was now = ok_fact c.reserve-2.result (sym c.is_err-2.ensures.value ∙ c.if-is_err-2.false) c.reserve-2.ensures.ok in
    (room 1 was now p)

pub due_after-self-inside-requires : goal.due_after-self-inside-requires
due_after-self-inside-requires g c =
    subst (λ (w : WorkerIs). w.number < length (workers_in (setup_view c.args.setup.now).job)) (sym c.self.view_is) (placed_within (setup_view c.args.setup.now) c.requires.placed.0 c.args.self.now c.requires.placed.1)

pub push_markers-requires-clause-edges : goal.push_markers-requires-clause-edges
push_markers-requires-clause-edges g c κs up =
    let was = c.self.inside.outs in
    let now = c.reserve-2.new.self in
    let small : EachOne (λ (o : LaneOutIs). o.edge < 128) was =
    subst (λ (w : WorkerIs). EachOne (λ (o : LaneOutIs). o.edge < 128) w.outs) (sym c.self.view_is)
    (outs_small (setup_view c.args.setup.now) c.requires.placed.1.graph c.args.self.now.node c.args.self.now.outs c.args.setup.now.job.lawful c.requires.placed.1.outs.ends) in
    let p : EachPair (Reserved 1) was now = ok_fact c.reserve-2.result (sym c.is_err-2.ensures.value ∙ c.if-is_err-2.false) c.reserve-2.ensures.ok in
    (pairs_each (Reserved 1) (λ (o : LaneOutIs). o.edge < 128) (λ (o : LaneOutIs). o.edge < 128) was now (λ a b r l. subst (λ n. n < 128) (sym (ap (λ (o : LaneOutIs). o.edge) r.0)) l) p small)

pub returns-clause-ok : goal.returns-clause-ok
returns-clause-ok g c =
    let was = c.self.inside.outs in
    let now = c.reserve-2.new.self in
    let last = c.push_markers.new.self in
    let due = c.args.due.now in
    let setup = setup_view c.args.setup.now in
    let mask = c.covered_edges.result in
    let f : LaneOutIs → List Item = λ out. cond (has mask out.edge) (Mark due.request due.cover ∷ []) [] in
    let h : LaneOutIs → List Item = marker_on setup due.request due.cover in
    let p : EachPair (Reserved 1) was now = ok_fact c.reserve-2.result (sym c.is_err-2.ensures.value ∙ c.if-is_err-2.false) c.reserve-2.ensures.ok in
    let a : EachPair (Appended f) now last = c.push_markers.ensures in
    let b : EachPair (Appended h) now last = appended_by f h now last (λ out. ap (λ (t : Bool). cond t (Mark due.request due.cover ∷ []) []) (c.covered_edges.ensures out.edge)) a in
    let all : EachPair _ was last = gains h 1 was now last (λ a m. refl) p b in
    let node : (nth_worker setup.job c.self.inside.number).node ≡ c.self.inside.node =
    subst (λ (w : WorkerIs). (nth_worker setup.job w.number).node ≡ w.node) (sym c.self.view_is) (placed_node setup c.requires.placed.0 c.args.self.now c.requires.placed.1) in
    rw (← c.self.view_is) (record {
      journal = rw (ap (λ (j : ReservedIs Entry). j.items) c.push_reserved.ensures, c.note_markers.ensures.journal, c.reserve.ensures.items) refl;
      ins = c.note_markers.ensures.ins;
      outs = all;
      func = c.turn.ensures.func;
      counts = ap (λ (s : WorkerState). s.counts) c.turn.ensures.rest;
      last = ap (λ (s : WorkerState). s.last) c.turn.ensures.rest;
      later = subst (λ (n : ℕ). IsDueAfter setup n (edges_in setup.job c.self.inside.number) due.request c.due_after-self-inside.result) node c.due_after-self-inside.ensures;
      turned = c.turned.ensures.turned ∙ ap (λ n. n + 1) c.last_turned.ensures;
      polls = c.turned.ensures.same.1;
      within = c.turned.ensures.same.0;
      rest = refl;
    })
