use Rattle.flow_model.specs.Lanes.{out_numbers}
use Rattle.std.proofs.Common.{◌≡◌, ℕ, refl, sym, ap, ◌∙◌, subst, List, [], ◌∷◌, ◌++◌, ◌+◌, ◌≤◌, ◌<◌, length, map, Some, slice_get, arith}
use Rattle.std.specs.Option.{option_copied}
use Rattle.std.specs.Prelude.{option_map}
use Rattle.std.proofs.lemmas.Option.{same_Some}
use Rattle.jobs.specs.declared.func.NodeDef.{NodeDef}
use Rattle.jobs.specs.declared.func.Func.{Func}
use Rattle.operators.specs.Meaning.{step}
use Rattle.operators.specs.Ports.{most_outputs, out_ports}
use Rattle.operators.specs.declared.output.Output.{Output}
use Rattle.sink_journal.specs.declared.journal.Entry.TheVariants.{Met}
use Rattle.tuple_trace.specs.declared.tuple.Item.{Item}
use Rattle.tuple_trace.specs.declared.tuple.Tuple.{Tuple}
use Rattle.flow_model.specs.SetupView.{SetupView, Worker as WorkerOf}
use Rattle.flow_model.specs.InForce.{func_in}
use Rattle.flow_model.specs.Replay.{StateView, after, put_out, puts, visit_at}
use Rattle.flow_model.specs.Setup.{setup_view}
use Rattle.flow_model.specs.Workers.{workers_in}
use Rattle.flow_model.specs.WorkerState.{IsInForce, IsWorkerAt, found_or, made as made_of, state_view}
use Rattle.flow_model.specs.declared.in_force.InForce.{InForce}
use Rattle.flow_model.specs.declared.in_force.InForce.TheVariants.{Own, Changed}
use Rattle.flow_model.specs.declared.topology.WorkerAt.{WorkerAt}
use Rattle.flow_model.specs.declared.worker_state.WorkerState.{WorkerState}
use Rattle.flow_model.proofs.WorkerLemmas.{worker_with}
use Rattle.flow_worker.specs.Endpoints.{Appended, Gains, HasRoomFor, LaneInIs, LaneOutIs, Reserved, SameButMemory}
use Rattle.flow_worker.specs.Pairs.{EachOne, EachPair}
use Rattle.flow_worker.specs.Steps.{HasTuple, items_at}
use Rattle.flow_worker.specs.Worker.{IsPlaced, IsSenderAt, WorkerIs, lane_numbers_out}
use Rattle.flow_worker.proofs.Gaining.{appended_by, gains, room}
use Rattle.flow_worker.proofs.Pairs.{each_same}
use Rattle.flow_worker.proofs.PlaceLemmas.{placed_below}
use Rattle.flow_worker.proofs.Results.{err_fact, ok_fact}
use Rattle.flow_worker.proofs.Taking.{length_laid, same_tuple}
use Rattle.flow_worker.proofs.worker.Worker.process.Goals as goal

-- room for as many is room for fewer
fewer : (n m : ℕ) (xs : List LaneOutIs) → m ≤ n → EachOne (HasRoomFor n) xs → EachOne (HasRoomFor m) xs
fewer n m [] l e = tt
fewer n m (x ∷ xs) l e = ((let r : length x.waiting + n ≤ x.memory = e.0 in omega (arith, r)), fewer n m xs l e.1)

-- the sender stays where it is while its lanes take memory
numbers_kept : (n : ℕ) (xs ys : List LaneOutIs) → EachPair (Reserved n) xs ys → lane_numbers_out ys ≡ lane_numbers_out xs
numbers_kept n [] [] p = refl
numbers_kept n [] (y ∷ ys) p = absurd p
numbers_kept n (x ∷ xs) [] p = absurd p
numbers_kept n (x ∷ xs) (y ∷ ys) p = rw (ap (λ (o : LaneOutIs). o.number) p.0.0, numbers_kept n xs ys p.1) refl

sender : (setup : SetupView) (who : WorkerOf) (w : WorkerIs) → IsPlaced setup who w → IsSenderAt setup.job w.node who (lane_numbers_out w.outs)
sender setup who w p =
    let n = (worker_with setup.job w.number who p.stands.who_is).0 in
    record {
      there = subst (λ m. slice_get (workers_in setup.job) m ≡ Some who) (sym n) p.stands.who_is;
      node_is = sym p.stands.node_is;
      numbers_are = p.outs.are ∙ ap (out_numbers setup.job) (sym n);
    }

only_memory : (n : ℕ) (xs ys : List LaneOutIs) → EachPair (Reserved n) xs ys → EachPair SameButMemory xs ys
only_memory n [] [] p = tt
only_memory n [] (y ∷ ys) p = absurd p
only_memory n (x ∷ xs) [] p = absurd p
only_memory n (x ∷ xs) (y ∷ ys) p = (p.0.0, only_memory n xs ys p.1)

-- what is made, behind an empty list
made_is : (made fresh outs : List Output) → made ≡ fresh ++ outs → fresh ≡ [] → made ≡ outs
made_is made fresh outs e h = e ∙ ap (λ xs. xs ++ outs) h

-- the function that is looked up is the one in force
in_force : (setup : SetupView) (node : ℕ) (at : InForce) (func : Func) → func_in setup node at ≡ Some func → IsInForce setup node at func
in_force setup node Own func is who def there here own =
    let own_is = ap (option_map (λ (d : NodeDef). d.func)) there in
    sym (same_Some def.func func (sym own_is ∙ is)) ∙ sym own
in_force setup node (Changed request place) func is who def there here own =
    sym (ap (found_or who.func) (ap (λ (n : ℕ). func_in setup n (Changed request place)) here ∙ is))

-- what is in force at a worker whose lanes haven't ended
in_view : (setup : SetupView) (who : WorkerOf) (at : WorkerAt) (state : WorkerState) (func : Func) →
    IsInForce setup at.node state.func func → IsWorkerAt setup.job at who → state.ended ≡ 0 →
    state_view setup who state
    ≡ record { func = func; counts = state.counts; last = state.last; ended = 0 }
in_view setup who at state func known is unended =
    let (number, worker) = worker_with setup.job who.number who is.there in
    let node : at.node ≡ who.node = ap (λ (a : WorkerAt). a.node) is.at_is in
    let same = known who worker.def (ap (slice_get setup.job.nodes) node ∙ worker.node_is) (sym node)
    worker.func_is in
    ap {B = StateView} (λ (f : Func).
    record { func = f; counts = state.counts; last = state.last; ended = state.ended }) (sym same)
    ∙ ap {B = StateView} (λ (n : ℕ).
    record { func = func; counts = state.counts; last = state.last; ended = n }) unended

-- where the worker stands
stands_at : (setup : SetupView) (who : WorkerOf) (w : WorkerIs) → IsPlaced setup who w →
    IsWorkerAt setup.job (record { node = w.node; place = w.place }) who
stands_at setup who w p =
    let n = (worker_with setup.job w.number who p.stands.who_is).0 in
    record {
      there = subst (λ m. slice_get (workers_in setup.job) m ≡ Some who) (sym n) p.stands.who_is;
      at_is = ap {B = WorkerAt} (λ (m : ℕ). record { node = m; place = w.place }) p.stands.node_is
          ∙ ap {B = WorkerAt} (λ (m : ℕ). record { node = who.node; place = m }) p.stands.place_is;
    }

pub returns-then-is_err-clause-err : goal.returns-then-is_err-clause-err
returns-then-is_err-clause-err g c =
    rw (← c.self.view_is) (record { rest = rw c.reserve.ensures.items refl; outs = each_same _ _ (λ x. refl) })

pub out_edges-edges-requires : goal.out_edges-edges-requires
out_edges-edges-requires g c =
    subst (λ (w : WorkerIs). w.node < length (setup_view c.args.setup.now).job.nodes) (sym c.self.view_is) (placed_below (setup_view c.args.setup.now) c.requires.placed.0 c.args.self.now c.requires.placed.1)

pub process_by-requires-clause-func : goal.process_by-requires-clause-func
process_by-requires-clause-func g c =
    in_force (setup_view c.args.setup.now) c.self.inside.node c.self.inside.state.func c.in-Some.func.now (sym c.func_in.ensures ∙ ap option_copied c.in-Some.is)

pub process_by-requires-clause-node : goal.process_by-requires-clause-node
process_by-requires-clause-node g c =
    subst (λ (w : WorkerIs). w.node < length (setup_view c.args.setup.now).job.nodes) (sym c.self.view_is) (placed_below (setup_view c.args.setup.now) c.requires.placed.0 c.args.self.now c.requires.placed.1)

pub ports-requires : goal.ports-requires
ports-requires g c =
    subst (λ (w : WorkerIs). w.node < length (setup_view c.args.setup.now).job.nodes) (sym c.self.view_is) (placed_below (setup_view c.args.setup.now) c.requires.placed.0 c.args.self.now c.requires.placed.1)

pub enqueue_outputs-requires-clause-edges : goal.enqueue_outputs-requires-clause-edges
enqueue_outputs-requires-clause-edges g c κs up =
    c.out_edges-edges.ensures

pub returns-then-is_err-3-clause-err : goal.returns-then-is_err-3-clause-err
returns-then-is_err-3-clause-err g c =
    let was = c.self.inside.outs in
    let now = c.reserve-2.new.self in
    let n = c.most_outputs-most.result in
    let p : EachPair (Reserved n) was now = ok_fact c.reserve-2.result (sym c.is_err-2.ensures.value ∙ c.if-is_err-2.false) c.reserve-2.ensures.ok in
    rw (← c.self.view_is) (record { rest = rw (c.reserve.ensures.items, err_fact c.process_by.result (sym c.is_err-3.ensures.value ∙ c.if-is_err-3.true) c.process_by.ensures.err) refl; outs = only_memory n was now p })

pub enqueue_outputs-requires-clause-who : goal.enqueue_outputs-requires-clause-who
enqueue_outputs-requires-clause-who g c κs up =
    let was = c.self.inside.outs in
    let now = c.reserve-2.new.self in
    let n = c.most_outputs-most.result in
    let p : EachPair (Reserved n) was now = ok_fact c.reserve-2.result (sym c.is_err-2.ensures.value ∙ c.if-is_err-2.false) c.reserve-2.ensures.ok in
    let job = (setup_view c.args.setup.now).job in
    let who = c.requires.placed.0 in
    let is : IsSenderAt job c.self.inside.node who (lane_numbers_out was) =
    subst (λ (w : WorkerIs). IsSenderAt job w.node who (lane_numbers_out w.outs)) (sym c.self.view_is) (sender (setup_view c.args.setup.now) who c.args.self.now c.requires.placed.1) in
    (who, subst (λ ns. IsSenderAt job c.self.inside.node who ns) (sym (numbers_kept n was now p)) is)

pub enqueue_outputs-requires-clause-room : goal.enqueue_outputs-requires-clause-room
enqueue_outputs-requires-clause-room g c κs up =
    let was = c.self.inside.outs in
    let now = c.reserve-2.new.self in
    let n = c.most_outputs-most.result in
    let p : EachPair (Reserved n) was now = ok_fact c.reserve-2.result (sym c.is_err-2.ensures.value ∙ c.if-is_err-2.false) c.reserve-2.ensures.ok in
    let o = ok_fact c.process_by.result (sym c.is_err-3.ensures.value ∙ c.if-is_err-3.false) c.process_by.ensures.outs in
    let setup = setup_view c.args.setup.now in
    let who = c.requires.placed.0 in
    let at : WorkerAt = record { node = c.self.inside.node; place = c.self.inside.place } in
    let is : IsWorkerAt setup.job at who = subst (λ (w : WorkerIs). IsWorkerAt setup.job (record { node = w.node; place = w.place }) who) (sym c.self.view_is) (stands_at setup who c.args.self.now c.requires.placed.1) in
    let func : Func = c.in-Some.func.now in
    let state = c.self.inside.state in
    let tuple = c.tuple_at-tuple.result.now in
    let found = in_force setup at.node state.func func (sym c.func_in.ensures ∙ ap option_copied c.in-Some.is) in
    let view = in_view setup who at state func found is c.self.invariant.3 in
    let node : at.node ≡ who.node = ap (λ (a : WorkerAt). a.node) is.at_is in
    let most : most_outputs func (out_ports setup.job.edges who.node) ≡ n = ap (λ (m : ℕ). most_outputs func (out_ports setup.job.edges m)) (sym node) ∙ sym (c.most_outputs-most.ensures ∙ ap (most_outputs func) c.ports.ensures) in
    let visit = visit_at who (record { func = func; counts = state.counts; last = state.last; ended = 0 }) in
    let few : length (step setup.job visit func state.counts tuple).1 ≤ n =
    subst (λ m. length (step setup.job visit func state.counts tuple).1 ≤ m) most (c.outputs_are_few.ensures setup.job visit func state.counts tuple) in
    let made = made_is _ _ _ (o who is) c.self.invariant.2 ∙ ap (λ (v : StateView). made_of setup who v tuple) view in
    let long : length c.process_by.new.outs ≤ n = subst (λ m. m ≤ n) (sym (ap length made)) few in
    (fewer n (length c.process_by.new.outs) now long (room n was now p))

pub next_place-self-inside-requires-clause-within : goal.next_place-self-inside-requires-clause-within
next_place-self-inside-requires-clause-within g c =
    let l : c.args.place < length c.self.inside.ins = subst (λ (w : WorkerIs). c.args.place < length w.ins) (sym c.self.view_is) c.requires.within in
    let n = ap length c.note_tuple.ensures.ins ∙ length_laid c.args.place c.self.inside.ins in
    omega (arith, c.len.ensures.is, n, l)

pub next_place-self-inside-requires-clause-few : goal.next_place-self-inside-requires-clause-few
next_place-self-inside-requires-clause-few g c = c.len.ensures.few

pub returns-clause-ok : goal.returns-clause-ok
returns-clause-ok g c who placed =
    let was = c.self.inside.outs in
    let now = c.reserve-2.new.self in
    let n = c.most_outputs-most.result in
    let p : EachPair (Reserved n) was now = ok_fact c.reserve-2.result (sym c.is_err-2.ensures.value ∙ c.if-is_err-2.false) c.reserve-2.ensures.ok in
    let last = c.enqueue_outputs.new.outs in
    let setup = setup_view c.args.setup.now in
    let job = setup.job in
    let held : HasTuple c.self.inside.ins c.args.place = subst (λ (w : WorkerIs). HasTuple w.ins c.args.place) (sym c.self.view_is) c.requires.held in
    let a : LaneInIs = held.0 in
    let t : Tuple = held.1 in
    let at = c.tuple_at-tuple.ensures a held.2 in
    let same : c.tuple_at-tuple.result.now ≡ t = same_tuple a c.tuple_at-tuple.result.now t at held.3 in
    let func : Func = c.in-Some.func.now in
    let state : WorkerState = c.self.inside.state in
    let view : StateView = record { func = func; counts = state.counts; last = state.last; ended = 0 } in
    let spot : WorkerAt = record { node = c.self.inside.node; place = c.self.inside.place } in
    let stands : IsWorkerAt job spot who = subst (λ (w : WorkerIs). IsWorkerAt job (record { node = w.node; place = w.place }) who) (sym c.self.view_is) (stands_at setup who c.args.self.now placed) in
    let func_is = sym c.func_in.ensures ∙ ap option_copied c.in-Some.is in
    let view_is = in_view setup who spot state func (in_force setup spot.node state.func func func_is) stands c.self.invariant.3 in
    let ok = sym c.is_err-3.ensures.value ∙ c.if-is_err-3.false in
    let o = ok_fact c.process_by.result ok c.process_by.ensures.outs who stands in
    let made : c.process_by.new.outs ≡ made_of setup who view t =
    made_is _ _ _ o c.self.invariant.2 ∙ ap (λ (v : StateView). made_of setup who v c.tuple_at-tuple.result.now) view_is ∙ ap (made_of setup who view) same in
    let came = ok_fact c.process_by.result ok c.process_by.ensures.state who stands a.number in
    let counts = ap (λ (v : StateView). v.counts) came ∙ ap (λ (v : StateView). (after setup who v (Met a.number c.tuple_at-tuple.result.now)).counts) view_is ∙ ap (λ (u : Tuple). (after setup who view (Met a.number u)).counts) same in
    let is : IsSenderAt job c.self.inside.node who (lane_numbers_out was) = subst (λ (w : WorkerIs). IsSenderAt job w.node who (lane_numbers_out w.outs)) (sym c.self.view_is) (sender setup who c.args.self.now placed) in
    let is' : IsSenderAt job c.self.inside.node who (lane_numbers_out now) = subst (λ ns. IsSenderAt job c.self.inside.node who ns) (sym (numbers_kept n was now p)) is in
    let f : LaneOutIs → List Item = λ out. items_at job (map (put_out job who) c.process_by.new.outs) out.number in
    let h : LaneOutIs → List Item = λ out. items_at job (puts setup who view (Met a.number t)) out.number in
    let d : EachPair (Appended f) now last = c.enqueue_outputs.ensures.outs who is' in
    let b : EachPair (Appended h) now last = appended_by f h now last (λ out. ap (λ (os : List Output). items_at job (map (put_out job who) os) out.number) made) d in
    let all : EachPair (Gains h) was last = gains h n was now last (λ x m. refl) p b in
    rw (← c.self.view_is) (record {
      tuple = t;
      at = a;
      func = func;
      here = held.2;
      held = held.3;
      func_is = func_is;
      journal = rw (c.note_tuple.ensures.journal a t held.2 held.3, c.reserve.ensures.items) refl;
      ins = c.note_tuple.ensures.ins;
      outs = all;
      counts = counts;
      next = subst (λ (n : ℕ). c.next_place-self-inside.result < n) (c.len.ensures.is ∙ (ap length c.note_tuple.ensures.ins ∙ length_laid c.args.place c.self.inside.ins)) c.next_place-self-inside.ensures;
      rest = rw (ok_fact c.process_by.result ok c.process_by.ensures.kept) refl;
    })
