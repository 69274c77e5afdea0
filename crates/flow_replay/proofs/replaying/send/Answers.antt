use Rattle.std.proofs.Common.{◌≡◌, ◌∙◌, ◌<◌, ℕ, [], ◌∷◌, List, None, Some, length, map, refl, sym, ap, arith}
use Rattle.std.specs.Vec.Iter.{into_iter_items}
use Rattle.std.proofs.lemmas.List.{nil_from_length}
use Rattle.std.proofs.lemmas.Option.{slice_get_within}
use Rattle.jobs.specs.JobView.{JobView}
use Rattle.operators.specs.declared.output.Output.{Output}
use Rattle.tuple_trace.specs.declared.tuple.Item.{Item}
use Rattle.tuple_trace.specs.declared.tuple.Item.TheVariants as item
use Rattle.flow_model.specs.declared.topology.Lane.{Lane}
use Rattle.flow_model.specs.declared.topology.WorkerAt.{WorkerAt}
use Rattle.flow_model.specs.Lanes.{lane_of, lanes_out, out_numbers, senders}
use Rattle.flow_model.specs.Replay.{Put, put_out}
use Rattle.flow_model.specs.Setup.{setup_view}
use Rattle.flow_model.specs.Topology.{worker_of}
use Rattle.flow_model.specs.Workers.{nth_worker, workers_in}
use Rattle.flow_model.proofs.WorkerPlaces.{worker_at}
use Rattle.flow_replay.specs.inner.Replays.{with_puts}
use Rattle.flow_replay.proofs.WorkerRunLemmas.{worker_sends}
use Rattle.flow_replay.proofs.ListLemmas.{length-out, length-with_puts, numbers-are, put_on, with_puts-append, with_puts-same}
use Rattle.flow_replay.proofs.replaying.send.Goals as goal

pub route-requires : goal.route-requires
route-requires c =
    let job = (setup_view c.args.who.setup.now).job in
    let at = c.worker_at-at.result in
    slice_get_within (senders job at.node) at.place (Some c.args.who.number) (worker_sends job
    c.args.who.number at c.args.who.there c.worker_at-at.ensures.at)

-- the lane of an output, as its worker puts it
lane_put : (job : JobView) (w : ℕ) (at : WorkerAt) (output : Output) → w < length (workers_in job) →
    at ≡ worker_of (nth_worker job w)
    → (put_out job (nth_worker job w) output).lane ≡ lane_of job (Some w) at.node output.port
    output.tuple
lane_put job w at output lt is =
    ap (λ (k : ℕ). lane_of job (Some k) (nth_worker job w).node output.port output.tuple) (worker_at
    job w lt).0
    ∙ ap (λ (a : WorkerAt). lane_of job (Some w) a.node output.port output.tuple) (sym is)

-- the rest of the outputs is put after the first one
goes_on : (lanes' : List Lane) (puts : Output → Put) (output : Output) (items rest : List Output)
    (lists new goal' : List (List Item)) → items ≡ output ∷ rest → new
    ≡ with_puts lanes' (puts output ∷ []) lists
    → with_puts lanes' (map puts items) lists ≡ goal' → with_puts lanes' (map puts rest) new ≡ goal'
goes_on lanes' puts output items rest lists new goal' are is whole =
    ap (with_puts lanes' (map puts rest)) is ∙ sym (with_puts-append lanes' (puts output ∷ []) (map
    puts rest) lists) ∙ ap (λ (x : List Output). with_puts lanes' (map puts x) lists) (sym are)
    ∙ whole

pub loop-output-preserved-in_ok-put_on-in-Some-route :
    goal.loop-output-preserved-in_ok-put_on-in-Some-route
loop-output-preserved-in_ok-put_on-in-Some-route c =
    let job = (setup_view c.args.who.setup.now).job in
    let who = nth_worker job c.args.who.number in
    let w = c.args.who.number in
    let output = c.in-Some.output in
    let at = c.worker_at-at.result in
    let (lane, found, there) = c.in-Some-route.ensures.some (Some w) (worker_sends job w at
    c.args.who.there c.worker_at-at.ensures.at) in
    let goes = lane_put job w at output c.args.who.there c.worker_at-at.ensures.at ∙ found in
    let gained = c.in_ok-put_on-in-Some-route.ensures
    ∙ put_on job (lanes_out job w) (out_numbers job w) c.loop-output.lists (put_out job who
    output).lane (item.Carry output.tuple) c.in-Some-route.lane lane (numbers-are job w) goes
    there in
    let long = length-out job w in
    record {
      may = tt;
      finite = tt;
      counted = let a = c.in-Some.ensures.steps in let b = ap (length {A = Output}) a.0 in omega
          (arith, a.1, b, c.loop-output.invariant.counted);
      long = ap length gained ∙ length-with_puts (lanes_out job w) (put_out job who output ∷ [])
          c.loop-output.lists (c.loop-output.invariant.long ∙ long) ∙ sym long;
      put = goes_on (lanes_out job w) (put_out job who) output (into_iter_items
          c.loop-output.output-iterator) (into_iter_items c.next.new.self) c.loop-output.lists
          c.put_on.new.lists _ c.in-Some.ensures.steps.0 gained c.loop-output.invariant.put;
    }

pub loop-output-preserved : goal.loop-output-preserved
loop-output-preserved c =
    let job = (setup_view c.args.who.setup.now).job in
    let who = nth_worker job c.args.who.number in
    let w = c.args.who.number in
    let output = c.in-Some.output in
    let at = c.worker_at-at.result in
    let nowhere : (put_out job who output).lane ≡ None = lane_put job w at output c.args.who.there
    c.worker_at-at.ensures.at ∙ c.in-None-route.ensures.none (Some w) in
    let long = length-out job w in
    let same : with_puts (lanes_out job w) (put_out job who output ∷ []) c.loop-output.lists
    ≡ c.loop-output.lists =
    with_puts-same (lanes_out job w) (put_out job who output ∷ []) c.loop-output.lists
    (c.loop-output.invariant.long ∙ long) (λ lane. rw nowhere refl) in
    record {
      may = tt;
      finite = tt;
      counted = let a = c.in-Some.ensures.steps in let b = ap (length {A = Output}) a.0 in omega
          (arith, a.1, b, c.loop-output.invariant.counted);
      long = c.loop-output.invariant.long;
      put = goes_on (lanes_out job w) (put_out job who) output (into_iter_items
          c.loop-output.output-iterator) (into_iter_items c.next.new.self) c.loop-output.lists
          c.loop-output.lists _ c.in-Some.ensures.steps.0 (sym same) c.loop-output.invariant.put;
    }

pub returns : goal.returns
returns c =
    let job = (setup_view c.args.who.setup.now).job in
    let who = nth_worker job c.args.who.number in
    let none = nil_from_length (into_iter_items c.loop-output.output-iterator) (omega (
      arith,
      c.in-None.ensures.steps.0,
      c.loop-output.invariant.counted,
    )) in
    let long = length-out job c.args.who.number in
    sym (with_puts-same (lanes_out job c.args.who.number) [] c.loop-output.lists
    (c.loop-output.invariant.long ∙ long) (λ lane. refl))
    ∙ ap (λ (x : List Output). with_puts (lanes_out job c.args.who.number) (map (put_out job who) x)
    c.loop-output.lists) (sym none)
    ∙ c.loop-output.invariant.put
