use Rattle.std.proofs.Common.{◌≡◌, ◌∙◌, ◌<◌, ◌≤◌, [], List, ap, arith, drop, length, option_map, sym}
use Rattle.std.specs.List.{list_any}
use Rattle.std.proofs.lemmas.List.{drop_all}
use Rattle.std.proofs.lemmas.Option.{same_Some}
use Rattle.flow_model.specs.SetupView.{Worker}
use Rattle.flow_model.specs.Record.{record_view}
use Rattle.flow_model.specs.Requests.{changes}
use Rattle.flow_model.specs.Run.{Ran}
use Rattle.flow_model.specs.Workers.{workers_in}
use Rattle.flow_model.proofs.WorkerLemmas.{item_at, worker_with}
use Rattle.serial_order.specs.Places.{rows_numbered}
use Rattle.serial_order.proofs.NewLemmas.{is_new_at, new_anywhere, worker-changed, worker-unchanged}
use Rattle.serial_order.proofs.NumberedLemmas.{none_pass, numbered-same}
use Rattle.flow_model.specs.Whole.{is_new}
use Rattle.serial_order.proofs.serial_rows.number_new.Goals as goal
use Rattle.serial_order.proofs.serial_rows.number_new.Goals.{then-is_changed, else-is_changed}

pub loop-worker-init : goal.loop-worker-init
loop-worker-init c =
    let ran : Ran = record_view c.args.ran.now in
    numbered-same (λ row. list_any (is_new_at ran c.args.request row) (workers_in ran.setup.job)) (is_new ran c.args.request) c.args.request 1 c.args.numbers.now
    (λ row. new_anywhere ran c.args.request row (workers_in ran.setup.job))

pub loop-worker-preserved : goal.loop-worker-preserved
loop-worker-preserved c =
    let ran : Ran = record_view c.args.ran.now in
    let r = c.args.request in
    let w = c.loop-worker.worker in
    let workers : List Worker = workers_in ran.setup.job in
    let xs = c.loop-worker.numbers in
    let lt : w < length workers = omega (arith, c.loop-worker-test.true, c.workers-worker-end.ensures.value) in
    let who = item_at workers w lt in
    let number : who.0.number ≡ w = (worker_with ran.setup.job w who.0 who.1).0 in
    let node : who.0.node ≡ c.node_of.result =
    same_Some who.0.node c.node_of.result (sym (ap (option_map (λ (p : Worker). p.node)) who.1) ∙ c.node_of.ensures.node) in
    let changed : changes ran.setup r who.0.node ≡ c.is_changed.result = ap (changes ran.setup r) node ∙ sym c.is_changed.ensures in
    elim c.if-is_changed.branch [
      | then-is_changed v ↦
          rw (v.numbers-is, v.number_at_worker.ensures)
          (worker-changed ran r w workers who.0 xs who.1 number (changed ∙ v.if-is_changed.true) ∙ c.loop-worker.invariant)
      | else-is_changed v ↦
          rw v.numbers-is (worker-unchanged ran r w workers who.0 xs who.1 (changed ∙ v.if-is_changed.false) ∙ c.loop-worker.invariant)
    ]

pub returns : goal.returns
returns c =
    let ran : Ran = record_view c.args.ran.now in
    let workers : List Worker = workers_in ran.setup.job in
    let xs = c.loop-worker.numbers in
    let ge : length workers ≤ c.loop-worker.worker = omega (arith, c.loop-worker-test.false, c.workers-worker-end.ensures.value) in
    let done : drop c.loop-worker.worker workers ≡ [] = drop_all c.loop-worker.worker workers ge in
    sym (none_pass c.args.request 1 xs)
    ∙ (ap (λ (l : List Worker). rows_numbered (λ row. list_any (is_new_at ran c.args.request row) l) c.args.request 1 xs) (sym done) ∙ c.loop-worker.invariant)
