use Rattle.std.proofs.Common.{suc, refl, arith, add-one, sym, ◌∙◌}
use Rattle.flow_worker.proofs.Results.{ok_fact}
use Rattle.flow_worker.specs.Endpoints.{Reserved, SameButMemory}
use Rattle.flow_worker.proofs.Pairs.{first_more, first_all, first_map, first_rest}
use Rattle.flow_worker.proofs.lane_out.reserve_each.Goals as goal

pub loop-out-preserved : goal.loop-out-preserved
loop-out-preserved g c =
    rw add-one (first_more (Reserved c.args.more) c.loop-out.out-index c.args.outs.now c.loop-out.out-items c.out-item.result c.reserve.new.self c.loop-out.invariant (omega arith) (c.reserve.ensures.same, ok_fact c.reserve.result (sym c.is_err.ensures.value ∙ c.if-is_err.false) c.reserve.ensures.ok))

pub returns-then-is_err-clause-err : goal.returns-then-is_err-clause-err
returns-then-is_err-clause-err g c =
    first_rest SameButMemory (suc c.loop-out.out-index) c.args.outs.now _ (λ x. refl)
    (first_more SameButMemory c.loop-out.out-index c.args.outs.now c.loop-out.out-items c.out-item.result c.reserve.new.self
    (first_map (Reserved c.args.more) SameButMemory c.loop-out.out-index c.args.outs.now c.loop-out.out-items (λ x y h. h.0) c.loop-out.invariant) (omega arith) c.reserve.ensures.same)

pub returns-clause-ok : goal.returns-clause-ok
returns-clause-ok g c = first_all (Reserved c.args.more) c.loop-out.out-index c.args.outs.now c.loop-out.out-items c.loop-out.invariant (omega arith)
