use Rattle.std.proofs.Common.{◌∙◌, ◌++◌, [], None, Some, arith, refl}
use Rattle.std.proofs.lemmas.Result.{err_from_is_err_and}
use Rattle.stream_run.proofs.GoesLemmas.{goes-same, goes-then, stops-between, stops-then}
use Rattle.stream_turns.proofs.FaultLemmas.{given-up-later, given-up-memory}
use Rattle.stream_turns.proofs.TakenLemmas.{gone-nothing, turned-is, turned-then}
use Rattle.stream_turns.proofs.run.run_stream.Goals as goal

pub loop-init : goal.loop-init
loop-init g c = record {
  ready = c.requires.ready;
  closed = c.requires.closed;
  rows = [];
  goes = goes-same c.args.call.now.names c.args.stream c.args.stream _ _ refl refl refl
      refl;
  stands = c.requires.stands;
  taken = λ skipped text has. gone-nothing c.args.call.now.names skipped text _ has
      c.requires.ready.fed;
  writes = refl;
}

pub returns-in_err-turned-clause-stopped : goal.returns-in_err-turned-clause-stopped
returns-in_err-turned-clause-stopped g c =
    let fault = err_from_is_err_and c.from_residual.result c.from_residual.ensures.1 in
    rw fault.1
    (stops-then c.args.call.now.names c.loop.invariant.rows c.args.stream c.loop.stream _ _ _
    c.loop.invariant.goes c.in_err-turned.ensures.stopped)

pub returns-in-Some-clause-goes : goal.returns-in-Some-clause-goes
returns-in-Some-clause-goes g c =
    let inv = c.loop.invariant in
    let more = c.in_ok-turned.ensures.goes in (
      inv.rows ++ more.0,
      goes-then c.args.call.now.names inv.rows more.0 c.args.stream c.loop.stream
          c.in_ok-turned.turned.stream _ _ _ inv.goes more.1,
    )

pub returns-in-Some-clause-taken : goal.returns-in-Some-clause-taken
returns-in-Some-clause-taken g c skipped text has =
    let on = c.loop.invariant.taken skipped text has in
    let turned = c.in_ok-turned.turned in
    turned-is c.args.call.now.names skipped text _ _ turned.end (Some c.in-Some.end) c.in-Some.is
    (turned-then c.later_requests_are_judged_later.ensures c.args.call.now.names skipped text _ _ _
    (omega (arith, has.read.fed, c.requires.ready.fed)) on turned.end
    (c.in_ok-turned.ensures.taken skipped (text ++ on.gone.given) on.taken))

pub loop-preserved : goal.loop-preserved
loop-preserved g c =
    let inv = c.loop.invariant in
    let next = c.in_ok-turned.ensures in
    let turned = c.in_ok-turned.turned in
    record {
      ready = next.ready;
      closed = next.closed;
      rows = inv.rows ++ next.goes.0;
      goes = goes-then c.args.call.now.names inv.rows next.goes.0 c.args.stream c.loop.stream
          turned.stream _ _ _ inv.goes next.goes.1;
      stands = next.stands;
      taken = λ skipped text has.
          let on = inv.taken skipped text has in
          (turned-is c.args.call.now.names skipped text _ _ turned.end None c.in_default.is
          (turned-then c.later_requests_are_judged_later.ensures c.args.call.now.names skipped text _ _ _
          (omega (arith, has.read.fed, c.requires.ready.fed)) on turned.end
          (next.taken skipped (text ++ on.gone.given) on.taken))).0;
      writes = next.writes ∙ inv.writes;
    }

pub returns-in_err-turned-clause-cause : goal.returns-in_err-turned-clause-cause
returns-in_err-turned-clause-cause g c =
    let fault = err_from_is_err_and c.from_residual.result c.from_residual.ensures.1 in
    rw (fault.1, fault.2)
    (given-up-later c.args.call.now.names (g.S.Shelf.state c.args.shelf.now).faults
    (g.S.Shelf.state c.loop.shelf).faults (g.S.Shelf.state c.turn.new.shelf).faults _
    c.loop.invariant.writes c.in_err-turned.ensures.cause)

pub returns-clause-cause : goal.returns-clause-cause
returns-clause-cause g c =
    given-up-memory c.args.call.now.names (g.S.Shelf.state c.args.shelf.now).faults
    (g.S.Shelf.state c.loop.shelf).faults c.loop.invariant.writes

pub returns-clause-stopped : goal.returns-clause-stopped
returns-clause-stopped g c =
    stops-then c.args.call.now.names c.loop.invariant.rows c.args.stream c.loop.stream _ _ _
    c.loop.invariant.goes (stops-between c.args.call.now.names c.loop.stream _ _ refl)
