use Rattle.std.proofs.Common.{◌∙◌, Option, refl, subst, sym}
use Rattle.std.proofs.lemmas.Result.{IfErr-at_err, IfOk-at_ok}
use Rattle.std.specs.Prelude.{IfNone}
use Rattle.flow_crew.proofs.Settling.{if_none}
use Rattle.stream_call.specs.Ended.{EndsWhole, Unopened, stream_leaves, terms_of}
use Rattle.stream_call.specs.declared.fault.StreamFault.{StreamFault}
use Rattle.stream_call.proofs.StoppedLemmas.{Begun, by-another, stopped-by}
use Rattle.stream_call.proofs.calls.stream.Goals as goal

pub returns-in-Ok-clause-ran : goal.returns-in-Ok-clause-ran
returns-in-Ok-clause-ran g c =
    let opened = c.into_inner-opened.result in
    let shelf = g.S.Shelf.state c.«open».new.shelf in
    let new = g.S.Shelf.state c.run_opened-ran.new.shelf in
    let ran = c.run_opened-ran.result in
    if_none c.outcome_of.result.fault
    (λ none. record {
      opened = opened;
      shelf = shelf;
      opens = rw c.into_inner-opened.ensures
          (IfOk-at_ok _ c.in-Ok.is c.«open».ensures.opens);
      inputs = ran.inputs;
      ended = subst (λ (o : Option StreamFault). IfNone o (EndsWhole
          (terms_of c.args.files.now opened) (Begun opened shelf (g.T.Tap.state c.args.tap.now))
          (stream_leaves ran.inputs (g.T.Tap.state c.run_opened-ran.new.tap) new))) none.0
          c.run_opened-ran.ensures.whole;
      refused_are = c.outcome_of.ensures.refused;
      prints = rw (sym c.run_opened-ran.ensures.rows) none.1;
    }) c.outcome_of.ensures.none

pub returns-in-Ok-clause-stopped : goal.returns-in-Ok-clause-stopped
returns-in-Ok-clause-stopped g c =
    let opened = c.into_inner-opened.result in
    let ran = c.run_opened-ran in
    by-another c.outcome_of.result.fault _ _
    (λ why some. stopped-by c.args.files.now _ _ _ _ c.outcome_of.result.refused opened
    (g.S.Shelf.state c.«open».new.shelf) ran.result.inputs ran.result.rows ran.result.fault why
    (rw c.into_inner-opened.ensures (IfOk-at_ok _ c.in-Ok.is c.«open».ensures.opens))
    ran.ensures.left ran.ensures.whole
    c.outcome_of.ensures.refused ran.ensures.rows some)
    c.outcome_of.ensures.some

pub returns-in-Err-clause-stopped : goal.returns-in-Err-clause-stopped
returns-in-Err-clause-stopped g c =
    rw c.outcome_with.ensures.fault
    (Unopened _ (IfErr-at_err _ c.in-Err.is c.«open».ensures.cause)
    (c.outcome_with.ensures.refused ∙ c.new.ensures) refl)
