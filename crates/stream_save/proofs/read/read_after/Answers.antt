use Rattle.std.proofs.Common.{◌∙◌, Err, Ok, refl, sym}
use Rattle.std.proofs.lemmas.Result.{err_from_is_err_and}
use Rattle.flow_model.specs.Setup.{setup_view}
use Rattle.savepoint_file.proofs.ReadLemmas.{named-read}
use Rattle.stream_save.specs.StreamReading.{saved_at}
use Rattle.stream_save.proofs.ReadLemmas.{after-misspelled, after-read, part-told}
use Rattle.stream_save.proofs.read.read_after.Goals as goal

pub returns-in_err-counts-clause-fault : goal.returns-in_err-counts-clause-fault
returns-in_err-counts-clause-fault c =
    let p = err_from_is_err_and c.from_residual-in_err-counts.result c.from_residual-in_err-counts.ensures.1 in
    rw (p.1, p.2) (λ other.
    after-misspelled (setup_view c.args.setup.now).job c.args.head.now c.args.records.now c.read_waits.new.records c.in_ok-waits.waits _
    (rw (← c.head.view_is) c.in_ok-waits.ensures.ok) (rw (← c.head.view_is) c.in_ok-waits.ensures.rest) (rw (← c.head.view_is) (c.in_err-counts.ensures.fault (part-told _ other))))

pub start_at-requires-clause-named : goal.start_at-requires-clause-named
start_at-requires-clause-named c =
    let named = named-read (setup_view c.args.setup.now).job _ c.read_waits.new.records c.in_ok-counts.counts c.in_ok-counts.ensures.ok in
    (named.0, c.as_slice-2.ensures ∙ named.1)

pub returns-in_err-start-clause-fault : goal.returns-in_err-start-clause-fault
returns-in_err-start-clause-fault c =
    let p = err_from_is_err_and c.from_residual-in_err-start.result c.from_residual-in_err-start.ensures.1 in
    rw (p.1, p.2) (λ other.
    after-read (setup_view c.args.setup.now).job c.args.head.now c.args.records.now c.read_waits.new.records c.in_ok-waits.waits c.in_ok-counts.counts (Err _)
    (rw (← c.head.view_is) c.in_ok-waits.ensures.ok) (rw (← c.head.view_is) c.in_ok-waits.ensures.rest) (rw (← c.head.view_is) c.in_ok-counts.ensures.ok)
    (λ spelled is. rw (sym c.as_slice.ensures) (c.in_err-start.ensures.fault other spelled (c.as_slice-2.ensures ∙ is))))

pub returns-clause-ok : goal.returns-clause-ok
returns-clause-ok c =
    after-read (setup_view c.args.setup.now).job c.args.head.now c.args.records.now c.read_waits.new.records c.in_ok-waits.waits c.in_ok-counts.counts (Ok (saved_at c.args.head.now c.in_ok-waits.waits c.in_ok-start.start))
    (rw (← c.head.view_is) c.in_ok-waits.ensures.ok) (rw (← c.head.view_is) c.in_ok-waits.ensures.rest) (rw (← c.head.view_is) c.in_ok-counts.ensures.ok)
    (λ spelled is. rw (sym c.as_slice.ensures) (c.in_ok-start.ensures.ok spelled (c.as_slice-2.ensures ∙ is)))
    ∙ rw (← c.head.view_is) refl
