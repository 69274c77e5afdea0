use Rattle.std.proofs.Common.{◌∙◌, Err, Ok, sym}
use Rattle.std.proofs.lemmas.Result.{IfErr-weaker, IfOk-weaker, err_from_is_err_and}
use Rattle.csv.specs.Records.{fields_of}
use Rattle.flow_model.specs.Setup.{setup_view}
use Rattle.savepoint_file.proofs.ReadLemmas.{begin-misspelled, begin-read, named-read}
use Rattle.savepoint_file.proofs.read.read_records.Goals as goal

pub returns-in_err-counts-clause-fault : goal.returns-in_err-counts-clause-fault
returns-in_err-counts-clause-fault c =
    let p = err_from_is_err_and c.from_residual-in_err-counts.result c.from_residual-in_err-counts.ensures.1 in
    let first = rw c.if-not-branch.false at c.in_ok-next.ensures in
    rw (p.1, p.2) (λ other.
    begin-misspelled (setup_view c.args.setup.now) c.args.rows (fields_of c.next.new.cells) _ c.next.new.self (c.in-Some.row, c.in-Some.turned) _ first (sym c.in-Some.ensures) (c.in_err-counts.ensures.fault other))

pub begin_at-requires : goal.begin_at-requires
begin_at-requires c =
    let named = named-read (setup_view c.args.setup.now).job 1 c.next.new.self c.in_ok-counts.counts c.in_ok-counts.ensures.ok in
    (named.0, c.as_slice.ensures ∙ named.1)

pub returns-clause-ok : goal.returns-clause-ok
returns-clause-ok c =
    let first = rw c.if-not-branch.false at c.in_ok-next.ensures in
    IfOk-weaker c.begin_at.result _ _
    (λ start h. begin-read (setup_view c.args.setup.now) c.args.rows (fields_of c.next.new.cells) _ c.next.new.self (c.in-Some.row, c.in-Some.turned) c.in_ok-counts.counts (Ok start) first (sym c.in-Some.ensures)
    c.in_ok-counts.ensures.ok (λ spelled is. h spelled (c.as_slice.ensures ∙ is)))
    c.begin_at.ensures.ok

pub returns-clause-fault : goal.returns-clause-fault
returns-clause-fault c =
    let first = rw c.if-not-branch.false at c.in_ok-next.ensures in
    IfErr-weaker c.begin_at.result _ _
    (λ fault h other. begin-read (setup_view c.args.setup.now) c.args.rows (fields_of c.next.new.cells) _ c.next.new.self (c.in-Some.row, c.in-Some.turned) c.in_ok-counts.counts (Err fault) first (sym c.in-Some.ensures)
    c.in_ok-counts.ensures.ok (λ spelled is. h other spelled (c.as_slice.ensures ∙ is)))
    c.begin_at.ensures.fault
