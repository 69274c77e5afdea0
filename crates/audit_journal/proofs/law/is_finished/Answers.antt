use Rattle.std.proofs.Common.{◌≡◌, ◌∙◌, ◌+◌, ◌++◌, ◌∷◌, [], List, refl, sym, subst, ap, drop, length, take}
use Rattle.std.proofs.lemmas.List.{drop_more, take_all, take-append-drop, take_more}
use Rattle.tuple_trace.specs.declared.row.Row.{Row}
use Rattle.flow_model.specs.Duties.{duties}
use Rattle.flow_model.specs.Feeding.{feed_from}
use Rattle.flow_model.specs.Law.{IsEnabled}
use Rattle.flow_model.specs.Requests.{afters}
use Rattle.flow_model.specs.Setup.{setup_view}
use Rattle.flow_model.specs.Workers.{nth_worker}
use Rattle.audit_laws.specs.declared.audit.AuditEntry.{AuditEntry}
use Rattle.audit_laws.specs.Delivered.{feed_of}
use Rattle.audit_laws.specs.Drafted.{draft}
use Rattle.audit_journal.specs.Course.{progress_of}
use Rattle.audit_journal.proofs.CourseLemmas.{done_lanes}
use Rattle.audit_journal.proofs.LawLemmas.{HasCome, is_finished, not_finished, one_more}
use Rattle.audit_journal.proofs.law.is_finished.Goals as goal

pub returns-then-not-admits : goal.returns-then-not-admits
returns-then-not-admits c =
    let setup = setup_view c.args.who.setup.now in
    let begin = c.args.start.now in
    let who = nth_worker setup.job c.args.who.number in
    let journal = c.args.journal.now in
    let i = c.loop-entry.entry-index in
    let this : AuditEntry = c.entry-item.result in
    let split : journal ≡ take i journal ++ this ∷ drop (i + 1) journal =
    sym (take-append-drop i journal) ∙ ap (λ (l : List AuditEntry). take i journal ++ l)
    (drop_more journal i this c.loop-entry-test.true ∙ ap (λ (x : AuditEntry). x ∷ drop (i + 1) journal) (sym c.entry-item.is)) in
    let bad = subst (λ (r : List Row). IsEnabled (duties setup begin.turned who) (progress_of setup who.node c.loop-entry.course) (draft begin.turned (feed_from begin.row begin.turned (afters setup.requests) (length r)) this) → ⊥)
    c.as_slice.ensures.value (λ may. let f = c.if-not-admits.ensures.1 may in absurd (cc)) in
    (λ f. absurd (cc), λ law. absurd (not_finished (duties setup begin.turned who) begin.turned (feed_of begin setup c.args.rows.now) journal (take i journal) (drop (i + 1) journal) (progress_of setup who.node c.loop-entry.course) this c.loop-entry.invariant bad split law))

pub loop-entry-preserved : goal.loop-entry-preserved
loop-entry-preserved c =
    let setup = setup_view c.args.who.setup.now in
    let begin = c.args.start.now in
    let who = nth_worker setup.job c.args.who.number in
    let feeds = feed_of begin setup c.args.rows.now in
    let journal = c.args.journal.now in
    let i = c.loop-entry.entry-index in
    let this : AuditEntry = c.entry-item.result in
    let more : take (i + 1) journal ≡ take i journal ++ this ∷ [] =
    take_more journal i this c.loop-entry-test.true ∙ ap (λ (x : AuditEntry). take i journal ++ x ∷ []) (sym c.entry-item.is) in
    let may = subst (λ (r : List Row). IsEnabled (duties setup begin.turned who) (progress_of setup who.node c.loop-entry.course) (draft begin.turned (feed_from begin.row begin.turned (afters setup.requests) (length r)) this))
    c.as_slice.ensures.value (c.if-not-admits.ensures.0 refl) in
    subst (λ (l : List AuditEntry). HasCome (duties setup begin.turned who) begin.turned feeds l (progress_of setup who.node c.enter.new.self)) (sym more)
    (one_more (duties setup begin.turned who) begin.turned feeds (take i journal) (progress_of setup who.node c.loop-entry.course) (progress_of setup who.node c.enter.new.self) this c.loop-entry.invariant may c.in_ok-enter.ensures)

pub returns : goal.returns
returns c =
    let setup = setup_view c.args.who.setup.now in
    let begin = c.args.start.now in
    let who = nth_worker setup.job c.args.who.number in
    let feeds = feed_of begin setup c.args.rows.now in
    let course = c.loop-entry.course in
    let come = subst (λ (l : List AuditEntry). HasCome (duties setup begin.turned who) begin.turned feeds l (progress_of setup who.node course)) (take_all c.loop-entry.entry-index c.args.journal.now c.loop-entry-test.false) c.loop-entry.invariant in
    let both = is_finished (duties setup begin.turned who) begin.turned feeds c.args.journal.now (progress_of setup who.node course) come in
    let lanes = done_lanes setup c.args.who.number c.args.who.there begin.turned feeds course in
    (λ t. both.0 (lanes.0 (c.is_done.ensures.0 t)), λ law. c.is_done.ensures.1 (lanes.1 (both.1 law)))
