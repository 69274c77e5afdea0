use Rattle.std.proofs.Common.{refl, sym, subst}
use Rattle.std.specs.Prelude.{◌↔◌, IsTrue}
use Rattle.flow_model.specs.Duties.{duties}
use Rattle.flow_model.specs.Feeding.{feed_from}
use Rattle.flow_model.specs.Law.{IsEnabled}
use Rattle.flow_model.specs.Requests.{afters}
use Rattle.flow_model.specs.Setup.{setup_view}
use Rattle.flow_model.specs.Workers.{nth_worker}
use Rattle.audit_laws.specs.declared.audit.AuditEntry.{AuditEntry}
use Rattle.audit_laws.specs.Drafted.{draft}
use Rattle.audit_journal.specs.Course.{progress_of}
use Rattle.audit_journal.proofs.CourseLemmas.{ended_enabled, marked_enabled, met_enabled, turned_enabled}
use Rattle.audit_journal.proofs.course.Course.admits.Goals as goal

pub returns-then-admits_tuple : goal.returns-then-admits_tuple
returns-then-admits_tuple c =
    let setup = setup_view c.args.who.setup.now in
    let begin = c.args.start.now in
    let who = nth_worker setup.job c.args.who.number in
    let feeds = feed_from begin.row begin.turned (afters setup.requests) c.args.rows in
    let both = met_enabled setup c.args.who.number c.args.who.there begin.turned feeds c.args.self.now c.in-Met.lane c.in-Met.row c.in-Met.birth in
    subst (λ (e : AuditEntry). IsTrue c.is_in_time.result ↔ IsEnabled (duties setup begin.turned who) (progress_of setup who.node c.args.self.now) (draft begin.turned feeds e)) (sym c.in-Met.is)
    (λ t. both.0 (c.if-admits_tuple.ensures.0 refl, c.is_in_time.ensures.0 t), λ h. c.is_in_time.ensures.1 (both.1 h).1)

pub returns-else-admits_tuple : goal.returns-else-admits_tuple
returns-else-admits_tuple c =
    let setup = setup_view c.args.who.setup.now in
    let begin = c.args.start.now in
    let who = nth_worker setup.job c.args.who.number in
    let feeds = feed_from begin.row begin.turned (afters setup.requests) c.args.rows in
    let both = met_enabled setup c.args.who.number c.args.who.there begin.turned feeds c.args.self.now c.in-Met.lane c.in-Met.row c.in-Met.birth in
    subst (λ (e : AuditEntry). IsTrue c.admits_tuple.result ↔ IsEnabled (duties setup begin.turned who) (progress_of setup who.node c.args.self.now) (draft begin.turned feeds e)) (sym c.in-Met.is)
    (λ t. let f = c.if-admits_tuple.false in absurd (cc), λ h. c.admits_tuple.ensures.1 (both.1 h).0)

pub returns-in-Marked : goal.returns-in-Marked
returns-in-Marked c =
    let setup = setup_view c.args.who.setup.now in
    let begin = c.args.start.now in
    let who = nth_worker setup.job c.args.who.number in
    let feeds = feed_from begin.row begin.turned (afters setup.requests) c.args.rows in
    let both = marked_enabled setup c.args.who.number c.args.who.there begin.turned feeds c.args.self.now c.in-Marked.lane c.in-Marked.request in
    subst (λ (e : AuditEntry). IsTrue c.admits_marker.result ↔ IsEnabled (duties setup begin.turned who) (progress_of setup who.node c.args.self.now) (draft begin.turned feeds e)) (sym c.in-Marked.is)
    (λ t. both.0 (c.admits_marker.ensures.0 t), λ h. c.admits_marker.ensures.1 (both.1 h))

pub returns-in-Turned : goal.returns-in-Turned
returns-in-Turned c =
    let setup = setup_view c.args.who.setup.now in
    let begin = c.args.start.now in
    let who = nth_worker setup.job c.args.who.number in
    let feeds = feed_from begin.row begin.turned (afters setup.requests) c.args.rows in
    let both = turned_enabled setup c.args.who.number c.args.who.there begin.turned feeds c.args.self.now c.in-Turned.request in
    subst (λ (e : AuditEntry). IsTrue c.admits_turn.result ↔ IsEnabled (duties setup begin.turned who) (progress_of setup who.node c.args.self.now) (draft begin.turned feeds e)) (sym c.in-Turned.is)
    (λ t. both.0 (c.admits_turn.ensures.0 t), λ h. c.admits_turn.ensures.1 (both.1 h))

pub returns-in-Ended : goal.returns-in-Ended
returns-in-Ended c =
    let setup = setup_view c.args.who.setup.now in
    let begin = c.args.start.now in
    let who = nth_worker setup.job c.args.who.number in
    let feeds = feed_from begin.row begin.turned (afters setup.requests) c.args.rows in
    let both = ended_enabled setup c.args.who.number c.args.who.there begin.turned feeds c.args.self.now c.in-Ended.lane in
    subst (λ (e : AuditEntry). IsTrue c.admits_end.result ↔ IsEnabled (duties setup begin.turned who) (progress_of setup who.node c.args.self.now) (draft begin.turned feeds e)) (sym c.in-Ended.is)
    (λ t. both.0 (c.admits_end.ensures.0 t), λ h. c.admits_end.ensures.1 (both.1 h))
