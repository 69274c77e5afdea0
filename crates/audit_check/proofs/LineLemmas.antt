-- Which line the cells of a record tell.
use Rattle.std.proofs.Common.{◌≡◌, ◌≢◌, ◌∙◌, ◌<◌, ◌^◌, ℕ, ℤ, List, sym, ap, subst, length, decimal, Some, slice_get}
use Rattle.std.specs.Int.Signed.{mag}
use Rattle.std.proofs.lemmas.Option.{slice_get_within}
use Rattle.jobs.specs.Law.{IsLawful}
use Rattle.jobs.specs.JobView.{JobView}
use Rattle.sink_journal.specs.Audit.{feed_fields, refused_fields}
use Rattle.sink_journal.specs.declared.audit.Noted.{Noted}
use Rattle.sink_journal.specs.declared.journal.Feed.{Feed}
use Rattle.flow_model.proofs.WorkerLemmas.{item_at}
use Rattle.audit_laws.specs.declared.audit.AuditEntry.{AuditEntry}
use Rattle.audit_laws.specs.declared.audit.Line.{Line}
use Rattle.audit_laws.specs.declared.audit.Line.TheVariants as line
use Rattle.audit_fault.specs.Noting.{IsNoted}
use Rattle.audit_laws.specs.Lines.{IsEntryAt, IsLawfulLine, IsStep, count_fields, fields_by, kept_fields, line_fields}
use Rattle.audit_laws.specs.Names.{Named, named_workers}
use Rattle.audit_laws.proofs.LineLemmas.{entry_node, field}
use Rattle.audit_laws.proofs.NamedLemmas.{are_told}
use Rattle.audit_check.specs.Cells.{IsNamed, NamesWorker, cells_of}
use Rattle.audit_check.specs.declared.records.Six.{Six}

-- no refused request, and no step of the feeder, has these cells
abbrev pub NoRefusal : Six → Type 0
NoRefusal six = (noted : Noted) → IsNoted noted → cells_of six ≢ refused_fields noted

abbrev pub NoStep : Six → Type 0
NoStep six = (step : Feed) → IsStep step → cells_of six ≢ feed_fields step

-- the worker of a line has the names that its cells have
step_names : (job : JobView) (six : Six) (w : ℕ) (e : AuditEntry) → w < length (named_workers job.nodes) → cells_of six ≡ line_fields (named_workers job.nodes) (line.Step w e)
    → (x : Named) × (slice_get (named_workers job.nodes) w ≡ Some x) × (x.node ≡ six.node.now) × (decimal x.place ≡ six.worker.now) × (cells_of six ≡ kept_fields x e)
step_names job six w e lt h =
    let x = item_at (named_workers job.nodes) w lt in
    let g : cells_of six ≡ kept_fields x.0 e = h ∙ ap (fields_by (λ worker. kept_fields worker e)) x.1 in
    let n = entry_node x.0 e in
    (x.0, x.1, sym (ap (field 1) g ∙ n.0), sym (ap (field 2) g ∙ n.1), g)

state_names : (job : JobView) (six : Six) (w : ℕ) (key : List ℕ) (count : ℤ) → w < length (named_workers job.nodes) → cells_of six ≡ line_fields (named_workers job.nodes) (line.State w key count)
    → (x : Named) × (slice_get (named_workers job.nodes) w ≡ Some x) × (x.node ≡ six.node.now) × (decimal x.place ≡ six.worker.now) × (cells_of six ≡ count_fields x (key, count))
state_names job six w key count lt h =
    let x = item_at (named_workers job.nodes) w lt in
    let g : cells_of six ≡ count_fields x.0 (key, count) = h ∙ ap (fields_by (λ worker. count_fields worker (key, count))) x.1 in
    (x.0, x.1, sym (ap (field 1) g), sym (ap (field 2) g), g)

-- cells that name no worker tell no line of a worker
pub no_worker : (job : JobView) (six : Six) → NoRefusal six → NoStep six → ((w : ℕ) → NamesWorker job six.node.now six.worker.now w → ⊥)
    → (l : Line) → IsLawfulLine job l → cells_of six ≡ line_fields (named_workers job.nodes) l → ⊥
no_worker job six a b c (line.Refused noted) is e = a noted is e
no_worker job six a b c (line.Feed step) is e = b step is e
no_worker job six a b c (line.Step w entry) is e = let n = step_names job six w entry is.0 e in c w (n.0, n.1, n.2, n.3)
no_worker job six a b c (line.State w key count) is e = let n = state_names job six w key count is.0 e in c w (n.0, n.1, n.2, n.3)

-- cells of a worker that tell neither a step nor a count tell no line
pub no_line : (job : JobView) → IsLawful job → (six : Six) (w : ℕ) → NoRefusal six → NoStep six → NamesWorker job six.node.now six.worker.now w
    → ((x : Named) (e : AuditEntry) → IsEntryAt job w e → cells_of six ≢ kept_fields x e)
    → ((x : Named) (key : List ℕ) (count : ℤ) → mag count < 2 ^ 63 → cells_of six ≢ count_fields x (key, count))
    → (l : Line) → IsLawfulLine job l → cells_of six ≡ line_fields (named_workers job.nodes) l → ⊥
no_line job law six w a b c d f (line.Refused noted) is e = a noted is e
no_line job law six w a b c d f (line.Feed step) is e = b step is e
no_line job law six w a b (y, there, name, at) d f (line.Step v entry) is e =
    let n = step_names job six v entry is.0 e in
    let same : v ≡ w = are_told job law v w n.0 y n.1 there (n.2 ∙ sym name) (n.3 ∙ sym at) in
    d n.0 entry (subst (λ u. IsEntryAt job u entry) same is.1) n.4
no_line job law six w a b c d f (line.State v key count) is e = let n = state_names job six v key count is.0 e in f n.0 key count is.1 n.4

-- cells that tell a step of the worker that they name tell the line
pub step_line : (job : JobView) (six : Six) (w : ℕ) (e : AuditEntry) → NamesWorker job six.node.now six.worker.now w → IsEntryAt job w e × ((x : Named) → IsNamed six x → cells_of six ≡ kept_fields x e)
    → IsLawfulLine job (line.Step w e) × (cells_of six ≡ line_fields (named_workers job.nodes) (line.Step w e))
step_line job six w e (x, there, name, at) (is, told) =
    ((slice_get_within (named_workers job.nodes) w x there, is), told x (name, at) ∙ sym (ap (fields_by (λ worker. kept_fields worker e)) there))

pub state_line : (job : JobView) (six : Six) (w : ℕ) (key : List ℕ) (count : ℤ) → NamesWorker job six.node.now six.worker.now w → mag count < 2 ^ 63 → key ≡ six.extra.now
    → ((x : Named) → IsNamed six x → cells_of six ≡ count_fields x (six.extra.now, count))
    → IsLawfulLine job (line.State w key count) × (cells_of six ≡ line_fields (named_workers job.nodes) (line.State w key count))
state_line job six w key count (x, there, name, at) range same told = (
  (slice_get_within (named_workers job.nodes) w x there, range),
  told x (name, at) ∙ (ap (λ (k : List ℕ). count_fields x (k, count)) (sym same) ∙ sym (ap (fields_by (λ worker. count_fields worker (key, count))) there)),
)
