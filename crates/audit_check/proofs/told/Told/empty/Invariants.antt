use Rattle.std.proofs.Common.{◌≡◌, [], List, replicate}
use Rattle.audit_laws.specs.declared.audit.AuditEntry.{AuditEntry}
use Rattle.audit_laws.specs.Faults.{Listed}
use Rattle.audit_check.proofs.told.Told.empty.Given as goal

abbrev pub invariant-loop-worker : goal.invariant-loop-worker
invariant-loop-worker l = record {
  journals : l.journals.items ≡ replicate {A = List AuditEntry} l._worker [];
  states : l.states.items ≡ replicate {A = Listed} l._worker [];
}
