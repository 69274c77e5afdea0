-- What the cells of a step are.
use Rattle.std.proofs.Common.{◌≡◌, ◌≢◌, ◌∙◌, ℕ, List, [], refl, sym, ap, arith, codes, decimal, sum}
use Rattle.sink_journal.specs.Audit.{dotted}
use Rattle.audit_laws.specs.declared.audit.AuditEntry.{AuditEntry}
use Rattle.audit_laws.specs.declared.audit.AuditEntry.TheVariants as kept
use Rattle.audit_laws.specs.Lines.{kept_fields}
use Rattle.audit_laws.specs.Names.{Named}
use Rattle.audit_laws.proofs.LineLemmas.{entry_name, entry_named, field}
use Rattle.audit_check.specs.Cells.{cells_of}
use Rattle.audit_check.specs.declared.records.Six.{Six}

-- the name of a step is its first cell
pub first_cell : (six : Six) (x : Named) (e : AuditEntry) → cells_of six ≡ kept_fields x e → six.entry.now ≡ entry_name e
first_cell six x e h = ap (field 0) h ∙ entry_named x e

pub is_met : (six : Six) (x : Named) (e : AuditEntry) → six.entry.now ≡ codes "met" → cells_of six ≡ kept_fields x e
    → (l row : ℕ) × (birth : List ℕ) × (e ≡ kept.Met l row birth) × (six.lane.now ≡ decimal l) × (six.number.now ≡ decimal row) × (six.extra.now ≡ dotted birth)
is_met six x (kept.Met l row birth) n h = (l, row, birth, refl, ap (field 3) h, ap (field 4) h, ap (field 5) h)
is_met six x (kept.Marked l r) n h = absurd (omega (arith, ap sum (sym n ∙ ap (field 0) h)))
is_met six x (kept.Turned r) n h = absurd (omega (arith, ap sum (sym n ∙ ap (field 0) h)))
is_met six x (kept.Ended l) n h = absurd (omega (arith, ap sum (sym n ∙ ap (field 0) h)))

pub is_marked : (six : Six) (x : Named) (e : AuditEntry) → six.entry.now ≡ codes "marked" → cells_of six ≡ kept_fields x e
    → (l r : ℕ) × (e ≡ kept.Marked l r) × (six.lane.now ≡ decimal l) × (six.number.now ≡ decimal r)
is_marked six x (kept.Met l row birth) n h = absurd (omega (arith, ap sum (sym n ∙ ap (field 0) h)))
is_marked six x (kept.Marked l r) n h = (l, r, refl, ap (field 3) h, ap (field 4) h)
is_marked six x (kept.Turned r) n h = absurd (omega (arith, ap sum (sym n ∙ ap (field 0) h)))
is_marked six x (kept.Ended l) n h = absurd (omega (arith, ap sum (sym n ∙ ap (field 0) h)))

pub is_turned : (six : Six) (x : Named) (e : AuditEntry) → six.entry.now ≡ codes "turned" → cells_of six ≡ kept_fields x e
    → (r : ℕ) × (e ≡ kept.Turned r) × (six.lane.now ≡ []) × (six.number.now ≡ decimal r)
is_turned six x (kept.Met l row birth) n h = absurd (omega (arith, ap sum (sym n ∙ ap (field 0) h)))
is_turned six x (kept.Marked l r) n h = absurd (omega (arith, ap sum (sym n ∙ ap (field 0) h)))
is_turned six x (kept.Turned r) n h = (r, refl, ap (field 3) h, ap (field 4) h)
is_turned six x (kept.Ended l) n h = absurd (omega (arith, ap sum (sym n ∙ ap (field 0) h)))

pub is_ended : (six : Six) (x : Named) (e : AuditEntry) → six.entry.now ≡ codes "ended" → cells_of six ≡ kept_fields x e
    → (l : ℕ) × (e ≡ kept.Ended l) × (six.lane.now ≡ decimal l) × (six.number.now ≡ [])
is_ended six x (kept.Met l row birth) n h = absurd (omega (arith, ap sum (sym n ∙ ap (field 0) h)))
is_ended six x (kept.Marked l r) n h = absurd (omega (arith, ap sum (sym n ∙ ap (field 0) h)))
is_ended six x (kept.Turned r) n h = absurd (omega (arith, ap sum (sym n ∙ ap (field 0) h)))
is_ended six x (kept.Ended l) n h = (l, refl, ap (field 3) h, ap (field 4) h)

-- a step with another name than these, or that is no met tuple and has something in its last cell
pub no_entry : (six : Six) (x : Named) (e : AuditEntry) → six.entry.now ≢ codes "met" → six.entry.now ≢ codes "marked" → six.entry.now ≢ codes "turned" → six.entry.now ≢ codes "ended" → cells_of six ≢ kept_fields x e
no_entry six x (kept.Met l row birth) a b c d h = a (ap (field 0) h)
no_entry six x (kept.Marked l r) a b c d h = b (ap (field 0) h)
no_entry six x (kept.Turned r) a b c d h = c (ap (field 0) h)
no_entry six x (kept.Ended l) a b c d h = d (ap (field 0) h)

pub no_extra : (six : Six) (x : Named) (e : AuditEntry) → six.entry.now ≢ codes "met" → six.extra.now ≢ [] → cells_of six ≢ kept_fields x e
no_extra six x (kept.Met l row birth) a b h = a (ap (field 0) h)
no_extra six x (kept.Marked l r) a b h = b (ap (field 5) h)
no_extra six x (kept.Turned r) a b h = b (ap (field 5) h)
no_extra six x (kept.Ended l) a b h = b (ap (field 5) h)
