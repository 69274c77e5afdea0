-- The entries of a journal by their lanes.
use Rattle.std.specs.Prelude.{◌≡◌, ◌<◌, ◌++◌, ◌∷◌, [], ℕ, List, Option, Some, None, filter, length}
use Rattle.std.specs.Prelude.{map, get_or, slice_set}
use Rattle.std.specs.Borrow.{Bor}
use Rattle.audit_laws.specs.declared.audit.AuditEntry.{AuditEntry}
use Rattle.audit_laws.specs.declared.audit.AuditEntry.TheVariants as kept
use Rattle.audit_laws.specs.Faults.{comes_by}

abbrev pub entries_of : List (Bor AuditEntry) → List AuditEntry
entries_of entries = map (λ entry. entry.now) entries

-- The lane that an entry came by.
abbrev pub lane_came_by : AuditEntry → Option ℕ
lane_came_by (kept.Met lane row birth) = Some lane
lane_came_by (kept.Marked lane request) = Some lane
lane_came_by (kept.Turned request) = None
lane_came_by (kept.Ended lane) = Some lane

abbrev pub added_to : List (List AuditEntry) → AuditEntry → Option ℕ → List (List AuditEntry)
added_to lists entry None = lists
added_to lists entry (Some lane) = slice_set lists lane (get_or lists lane [] ++ entry ∷ [])

-- These are the entries of each of the first `lanes` lanes.
pub record AreOnLanes (lanes : ℕ) (journal : List AuditEntry)
    (lists : List (List AuditEntry)) : Type 0
  where
    pub long : length lists ≡ lanes
    pub each : (n : ℕ) → n < lanes → get_or lists n [] ≡ filter (comes_by n) journal
