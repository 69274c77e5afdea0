-- The audits of worked runs.
use Rattle.std.specs.Prelude.{ℕ, List, [], ◌∷◌, codes}
use Rattle.std.specs.FinMap.{empty}
use Rattle.sink_journal.specs.Audit.{audit_header, audit_records}
use Rattle.sink_journal.specs.declared.journal.Entry.TheVariants as entry
use Rattle.sink_journal.specs.declared.journal.Feed.TheVariants as feed
use Rattle.flow_model.specs.FourPayments.{chain}

-- The records of the audit of no payments.
abbrev pub audit_of_none : List (List (List ℕ))
audit_of_none =
    audit_header
    ∷ audit_records chain [] (feed.Stopped ∷ []) ((entry.Ended 0 ∷ []) ∷ (entry.Ended 1 ∷ []) ∷ [])
    (empty ∷ empty ∷ [])

-- `entry,node,worker,lane,number,extra`, `stopped,,,,,`, `ended,big,0,0,,` and `ended,alerts,0,1,,`
abbrev pub records_of_none : List (List (List ℕ))
records_of_none =
    (codes "entry" ∷ codes "node" ∷ codes "worker" ∷ codes "lane" ∷ codes "number" ∷ codes "extra"
    ∷ [])
    ∷ (codes "stopped" ∷ [] ∷ [] ∷ [] ∷ [] ∷ [] ∷ [])
    ∷ (codes "ended" ∷ codes "big" ∷ codes "0" ∷ codes "0" ∷ [] ∷ [] ∷ [])
    ∷ (codes "ended" ∷ codes "alerts" ∷ codes "0" ∷ codes "1" ∷ [] ∷ [] ∷ [])
    ∷ []
