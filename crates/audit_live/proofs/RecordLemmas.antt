-- The rows that the records of an audit show are those of its feed.
use Rattle.std.proofs.Common.{◌≡◌, ◌∙◌, ◌+◌, ℕ, ℤ, suc, List, [], ◌∷◌, ◌++◌, refl, sym, ap, append-nil, append_assoc, drop, map, take}
use Rattle.std.specs.FinMap.{entries}
use Rattle.jobs.specs.JobView.{JobView}
use Rattle.jobs.specs.Nodes.{workers_of}
use Rattle.jobs.specs.declared.func.NodeDef.{NodeDef}
use Rattle.keyed_state.specs.Counts.{Counts}
use Rattle.sink_journal.specs.Audit.{audit_header, audit_records, entry_fields, feed_fields, nodes_records, refused_fields, state_fields, worker_records, workers_records}
use Rattle.sink_journal.specs.declared.audit.Noted.{Noted}
use Rattle.sink_journal.specs.declared.journal.Entry.{Entry}
use Rattle.sink_journal.specs.declared.journal.Entry.TheVariants as entry
use Rattle.sink_journal.specs.declared.journal.Feed.{Feed}
use Rattle.sink_journal.specs.declared.journal.Feed.TheVariants as feed
use Rattle.coordinator.specs.Feeding.{issue_rows}
use Rattle.audit_live.specs.Shown.{rows_shown}

-- these records show no rows, whatever follows
abbrev AreSilent : List (List (List ℕ)) → Type 0
AreSilent records = (fed : ℕ) (more : List (List (List ℕ))) → rows_shown fed (records ++ more) ≡ rows_shown fed more

both_silent : (one other : List (List (List ℕ))) → AreSilent one → AreSilent other → AreSilent (one ++ other)
both_silent one other a b fed more = ap (rows_shown fed) (append_assoc one other more) ∙ (a fed (other ++ more) ∙ b fed more)

silent_refused : (refused : List Noted) → AreSilent (map refused_fields refused)
silent_refused [] fed more = refl
silent_refused (noted ∷ later) fed more = silent_refused later fed more

silent_entries : (node : List ℕ) (place : ℕ) (journal : List Entry) → AreSilent (map (entry_fields node place) journal)
silent_entries node place [] fed more = refl
silent_entries node place (entry.Met lane tuple ∷ later) fed more = silent_entries node place later fed more
silent_entries node place (entry.Marked lane request ∷ later) fed more = silent_entries node place later fed more
silent_entries node place (entry.Turned request ∷ later) fed more = silent_entries node place later fed more
silent_entries node place (entry.Ended lane ∷ later) fed more = silent_entries node place later fed more

silent_counts : (node : List ℕ) (place : ℕ) (counts : List (List ℕ × ℤ)) → AreSilent (map (state_fields node place) counts)
silent_counts node place [] fed more = refl
silent_counts node place ((key, count) ∷ later) fed more = silent_counts node place later fed more

silent_worker : (node : List ℕ) (place : ℕ) (journal : List Entry) (counts : Counts) → AreSilent (worker_records node place journal counts)
silent_worker node place journal counts =
    both_silent (map (entry_fields node place) journal) (map (state_fields node place) (entries counts)) (silent_entries node place journal) (silent_counts node place (entries counts))

silent_workers : (node : List ℕ) (place : ℕ) (journals : List (List Entry)) (states : List Counts) → AreSilent (workers_records node place journals states)
silent_workers node place [] states fed more = refl
silent_workers node place (journal ∷ journals) [] fed more = refl
silent_workers node place (journal ∷ journals) (counts ∷ states) fed more =
    both_silent (worker_records node place journal counts) (workers_records node (place + 1) journals states) (silent_worker node place journal counts) (silent_workers node (place + 1) journals states) fed more

silent_nodes : (nodes : List NodeDef) (journals : List (List Entry)) (states : List Counts) → AreSilent (nodes_records nodes journals states)
silent_nodes [] journals states fed more = refl
silent_nodes (node ∷ nodes) journals states fed more =
    both_silent (workers_records node.name 0 (take (workers_of node) journals) (take (workers_of node) states)) (nodes_records nodes (drop (workers_of node) journals) (drop (workers_of node) states))
    (silent_workers node.name 0 (take (workers_of node) journals) (take (workers_of node) states)) (silent_nodes nodes (drop (workers_of node) journals) (drop (workers_of node) states)) fed more

feed_shown : (fed : ℕ) (feeds : List Feed) (later : List (List (List ℕ))) → AreSilent later → rows_shown fed (map feed_fields feeds ++ later) ≡ issue_rows fed feeds
feed_shown fed [] later silent = ap (rows_shown fed) (sym (append-nil later)) ∙ silent fed []
feed_shown fed (feed.Fed row ∷ more) later silent = feed_shown (suc fed) more later silent
feed_shown fed (feed.Issued request ∷ more) later silent = ap (λ l. fed ∷ l) (feed_shown fed more later silent)
feed_shown fed (feed.Stopped ∷ more) later silent = feed_shown fed more later silent

-- all records of an audit
pub audit_shown : (job : JobView) (refused : List Noted) (feeds : List Feed) (journals : List (List Entry)) (states : List Counts)
    → rows_shown 0 (audit_header ∷ audit_records job refused feeds journals states) ≡ issue_rows 0 feeds
audit_shown job refused feeds journals states =
    ap (rows_shown 0) (append_assoc (map refused_fields refused) (map feed_fields feeds) (nodes_records job.nodes journals states))
    ∙ (silent_refused refused 0 (map feed_fields feeds ++ nodes_records job.nodes journals states)
    ∙ feed_shown 0 feeds (nodes_records job.nodes journals states) (silent_nodes job.nodes journals states))
