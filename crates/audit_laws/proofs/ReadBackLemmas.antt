-- What is written of a run is read again.
use Rattle.std.proofs.Common.{◌≡◌, ◌∙◌, ◌<◌, ◌+◌, ◌++◌, ℕ, ℤ, zero, suc, List, [], ◌∷◌, refl, ap, arith, drop, length, map, take}
use Rattle.std.specs.FinMap.{entries}
use Rattle.csv.specs.Machine.{next_record}
use Rattle.csv.specs.Reading.{default_config, records, records_from, records_next, strip_bom}
use Rattle.csv.specs.Writing.{fields_text, is_blank}
use Rattle.csv.specs.declared.parser.State.TheVariants as st
use Rattle.csv.proofs.RoundTrip.{read-write}
use Rattle.jobs.specs.Nodes.{workers_of}
use Rattle.jobs.specs.JobView.{JobView}
use Rattle.jobs.specs.declared.func.NodeDef.{NodeDef}
use Rattle.keyed_state.specs.Counts.{Counts}
use Rattle.sink_journal.specs.Audit.{audit, audit_header, audit_records, entry_fields, feed_fields, nodes_records}
use Rattle.sink_journal.specs.Audit.{refused_fields, state_fields, worker_records, workers_records}
use Rattle.sink_journal.specs.Records.{records_text}
use Rattle.sink_journal.specs.declared.audit.Noted.{Noted}
use Rattle.sink_journal.specs.declared.journal.Entry.{Entry}
use Rattle.sink_journal.specs.declared.journal.Entry.TheVariants as entry
use Rattle.sink_journal.specs.declared.journal.Feed.{Feed}
use Rattle.sink_journal.specs.declared.journal.Feed.TheVariants as feed
use Rattle.sink_journal.proofs.CellLemmas.{as_long}
use Rattle.flow_model.specs.Run.{Ran}
use Rattle.audit_laws.specs.Fits.{Fits}

-- each record has a field
abbrev HaveFields : List (List (List ℕ)) → Type 0
HaveFields [] = Unit {0}
HaveFields ([] ∷ more) = ⊥
HaveFields ((x ∷ xs) ∷ more) = HaveFields more

reads_all : (n : ℕ) (rows : List (List (List ℕ))) → length rows < n → HaveFields rows → records_from default_config n st.StartRecord (records_text rows) ≡ rows
unfolding records_from next_record
reads_all zero rows lt h = absurd (omega arith)
reads_all (suc n) [] lt h = refl
reads_all (suc n) ([] ∷ more) lt h = absurd h
reads_all (suc n) ((x ∷ xs) ∷ more) lt h =
    ap (records_next (records_from default_config n)) (read-write (x ∷ xs) (records_text more))
    ∙ ap (λ (l : List (List (List ℕ))). (x ∷ xs) ∷ l) (reads_all n more (omega arith) h)

-- ---- the records of an audit

both_have : (a b : List (List (List ℕ))) → HaveFields a → HaveFields b → HaveFields (a ++ b)
both_have [] b h k = k
both_have ([] ∷ a) b h k = absurd h
both_have ((x ∷ xs) ∷ a) b h k = both_have a b h k

refused_have : (refused : List Noted) → HaveFields (map refused_fields refused)
refused_have [] = tt
refused_have (r ∷ refused) = refused_have refused

feeds_have : (feeds : List Feed) → HaveFields (map feed_fields feeds)
feeds_have [] = tt
feeds_have (feed.Fed row ∷ feeds) = feeds_have feeds
feeds_have (feed.Issued request ∷ feeds) = feeds_have feeds
feeds_have (feed.Stopped ∷ feeds) = feeds_have feeds

journal_has : (node : List ℕ) (place : ℕ) (journal : List Entry) → HaveFields (map (entry_fields node place) journal)
journal_has node place [] = tt
journal_has node place (entry.Met l t ∷ journal) = journal_has node place journal
journal_has node place (entry.Marked l r ∷ journal) = journal_has node place journal
journal_has node place (entry.Turned r ∷ journal) = journal_has node place journal
journal_has node place (entry.Ended l ∷ journal) = journal_has node place journal

counts_have : (node : List ℕ) (place : ℕ) (counts : List (List ℕ × ℤ)) → HaveFields (map (state_fields node place) counts)
counts_have node place [] = tt
counts_have node place ((key, count) ∷ counts) = counts_have node place counts

workers_have : (node : List ℕ) (place : ℕ) (journals : List (List Entry)) (states : List Counts) → HaveFields (workers_records node place journals states)
workers_have node place [] states = tt
workers_have node place (journal ∷ journals) [] = tt
workers_have node place (journal ∷ journals) (counts ∷ states) =
    both_have (worker_records node place journal counts) (workers_records node (place + 1) journals states)
    (both_have (map (entry_fields node place) journal) (map (state_fields node place) (entries counts)) (journal_has node place journal) (counts_have node place (entries counts)))
    (workers_have node (place + 1) journals states)

nodes_have : (nodes : List NodeDef) (journals : List (List Entry)) (states : List Counts) → HaveFields (nodes_records nodes journals states)
nodes_have [] journals states = tt
nodes_have (def ∷ nodes) journals states =
    both_have (workers_records def.name 0 (take (workers_of def) journals) (take (workers_of def) states)) (nodes_records nodes (drop (workers_of def) journals) (drop (workers_of def) states))
    (workers_have def.name 0 (take (workers_of def) journals) (take (workers_of def) states))
    (nodes_have nodes (drop (workers_of def) journals) (drop (workers_of def) states))

audit_has : (job : JobView) (refused : List Noted) (feeds : List Feed) (journals : List (List Entry)) (states : List Counts)
    → HaveFields (audit_header ∷ audit_records job refused feeds journals states)
audit_has job refused feeds journals states =
    both_have (map refused_fields refused ++ map feed_fields feeds) (nodes_records job.nodes journals states)
    (both_have (map refused_fields refused) (map feed_fields feeds) (refused_have refused) (feeds_have feeds)) (nodes_have job.nodes journals states)

-- no byte order mark stands at its front
bare : (job : JobView) (refused : List Noted) (feeds : List Feed) (journals : List (List Entry)) (states : List Counts)
    → strip_bom (audit job refused feeds journals states) ≡ audit job refused feeds journals states
unfolding strip_bom is_blank fields_text
bare job refused feeds journals states = refl

-- the text that is written of a run fits it
pub written_fits : (refused : List Noted) (ran : Ran) → Fits refused (audit ran.setup.job refused ran.feeds ran.journals ran.states) ran
written_fits refused ran =
    let rows : List (List (List ℕ)) = audit_header ∷ audit_records ran.setup.job refused ran.feeds ran.journals ran.states in
    ap (records default_config) (bare ran.setup.job refused ran.feeds ran.journals ran.states)
    ∙ reads_all (length (records_text rows) + 1) rows (omega (arith, as_long rows)) (audit_has ran.setup.job refused ran.feeds ran.journals ran.states)
