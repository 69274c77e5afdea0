-- The stops and ends among the records of parts.
use Rattle.std.proofs.Common.{◌≡◌, ◌∙◌, ◌+◌, ◌++◌, ℕ, ℤ, Bool, true, false, List, [], ◌∷◌, refl, sym, ap, ap₂, drop, map, take}
use Rattle.std.specs.Prelude.{◌||◌}
use Rattle.std.specs.FinMap.{entries}
use Rattle.std.proofs.lemmas.List.{append_assoc, map-append}
use Rattle.std.proofs.lemmas.List.Folds.{list_any-append}
use Rattle.jobs.specs.JobView.{JobView}
use Rattle.jobs.specs.Nodes.{workers_of}
use Rattle.jobs.specs.declared.func.NodeDef.{NodeDef}
use Rattle.keyed_state.specs.Counts.{Counts}
use Rattle.sink_journal.specs.Audit.{entry_fields, feed_fields, nodes_records, refused_fields, state_fields, worker_records, workers_records}
use Rattle.sink_journal.specs.declared.audit.Noted.{Noted}
use Rattle.sink_journal.specs.declared.journal.Entry.{Entry}
use Rattle.sink_journal.specs.declared.journal.Entry.TheVariants as entry
use Rattle.sink_journal.specs.declared.journal.Feed.{Feed}
use Rattle.sink_journal.specs.declared.journal.Feed.TheVariants as feed
use Rattle.savepoint.specs.Parts.{endless, unstopped}
use Rattle.audit_stream.specs.Together.{has_stop, tells_stop, last_ends}
use Rattle.audit_stream.specs.Told.{IsLast, PartTold, part_records}
use Rattle.audit_stream.proofs.ClosedLemmas.{if_last, last_ends-append, no_stop, open_ones}
use Rattle.audit_stream.proofs.GroupLemmas.{Section, open_both, open_twice}

-- ---- records without them

pub open_refused : (xs : List Noted) → open_ones (map refused_fields xs) ≡ map refused_fields xs
open_refused [] = refl
open_refused (x ∷ xs) = ap (λ (l : Section). refused_fields x ∷ l) (open_refused xs)

pub open_feeds : (xs : List Feed) → open_ones (map feed_fields xs) ≡ map feed_fields (unstopped xs)
open_feeds [] = refl
open_feeds (feed.Fed row ∷ xs) = ap (λ (l : Section). feed_fields (feed.Fed row) ∷ l) (open_feeds xs)
open_feeds (feed.Issued request ∷ xs) = ap (λ (l : Section). feed_fields (feed.Issued request) ∷ l) (open_feeds xs)
open_feeds (feed.Stopped ∷ xs) = open_feeds xs

pub open_entries : (node : List ℕ) (place : ℕ) (xs : List Entry) → open_ones (map (entry_fields node place) xs) ≡ map (entry_fields node place) (endless xs)
open_entries node place [] = refl
open_entries node place (entry.Met lane tuple ∷ xs) = ap (λ (l : Section). entry_fields node place (entry.Met lane tuple) ∷ l) (open_entries node place xs)
open_entries node place (entry.Marked lane request ∷ xs) = ap (λ (l : Section). entry_fields node place (entry.Marked lane request) ∷ l) (open_entries node place xs)
open_entries node place (entry.Turned request ∷ xs) = ap (λ (l : Section). entry_fields node place (entry.Turned request) ∷ l) (open_entries node place xs)
open_entries node place (entry.Ended lane ∷ xs) = open_entries node place xs

-- ---- the ends of the last part

or_none : (a b : Bool) → a ≡ false → b ≡ false → (a || b) ≡ false
or_none a b e f = rw e f

none_stop : (a b : Section) → has_stop a ≡ false → has_stop b ≡ false → has_stop (a ++ b) ≡ false
none_stop a b e f = list_any-append tells_stop a b ∙ or_none (has_stop a) (has_stop b) e f

entries_stop : (node : List ℕ) (place : ℕ) (xs : List Entry) → has_stop (map (entry_fields node place) xs) ≡ false
entries_stop node place [] = refl
entries_stop node place (entry.Met lane tuple ∷ xs) = entries_stop node place xs
entries_stop node place (entry.Marked lane request ∷ xs) = entries_stop node place xs
entries_stop node place (entry.Turned request ∷ xs) = entries_stop node place xs
entries_stop node place (entry.Ended lane ∷ xs) = entries_stop node place xs

states_stop : (node : List ℕ) (place : ℕ) (xs : List (List ℕ × ℤ)) → has_stop (map (state_fields node place) xs) ≡ false
states_stop node place [] = refl
states_stop node place ((key, count) ∷ xs) = states_stop node place xs

workers_stop : (node : List ℕ) (place : ℕ) (journals : List (List Entry)) (states : List Counts) → has_stop (workers_records node place journals states) ≡ false
workers_stop node place [] states = refl
workers_stop node place (journal ∷ journals) [] = refl
workers_stop node place (journal ∷ journals) (counts ∷ states) =
    none_stop (worker_records node place journal counts) (workers_records node (place + 1) journals states)
    (none_stop (map (entry_fields node place) journal) (map (state_fields node place) (entries counts)) (entries_stop node place journal) (states_stop node place (entries counts)))
    (workers_stop node (place + 1) journals states)

nodes_stop : (nodes : List NodeDef) (journals : List (List Entry)) (states : List Counts) → has_stop (nodes_records nodes journals states) ≡ false
nodes_stop [] journals states = refl
nodes_stop (def ∷ nodes) journals states =
    none_stop (workers_records def.name 0 (take (workers_of def) journals) (take (workers_of def) states))
    (nodes_records nodes (drop (workers_of def) journals) (drop (workers_of def) states))
    (workers_stop def.name 0 (take (workers_of def) journals) (take (workers_of def) states))
    (nodes_stop nodes (drop (workers_of def) journals) (drop (workers_of def) states))

-- its steps, without the stop
abbrev last_steps : PartTold → Section
last_steps last = map refused_fields last.refused ++ map feed_fields (unstopped last.feeds)

steps_open : (last : PartTold) → open_ones (last_steps last) ≡ last_steps last
steps_open last =
    let feeds : open_ones (map feed_fields (unstopped last.feeds)) ≡ map feed_fields (unstopped last.feeds) =
    ap open_ones (sym (open_feeds last.feeds)) ∙ (open_twice (map feed_fields last.feeds) ∙ open_feeds last.feeds) in
    open_both (map refused_fields last.refused) (map feed_fields (unstopped last.feeds)) ∙ ap₂ (λ (a b : Section). a ++ b) (open_refused last.refused) feeds

last_is : (job : JobView) (last : PartTold) → IsLast job last
    → part_records job last ≡ last_steps last ++ (feed_fields feed.Stopped ∷ nodes_records job.nodes last.journals last.states)
last_is job last is =
    let refused : Section = map refused_fields last.refused in
    let steps : Section = map feed_fields (unstopped last.feeds) in
    let nodes : Section = nodes_records job.nodes last.journals last.states in
    let feeds : map feed_fields last.feeds ≡ steps ++ feed_fields feed.Stopped ∷ [] =
    ap (map feed_fields) is.1 ∙ map-append feed_fields (unstopped last.feeds) (feed.Stopped ∷ []) in
    ap (λ (l : Section). (refused ++ l) ++ nodes) feeds
    ∙ (ap (λ (l : Section). l ++ nodes) (sym (append_assoc refused steps (feed_fields feed.Stopped ∷ [])))
    ∙ append_assoc (refused ++ steps) (feed_fields feed.Stopped ∷ []) nodes)

pub last_kept : (job : JobView) (last : PartTold) → IsLast job last → last_ends (part_records job last) ≡ part_records job last
last_kept job last is =
    let nodes : Section = nodes_records job.nodes last.journals last.states in
    let end : Section = feed_fields feed.Stopped ∷ nodes in
    let none = nodes_stop job.nodes last.journals last.states in
    let kept : last_ends end ≡ end =
    if_last true (has_stop nodes) (last_ends nodes) (feed_fields feed.Stopped ∷ last_ends nodes) none
    ∙ ap (λ (l : Section). feed_fields feed.Stopped ∷ l) (no_stop nodes none) in
    ap last_ends (last_is job last is)
    ∙ (last_ends-append (last_steps last) end refl
    ∙ (ap₂ (λ (a b : Section). a ++ b) (steps_open last) kept ∙ sym (last_is job last is)))

pub last_stops : (job : JobView) (last : PartTold) → IsLast job last → has_stop (part_records job last) ≡ true
last_stops job last is =
    let end : Section = feed_fields feed.Stopped ∷ nodes_records job.nodes last.journals last.states in
    ap has_stop (last_is job last is) ∙ (list_any-append tells_stop (last_steps last) end ∙ or_some (has_stop (last_steps last)))
  where
    or_some : (b : Bool) → (b || true) ≡ true
    or_some true = refl
    or_some false = refl
