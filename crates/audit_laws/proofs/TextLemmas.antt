-- The text of an audit, line by line.
use Rattle.std.proofs.Common.{◌≡◌, ◌∙◌, ◌<◌, ◌+◌, ◌++◌, ℕ, zero, suc, List, [], ◌∷◌, refl, sym, ap, ap₂, arith}
use Rattle.std.proofs.Common.{drop, length, map, take, Some, slice_get}
use Rattle.std.specs.FinMap.{entries}
use Rattle.std.proofs.lemmas.List.{append_assoc, length-append, length-drop, length-map, length-take, map-append, take-append-drop}
use Rattle.jobs.specs.Nodes.{worker_count, workers_of}
use Rattle.jobs.specs.JobView.{JobView}
use Rattle.jobs.specs.declared.func.NodeDef.{NodeDef}
use Rattle.keyed_state.specs.Counts.{Counts}
use Rattle.sink_journal.specs.Audit.{audit_header, audit_records, entry_fields, feed_fields, nodes_records, refused_fields}
use Rattle.sink_journal.specs.Audit.{state_fields, worker_records, workers_records}
use Rattle.sink_journal.specs.declared.audit.Noted.{Noted}
use Rattle.sink_journal.specs.declared.journal.Entry.{Entry}
use Rattle.sink_journal.specs.declared.journal.Entry.TheVariants as entry
use Rattle.sink_journal.specs.declared.journal.Feed.{Feed}
use Rattle.flow_model.specs.Workers.{workers_in, node_workers, workers_from}
use Rattle.flow_model.proofs.WorkerListLemmas.{length-node_workers, length-workers_from}
use Rattle.audit_laws.specs.declared.audit.AuditEntry.{AuditEntry}
use Rattle.audit_laws.specs.declared.audit.Line.{Line}
use Rattle.audit_laws.specs.declared.audit.Line.TheVariants as line
use Rattle.audit_laws.specs.Faults.{Listed}
use Rattle.audit_laws.specs.Lines.{count_fields, fields_by, kept_fields, line_fields, lines_from, lines_of, worker_lines}
use Rattle.audit_laws.specs.Names.{Named, named_at, named_workers}
use Rattle.audit_laws.specs.Trimmed.{trim, trimmed}

-- ---- one worker

kept_entry : (worker : Named) (x : Entry) → entry_fields worker.node worker.place x ≡ kept_fields worker (trim x)
kept_entry worker (entry.Met l t) = refl
kept_entry worker (entry.Marked l r) = refl
kept_entry worker (entry.Turned r) = refl
kept_entry worker (entry.Ended l) = refl

step_lines : (all : List Named) (w : ℕ) (worker : Named) (journal : List Entry) → slice_get all w ≡ Some worker
    → map (entry_fields worker.node worker.place) journal ≡ map (line_fields all) (map (line.Step w) (trimmed journal))
step_lines all w worker [] there = refl
step_lines all w worker (x ∷ journal) there =
    ap₂ (λ (a : List (List ℕ)) (b : List (List (List ℕ))). a ∷ b)
    (kept_entry worker x ∙ sym (ap (fields_by (λ worker. kept_fields worker (trim x))) there)) (step_lines all w worker journal there)

state_lines : (all : List Named) (w : ℕ) (worker : Named) (counts : Listed) → slice_get all w ≡ Some worker
    → map (state_fields worker.node worker.place) counts ≡ map (line_fields all) (map (λ counted. line.State w counted.0 counted.1) counts)
state_lines all w worker [] there = refl
state_lines all w worker (c ∷ counts) there =
    ap₂ (λ (a : List (List ℕ)) (b : List (List (List ℕ))). a ∷ b)
    (sym (ap (fields_by (λ worker. count_fields worker (c.0, c.1))) there)) (state_lines all w worker counts there)

by_lines : (all : List Named) (w : ℕ) (worker : Named) (journal : List Entry) (counts : Counts) → slice_get all w ≡ Some worker
    → worker_records worker.node worker.place journal counts ≡ map (line_fields all) (worker_lines w (trimmed journal) (entries counts))
by_lines all w worker journal counts there =
    ap₂ (λ (a b : List (List (List ℕ))). a ++ b) (step_lines all w worker journal there) (state_lines all w worker (entries counts) there)
    ∙ sym (map-append (line_fields all) (map (line.Step w) (trimmed journal)) (map (λ counted. line.State w counted.0 counted.1) (entries counts)))

-- ---- the workers of a node

abbrev named_as : List ℕ → ℕ → Named
named_as node place = record { node = node; place = place }

named_here : (node : List ℕ) (place left k : ℕ) (rest : List Named) → k < left → slice_get (named_at node place left ++ rest) k ≡ Some (named_as node (place + k))
named_here node place zero k rest lt = absurd (omega arith)
named_here node place (suc left) zero rest lt = let e : place ≡ place + 0 = omega arith in ap (λ p. Some (named_as node p)) e
named_here node place (suc left) (suc k) rest lt =
    let e : place + 1 + k ≡ place + suc k = omega arith in
    named_here node (place + 1) left k rest (omega arith) ∙ ap (λ p. Some (named_as node p)) e

named_later : (node : List ℕ) (place left k : ℕ) (rest : List Named) → slice_get (named_at node place left ++ rest) (left + k) ≡ slice_get rest k
named_later node place zero k rest = let e : zero + k ≡ k = omega arith in ap (slice_get rest) e
named_later node place (suc left) k rest =
    let e : suc left + k ≡ suc (left + k) = omega arith in
    ap (slice_get (named_at node place (suc left) ++ rest)) e ∙ named_later node (place + 1) left k rest

node_lines : (all : List Named) (w place : ℕ) (node : List ℕ) (journals : List (List Entry)) (states : List Counts)
    → ((k : ℕ) → k < length journals → slice_get all (w + k) ≡ Some (named_as node (place + k)))
    → workers_records node place journals states ≡ map (line_fields all) (lines_from w (map trimmed journals) (map entries states))
node_lines all w place node [] states h = refl
node_lines all w place node (journal ∷ journals) [] h = refl
node_lines all w place node (journal ∷ journals) (counts ∷ states) h =
    let e : w + 0 ≡ w = omega arith in
    let f : place + 0 ≡ place = omega arith in
    let there : slice_get all w ≡ Some (named_as node place) =
    sym (ap (slice_get all) e) ∙ (h 0 (omega arith) ∙ ap (λ p. Some (named_as node p)) f) in
    ap₂ (λ (a b : List (List (List ℕ))). a ++ b) (by_lines all w (named_as node place) journal counts there)
    (node_lines all (w + 1) (place + 1) node journals states (λ k lt.
    let g : w + 1 + k ≡ w + suc k = omega arith in
    let i : place + suc k ≡ place + 1 + k = omega arith in
    ap (slice_get all) g ∙ (h (suc k) (omega (arith, lt)) ∙ ap (λ p. Some (named_as node p)) i)))
    ∙ sym (map-append (line_fields all) (worker_lines w (trimmed journal) (entries counts)) (lines_from (w + 1) (map trimmed journals) (map entries states)))

-- ---- all workers

lines_split : (w : ℕ) (a b : List (List AuditEntry)) (s t : List Listed) → length s ≡ length a
    → lines_from w (a ++ b) (s ++ t) ≡ lines_from w a s ++ lines_from (w + length a) b t
lines_split w [] b [] t e = let z : w ≡ w + 0 = omega arith in ap (λ v. lines_from v b t) z
lines_split w [] b (x ∷ s) t e = absurd (omega (arith, e))
lines_split w (j ∷ a) b [] t e = absurd (omega (arith, e))
lines_split w (j ∷ a) b (x ∷ s) t e =
    let z : w + 1 + length a ≡ w + suc (length a) = omega arith in
    ap (λ (l : List Line). worker_lines w j x ++ l) (lines_split (w + 1) a b s t (omega (arith, e)) ∙ ap (λ v. lines_from (w + 1) a s ++ lines_from v b t) z)
    ∙ sym (append_assoc (worker_lines w j x) (lines_from (w + 1) a s) (lines_from (w + suc (length a)) b t))

-- the workers from a number on
abbrev StandFrom : List Named → ℕ → List Named → Type 0
StandFrom all w workers = (k : ℕ) → slice_get all (w + k) ≡ slice_get workers k

nodes_lines : (all : List Named) (w : ℕ) (nodes : List NodeDef) (journals : List (List Entry)) (states : List Counts)
    → StandFrom all w (named_workers nodes) → length journals ≡ worker_count nodes → length states ≡ worker_count nodes
    → nodes_records nodes journals states ≡ map (line_fields all) (lines_from w (map trimmed journals) (map entries states))
nodes_lines all w [] [] states from a b = refl
nodes_lines all w [] (journal ∷ journals) states from a b = absurd (omega (arith, a))
nodes_lines all w (def ∷ nodes) journals states from a b =
    let n : ℕ = workers_of def in
    let front : List (List Entry) = take n journals in
    let back : List (List Entry) = drop n journals in
    let first : List Counts = take n states in
    let last : List Counts = drop n states in
    let lf : length front ≡ n = length-take n journals ∙ omega (arith, a) in
    let ls : length first ≡ n = length-take n states ∙ omega (arith, b) in
    let lb : length back ≡ worker_count nodes = length-drop n journals ∙ omega (arith, a) in
    let ll : length last ≡ worker_count nodes = length-drop n states ∙ omega (arith, b) in
    let here = node_lines all w 0 def.name front first (λ k lt.
    from k ∙ named_here def.name 0 n k (named_workers nodes) (omega (arith, lt, lf))) in
    let later = nodes_lines all (w + n) nodes back last (λ k.
    let e : w + n + k ≡ w + (n + k) = omega arith in
    ap (slice_get all) e ∙ (from (n + k) ∙ named_later def.name 0 n k (named_workers nodes))) lb ll in
    let lt : length (map trimmed front) ≡ n = length-map front trimmed ∙ lf in
    let lu : length (map entries first) ≡ n = length-map first entries ∙ ls in
    let halves : lines_from w (map trimmed front ++ map trimmed back) (map entries first ++ map entries last)
    ≡ lines_from w (map trimmed front) (map entries first) ++ lines_from (w + n) (map trimmed back) (map entries last) =
    lines_split w (map trimmed front) (map trimmed back) (map entries first) (map entries last) (lu ∙ sym lt)
    ∙ ap (λ v. lines_from w (map trimmed front) (map entries first) ++ lines_from (w + v) (map trimmed back) (map entries last)) lt in
    let j : map trimmed front ++ map trimmed back ≡ map trimmed journals = sym (map-append trimmed front back) ∙ ap (map trimmed) (take-append-drop n journals) in
    let s : map entries first ++ map entries last ≡ map entries states = sym (map-append entries first last) ∙ ap (map entries) (take-append-drop n states) in
    ap₂ (λ (x y : List (List (List ℕ))). x ++ y) here later
    ∙ (sym (map-append (line_fields all) (lines_from w (map trimmed front) (map entries first)) (lines_from (w + n) (map trimmed back) (map entries last)))
    ∙ (sym (ap (map (line_fields all)) halves)
    ∙ ap₂ (λ (x : List (List AuditEntry)) (y : List Listed). map (line_fields all) (lines_from w x y)) j s))

-- ---- the whole text

refused_lines : (all : List Named) (refused : List Noted) → map refused_fields refused ≡ map (line_fields all) (map line.Refused refused)
refused_lines all [] = refl
refused_lines all (r ∷ refused) = ap (λ (rest : List (List (List ℕ))). refused_fields r ∷ rest) (refused_lines all refused)

feed_lines : (all : List Named) (feeds : List Feed) → map feed_fields feeds ≡ map (line_fields all) (map line.Feed feeds)
feed_lines all [] = refl
feed_lines all (step ∷ feeds) = ap (λ (rest : List (List (List ℕ))). feed_fields step ∷ rest) (feed_lines all feeds)

-- an audit has the records of its lines
pub audit_lines : (job : JobView) (refused : List Noted) (feeds : List Feed) (journals : List (List Entry)) (states : List Counts)
    → length journals ≡ length (workers_in job) → length states ≡ length (workers_in job)
    → audit_header ∷ audit_records job refused feeds journals states
    ≡ audit_header ∷ map (line_fields (named_workers job.nodes)) (lines_of refused feeds (map trimmed journals) (map entries states))
audit_lines job refused feeds journals states a b =
    let all : List Named = named_workers job.nodes in
    let later : List Line = lines_from 0 (map trimmed journals) (map entries states) in
    let count : length (workers_in job) ≡ worker_count job.nodes = length-workers_from 0 0 job.nodes in
    let workers = nodes_lines all 0 job.nodes journals states (λ k. let e : 0 + k ≡ k = omega arith in ap (slice_get all) e) (a ∙ count) (b ∙ count) in
    ap (λ (rest : List (List (List ℕ))). audit_header ∷ rest)
    (append_assoc (map refused_fields refused) (map feed_fields feeds) (nodes_records job.nodes journals states)
    ∙ (ap₂ (λ (a b : List (List (List ℕ))). a ++ b) (refused_lines all refused)
    (ap₂ (λ (a b : List (List (List ℕ))). a ++ b) (feed_lines all feeds) workers ∙ sym (map-append (line_fields all) (map line.Feed feeds) later))
    ∙ sym (map-append (line_fields all) (map line.Refused refused) (map line.Feed feeds ++ later))))

-- ---- as many names as workers

pub length-named_at : (node : List ℕ) (place left : ℕ) → length (named_at node place left) ≡ left
length-named_at node place zero = refl
length-named_at node place (suc left) = ap suc (length-named_at node (place + 1) left)

pub length-named : (number node : ℕ) (nodes : List NodeDef) → length (named_workers nodes) ≡ length (workers_from number node nodes)
length-named number node [] = refl
length-named number node (def ∷ nodes) =
    let here : length (named_at def.name 0 (workers_of def)) ≡ workers_of def = length-named_at def.name 0 (workers_of def) in
    let there : length (node_workers number node def.func 0 (workers_of def)) ≡ workers_of def = length-node_workers number node def.func 0 (workers_of def) in
    let later = length-named (number + workers_of def) (node + 1) nodes in
    length-append (named_at def.name 0 (workers_of def)) (named_workers nodes)
    ∙ (omega (arith, here, there, later)
    ∙ sym (length-append (node_workers number node def.func 0 (workers_of def)) (workers_from (number + workers_of def) (node + 1) nodes)))
