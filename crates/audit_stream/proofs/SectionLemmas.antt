-- The records of a part, group by group.
use Rattle.std.proofs.Common.{◌≡◌, ◌∙◌, ◌≤◌, ◌+◌, ◌++◌, ℕ, ℤ, zero, suc, true, List, [], ◌∷◌, Some, refl, sym, ap, ap₂, subst, arith, drop, length, map, take}
use Rattle.std.specs.Prelude.{decimal, option_map, slice_get}
use Rattle.std.specs.FinMap.{entries}
use Rattle.std.proofs.lemmas.List.{append_assoc, length-append, length-drop, length-take}
use Rattle.std.proofs.lemmas.Option.{slice_get-map}
use Rattle.jobs.specs.JobView.{JobView}
use Rattle.jobs.specs.Law.{IsLawful}
use Rattle.jobs.specs.Nodes.{worker_count, workers_of}
use Rattle.jobs.specs.declared.func.NodeDef.{NodeDef}
use Rattle.keyed_state.specs.Counts.{Counts}
use Rattle.sink_journal.specs.Audit.{entry_fields, feed_fields, nodes_records, refused_fields, state_fields, worker_records, workers_records}
use Rattle.sink_journal.specs.declared.journal.Entry.{Entry}
use Rattle.sink_journal.specs.declared.journal.Entry.TheVariants as entry
use Rattle.sink_journal.specs.declared.journal.Feed.{Feed}
use Rattle.sink_journal.specs.declared.journal.Feed.TheVariants as feed
use Rattle.sink_journal.proofs.SmallLemmas.{self_text}
use Rattle.audit_laws.specs.Names.{Named, named_at, named_workers}
use Rattle.audit_laws.proofs.TextLemmas.{length-named_at}
use Rattle.audit_stream.specs.Sorting.{is_spelled, number_spelled, spelled, workers_spelled}
use Rattle.audit_stream.specs.Together.{by_group, group_count, record_group}
use Rattle.audit_stream.specs.Told.{HasEach, PartTold, part_records}
use Rattle.audit_stream.proofs.GroupLemmas.{AllIn, AreSections, Section, all_both, all_map, groups_back, joined_of}
use Rattle.audit_stream.proofs.SortLemmas.{group_same}
use Rattle.audit_stream.proofs.WorkerLemmas.{are_distinct, number_here}

-- ---- the sections of a part

abbrev pub sections_of : List Named → List (List Entry) → List Counts → List Section
sections_of [] journals states = []
sections_of (worker ∷ workers) [] states = []
sections_of (worker ∷ workers) (journal ∷ journals) [] = []
sections_of (worker ∷ workers) (journal ∷ journals) (counts ∷ states) =
    worker_records worker.node worker.place journal counts ∷ sections_of workers journals states

abbrev pub part_sections : JobView → PartTold → List Section
part_sections job part =
    map refused_fields part.refused ∷ map feed_fields part.feeds ∷ sections_of (named_workers job.nodes) part.journals part.states

node_sections : (node : List ℕ) (place n : ℕ) (journals : List (List Entry)) (states : List Counts) → length journals ≡ n → length states ≡ n
    → workers_records node place journals states ≡ joined_of (sections_of (named_at node place n) journals states)
node_sections node place zero [] states j s = refl
node_sections node place zero (journal ∷ journals) states j s = absurd (omega arith)
node_sections node place (suc n) [] states j s = absurd (omega arith)
node_sections node place (suc n) (journal ∷ journals) [] j s = absurd (omega arith)
node_sections node place (suc n) (journal ∷ journals) (counts ∷ states) j s =
    ap (λ (l : Section). worker_records node place journal counts ++ l) (node_sections node (place + 1) n journals states (omega arith) (omega arith))

sections_split : (a b : List Named) (journals : List (List Entry)) (states : List Counts) → length a ≤ length journals → length a ≤ length states
    → joined_of (sections_of (a ++ b) journals states)
    ≡ joined_of (sections_of a (take (length a) journals) (take (length a) states)) ++ joined_of (sections_of b (drop (length a) journals) (drop (length a) states))
sections_split [] b journals states j s = refl
sections_split (x ∷ a) b [] states j s = absurd (omega arith)
sections_split (x ∷ a) b (journal ∷ journals) [] j s = absurd (omega arith)
sections_split (x ∷ a) b (journal ∷ journals) (counts ∷ states) j s =
    let here : Section = worker_records x.node x.place journal counts in
    ap (λ (l : Section). here ++ l) (sections_split a b journals states (omega arith) (omega arith))
    ∙ sym (append_assoc here (joined_of (sections_of a (take (length a) journals) (take (length a) states)))
    (joined_of (sections_of b (drop (length a) journals) (drop (length a) states))))

nodes_sections : (nodes : List NodeDef) (journals : List (List Entry)) (states : List Counts) → length journals ≡ worker_count nodes → length states ≡ worker_count nodes
    → nodes_records nodes journals states ≡ joined_of (sections_of (named_workers nodes) journals states)
nodes_sections [] journals states j s = refl
nodes_sections (def ∷ nodes) journals states j s =
    let n : ℕ = workers_of def in
    let own : List Named = named_at def.name 0 n in
    let long : length own ≡ n = length-named_at def.name 0 n in
    let tj : length (take n journals) ≡ n = length-take n journals ∙ omega arith in
    let ts : length (take n states) ≡ n = length-take n states ∙ omega arith in
    let dj : length (drop n journals) ≡ worker_count nodes = length-drop n journals ∙ omega arith in
    let ds : length (drop n states) ≡ worker_count nodes = length-drop n states ∙ omega arith in
    let split = sections_split own (named_workers nodes) journals states (omega arith) (omega arith) in
    ap₂ (λ (a b : Section). a ++ b) (node_sections def.name 0 n (take n journals) (take n states) tj ts) (nodes_sections nodes (drop n journals) (drop n states) dj ds)
    ∙ sym (split ∙ ap (λ m. joined_of (sections_of own (take m journals) (take m states)) ++ joined_of (sections_of (named_workers nodes) (drop m journals) (drop m states))) long)

pub part_joined : (job : JobView) (part : PartTold) → HasEach job part → part_records job part ≡ joined_of (part_sections job part)
part_joined job part each =
    let refused : Section = map refused_fields part.refused in
    let feeds : Section = map feed_fields part.feeds in
    append_assoc refused feeds (nodes_records job.nodes part.journals part.states)
    ∙ ap (λ (l : Section). refused ++ (feeds ++ l)) (nodes_sections job.nodes part.journals part.states each.0 each.1)

-- ---- their groups

own_spelled : (node place : List ℕ) → is_spelled node place (node, place) ≡ true
own_spelled node place = rw (self_text node, self_text place) refl

-- the number of a worker of the job
number_is : (job : JobView) → IsLawful job → (w : ℕ) (x : Named) → slice_get (named_workers job.nodes) w ≡ Some x
    → number_spelled (workers_spelled job) x.node (decimal x.place) ≡ w
number_is job law w x there =
    number_here (workers_spelled job) (are_distinct job law) x.node (decimal x.place) w (spelled x)
    (slice_get-map spelled (named_workers job.nodes) w ∙ ap (λ o. option_map spelled o) there) (own_spelled x.node (decimal x.place))

entry_group : (job : JobView) (w : ℕ) (node : List ℕ) (place : ℕ) → number_spelled (workers_spelled job) node (decimal place) ≡ w
    → (x : Entry) → record_group job (entry_fields node place x) ≡ 2 + w
entry_group job w node place at (entry.Met lane tuple) = sym (group_same job (entry_fields node place (entry.Met lane tuple))) ∙ ap (λ n. 2 + n) at
entry_group job w node place at (entry.Marked lane request) = sym (group_same job (entry_fields node place (entry.Marked lane request))) ∙ ap (λ n. 2 + n) at
entry_group job w node place at (entry.Turned request) = sym (group_same job (entry_fields node place (entry.Turned request))) ∙ ap (λ n. 2 + n) at
entry_group job w node place at (entry.Ended lane) = sym (group_same job (entry_fields node place (entry.Ended lane))) ∙ ap (λ n. 2 + n) at

state_group : (job : JobView) (w : ℕ) (node : List ℕ) (place : ℕ) → number_spelled (workers_spelled job) node (decimal place) ≡ w
    → (x : List ℕ × ℤ) → record_group job (state_fields node place x) ≡ 2 + w
state_group job w node place at (key, count) = sym (group_same job (state_fields node place (key, count))) ∙ ap (λ n. 2 + n) at

feed_group : (job : JobView) (x : Feed) → record_group job (feed_fields x) ≡ 1
feed_group job (feed.Fed row) = refl
feed_group job (feed.Issued request) = refl
feed_group job feed.Stopped = refl

sections_in : (job : JobView) → IsLawful job → (w g : ℕ) (workers : List Named) (journals : List (List Entry)) (states : List Counts) → g ≡ 2 + w
    → ((k : ℕ) → slice_get (named_workers job.nodes) (w + k) ≡ slice_get workers k) → AreSections job g (sections_of workers journals states)
sections_in job law w g [] journals states e from = tt
sections_in job law w g (x ∷ workers) [] states e from = tt
sections_in job law w g (x ∷ workers) (journal ∷ journals) [] e from = tt
sections_in job law w g (x ∷ workers) (journal ∷ journals) (counts ∷ states) e from =
    let z : w ≡ w + 0 = omega arith in
    let at = number_is job law w x (ap (slice_get (named_workers job.nodes)) z ∙ from 0) in (
      subst (λ n. AllIn job n (worker_records x.node x.place journal counts)) (sym e)
          (all_both job (2 + w) (map (entry_fields x.node x.place) journal) (map (state_fields x.node x.place) (entries counts))
          (all_map job (2 + w) (entry_fields x.node x.place) (entry_group job w x.node x.place at) journal)
          (all_map job (2 + w) (state_fields x.node x.place) (state_group job w x.node x.place at) (entries counts))),
      sections_in job law (w + 1) (g + 1) workers journals states (omega arith)
          (λ k. let s : w + 1 + k ≡ w + suc k = omega arith in ap (slice_get (named_workers job.nodes)) s ∙ from (suc k)),
    )

pub part_in : (job : JobView) → IsLawful job → (part : PartTold) → AreSections job 0 (part_sections job part)
part_in job law part = (
  all_map job 0 refused_fields (λ x. refl) part.refused,
  (
    all_map job 1 feed_fields (feed_group job) part.feeds,
    sections_in job law 0 2 (named_workers job.nodes) part.journals part.states refl
        (λ k. let z : 0 + k ≡ k = omega arith in ap (slice_get (named_workers job.nodes)) z),
  ),
)

sections_long : (workers : List Named) (journals : List (List Entry)) (states : List Counts) → length journals ≡ length workers → length states ≡ length workers
    → length (sections_of workers journals states) ≡ length workers
sections_long [] journals states j s = refl
sections_long (x ∷ workers) [] states j s = absurd (omega arith)
sections_long (x ∷ workers) (journal ∷ journals) [] j s = absurd (omega arith)
sections_long (x ∷ workers) (journal ∷ journals) (counts ∷ states) j s = ap suc (sections_long workers journals states (omega arith) (omega arith))

pub named_long : (nodes : List NodeDef) → length (named_workers nodes) ≡ worker_count nodes
named_long [] = refl
named_long (def ∷ nodes) =
    length-append (named_at def.name 0 (workers_of def)) (named_workers nodes) ∙ omega (arith, length-named_at def.name 0 (workers_of def), named_long nodes)

pub part_long : (job : JobView) (part : PartTold) → HasEach job part → length (part_sections job part) ≡ 2 + length (named_workers job.nodes)
part_long job part each =
    let named = named_long job.nodes in
    let workers = sections_long (named_workers job.nodes) part.journals part.states (each.0 ∙ sym named) (each.1 ∙ sym named) in
    omega arith

-- the records of a part stand by their groups
pub part_back : (job : JobView) → IsLawful job → (part : PartTold) → HasEach job part → by_group job (part_records job part) ≡ part_records job part
part_back job law part each =
    let joined = part_joined job part each in
    let long = part_long job part each in
    ap (by_group job) joined ∙ (groups_back job (group_count job) (part_sections job part) (part_in job law part) (omega arith) ∙ sym joined)
