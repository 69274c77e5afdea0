-- The records of written parts are cut into these parts.
use Rattle.std.proofs.Common.{◌≡◌, ◌≢◌, ◌∙◌, ◌++◌, ◌∷◌, ◌<◌, ◌+◌, [], ℕ, ℤ, List, true, false, not, refl, sym, ap, subst, arith, append_assoc, drop, length, map, take}
use Rattle.std.specs.Prelude.{All}
use Rattle.std.specs.FinMap.{entries}
use Rattle.std.specs.List.{flat_map}
use Rattle.std.proofs.lemmas.Bool.{and_from, and_left, and_right, not_from_false, or_left, or_right}
use Rattle.std.proofs.lemmas.List.Elements.{All-append, All-cons, All-head, All-nil, All-tail}
use Rattle.jobs.specs.Nodes.{workers_of}
use Rattle.jobs.specs.JobView.{JobView}
use Rattle.jobs.specs.declared.func.NodeDef.{NodeDef}
use Rattle.keyed_state.specs.Counts.{Counts}
use Rattle.sink_journal.specs.Audit.{entry_fields, feed_fields, nodes_records, refused_fields, state_fields, worker_records, workers_records}
use Rattle.sink_journal.specs.declared.audit.Noted.{Noted}
use Rattle.sink_journal.specs.declared.journal.Entry.{Entry}
use Rattle.sink_journal.specs.declared.journal.Entry.TheVariants as entry
use Rattle.sink_journal.specs.declared.journal.Feed.{Feed}
use Rattle.sink_journal.specs.declared.journal.Feed.TheVariants as feed
use Rattle.audit_parts.specs.inner.Fields.{HasField}
use Rattle.audit_parts.specs.Cut.{IsPartRecords, cut_parts, is_stop_record, leads, may_end}
use Rattle.audit_parts.proofs.CutLemmas.{Fields, border_cuts, none_joins, onto}

-- ---- which records stand where in a part

-- a record that leads, and that another of those follows
abbrev pub IsLead : Fields → Type 0
IsLead x = (leads x ≡ true) × (may_end x ≡ false) × (0 < length x)

-- a record of a worker
abbrev pub IsLater : Fields → Type 0
IsLater x = (leads x ≡ false) × (0 < length x)

pub record IsForm (part : List Fields) : Type 0 where
  pub front : List Fields
  pub stop : Fields
  pub later : List Fields
  pub fronts : All IsLead front
  pub stops : is_stop_record stop ≡ true
  pub leading : leads stop ≡ true
  pub wide : 0 < length stop
  pub laters : All IsLater later
  pub is : part ≡ front ++ stop ∷ later

refused_lead : (refused : List Noted) → All IsLead (map refused_fields refused)
refused_lead [] = All-nil IsLead
refused_lead (r ∷ refused) = All-cons IsLead (refused_fields r) (map refused_fields refused) (refl, refl, omega arith) (refused_lead refused)

step_leads : (step : Feed) → step ≢ feed.Stopped → IsLead (feed_fields step)
step_leads (feed.Fed row) going = (refl, refl, omega arith)
step_leads (feed.Issued request) going = (refl, refl, omega arith)
step_leads feed.Stopped going = absurd (going refl)

steps_lead : (steps : List Feed) → All (λ step. step ≢ feed.Stopped) steps → All IsLead (map feed_fields steps)
steps_lead [] going = All-nil IsLead
steps_lead (step ∷ steps) going =
    All-cons IsLead (feed_fields step) (map feed_fields steps)
    (step_leads step (All-head (λ step. step ≢ feed.Stopped) step steps going))
    (steps_lead steps (All-tail (λ step. step ≢ feed.Stopped) step steps going))

entry_later : (node : List ℕ) (place : ℕ) (e : Entry) → IsLater (entry_fields node place e)
entry_later node place (entry.Met l t) = (refl, omega arith)
entry_later node place (entry.Marked l r) = (refl, omega arith)
entry_later node place (entry.Turned r) = (refl, omega arith)
entry_later node place (entry.Ended l) = (refl, omega arith)

journal_later : (node : List ℕ) (place : ℕ) (journal : List Entry) → All IsLater (map (entry_fields node place) journal)
journal_later node place [] = All-nil IsLater
journal_later node place (e ∷ journal) =
    All-cons IsLater (entry_fields node place e) (map (entry_fields node place) journal) (entry_later node place e) (journal_later node place journal)

counts_later : (node : List ℕ) (place : ℕ) (counts : List (List ℕ × ℤ)) → All IsLater (map (state_fields node place) counts)
counts_later node place [] = All-nil IsLater
counts_later node place ((key, count) ∷ counts) =
    All-cons IsLater (state_fields node place (key, count)) (map (state_fields node place) counts) (refl, omega arith) (counts_later node place counts)

workers_later : (node : List ℕ) (place : ℕ) (journals : List (List Entry)) (states : List Counts) → All IsLater (workers_records node place journals states)
workers_later node place [] states = All-nil IsLater
workers_later node place (journal ∷ journals) [] = All-nil IsLater
workers_later node place (journal ∷ journals) (counts ∷ states) =
    All-append IsLater (worker_records node place journal counts) (workers_records node (place + 1) journals states)
    (All-append IsLater (map (entry_fields node place) journal) (map (state_fields node place) (entries counts)) (journal_later node place journal) (counts_later node place (entries counts)))
    (workers_later node (place + 1) journals states)

nodes_later : (nodes : List NodeDef) (journals : List (List Entry)) (states : List Counts) → All IsLater (nodes_records nodes journals states)
nodes_later [] journals states = All-nil IsLater
nodes_later (def ∷ nodes) journals states =
    All-append IsLater (workers_records def.name 0 (take (workers_of def) journals) (take (workers_of def) states))
    (nodes_records nodes (drop (workers_of def) journals) (drop (workers_of def) states))
    (workers_later def.name 0 (take (workers_of def) journals) (take (workers_of def) states))
    (nodes_later nodes (drop (workers_of def) journals) (drop (workers_of def) states))

steps_stop : (steps : List Feed) → map feed_fields (steps ++ feed.Stopped ∷ []) ≡ map feed_fields steps ++ feed_fields feed.Stopped ∷ []
steps_stop [] = refl
steps_stop (step ∷ steps) = ap (λ (l : List Fields). feed_fields step ∷ l) (steps_stop steps)

pub part_form : (job : JobView) (part : List Fields) → IsPartRecords job part → IsForm part
part_form job part p =
    let R : List Fields = map refused_fields p.refused in
    let S : List Fields = map feed_fields p.steps in
    let N : List Fields = nodes_records job.nodes p.journals p.states in
    let stop : Fields = feed_fields feed.Stopped in
    record {
      front = R ++ S;
      stop = stop;
      later = N;
      fronts = All-append IsLead R S (refused_lead p.refused) (steps_lead p.steps p.going);
      stops = refl;
      leading = refl;
      wide = omega arith;
      laters = nodes_later job.nodes p.journals p.states;
      is = p.written
          ∙ ap (λ (l : List Fields). (R ++ l) ++ N) (steps_stop p.steps)
          ∙ ap (λ (l : List Fields). l ++ N) (sym (append_assoc R S (stop ∷ [])))
          ∙ append_assoc (R ++ S) (stop ∷ []) N;
    }

-- ---- one part, and those after it

-- the first record leads, if there is one
abbrev pub BeginsPart : List Fields → Type 0
BeginsPart [] = Unit {0}
BeginsPart (x ∷ left) = leads x ≡ true

later_may_end : (x : Fields) → leads x ≡ false → may_end x ≡ true
later_may_end x later = or_right (is_stop_record x) (not (leads x)) (not_from_false (leads x) later)

later_cut : (x : Fields) (later rest : List Fields) → may_end x ≡ true → All IsLater later → BeginsPart rest → cut_parts (x ∷ (later ++ rest)) ≡ (x ∷ later) ∷ cut_parts rest
later_cut x [] [] ends all begins = refl
later_cut x [] (y ∷ rest) ends all begins = border_cuts x y rest (and_from (leads y) (may_end x) begins ends)
later_cut x (y ∷ later) rest ends all begins =
    let here : IsLater y = All-head IsLater y later all in
    none_joins x y (later ++ rest) (and_left (leads y) (may_end x) here.0)
    ∙ ap (onto (x ∷ [])) (later_cut y later rest (later_may_end y here.0) (All-tail IsLater y later all) begins)

joins_on : (x : Fields) (left part : List Fields) (parts : List (List Fields)) → may_end x ≡ false → cut_parts left ≡ part ∷ parts → cut_parts (x ∷ left) ≡ (x ∷ part) ∷ parts
joins_on x [] part parts goes e = absurd (cc e)
joins_on x (y ∷ left) part parts goes e = none_joins x y left (and_right (leads y) (may_end x) goes) ∙ ap (onto (x ∷ [])) e

front_cut : (front left part : List Fields) (parts : List (List Fields)) → All IsLead front → cut_parts left ≡ part ∷ parts → cut_parts (front ++ left) ≡ (front ++ part) ∷ parts
front_cut [] left part parts all e = e
front_cut (x ∷ front) left part parts all e =
    joins_on x (front ++ left) (front ++ part) parts (All-head IsLead x front all).1 (front_cut front left part parts (All-tail IsLead x front all) e)

form_cut : (part rest : List Fields) → IsForm part → BeginsPart rest → cut_parts (part ++ rest) ≡ part ∷ cut_parts rest
form_cut part rest f begins =
    ap (λ (l : List Fields). cut_parts (l ++ rest)) f.is
    ∙ ap cut_parts (append_assoc f.front (f.stop ∷ f.later) rest)
    ∙ front_cut f.front (f.stop ∷ (f.later ++ rest)) (f.stop ∷ f.later) (cut_parts rest) f.fronts
    (later_cut f.stop f.later rest (or_left (is_stop_record f.stop) (not (leads f.stop)) f.stops) f.laters begins)
    ∙ ap (λ (l : List Fields). l ∷ cut_parts rest) (sym f.is)

front_begins : (front : List Fields) (stop : Fields) (left : List Fields) → All IsLead front → leads stop ≡ true → BeginsPart (front ++ stop ∷ left)
front_begins [] stop left all leading = leading
front_begins (x ∷ front) stop left all leading = (All-head IsLead x front all).0

form_begins : (part rest : List Fields) → IsForm part → BeginsPart (part ++ rest)
form_begins part rest f =
    subst BeginsPart (sym (ap (λ (l : List Fields). l ++ rest) f.is ∙ append_assoc f.front (f.stop ∷ f.later) rest))
    (front_begins f.front f.stop (f.later ++ rest) f.fronts f.leading)

-- ---- all parts

begin_parts : (job : JobView) (parts : List (List Fields)) → All (IsPartRecords job) parts → BeginsPart (flat_map (λ (p : List Fields). p) parts)
begin_parts job [] all = tt
begin_parts job (part ∷ parts) all =
    form_begins part (flat_map (λ (p : List Fields). p) parts) (part_form job part (All-head (IsPartRecords job) part parts all))

pub parts_found : (job : JobView) (parts : List (List Fields)) → All (IsPartRecords job) parts → cut_parts (flat_map (λ (p : List Fields). p) parts) ≡ parts
parts_found job [] all = refl
parts_found job (part ∷ parts) all =
    let rest : List Fields = flat_map (λ (p : List Fields). p) parts in
    let others : All (IsPartRecords job) parts = All-tail (IsPartRecords job) part parts all in
    form_cut part rest (part_form job part (All-head (IsPartRecords job) part parts all)) (begin_parts job parts others)
    ∙ ap (λ (l : List (List Fields)). part ∷ l) (parts_found job parts others)

-- ---- each record of a part has a field

lead_has : (front : List Fields) → All IsLead front → All HasField front
lead_has [] all = All-nil HasField
lead_has (x ∷ front) all = All-cons HasField x front (All-head IsLead x front all).2 (lead_has front (All-tail IsLead x front all))

later_has : (later : List Fields) → All IsLater later → All HasField later
later_has [] all = All-nil HasField
later_has (x ∷ later) all = All-cons HasField x later (All-head IsLater x later all).1 (later_has later (All-tail IsLater x later all))

form_has : (part : List Fields) → IsForm part → All HasField part
form_has part f =
    subst (All HasField) (sym f.is)
    (All-append HasField f.front (f.stop ∷ f.later) (lead_has f.front f.fronts) (All-cons HasField f.stop f.later f.wide (later_has f.later f.laters)))

pub parts_have : (job : JobView) (parts : List (List Fields)) → All (IsPartRecords job) parts → All HasField (flat_map (λ (p : List Fields). p) parts)
parts_have job [] all = All-nil HasField
parts_have job (part ∷ parts) all =
    All-append HasField part (flat_map (λ (p : List Fields). p) parts)
    (form_has part (part_form job part (All-head (IsPartRecords job) part parts all)))
    (parts_have job parts (All-tail (IsPartRecords job) part parts all))
