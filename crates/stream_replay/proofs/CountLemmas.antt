-- How many rows and requests the records of a part count.
use Rattle.std.proofs.Common.{◌≡◌, ◌∙◌, ◌≤◌, ◌+◌, ◌-◌, ◌++◌, ◌==◌, ℕ, ℤ, zero, suc, Bool, true}
use Rattle.std.proofs.Common.{false}
use Rattle.std.proofs.Common.{List, [], ◌∷◌, ap, arith, cond, drop, length, map, min, nat_le, refl}
use Rattle.std.proofs.Common.{length-drop, take}
use Rattle.std.specs.FinMap.{entries}
use Rattle.std.specs.List.{count_by}
use Rattle.std.proofs.lemmas.List.{map-append}
use Rattle.std.proofs.lemmas.List.Sums.{sum_by-append, sum_by-cons}
use Rattle.jobs.specs.JobView.{JobView}
use Rattle.jobs.specs.Nodes.{workers_of}
use Rattle.jobs.specs.declared.func.NodeDef.{NodeDef}
use Rattle.keyed_state.specs.Counts.{Counts}
use Rattle.sink_journal.specs.Audit.{audit_records, entry_fields, feed_fields, nodes_records}
use Rattle.sink_journal.specs.Audit.{refused_fields, state_fields, workers_records}
use Rattle.sink_journal.specs.declared.audit.Noted.{Noted}
use Rattle.sink_journal.specs.declared.journal.Entry.{Entry}
use Rattle.sink_journal.specs.declared.journal.Entry.TheVariants as entry
use Rattle.sink_journal.specs.declared.journal.Feed.{Feed}
use Rattle.sink_journal.specs.declared.journal.Feed.TheVariants as feed
use Rattle.flow_model.specs.Feeding.{feed_after, feed_from, issued_after, issued_at_first}
use Rattle.flow_model.specs.Feeding.{issued_where}
use Rattle.audit_parts.specs.Cut.{is_fed_record, is_issued_record, is_refused_record}
use Rattle.flow_model.proofs.FreshLemmas.{count_all, count_next, count_to}

abbrev Fields : Type 0
Fields = List (List ℕ)

-- ---- counting

count_append : (p : Fields → Bool) (xs ys : List Fields)
    → count_by p (xs ++ ys) ≡ count_by p xs + count_by p ys
count_append p xs ys = sum_by-append (λ x. cond (p x) 1 0) xs ys

count_yes : (p : Fields → Bool) (x : Fields) (xs : List Fields) → p x ≡ true
    → count_by p (x ∷ xs) ≡ suc (count_by p xs)
count_yes p x xs e =
    sum_by-cons (λ x. cond (p x) 1 0) x xs
    ∙ (ap (λ b. cond b 1 0 + count_by p xs) e ∙ omega arith)

count_no : (p : Fields → Bool) (x : Fields) (xs : List Fields) → p x ≡ false
    → count_by p (x ∷ xs) ≡ count_by p xs
count_no p x xs e =
    sum_by-cons (λ x. cond (p x) 1 0) x xs
    ∙ (ap (λ b. cond b 1 0 + count_by p xs) e ∙ omega arith)

-- ---- records of workers

-- a test that no record of a worker passes
module _ (p : Fields → Bool)
    (no_step : (node : List ℕ) (place : ℕ) (e : Entry) → p (entry_fields node place e) ≡ false)
    (no_count : (node : List ℕ) (place : ℕ) (c : List ℕ × ℤ)
    → p (state_fields node place c) ≡ false) where
  none_of_journal : (node : List ℕ) (place : ℕ) (journal : List Entry)
      → count_by p (map (entry_fields node place) journal) ≡ 0
  none_of_journal node place [] = refl
  none_of_journal node place (e ∷ journal) =
      count_no p (entry_fields node place e) (map (entry_fields node place) journal)
      (no_step node place e)
      ∙ none_of_journal node place journal

  none_of_counts : (node : List ℕ) (place : ℕ) (counts : List (List ℕ × ℤ))
      → count_by p (map (state_fields node place) counts) ≡ 0
  none_of_counts node place [] = refl
  none_of_counts node place (c ∷ counts) =
      count_no p (state_fields node place c) (map (state_fields node place) counts)
      (no_count node place c)
      ∙ none_of_counts node place counts

  none_of_workers : (node : List ℕ) (place : ℕ) (journals : List (List Entry))
      (states : List Counts) → count_by p (workers_records node place journals states) ≡ 0
  none_of_workers node place [] states = refl
  none_of_workers node place (journal ∷ journals) [] = refl
  none_of_workers node place (journal ∷ journals) (counts ∷ states) =
      let steps : List Fields = map (entry_fields node place) journal in
      let ends : List Fields = map (state_fields node place) (entries counts) in
      let later : List Fields = workers_records node (place + 1) journals states in
      omega (
        arith,
        count_append p (steps ++ ends) later,
        count_append p steps ends,
        none_of_journal node place journal,
        none_of_counts node place (entries counts),
        none_of_workers node (place + 1) journals states,
      )

  none_of_nodes : (nodes : List NodeDef) (journals : List (List Entry)) (states : List Counts)
      → count_by p (nodes_records nodes journals states) ≡ 0
  none_of_nodes [] journals states = refl
  none_of_nodes (node ∷ nodes) journals states =
      let here : List Fields =
      workers_records node.name 0 (take (workers_of node) journals) (take (workers_of node) states)
      in
      let later : List Fields =
      nodes_records nodes (drop (workers_of node) journals) (drop (workers_of node) states) in
      omega (
        arith,
        count_append p here later,
        none_of_workers node.name 0 (take (workers_of node) journals)
            (take (workers_of node) states),
        none_of_nodes nodes (drop (workers_of node) journals) (drop (workers_of node) states),
      )

-- so the records of a part that pass are those of its refused requests and of its feed
module _ (p : Fields → Bool)
    (no_step : (node : List ℕ) (place : ℕ) (e : Entry) → p (entry_fields node place e) ≡ false)
    (no_count : (node : List ℕ) (place : ℕ) (c : List ℕ × ℤ)
    → p (state_fields node place c) ≡ false) where
  count_records : (job : JobView) (refused : List Noted) (feeds : List Feed)
      (journals : List (List Entry)) (states : List Counts)
      → count_by p (audit_records job refused feeds journals states)
      ≡ count_by p (map refused_fields refused) + count_by p (map feed_fields feeds)
  count_records job refused feeds journals states =
      let first : List Fields = map refused_fields refused in
      let steps : List Fields = map feed_fields feeds in
      let workers : List Fields = nodes_records job.nodes journals states in
      omega (
        arith,
        count_append p (first ++ steps) workers,
        count_append p first steps,
        none_of_nodes p no_step no_count job.nodes journals states,
      )

-- ---- what a part tells of refused requests, rows and issued requests

none_fed : (refused : List Noted) → count_by is_fed_record (map refused_fields refused) ≡ 0
none_fed [] = refl
none_fed (r ∷ refused) =
    count_no is_fed_record (refused_fields r) (map refused_fields refused) refl ∙ none_fed refused

none_issued : (refused : List Noted) → count_by is_issued_record (map refused_fields refused) ≡ 0
none_issued [] = refl
none_issued (r ∷ refused) =
    count_no is_issued_record (refused_fields r) (map refused_fields refused) refl ∙ none_issued refused

all_refused : (refused : List Noted)
    → count_by is_refused_record (map refused_fields refused) ≡ length refused
all_refused [] = refl
all_refused (r ∷ refused) =
    count_yes is_refused_record (refused_fields r) (map refused_fields refused) refl
    ∙ ap suc (all_refused refused)

none_refused : (feeds : List Feed) → count_by is_refused_record (map feed_fields feeds) ≡ 0
none_refused [] = refl
none_refused (feed.Fed row ∷ feeds) =
    count_no is_refused_record (feed_fields (feed.Fed row)) (map feed_fields feeds) refl
    ∙ none_refused feeds
none_refused (feed.Issued r ∷ feeds) =
    count_no is_refused_record (feed_fields (feed.Issued r)) (map feed_fields feeds) refl
    ∙ none_refused feeds
none_refused (feed.Stopped ∷ feeds) =
    count_no is_refused_record (feed_fields feed.Stopped) (map feed_fields feeds) refl
    ∙ none_refused feeds

fed_step : (node : List ℕ) (place : ℕ) (e : Entry) → is_fed_record (entry_fields node place e) ≡ false
fed_step node place (entry.Met l t) = refl
fed_step node place (entry.Marked l r) = refl
fed_step node place (entry.Turned r) = refl
fed_step node place (entry.Ended l) = refl

issued_step : (node : List ℕ) (place : ℕ) (e : Entry)
    → is_issued_record (entry_fields node place e) ≡ false
issued_step node place (entry.Met l t) = refl
issued_step node place (entry.Marked l r) = refl
issued_step node place (entry.Turned r) = refl
issued_step node place (entry.Ended l) = refl

refused_step : (node : List ℕ) (place : ℕ) (e : Entry)
    → is_refused_record (entry_fields node place e) ≡ false
refused_step node place (entry.Met l t) = refl
refused_step node place (entry.Marked l r) = refl
refused_step node place (entry.Turned r) = refl
refused_step node place (entry.Ended l) = refl

module _ (job : JobView) (refused : List Noted) (feeds : List Feed)
    (journals : List (List Entry)) (states : List Counts) where
  pub fed_records : count_by is_fed_record (audit_records job refused feeds journals states)
      ≡ count_by is_fed_record (map feed_fields feeds)
  fed_records =
      count_records is_fed_record fed_step (λ node place c. refl) job refused feeds journals states
      ∙ ap (λ n. n + count_by is_fed_record (map feed_fields feeds)) (none_fed refused)
      ∙ omega arith

  pub issued_records : count_by is_issued_record (audit_records job refused feeds journals states)
      ≡ count_by is_issued_record (map feed_fields feeds)
  issued_records =
      count_records is_issued_record issued_step (λ node place c. refl) job refused feeds journals states
      ∙ ap (λ n. n + count_by is_issued_record (map feed_fields feeds)) (none_issued refused)
      ∙ omega arith

  pub refused_records : count_by is_refused_record (audit_records job refused feeds journals states)
      ≡ length refused
  refused_records =
      count_records is_refused_record refused_step (λ node place c. refl) job refused feeds journals
      states
      ∙ (ap (λ n. count_by is_refused_record (map refused_fields refused) + n) (none_refused feeds)
      ∙ (omega arith ∙ all_refused refused))

-- ---- the feed of a part

feeds_append : (p : Fields → Bool) (xs ys : List Feed)
    → count_by p (map feed_fields (xs ++ ys))
    ≡ count_by p (map feed_fields xs) + count_by p (map feed_fields ys)
feeds_append p xs ys =
    ap (count_by p) (map-append feed_fields xs ys)
    ∙ count_append p (map feed_fields xs) (map feed_fields ys)

fed_where : (test : ℕ → Bool) (rows r : ℕ) (waits : List ℕ)
    → count_by is_fed_record (map feed_fields (issued_where test rows r waits)) ≡ 0
fed_where test rows r [] = refl
fed_where test rows r (x ∷ waits) = go (test (min x rows)) (fed_where test rows (r + 1) waits)
  where
    go : (b : Bool) → count_by is_fed_record (map feed_fields (issued_where test rows (r + 1) waits)) ≡ 0
        → count_by is_fed_record (map feed_fields (cond b (feed.Issued r ∷ issued_where test rows (r + 1)
        waits) (issued_where test rows (r + 1) waits))) ≡ 0
    go true h =
        count_no is_fed_record (feed_fields (feed.Issued r))
        (map feed_fields (issued_where test rows (r + 1) waits)) refl ∙ h
    go false h = h

fed_after : (waits : List ℕ) (r row rows left : ℕ)
    → count_by is_fed_record (map feed_fields (feed_after waits r row rows left)) ≡ left
fed_after waits r row rows zero = refl
fed_after waits r row rows (suc left) =
    let issued : List Feed = issued_after (row + 1) rows r waits in
    let later : List Feed = feed_after waits r (row + 1) rows left in
    omega (
      arith,
      count_yes is_fed_record (feed_fields (feed.Fed (row + 1))) (map feed_fields (issued ++ later)) refl,
      feeds_append is_fed_record issued later,
      fed_where (λ after. after == row + 1) rows r waits,
      fed_after waits r (row + 1) rows left,
    )

pub fed_from : (row issued : ℕ) (waits : List ℕ) (rows : ℕ)
    → count_by is_fed_record (map feed_fields (feed_from row issued waits rows)) ≡ rows - row
fed_from row issued waits rows =
    omega (
      arith,
      feeds_append is_fed_record (issued_at_first row rows (issued + 1) (drop issued waits))
          (feed_after (drop issued waits) (issued + 1) row rows (rows - row)),
      fed_where (λ after. nat_le after row) rows (issued + 1) (drop issued waits),
      fed_after (drop issued waits) (issued + 1) row rows (rows - row),
    )

issued_all : (test : ℕ → Bool) (rows r : ℕ) (waits : List ℕ)
    → count_by is_issued_record (map feed_fields (issued_where test rows r waits))
    ≡ length (issued_where test rows r waits)
issued_all test rows r [] = refl
issued_all test rows r (x ∷ waits) = go (test (min x rows)) (issued_all test rows (r + 1) waits)
  where
    go : (b : Bool)
        → count_by is_issued_record (map feed_fields (issued_where test rows (r + 1) waits))
        ≡ length (issued_where test rows (r + 1) waits)
        → count_by is_issued_record (map feed_fields (cond b (feed.Issued r ∷ issued_where test rows
        (r + 1) waits) (issued_where test rows (r + 1) waits)))
        ≡ length (cond b (feed.Issued r ∷ issued_where test rows (r + 1) waits)
        (issued_where test rows (r + 1) waits))
    go true h =
        count_yes is_issued_record (feed_fields (feed.Issued r))
        (map feed_fields (issued_where test rows (r + 1) waits)) refl ∙ ap suc h
    go false h = h

at_first : (row rows r : ℕ) (waits : List ℕ)
    → length (issued_at_first row rows r waits) ≡ count_to row rows waits
at_first row rows r [] = refl
at_first row rows r (x ∷ waits) = go (nat_le (min x rows) row) (at_first row rows (r + 1) waits)
  where
    go : (b : Bool) → length (issued_at_first row rows (r + 1) waits) ≡ count_to row rows waits
        → length (cond b (feed.Issued r ∷ issued_at_first row rows (r + 1) waits)
        (issued_at_first row rows (r + 1) waits))
        ≡ cond b (suc (count_to row rows waits)) (count_to row rows waits)
    go true h = ap suc h
    go false h = h

issued_later : (waits : List ℕ) (r row rows left : ℕ) → count_to row rows waits
    + count_by is_issued_record (map feed_fields (feed_after waits r row rows left))
    ≡ count_to (row + left) rows waits
issued_later waits r row rows zero =
    let e : row + 0 ≡ row = omega arith in
    rw e (let k : count_to row rows waits + 0 ≡ count_to row rows waits = omega arith in k)
issued_later waits r row rows (suc left) =
    let here : List Feed = issued_after (row + 1) rows r waits in
    let later : List Feed = feed_after waits r (row + 1) rows left in
    let e : row + 1 + left ≡ row + suc left = omega arith in
    omega (
      arith,
      count_no is_issued_record (feed_fields (feed.Fed (row + 1))) (map feed_fields (here ++ later)) refl,
      feeds_append is_issued_record here later,
      issued_all (λ after. after == row + 1) rows r waits,
      count_next row rows r waits,
      issued_later waits r (row + 1) rows left,
      ap (λ k. count_to k rows waits) e,
    )

pub issued_from : (row issued : ℕ) (waits : List ℕ) (rows : ℕ) → row ≤ rows
    → count_by is_issued_record (map feed_fields (feed_from row issued waits rows))
    ≡ length waits - issued
issued_from row issued waits rows within =
    let left : List ℕ = drop issued waits in
    let e : row + (rows - row) ≡ rows = omega arith in
    omega (
      arith,
      feeds_append is_issued_record (issued_at_first row rows (issued + 1) left)
          (feed_after left (issued + 1) row rows (rows - row)),
      issued_all (λ after. nat_le after row) rows (issued + 1) left,
      at_first row rows (issued + 1) left,
      issued_later left (issued + 1) row rows (rows - row),
      ap (λ k. count_to k rows left) e,
      count_all rows left,
      length-drop issued waits,
    )
