-- Where a row is new, worker by worker and entry by entry.
use Rattle.std.proofs.Common.{◌≡◌, ◌∙◌, ◌+◌, ◌==◌, ◌||◌, ◌&&◌, ℕ, suc, Bool, true, false, List, [], ◌∷◌, Option, Some, None, refl, sym, ap, arith, cond, drop, filter, length, map, replicate, slice_get}
use Rattle.std.specs.List.{list_any}
use Rattle.std.proofs.lemmas.Option.{same_Some}
use Rattle.sink_journal.specs.declared.journal.Entry.{Entry}
use Rattle.sink_journal.specs.declared.journal.Entry.TheVariants as entry
use Rattle.tuple_trace.specs.declared.row.Row.{Row}
use Rattle.flow_model.specs.SetupView.{Worker}
use Rattle.flow_model.specs.Requests.{changes}
use Rattle.flow_model.specs.Run.{Ran}
use Rattle.flow_model.specs.Serial.{newest}
use Rattle.flow_model.specs.Whole.{after_turn, any_after, is_new, is_turn, journals_at, meets_row}
use Rattle.serial_order.specs.Places.{meets_new, rows_numbered, row_met}
use Rattle.serial_order.proofs.NumberedLemmas.{none_pass, numbered-same, numbered-split}
use Rattle.flow_model.proofs.TopologyLemmas.{drop-at}
use Rattle.flow_model.proofs.GatheredLemmas.{or_false}

-- ---- a journal

-- what counts of the rest of a journal, once the request was turned
abbrev pub rest_after : Bool → ℕ → List Entry → List Entry
rest_after true request journal = journal
rest_after false request journal = after_turn request journal

or_assoc : (a b : Bool) → (a || b) ≡ ((a || false) || b)
or_assoc true b = refl
or_assoc false b = refl

meets_first : (row : ℕ) (e : Entry) (more : List Entry) → meets_row row (e ∷ more) ≡ (meets_row row (e ∷ []) || meets_row row more)
meets_first row (entry.Met lane tuple) more = or_assoc (tuple.row == row) (meets_row row more)
meets_first row (entry.Marked lane request) more = refl
meets_first row (entry.Turned request) more = refl
meets_first row (entry.Ended lane) more = refl

rest_not_turned : (request : ℕ) (e : Entry) (more : List Entry) → rest_after false request (e ∷ more) ≡ rest_after (is_turn request e) request more
rest_not_turned request e more = go (is_turn request e)
  where
    go : (b : Bool) → cond b more (after_turn request more) ≡ rest_after b request more
    go true = refl
    go false = refl

-- the one row that an entry meets
pub met-one : (e : Entry) (row other : ℕ) → row_met e ≡ Some row → meets_row other (e ∷ []) ≡ (row == other)
met-one (entry.Met lane tuple) row other e = let same : tuple.row ≡ row = same_Some tuple.row row e in or_false (tuple.row == other) ∙ ap (λ n. n == other) same
met-one (entry.Marked lane request) row other e = absurd (cc)
met-one (entry.Turned request) row other e = absurd (cc)
met-one (entry.Ended lane) row other e = absurd (cc)

pub met-none : (e : Entry) (other : ℕ) → row_met e ≡ None → meets_row other (e ∷ []) ≡ false
met-none (entry.Met lane tuple) other e = absurd (cc)
met-none (entry.Marked lane request) other e = refl
met-none (entry.Turned request) other e = refl
met-none (entry.Ended lane) other e = refl

-- an entry after the turn
pub step-after : (request : ℕ) (e : Entry) (more : List Entry) (xs : List ℕ)
    → rows_numbered (λ row. meets_row row (rest_after true request more)) request 1 (rows_numbered (λ row. meets_row row (e ∷ [])) request 1 xs)
    ≡ rows_numbered (λ row. meets_row row (rest_after true request (e ∷ more))) request 1 xs
step-after request e more xs =
    numbered-split (λ row. meets_row row (e ∷ [])) (λ row. meets_row row more) (λ row. meets_row row (e ∷ more)) request 1 xs (λ row. meets_first row e more)

-- an entry up to the turn
pub step-before : (request : ℕ) (e : Entry) (more : List Entry) (xs : List ℕ)
    → rows_numbered (λ row. meets_row row (rest_after (is_turn request e) request more)) request 1 xs ≡ rows_numbered (λ row. meets_row row (rest_after false request (e ∷ more))) request 1 xs
step-before request e more xs =
    ap (λ (l : List Entry). rows_numbered (λ row. meets_row row l) request 1 xs) (sym (rest_not_turned request e more))

-- once all entries are looked at, no row is left
pub step-end : (turned : Bool) (request : ℕ) (journal : List Entry) (xs : List ℕ) → journal ≡ []
    → rows_numbered (λ row. meets_row row (rest_after turned request journal)) request 1 xs ≡ xs
step-end turned request journal xs e = rw e (go turned)
  where
    go : (b : Bool) → rows_numbered (λ row. meets_row row (rest_after b request [])) request 1 xs ≡ xs
    go true = none_pass request 1 xs
    go false = none_pass request 1 xs

-- ---- the workers

-- the worker is of a node that the request changes, and meets the row after its turn
abbrev pub is_new_at : Ran → ℕ → ℕ → Worker → Bool
is_new_at ran request row who = changes ran.setup request who.node && meets_new request row (slice_get ran.journals who.number)

new_among : (ran : Ran) (request row : ℕ) (workers : List Worker)
    → any_after request row (journals_at ran.journals (filter (λ (who : Worker). changes ran.setup request who.node) workers)) ≡ list_any (is_new_at ran request row) workers
new_among ran request row [] = refl
new_among ran request row (who ∷ workers) = go (changes ran.setup request who.node) (slice_get ran.journals who.number) refl (new_among ran request row workers)
  where
    go : (b : Bool) (o : Option (List Entry)) → slice_get ran.journals who.number ≡ o
        → any_after request row (journals_at ran.journals (filter (λ (who : Worker). changes ran.setup request who.node) workers)) ≡ list_any (is_new_at ran request row) workers
        → any_after request row (journals_at ran.journals (cond b (who ∷ filter (λ (who : Worker). changes ran.setup request who.node) workers) (filter (λ (who : Worker). changes ran.setup request who.node) workers))) ≡ ((b && meets_new request row o) || list_any (is_new_at ran request row) workers)
    go false o e h = h
    go true None e h = rw e h
    go true (Some journal) e h = rw e (ap (λ b. meets_row row (after_turn request journal) || b) h)

-- the next worker is of a node that the request changes
pub worker-changed : (ran : Ran) (request w : ℕ) (workers : List Worker) (who : Worker) (xs : List ℕ) → slice_get workers w ≡ Some who → who.number ≡ w → changes ran.setup request who.node ≡ true
    → rows_numbered (λ row. list_any (is_new_at ran request row) (drop (w + 1) workers)) request 1 (rows_numbered (λ row. meets_new request row (slice_get ran.journals w)) request 1 xs)
    ≡ rows_numbered (λ row. list_any (is_new_at ran request row) (drop w workers)) request 1 xs
worker-changed ran request w workers who xs there number changed =
    numbered-split (λ row. meets_new request row (slice_get ran.journals w)) (λ row. list_any (is_new_at ran request row) (drop (w + 1) workers))
    (λ row. list_any (is_new_at ran request row) (drop w workers)) request 1 xs
    (λ row. ap (list_any (is_new_at ran request row)) (drop-at workers w who there)
    ∙ (ap (λ b. (b && meets_new request row (slice_get ran.journals who.number)) || list_any (is_new_at ran request row) (drop (w + 1) workers)) changed
    ∙ ap (λ n. meets_new request row (slice_get ran.journals n) || list_any (is_new_at ran request row) (drop (w + 1) workers)) number))

-- it is of another node
pub worker-unchanged : (ran : Ran) (request w : ℕ) (workers : List Worker) (who : Worker) (xs : List ℕ) → slice_get workers w ≡ Some who → changes ran.setup request who.node ≡ false
    → rows_numbered (λ row. list_any (is_new_at ran request row) (drop (w + 1) workers)) request 1 xs ≡ rows_numbered (λ row. list_any (is_new_at ran request row) (drop w workers)) request 1 xs
worker-unchanged ran request w workers who xs there unchanged =
    numbered-same (λ row. list_any (is_new_at ran request row) (drop (w + 1) workers)) (λ row. list_any (is_new_at ran request row) (drop w workers)) request 1 xs
    (λ row. sym (ap (list_any (is_new_at ran request row)) (drop-at workers w who there)
    ∙ ap (λ b. (b && meets_new request row (slice_get ran.journals who.number)) || list_any (is_new_at ran request row) (drop (w + 1) workers)) unchanged))

pub new_anywhere : (ran : Ran) (request row : ℕ) (workers : List Worker) → list_any (is_new_at ran request row) workers
    ≡ any_after request row (journals_at ran.journals (filter (λ (who : Worker). changes ran.setup request who.node) workers))
new_anywhere ran request row workers = sym (new_among ran request row workers)

-- ---- the rows

pub zeros-first : {A : Type 0} (xs : List A) → replicate {A = ℕ} (length xs) 0 ≡ map {B = ℕ} (λ x. 0) xs
zeros-first [] = refl
zeros-first (x ∷ xs) = ap (λ (l : List ℕ). 0 ∷ l) (zeros-first xs)

-- one request more
pub newest_next : (ran : Ran) (r first : ℕ) (rows : List Row) → ((i : ℕ) (row : Row) → slice_get rows i ≡ Some row → row.tuple.row ≡ first + i)
    → rows_numbered (is_new ran (suc r)) (suc r) first (map (λ (row : Row). newest ran row.tuple.row r) rows) ≡ map (λ (row : Row). newest ran row.tuple.row (suc r)) rows
newest_next ran r first [] are = refl
newest_next ran r first (row ∷ rows) are =
    let e : first ≡ row.tuple.row = (let f : row.tuple.row ≡ first + 0 = are 0 row refl in omega arith) in
    ap (λ k. cond (is_new ran (suc r) k) (suc r) (newest ran row.tuple.row r) ∷ rows_numbered (is_new ran (suc r)) (suc r) (first + 1) (map (λ (row : Row). newest ran row.tuple.row r) rows)) e
    ∙ ap (λ (l : List ℕ). newest ran row.tuple.row (suc r) ∷ l) (newest_next ran r (first + 1) rows (λ i other g. let f : other.tuple.row ≡ first + suc i = are (suc i) other g in omega arith))
