-- What a run means for one row.
use Rattle.std.specs.Prelude.{◌≡◌, ◌==◌, ◌⊎◌, ℕ, Bool, false, not, ◌&&◌, List, [], ◌∷◌, AllPairs}
use Rattle.std.specs.Prelude.{filter, map, slice_get, if◌then◌else◌}
use Rattle.std.specs.List.{filter_map, flat_map, list_any}
use Rattle.sink_journal.specs.Alerts.{met}
use Rattle.sink_journal.specs.declared.journal.Entry.{Entry}
use Rattle.sink_journal.specs.declared.journal.Entry.TheVariants as entry
use Rattle.tuple_trace.specs.declared.tuple.Tuple.{Tuple}
use Rattle.flow_model.specs.SetupView.{SetupView, Worker}
use Rattle.flow_model.specs.Covers.{asks}
use Rattle.flow_model.specs.Requests.{changes}
use Rattle.flow_model.specs.Run.{Ran}
use Rattle.flow_model.specs.Workers.{workers_in, workers_at_node}

-- the journals of these workers
abbrev pub journals_at : List (List Entry) → List Worker → List (List Entry)
journals_at journals workers = filter_map (λ (who : Worker). slice_get journals who.number) workers

-- the tuples that a journal met, in order
abbrev pub met_tuples : List Entry → List Tuple
met_tuples journal = filter_map met journal

-- some tuple of the row was met
abbrev pub meets_row : ℕ → List Entry → Bool
meets_row row journal = list_any (λ (tuple : Tuple). tuple.row == row) (met_tuples journal)

-- the entry is the worker's turn of the request
abbrev pub is_turn : ℕ → Entry → Bool
is_turn request (entry.Met lane tuple) = false
is_turn request (entry.Marked lane marked) = false
is_turn request (entry.Turned turned) = turned == request
is_turn request (entry.Ended lane) = false

-- what stands before the turn of a request: all, if the request is never turned
abbrev pub before_turn : ℕ → List Entry → List Entry
before_turn request [] = []
before_turn request (entry ∷ more) = if is_turn request entry then []
    else entry ∷ before_turn request more

-- what stands after the turn of a request: nothing, if the request is never turned
abbrev pub after_turn : ℕ → List Entry → List Entry
after_turn request [] = []
after_turn request (entry ∷ more) = if is_turn request entry then more else after_turn request more

-- one of these journals meets the row before its turn of the request
abbrev pub any_before : ℕ → ℕ → List (List Entry) → Bool
any_before request row journals = list_any (λ (journal : List Entry). meets_row row
    (before_turn request journal)) journals

-- one of these journals meets the row after its turn of the request
abbrev pub any_after : ℕ → ℕ → List (List Entry) → Bool
any_after request row journals = list_any (λ (journal : List Entry). meets_row row
    (after_turn request journal)) journals

-- these workers meet the row only before their turns of the request, or only after them
abbrev pub IsOneSided : Ran → ℕ → ℕ → List Worker → Type 0
IsOneSided ran request row workers =
    (any_after request row (journals_at ran.journals workers) ≡ false)
    ⊎ (any_before request row (journals_at ran.journals workers) ≡ false)

-- the workers of the nodes that a request changes
abbrev pub changed_workers : SetupView → ℕ → List Worker
changed_workers setup request = filter (λ (who : Worker). changes setup request who.node)
    (workers_in setup.job)

-- the workers of the nodes that the plan of a request asks: those that it changes are among them
abbrev pub asked_workers : SetupView → ℕ → List Worker
asked_workers setup request = filter (λ (who : Worker). asks setup request who.node)
    (workers_in setup.job)

-- the row is whole at the request: the nodes that it changes met the row with only their old
-- functions, or with only their new ones
abbrev pub IsWhole : Ran → ℕ → ℕ → Type 0
IsWhole ran request row = IsOneSided ran request row (changed_workers ran.setup request)

-- the row is new at the request: a node that the request changes met it after the turn
abbrev pub is_new : Ran → ℕ → ℕ → Bool
is_new ran request row = any_after request row
    (journals_at ran.journals (changed_workers ran.setup request))

-- the row is old at the request: a node that the request changes met it before the turn, and it
-- isn't new
abbrev pub is_old : Ran → ℕ → ℕ → Bool
is_old ran request row = any_before request row
    (journals_at ran.journals (changed_workers ran.setup request)) && not (is_new ran request row)

-- the identities that a journal met, in order
abbrev pub identities : List Entry → List (ℕ × List ℕ)
identities journal = map (λ (tuple : Tuple). (tuple.row, tuple.birth)) (met_tuples journal)

-- the workers of a node meet no identity twice
abbrev pub IsMetOnce : Ran → ℕ → Type 0
IsMetOnce ran node = AllPairs (λ a b. a ≡ b → ⊥)
    (flat_map identities (journals_at ran.journals (workers_at_node ran.setup.job node)))
