-- The law of a journal, decided: of a worked journal one computation tells that it is finished.
use Rattle.std.proofs.Common.{◌≡◌, ◌<◌, ℕ, Bool, true, false, List, [], ◌∷◌, ◌&&◌, ◌||◌, ◌==◌, Option, Some, None, refl, ap, arith}
use Rattle.std.specs.Prelude.{All, Contains, nat_lt, not}
use Rattle.std.specs.List.{list_any}
use Rattle.std.proofs.lemmas.Bool.{and_parts, eqb-true}
use Rattle.std.proofs.lemmas.Bool.Decides.{nat_tests}
use Rattle.std.proofs.lemmas.List.Elements.{All-cons, All-nil}
use Rattle.flow_dag.proofs.OrderLemmas.{Contains-from_any, any-from_Contains}
use Rattle.sink_journal.specs.declared.journal.Entry.{Entry}
use Rattle.sink_journal.specs.declared.journal.Entry.TheVariants as entry
use Rattle.tuple_trace.specs.declared.tuple.Tuple.{Tuple}
use Rattle.flow_model.specs.Law.{IsEnabled, IsExecution, IsFinished, IsInTime, Progress, Duties, after_entry, initial, next_due, progress_after}

abbrev is_in : List ℕ → ℕ → Bool
is_in numbers number = list_any (λ (n : ℕ). n == number) numbers

abbrev are_in : List ℕ → List ℕ → Bool
are_in numbers [] = true
are_in numbers (number ∷ more) = is_in numbers number && are_in numbers more

abbrev is_none : List ℕ → Bool
is_none [] = true
is_none (number ∷ more) = false

abbrev is_next : List ℕ → ℕ → Bool
is_next [] request = false
is_next (due ∷ later) request = due == request

abbrev is_in_time : Duties → Tuple → Option ℕ → Bool
is_in_time duties tuple None = true
is_in_time duties tuple (Some due) = not (duties.is_head due) || nat_lt tuple.issued due

abbrev may_come : Duties → Progress → Entry → Bool
may_come duties progress (entry.Met lane tuple) =
    is_in duties.lanes lane && (is_none progress.marked && (is_none progress.ended && is_in_time duties tuple (next_due progress.dues)))
may_come duties progress (entry.Marked lane request) =
    is_next progress.dues request && (is_in (duties.marked_lanes request) lane && (not (is_in progress.marked lane) && is_none progress.ended))
may_come duties progress (entry.Turned request) =
    is_next progress.dues request && (are_in progress.marked (duties.marked_lanes request) && is_none progress.ended)
may_come duties progress (entry.Ended lane) =
    is_in duties.lanes lane && (not (is_in progress.ended lane) && (is_none progress.dues && is_none progress.marked))

abbrev may_all_come : Duties → Progress → List Entry → Bool
may_all_come duties progress [] = true
may_all_come duties progress (entry ∷ more) = may_come duties progress entry && may_all_come duties (after_entry progress entry) more

-- the journal is finished
abbrev pub is_finished : Duties → List Entry → Bool
is_finished duties journal =
    may_all_come duties (initial duties) journal
    && (is_none (progress_after (initial duties) journal).marked && are_in (progress_after (initial duties) journal).ended duties.lanes)

none : (numbers : List ℕ) → is_none numbers ≡ true → numbers ≡ []
none [] is = refl
none (number ∷ more) is = absurd (cc)

not_in : (numbers : List ℕ) (number : ℕ) → not (is_in numbers number) ≡ true → ¬ Contains numbers number
not_in numbers number is there = go (is_in numbers number) (any-from_Contains numbers number there) is
  where
    go : (b : Bool) → b ≡ true → not b ≡ true → ⊥
    go true is isnt = absurd (cc)
    go false is isnt = absurd (cc)

all_in : (numbers these : List ℕ) → are_in numbers these ≡ true → All (Contains numbers) these
all_in numbers [] is = All-nil (Contains numbers)
all_in numbers (number ∷ more) is =
    let parts = and_parts (is_in numbers number) (are_in numbers more) is in
    All-cons (Contains numbers) number more (Contains-from_any numbers number parts.0) (all_in numbers more parts.1)

next : (dues : List ℕ) (request : ℕ) → is_next dues request ≡ true → next_due dues ≡ Some request
next [] request is = absurd (cc)
next (due ∷ later) request is = ap Some (eqb-true due request is)

below : (a b : ℕ) → nat_lt a b ≡ true → a < b
below a b is = grind (arith, nat_tests)

in_time : (duties : Duties) (tuple : Tuple) (due : Option ℕ) → is_in_time duties tuple due ≡ true → IsInTime duties tuple due
in_time duties tuple None is = tt
in_time duties tuple (Some due) is = λ head. go (duties.is_head due) head is
  where
    go : (b : Bool) → b ≡ true → (not b || nat_lt tuple.issued due) ≡ true → tuple.issued < due
    go true head is = below tuple.issued due is
    go false head is = absurd (cc)

enabled : (duties : Duties) (progress : Progress) (entry : Entry) → may_come duties progress entry ≡ true → IsEnabled duties progress entry
enabled duties progress (entry.Met lane tuple) is =
    let a = and_parts _ _ is in
    let b = and_parts _ _ a.1 in
    let c = and_parts _ _ b.1 in
    (Contains-from_any duties.lanes lane a.0, none progress.marked b.0, none progress.ended c.0, in_time duties tuple (next_due progress.dues) c.1)
enabled duties progress (entry.Marked lane request) is =
    let a = and_parts _ _ is in
    let b = and_parts _ _ a.1 in
    let c = and_parts _ _ b.1 in
    (next progress.dues request a.0, Contains-from_any (duties.marked_lanes request) lane b.0, not_in progress.marked lane c.0, none progress.ended c.1)
enabled duties progress (entry.Turned request) is =
    let a = and_parts _ _ is in
    let b = and_parts _ _ a.1 in
    (next progress.dues request a.0, all_in progress.marked (duties.marked_lanes request) b.0, none progress.ended b.1)
enabled duties progress (entry.Ended lane) is =
    let a = and_parts _ _ is in
    let b = and_parts _ _ a.1 in
    let c = and_parts _ _ b.1 in
    (Contains-from_any duties.lanes lane a.0, not_in progress.ended lane b.0, none progress.dues c.0, none progress.marked c.1)

execution : (duties : Duties) (progress : Progress) (journal : List Entry) → may_all_come duties progress journal ≡ true → IsExecution duties progress journal
execution duties progress [] is = tt
execution duties progress (entry ∷ more) is =
    let parts = and_parts (may_come duties progress entry) (may_all_come duties (after_entry progress entry) more) is in
    (enabled duties progress entry parts.0, execution duties (after_entry progress entry) more parts.1)

pub finished-by_check : (duties : Duties) (journal : List Entry) → is_finished duties journal ≡ true → IsFinished duties journal
finished-by_check duties journal is =
    let a = and_parts _ _ is in
    let b = and_parts _ _ a.1 in
    record {
      lawful = record { execution = execution duties (initial duties) journal a.0; no_open_turn = none (progress_after (initial duties) journal).marked b.0 };
      ended = all_in (progress_after (initial duties) journal).ended duties.lanes b.1;
    }
