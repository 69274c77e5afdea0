-- Journals that grow.
use Rattle.std.proofs.Common.{◌≡◌, ◌∙◌, ℕ, zero, suc, arith, List, [], ◌∷◌, ◌++◌, Some, refl, sym, ap, subst, append_assoc}
use Rattle.std.specs.Prelude.{◌↔◌, Contains}
use Rattle.std.proofs.lemmas.List.{append-nil, append_cancel_left}
use Rattle.sink_journal.specs.declared.journal.Entry.{Entry}
use Rattle.sink_journal.specs.declared.journal.Entry.TheVariants as entry
use Rattle.tuple_trace.specs.declared.tuple.Item.{Item}
use Rattle.flow_model.specs.declared.topology.Lane.{Lane}
use Rattle.flow_model.specs.SetupView.{SetupView, Worker}
use Rattle.flow_model.specs.Law.{IsEnabled, IsExecution, IsInTime, IsLawfulJournal, Progress, Duties, after_entry, initial, later_dues, next_due, progress_after}
use Rattle.flow_model.specs.Points.{EndEntriesStandLast, EndOtherLanes, HasPoints, HeadsAreInTime}
use Rattle.flow_model.specs.Points.{LeadsToTurn, MarkersLeadToTheirTurn, MayStandAtItsPlace}
use Rattle.flow_model.specs.Points.{TurnsFirst, TurnsFollowTheirMarkers, markers, turned}
use Rattle.flow_model.specs.Replay.{StateView, after, after_all, came_in, items_on, puts, items_sent, shown}

pub after_all-append : (setup : SetupView) (who : Worker) (view : StateView) (xs ys : List Entry)
    → after_all setup who view (xs ++ ys) ≡ after_all setup who (after_all setup who view xs) ys
after_all-append setup who view [] ys = refl
after_all-append setup who view (x ∷ xs) ys = after_all-append setup who (after setup who view x) xs ys

pub sent-append : (setup : SetupView) (who : Worker) (view : StateView) (lane : Lane) (xs ys : List Entry)
    → items_sent setup who view lane (xs ++ ys) ≡ items_sent setup who view lane xs ++ items_sent setup who (after_all setup who view xs) lane ys
sent-append setup who view lane [] ys = refl
sent-append setup who view lane (x ∷ xs) ys =
    let here : List Item = items_on lane (puts setup who view x) in
    let next : StateView = after setup who view x in
    ap (λ (items : List Item). here ++ items) (sent-append setup who next lane xs ys)
    ∙ sym (append_assoc here (items_sent setup who next lane xs) (items_sent setup who (after_all setup who next xs) lane ys))

pub shown-append : (setup : SetupView) (lane : ℕ) (xs ys : List Entry) → shown setup lane (xs ++ ys) ≡ shown setup lane xs ++ shown setup lane ys
shown-append setup lane [] ys = refl
shown-append setup lane (x ∷ xs) ys =
    ap (λ (items : List Item). came_in setup lane x ++ items) (shown-append setup lane xs ys)
    ∙ sym (append_assoc (came_in setup lane x) (shown setup lane xs) (shown setup lane ys))

pub progress_after-append : (progress : Progress) (xs ys : List Entry) → progress_after progress (xs ++ ys) ≡ progress_after (progress_after progress xs) ys
progress_after-append progress [] ys = refl
progress_after-append progress (x ∷ xs) ys = progress_after-append (after_entry progress x) xs ys

split : (duties : Duties) (progress : Progress) (xs ys : List Entry) → IsExecution duties progress (xs ++ ys)
    → IsExecution duties progress xs × IsExecution duties (progress_after progress xs) ys
split duties progress [] ys h = (tt, h)
split duties progress (x ∷ xs) ys h = let later = split duties (after_entry progress x) xs ys h.1 in ((h.0, later.0), later.1)

join : (duties : Duties) (progress : Progress) (xs ys : List Entry) → IsExecution duties progress xs → IsExecution duties (progress_after progress xs) ys
    → IsExecution duties progress (xs ++ ys)
join duties progress [] ys a b = b
join duties progress (x ∷ xs) ys a b = (a.0, join duties (after_entry progress x) xs ys a.1 b)

pub IsExecution-append : (duties : Duties) (progress : Progress) (xs ys : List Entry)
    → IsExecution duties progress (xs ++ ys) ↔ (IsExecution duties progress xs × IsExecution duties (progress_after progress xs) ys)
IsExecution-append duties progress xs ys = (split duties progress xs ys, λ both. join duties progress xs ys both.0 both.1)

by_places : (duties : Duties) (progress : Progress) (journal : List Entry)
    → ((before : List Entry) (entry : Entry) (later : List Entry) → journal ≡ before ++ entry ∷ later → IsEnabled duties (progress_after progress before) entry)
    → IsExecution duties progress journal
by_places duties progress [] h = tt
by_places duties progress (x ∷ xs) h =
    (h [] x xs refl, by_places duties (after_entry progress x) xs (λ before entry later is. h (x ∷ before) entry later (ap (λ (l : List Entry). x ∷ l) is)))

at_place : (duties : Duties) (journal before : List Entry) (entry : Entry) (later : List Entry) → IsExecution duties (initial duties) journal
    → journal ≡ before ++ entry ∷ later → IsEnabled duties (progress_after (initial duties) before) entry
at_place duties journal before entry later h is =
    let h' = subst (λ (l : List Entry). IsExecution duties (initial duties) l) is h in
    (split duties (initial duties) before (entry ∷ later) h').1.0

pub IsExecution-places : (duties : Duties) (journal : List Entry) → IsExecution duties (initial duties) journal ↔ MayStandAtItsPlace duties journal
IsExecution-places duties journal =
    (λ h before entry later is. at_place duties journal before entry later h is, λ h. by_places duties (initial duties) journal h)

pub due_first : (dues : List ℕ) (request : ℕ) → next_due dues ≡ Some request → dues ≡ request ∷ later_dues dues
due_first [] request e = absurd (cc)
due_first (due ∷ later) request e = let same : due ≡ request = cc in ap (λ (r : ℕ). r ∷ later) same

pub dues_turned : (duties : Duties) (progress : Progress) (journal : List Entry) → IsExecution duties progress journal
    → progress.dues ≡ turned journal ++ (progress_after progress journal).dues
dues_turned duties progress [] h = refl
dues_turned duties progress (entry.Met lane tuple ∷ more) h = dues_turned duties progress more h.1
dues_turned duties progress (entry.Marked lane request ∷ more) h = dues_turned duties (after_entry progress (entry.Marked lane request)) more h.1
dues_turned duties progress (entry.Turned request ∷ more) h =
    due_first progress.dues request h.0.0 ∙ ap (λ (l : List ℕ). request ∷ l) (dues_turned duties (after_entry progress (entry.Turned request)) more h.1)
dues_turned duties progress (entry.Ended lane ∷ more) h = dues_turned duties (after_entry progress (entry.Ended lane)) more h.1

pub lawful-turns : (duties : Duties) (journal : List Entry) → IsExecution duties (initial duties) journal → TurnsFirst duties.dues journal
lawful-turns duties journal h = ((progress_after (initial duties) journal).dues, dues_turned duties (initial duties) journal h)

contains_more : (l x : ℕ) (ys : List ℕ) → Contains ys x → Contains (l ∷ ys) x
contains_more l x ys (k, lt, is) = (suc k, omega (arith, lt), is)

contains_both : (l : ℕ) (a b : List ℕ) → ((x : ℕ) → Contains a x → Contains b x) → (x : ℕ) → Contains (l ∷ a) x → Contains (l ∷ b) x
contains_both l a b f x (zero, lt, is) = (zero, omega arith, is)
contains_both l a b f x (suc k, lt, is) = contains_more l x b (f x (k, omega (arith, lt), is))

fewer_ends : (few many : List ℕ) (later : List Entry) →
    ((x : ℕ) → Contains few x → Contains many x) → EndOtherLanes many later → EndOtherLanes few later
fewer_ends few many [] f h = tt
fewer_ends few many (entry.Met lane tuple ∷ more) f h = h
fewer_ends few many (entry.Marked lane request ∷ more) f h = h
fewer_ends few many (entry.Turned request ∷ more) f h = h
fewer_ends few many (entry.Ended lane ∷ more) f h = ((λ c. h.0 (f lane c)), fewer_ends (lane ∷ few) (lane ∷ many) more (contains_both lane few many f) h.1)

ends : (duties : Duties) (progress : Progress) (journal : List Entry) →
    IsExecution duties progress journal → (progress.ended ≡ [] → ⊥) →
    EndOtherLanes progress.ended journal
ends duties progress [] h never = tt
ends duties progress (entry.Met lane tuple ∷ more) h never = absurd (never h.0.2)
ends duties progress (entry.Marked lane request ∷ more) h never = absurd (never h.0.3)
ends duties progress (entry.Turned request ∷ more) h never = absurd (never h.0.2)
ends duties progress (entry.Ended lane ∷ more) h never = (h.0.1, ends duties (after_entry progress (entry.Ended lane)) more h.1 (λ e. absurd (cc)))

only_first : (l : ℕ) (ys : List ℕ) (x : ℕ) → Contains (l ∷ []) x → Contains (l ∷ ys) x
only_first l ys x (zero, lt, is) = (zero, omega arith, is)
only_first l ys x (suc k, lt, is) = absurd (omega (arith, lt))

pub lawful-ends : (duties : Duties) (journal : List Entry) →
    IsExecution duties (initial duties) journal → EndEntriesStandLast duties journal
lawful-ends duties journal h before lane later is =
    let h' = subst (λ (l : List Entry). IsExecution duties (initial duties) l) is h in
    let both = split duties (initial duties) before (entry.Ended lane ∷ later) h' in
    let progress : Progress = progress_after (initial duties) before in
    let done : progress.dues ≡ [] = both.1.0.2 in (
      fewer_ends (lane ∷ []) (lane ∷ progress.ended) later (only_first lane progress.ended) (
          ends duties (after_entry progress (entry.Ended lane)) later both.1.1 (λ e. absurd (cc))),
      dues_turned duties (initial duties) before both.0 ∙ (ap (λ (l : List ℕ). turned before ++ l) done ∙ append-nil (turned before)),
    )

pub lawful-heads : (duties : Duties) (journal : List Entry) → IsExecution duties (initial duties) journal → HeadsAreInTime duties journal
lawful-heads duties journal h before lane tuple later is left rest =
    let h' = subst (λ (l : List Entry). IsExecution duties (initial duties) l) is h in
    let both = split duties (initial duties) before (entry.Met lane tuple ∷ later) h' in
    let progress : Progress = progress_after (initial duties) before in
    let same : progress.dues ≡ left = append_cancel_left (turned before) progress.dues left (sym (dues_turned duties (initial duties) before both.0) ∙ rest) in
    subst (λ (l : List ℕ). IsInTime duties tuple (next_due l)) same both.1.0.3

-- what a journal ends in: the markers that no turn has followed
abbrev EndsInMarkers : Progress → List Entry → Type 0
EndsInMarkers progress before = (request : ℕ) → next_due progress.dues ≡ Some request → (earlier : List Entry) × (before ≡ earlier ++ markers request progress.marked)

none_open : (progress : Progress) (before : List Entry) → progress.marked ≡ [] → EndsInMarkers progress before
none_open progress before none request next =
    (before, sym (ap (λ (l : List ℕ). before ++ markers request l) none ∙ append-nil before))

one_more : (progress : Progress) (before : List Entry) (lane request : ℕ) → next_due progress.dues ≡ Some request → EndsInMarkers progress before
    → EndsInMarkers (after_entry progress (entry.Marked lane request)) (before ++ entry.Marked lane request ∷ [])
one_more progress before lane request next ends due is =
    let same : request ≡ due = cc in
    let old = ends due is in (
      old.0,
      ap (λ (l : List Entry). l ++ entry.Marked lane request ∷ []) old.1
          ∙ (append_assoc old.0 (markers due progress.marked) (entry.Marked lane request ∷ [])
          ∙ ap (λ (r : ℕ). old.0 ++ (markers due progress.marked ++ entry.Marked lane r ∷ [])) same),
    )

open_markers : (duties : Duties) (progress : Progress) (before journal : List Entry) → IsExecution duties progress journal → EndsInMarkers progress before
    → EndsInMarkers (progress_after progress journal) (before ++ journal)
open_markers duties progress before [] h ends = subst (λ (l : List Entry). EndsInMarkers progress l) (sym (append-nil before)) ends
open_markers duties progress before (entry.Met lane tuple ∷ more) h ends =
    let x : Entry = entry.Met lane tuple in
    subst (λ (l : List Entry). EndsInMarkers (progress_after progress (x ∷ more)) l) (append_assoc before (x ∷ []) more) (
    open_markers duties (after_entry progress x) (before ++ x ∷ []) more h.1 (none_open (after_entry progress x) (before ++ x ∷ []) h.0.1))
open_markers duties progress before (entry.Marked lane request ∷ more) h ends =
    let x : Entry = entry.Marked lane request in
    subst (λ (l : List Entry). EndsInMarkers (progress_after progress (x ∷ more)) l) (append_assoc before (x ∷ []) more) (
    open_markers duties (after_entry progress x) (before ++ x ∷ []) more h.1 (one_more progress before lane request h.0.0 ends))
open_markers duties progress before (entry.Turned request ∷ more) h ends =
    let x : Entry = entry.Turned request in
    subst (λ (l : List Entry). EndsInMarkers (progress_after progress (x ∷ more)) l) (append_assoc before (x ∷ []) more) (
    open_markers duties (after_entry progress x) (before ++ x ∷ []) more h.1 (none_open (after_entry progress x) (before ++ x ∷ []) refl))
open_markers duties progress before (entry.Ended lane ∷ more) h ends =
    let x : Entry = entry.Ended lane in
    subst (λ (l : List Entry). EndsInMarkers (progress_after progress (x ∷ more)) l) (append_assoc before (x ∷ []) more) (
    open_markers duties (after_entry progress x) (before ++ x ∷ []) more h.1 (none_open (after_entry progress x) (before ++ x ∷ []) h.0.3))

pub lawful-markers : (duties : Duties) (journal : List Entry) → IsExecution duties (initial duties) journal → TurnsFollowTheirMarkers duties journal
lawful-markers duties journal h before request later is =
    let h' = subst (λ (l : List Entry). IsExecution duties (initial duties) l) is h in
    let both = split duties (initial duties) before (entry.Turned request ∷ later) h' in
    let progress : Progress = progress_after (initial duties) before in
    let last = open_markers duties (initial duties) [] before both.0 (none_open (initial duties) [] refl) in
    let block = last request both.1.0.0 in
    (block.0, progress.marked, block.1, both.1.0.1)

fewer_marks : (few many : List ℕ) (request : ℕ) (later : List Entry) → ((x : ℕ) → Contains few x → Contains many x) → LeadsToTurn many request later → LeadsToTurn few request later
fewer_marks few many request [] f h = h
fewer_marks few many request (entry.Met lane tuple ∷ more) f h = h
fewer_marks few many request (entry.Ended lane ∷ more) f h = h
fewer_marks few many request (entry.Turned turned ∷ more) f h = h
fewer_marks few many request (entry.Marked lane marked ∷ more) f h =
    (h.0, (λ c. h.1 (f lane c)), fewer_marks (lane ∷ few) (lane ∷ many) request more (contains_both lane few many f) h.2)

leads : (duties : Duties) (progress : Progress) (request : ℕ) (journal : List Entry) → IsExecution duties progress journal → next_due progress.dues ≡ Some request
    → (progress.marked ≡ [] → ⊥) → (progress_after progress journal).marked ≡ [] → LeadsToTurn progress.marked request journal
leads duties progress request [] h next never shut = never shut
leads duties progress request (entry.Met lane tuple ∷ more) h next never shut = never h.0.1
leads duties progress request (entry.Ended lane ∷ more) h next never shut = never h.0.3
leads duties progress request (entry.Turned turned ∷ more) h next never shut = let e : Some turned ≡ Some request = sym h.0.0 ∙ next in cc
leads duties progress request (entry.Marked lane marked ∷ more) h next never shut =
    let e : Some marked ≡ Some request = sym h.0.0 ∙ next in
    let same : marked ≡ request = cc in
    (same, h.0.2, leads duties (after_entry progress (entry.Marked lane marked)) request more h.1 next (λ e. absurd (cc)) shut)

pub lawful-leads : (duties : Duties) (journal : List Entry) → IsLawfulJournal duties journal → MarkersLeadToTheirTurn duties journal
lawful-leads duties journal h before lane request later is =
    let x : Entry = entry.Marked lane request in
    let h' = subst (λ (l : List Entry). IsExecution duties (initial duties) l) is h.execution in
    let both = split duties (initial duties) before (x ∷ later) h' in
    let progress : Progress = progress_after (initial duties) before in
    let shut : (progress_after (initial duties) (before ++ x ∷ later)).marked ≡ [] = subst (λ (l : List Entry). (progress_after (initial duties) l).marked ≡ []) is h.no_open_turn in
    let shut' : (progress_after progress (x ∷ later)).marked ≡ [] = subst (λ (p : Progress). p.marked ≡ []) (progress_after-append (initial duties) before (x ∷ later)) shut in (
      both.1.0.1,
      fewer_marks (lane ∷ []) (lane ∷ progress.marked) request later (only_first lane progress.marked) (
          leads duties (after_entry progress x) request later both.1.1 both.1.0.0 (λ e. absurd (cc)) shut'),
    )

pub points-lawful : (duties : Duties) (journal : List Entry) → IsLawfulJournal duties journal → HasPoints duties journal
points-lawful duties journal h = record {
  tuple_lanes = λ before lane tuple later is. (at_place duties journal before (entry.Met lane tuple) later h.execution is).0;
  end_lanes = λ before lane later is. (at_place duties journal before (entry.Ended lane) later h.execution is).0;
  turns = lawful-turns duties journal h.execution;
  markers_before = lawful-markers duties journal h.execution;
  no_other_markers = lawful-leads duties journal h;
  heads = lawful-heads duties journal h.execution;
  ended_last = lawful-ends duties journal h.execution;
}
