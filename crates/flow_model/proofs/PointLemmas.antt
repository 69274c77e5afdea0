-- From the points of a journal back to its law.
use Rattle.std.proofs.Common.{◌≡◌, ◌∙◌, ◌⊎◌, ℕ, List, [], ◌∷◌, ◌++◌, Some, inl, inr, refl, sym, ap, subst, arith, append_assoc}
use Rattle.std.specs.Prelude.{◌↔◌, All, Contains}
use Rattle.std.proofs.lemmas.List.{append-nil, append_cancel_left}
use Rattle.std.proofs.lemmas.List.Elements.{Contains-append_left, filter_map-append}
use Rattle.sink_journal.specs.declared.journal.Entry.{Entry}
use Rattle.sink_journal.specs.declared.journal.Entry.TheVariants as entry
use Rattle.flow_model.specs.Law.{IsExecution, IsLawfulJournal, Progress, Duties, after_entry, initial, later_dues, next_due, progress_after}
use Rattle.flow_model.specs.Points.{EndOtherLanes, HasPoints, LeadsToTurn, markers, turn_in, turned}
use Rattle.flow_model.proofs.JournalLemmas.{due_first, points-lawful, progress_after-append}

-- what holds of a journal's beginning, of the progress behind it, and of what is left
record Going (duties : Duties) (progress : Progress) (before rest : List Entry) : Type 0 where
  dues : duties.dues ≡ turned before ++ progress.dues
  left : (more : List ℕ) × (progress.dues ≡ turned rest ++ more)
  marks : (progress.marked ≡ []) ⊎ ((request : ℕ) × LeadsToTurn progress.marked request rest)
  ends : (progress.ended ≡ []) ⊎ EndOtherLanes progress.ended rest

none_in : (x : ℕ) → Contains [] x → ⊥
none_in x (k, lt, is) = absurd (omega (arith, lt))

leads_turned : (seen : List ℕ) (request : ℕ) (later : List Entry) → LeadsToTurn seen request later → (more : List ℕ) × (turned later ≡ request ∷ more)
leads_turned seen request [] h = absurd h
leads_turned seen request (entry.Met lane tuple ∷ more) h = absurd h
leads_turned seen request (entry.Ended lane ∷ more) h = absurd h
leads_turned seen request (entry.Turned turned_now ∷ more) h = (turned more, ap (λ (r : ℕ). r ∷ turned more) h)
leads_turned seen request (entry.Marked lane marked ∷ more) h = leads_turned (lane ∷ seen) request more h.2

next_is : (dues left more : List ℕ) (request : ℕ) → dues ≡ left ++ more → (rest : List ℕ) × (left ≡ request ∷ rest) → next_due dues ≡ Some request
next_is dues left more request is (rest, first) = ap next_due (is ∙ ap (λ (l : List ℕ). l ++ more) first)

marked_by : (progress : Progress) (request : ℕ) (lanes : List ℕ) → (progress_after progress (markers request lanes)).marked ≡ lanes ++ progress.marked
marked_by progress request [] = refl
marked_by progress request (lane ∷ more) =
    ap (λ (p : Progress). p.marked) (progress_after-append progress (markers request more) (entry.Marked lane request ∷ []))
    ∙ ap (λ (l : List ℕ). lane ∷ l) (marked_by progress request more)

all_marked : (duties : Duties) (progress : Progress) (before earlier : List Entry) (request : ℕ) (lanes wanted : List ℕ)
    → progress ≡ progress_after (initial duties) before → before ≡ earlier ++ markers request lanes → All (Contains lanes) wanted → All (Contains progress.marked) wanted
all_marked duties progress before earlier request lanes wanted at is all =
    let there : progress ≡ progress_after (progress_after (initial duties) earlier) (markers request lanes) =
    at ∙ (ap (progress_after (initial duties)) is ∙ progress_after-append (initial duties) earlier (markers request lanes)) in
    let marked : progress.marked ≡ lanes ++ (progress_after (initial duties) earlier).marked =
    ap (λ (p : Progress). p.marked) there ∙ marked_by (progress_after (initial duties) earlier) request lanes in
    subst (λ (l : List ℕ). All (Contains l) wanted) (sym marked) (λ k d lt. Contains-append_left lanes (progress_after (initial duties) earlier).marked _ (all k d lt))

pushed : (before : List Entry) (x : Entry) → turned (before ++ x ∷ []) ≡ turned before ++ turned (x ∷ [])
pushed before x = filter_map-append turn_in before (x ∷ [])

pushed_none : (before : List Entry) (x : Entry) (dues : List ℕ) → turned (x ∷ []) ≡ [] → turned before ++ dues ≡ turned (before ++ x ∷ []) ++ dues
pushed_none before x dues none =
    ap (λ (l : List ℕ). l ++ dues) (sym (pushed before x ∙ (ap (λ (l : List ℕ). turned before ++ l) none ∙ append-nil (turned before))))

shut : (marked : List ℕ) → (marked ≡ []) ⊎ ((request : ℕ) × LeadsToTurn marked request []) → marked ≡ []
shut marked (inl e) = e
shut marked (inr (request, h)) = absurd h

further : (duties : Duties) (progress : Progress) (before : List Entry) (x : Entry) → progress ≡ progress_after (initial duties) before
    → after_entry progress x ≡ progress_after (initial duties) (before ++ x ∷ [])
further duties progress before x at = ap (λ (p : Progress). after_entry p x) at ∙ sym (progress_after-append (initial duties) before (x ∷ []))

back : (duties : Duties) (journal : List Entry) → HasPoints duties journal → (before rest : List Entry) (progress : Progress) → journal ≡ before ++ rest
    → progress ≡ progress_after (initial duties) before → Going duties progress before rest
    → IsExecution duties progress rest × ((progress_after progress rest).marked ≡ [])
back duties journal points before [] progress is at going = (tt, shut progress.marked going.marks)
back duties journal points before (entry.Met lane tuple ∷ more) progress is at going =
    let x : Entry = entry.Met lane tuple in
    let none_marked : progress.marked ≡ [] = elim going.marks [ inl e ↦ e | inr w ↦ absurd w.1 ] in
    let none_ended : progress.ended ≡ [] = elim going.ends [ inl e ↦ e | inr w ↦ absurd w ] in
    let later = back duties journal points (before ++ x ∷ []) more progress (is ∙ sym (append_assoc before (x ∷ []) more)) (further duties progress before x at) (record {
      dues = going.dues ∙ pushed_none before x progress.dues refl;
      left = going.left;
      marks = inl none_marked;
      ends = inl none_ended;
    }) in
    (((points.tuple_lanes before lane tuple more is, none_marked, none_ended, points.heads before lane tuple more is progress.dues going.dues), later.0), later.1)
back duties journal points before (entry.Marked lane request ∷ more) progress is at going =
    let x : Entry = entry.Marked lane request in
    let point = points.no_other_markers before lane request more is in
    let none_ended : progress.ended ≡ [] = elim going.ends [ inl e ↦ e | inr w ↦ absurd w ] in
    let leads : (¬ Contains progress.marked lane) × LeadsToTurn (lane ∷ progress.marked) request more = elim going.marks [
      | inl e ↦ (
        subst (λ (l : List ℕ). ¬ Contains l lane) (sym e) (none_in lane),
        subst (λ (l : List ℕ). LeadsToTurn (lane ∷ l) request more) (sym e) point.1,
      )
      | inr w ↦ (w.1.1, subst (λ (r : ℕ). LeadsToTurn (lane ∷ progress.marked) r more) (sym w.1.0) w.1.2)
    ] in
    let next : next_due progress.dues ≡ Some request =
    next_is progress.dues (turned more) going.left.0 request going.left.1 (leads_turned (lane ∷ progress.marked) request more leads.1) in
    let later = back duties journal points (before ++ x ∷ []) more (after_entry progress x) (is ∙ sym (append_assoc before (x ∷ []) more)) (further duties progress before x at) (record {
      dues = going.dues ∙ pushed_none before x progress.dues refl;
      left = going.left;
      marks = inr (request, leads.1);
      ends = inl none_ended;
    }) in
    (((next, point.0, leads.0, none_ended), later.0), later.1)
back duties journal points before (entry.Turned request ∷ more) progress is at going =
    let x : Entry = entry.Turned request in
    let none_ended : progress.ended ≡ [] = elim going.ends [ inl e ↦ e | inr w ↦ absurd w ] in
    let next : next_due progress.dues ≡ Some request = ap next_due going.left.1 in
    let block = points.markers_before before request more is in
    let all = all_marked duties progress before block.0 request block.1 (duties.marked_lanes request) at block.2 block.3 in
    let dues : turned before ++ progress.dues ≡ turned (before ++ x ∷ []) ++ later_dues progress.dues =
    ap (λ (l : List ℕ). turned before ++ l) (due_first progress.dues request next)
    ∙ (sym (append_assoc (turned before) (request ∷ []) (later_dues progress.dues))
    ∙ ap (λ (l : List ℕ). l ++ later_dues progress.dues) (sym (pushed before x))) in
    let later = back duties journal points (before ++ x ∷ []) more (after_entry progress x) (is ∙ sym (append_assoc before (x ∷ []) more)) (further duties progress before x at) (record {
      dues = going.dues ∙ dues;
      left = (going.left.0, ap later_dues going.left.1);
      marks = inl refl;
      ends = inl none_ended;
    }) in
    (((next, all, none_ended), later.0), later.1)
back duties journal points before (entry.Ended lane ∷ more) progress is at going =
    let x : Entry = entry.Ended lane in
    let point = points.ended_last before lane more is in
    let none_marked : progress.marked ≡ [] = elim going.marks [ inl e ↦ e | inr w ↦ absurd w.1 ] in
    let none_due : progress.dues ≡ [] = append_cancel_left (turned before) progress.dues [] (sym going.dues ∙ (point.1 ∙ sym (append-nil (turned before)))) in
    let others :
    (¬ Contains progress.ended lane) × EndOtherLanes (lane ∷ progress.ended) more
    = elim going.ends [
      | inl e ↦ (
        subst (λ (l : List ℕ). ¬ Contains l lane) (sym e) (none_in lane),
        subst (λ (l : List ℕ). EndOtherLanes (lane ∷ l) more) (sym e) point.0,
      )
      | inr w ↦ (w.0, w.1)
    ] in
    let later = back duties journal points (before ++ x ∷ []) more (after_entry progress x) (is ∙ sym (append_assoc before (x ∷ []) more)) (further duties progress before x at) (record {
      dues = going.dues ∙ pushed_none before x progress.dues refl;
      left = going.left;
      marks = inl none_marked;
      ends = inr others.1;
    }) in
    (((points.end_lanes before lane more is, others.0, none_due, none_marked), later.0), later.1)

lawful-points : (duties : Duties) (journal : List Entry) → HasPoints duties journal → IsLawfulJournal duties journal
lawful-points duties journal points =
    let all = back duties journal points [] journal (initial duties) refl refl (record { dues = refl; left = points.turns; marks = inl refl; ends = inl refl }) in
    record { execution = all.0; no_open_turn = all.1 }

pub IsLawful-points : (duties : Duties) (journal : List Entry) → IsLawfulJournal duties journal ↔ HasPoints duties journal
IsLawful-points duties journal = (points-lawful duties journal, lawful-points duties journal)
