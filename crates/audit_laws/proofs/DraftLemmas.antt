-- The law of journals reads a draft as it reads the journal.
use Rattle.std.proofs.Common.{◌≡◌, ◌∙◌, ℕ, List, [], ◌∷◌, inl, inr, refl, sym, ap, ap₂, subst, map, Some, None, Option}
use Rattle.std.specs.Prelude.{All, Contains}
use Rattle.sink_journal.specs.declared.journal.Entry.{Entry}
use Rattle.sink_journal.specs.declared.journal.Entry.TheVariants as entry
use Rattle.sink_journal.specs.declared.journal.Feed.{Feed}
use Rattle.tuple_trace.specs.declared.tuple.Tuple.{Tuple}
use Rattle.flow_model.specs.Law.{IsEnabled, IsExecution, IsFinished, IsInTime, Progress, Duties, after_entry, initial, next_due, progress_after}
use Rattle.flow_model.proofs.ElementLemmas.{IsIn}
use Rattle.audit_laws.specs.Drafted.{draft, drafted, issued_before}
use Rattle.audit_laws.specs.Trimmed.{trim, trimmed}

-- all that the law reads of an entry
abbrev bare : Entry → Entry
bare (entry.Met l t) = entry.Met l (record { row = t.row; birth = t.birth; issued = t.issued; fields = []; trace = [] })
bare (entry.Marked l r) = entry.Marked l r
bare (entry.Turned r) = entry.Turned r
bare (entry.Ended l) = entry.Ended l

-- every tuple was issued as the feed says of its row
abbrev pub IssuedRight : ℕ → List Feed → List Entry → Type 0
IssuedRight issued feeds xs = (l : ℕ) (t : Tuple) → IsIn (entry.Met l t) xs → t.issued ≡ issued_before t.row issued feeds

draft_bare : (issued : ℕ) (feeds : List Feed) (x : Entry) → ((l : ℕ) (t : Tuple) → entry.Met l t ≡ x → t.issued ≡ issued_before t.row issued feeds) → draft issued feeds (trim x) ≡ bare x
draft_bare issued feeds (entry.Met l t) h = λ i. entry.Met l (record { row = t.row; birth = t.birth; issued = sym (h l t refl) i; fields = []; trace = [] })
draft_bare issued feeds (entry.Marked l r) h = refl
draft_bare issued feeds (entry.Turned r) h = refl
draft_bare issued feeds (entry.Ended l) h = refl

drafted_bare : (issued : ℕ) (feeds : List Feed) (xs : List Entry) → IssuedRight issued feeds xs → drafted issued feeds (trimmed xs) ≡ map bare xs
drafted_bare issued feeds [] h = refl
drafted_bare issued feeds (x ∷ xs) h =
    ap₂ (λ (y : Entry) (ys : List Entry). y ∷ ys) (draft_bare issued feeds x (λ l t e. h l t (inl e))) (drafted_bare issued feeds xs (λ l t i. h l t (inr i)))

in_time : (duties : Duties) (t u : Tuple) (o : Option ℕ) → t.issued ≡ u.issued → IsInTime duties t o → IsInTime duties u o
in_time duties t u None e h = tt
in_time duties t u (Some due) e h = λ head. rw (sym e) (h head)

bared : (duties : Duties) (progress : Progress) (x : Entry) → IsEnabled duties progress x → IsEnabled duties progress (bare x)
bared duties progress (entry.Met l t) h = (h.0, h.1, h.2, in_time duties t (record { row = t.row; birth = t.birth; issued = t.issued; fields = []; trace = [] }) (next_due progress.dues) refl h.3)
bared duties progress (entry.Marked l r) h = h
bared duties progress (entry.Turned r) h = h
bared duties progress (entry.Ended l) h = h

unbared : (duties : Duties) (progress : Progress) (x : Entry) → IsEnabled duties progress (bare x) → IsEnabled duties progress x
unbared duties progress (entry.Met l t) h = (h.0, h.1, h.2, in_time duties (record { row = t.row; birth = t.birth; issued = t.issued; fields = []; trace = [] }) t (next_due progress.dues) refl h.3)
unbared duties progress (entry.Marked l r) h = h
unbared duties progress (entry.Turned r) h = h
unbared duties progress (entry.Ended l) h = h

after_bare : (progress : Progress) (x : Entry) → after_entry progress (bare x) ≡ after_entry progress x
after_bare progress (entry.Met l t) = refl
after_bare progress (entry.Marked l r) = refl
after_bare progress (entry.Turned r) = refl
after_bare progress (entry.Ended l) = refl

progress_bare : (progress : Progress) (xs : List Entry) → progress_after progress (map bare xs) ≡ progress_after progress xs
progress_bare progress [] = refl
progress_bare progress (x ∷ xs) = ap (λ (p : Progress). progress_after p (map bare xs)) (after_bare progress x) ∙ progress_bare (after_entry progress x) xs

execution_bare : (duties : Duties) (progress : Progress) (xs : List Entry) → IsExecution duties progress xs → IsExecution duties progress (map bare xs)
execution_bare duties progress [] h = tt
execution_bare duties progress (x ∷ xs) h =
    (bared duties progress x h.0, subst (λ (p : Progress). IsExecution duties p (map bare xs)) (sym (after_bare progress x)) (execution_bare duties (after_entry progress x) xs h.1))

bare_execution : (duties : Duties) (progress : Progress) (xs : List Entry) → IsExecution duties progress (map bare xs) → IsExecution duties progress xs
bare_execution duties progress [] h = tt
bare_execution duties progress (x ∷ xs) h =
    (unbared duties progress x h.0, bare_execution duties (after_entry progress x) xs (subst (λ (p : Progress). IsExecution duties p (map bare xs)) (after_bare progress x) h.1))

finished_bare : (duties : Duties) (xs : List Entry) → IsFinished duties xs → IsFinished duties (map bare xs)
finished_bare duties xs h =
    let e : progress_after (initial duties) (map bare xs) ≡ progress_after (initial duties) xs = progress_bare (initial duties) xs in
    record {
      lawful = record { execution = execution_bare duties (initial duties) xs h.lawful.execution; no_open_turn = ap (λ (p : Progress). p.marked) e ∙ h.lawful.no_open_turn };
      ended = subst (λ (p : Progress). All (Contains p.ended) duties.lanes) (sym e) h.ended;
    }

bare_finished : (duties : Duties) (xs : List Entry) → IsFinished duties (map bare xs) → IsFinished duties xs
bare_finished duties xs h =
    let e : progress_after (initial duties) (map bare xs) ≡ progress_after (initial duties) xs = progress_bare (initial duties) xs in
    record {
      lawful = record { execution = bare_execution duties (initial duties) xs h.lawful.execution; no_open_turn = sym (ap (λ (p : Progress). p.marked) e) ∙ h.lawful.no_open_turn };
      ended = subst (λ (p : Progress). All (Contains p.ended) duties.lanes) e h.ended;
    }

-- a journal is finished exactly if its draft is
pub draft_finished : (duties : Duties) (issued : ℕ) (feeds : List Feed) (xs : List Entry) → IssuedRight issued feeds xs → IsFinished duties xs → IsFinished duties (drafted issued feeds (trimmed xs))
draft_finished duties issued feeds xs right h = subst (IsFinished duties) (sym (drafted_bare issued feeds xs right)) (finished_bare duties xs h)

pub finished_draft : (duties : Duties) (issued : ℕ) (feeds : List Feed) (xs : List Entry) → IssuedRight issued feeds xs → IsFinished duties (drafted issued feeds (trimmed xs)) → IsFinished duties xs
finished_draft duties issued feeds xs right h = bare_finished duties xs (subst (IsFinished duties) (drafted_bare issued feeds xs right) h)
