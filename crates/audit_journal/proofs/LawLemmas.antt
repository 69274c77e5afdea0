-- How far a trimmed journal has come.
use Rattle.std.proofs.Common.{◌≡◌, ◌∙◌, ◌++◌, ℕ, List, [], ◌∷◌, refl, sym, ap, subst}
use Rattle.std.specs.Prelude.{◌↔◌, All, Contains}
use Rattle.std.proofs.lemmas.List.{map-append}
use Rattle.sink_journal.specs.declared.journal.Entry.{Entry}
use Rattle.sink_journal.specs.declared.journal.Feed.{Feed}
use Rattle.flow_model.specs.Law.{Duties, IsEnabled, IsExecution, IsFinished, Progress, after_entry, initial, progress_after}
use Rattle.flow_model.proofs.JournalLemmas.{IsExecution-append, progress_after-append}
use Rattle.audit_laws.specs.declared.audit.AuditEntry.{AuditEntry}
use Rattle.audit_laws.specs.declared.audit.AuditEntry.TheVariants as kept
use Rattle.audit_laws.specs.Drafted.{draft, drafted}

-- The law holds of this part of a journal, and it has come so far.
pub record HasCome (duties : Duties) (issued : ℕ) (feeds : List Feed) (part : List AuditEntry) (progress : Progress) : Type 0 where
  pub execution : IsExecution duties (initial duties) (drafted issued feeds part)
  pub is : progress ≡ progress_after (initial duties) (drafted issued feeds part)

pub nothing_came : (duties : Duties) (issued : ℕ) (feeds : List Feed) (progress : Progress) → progress ≡ initial duties → HasCome duties issued feeds [] progress
nothing_came duties issued feeds progress e = record { execution = tt; is = e }

-- an entry leads on by what it says of lanes and requests
after_draft : (issued : ℕ) (feeds : List Feed) (progress : Progress) (x : AuditEntry) → after_entry progress (draft 0 [] x) ≡ after_entry progress (draft issued feeds x)
after_draft issued feeds progress (kept.Met lane row birth) = refl
after_draft issued feeds progress (kept.Marked lane request) = refl
after_draft issued feeds progress (kept.Turned request) = refl
after_draft issued feeds progress (kept.Ended lane) = refl

drafted_more : (issued : ℕ) (feeds : List Feed) (part : List AuditEntry) (x : AuditEntry) (later : List AuditEntry) → drafted issued feeds (part ++ x ∷ later) ≡ drafted issued feeds part ++ draft issued feeds x ∷ drafted issued feeds later
drafted_more issued feeds part x later = map-append (draft issued feeds) part (x ∷ later)

pub one_more : (duties : Duties) (issued : ℕ) (feeds : List Feed) (part : List AuditEntry) (old new : Progress) (x : AuditEntry) → HasCome duties issued feeds part old → IsEnabled duties old (draft issued feeds x)
    → new ≡ after_entry old (draft 0 [] x) → HasCome duties issued feeds (part ++ x ∷ []) new
one_more duties issued feeds part old new x come may on =
    let enabled = subst (λ (p : Progress). IsEnabled duties p (draft issued feeds x)) come.is may in
    record {
      execution = subst (λ (l : List Entry). IsExecution duties (initial duties) l) (sym (drafted_more issued feeds part x []))
          ((IsExecution-append duties (initial duties) (drafted issued feeds part) (draft issued feeds x ∷ [])).1 (come.execution, (enabled, tt)));
      is =
          on ∙ (after_draft issued feeds old x
          ∙ (ap (λ (p : Progress). after_entry p (draft issued feeds x)) come.is
          ∙ (sym (progress_after-append (initial duties) (drafted issued feeds part) (draft issued feeds x ∷ []))
          ∙ ap (progress_after (initial duties)) (sym (drafted_more issued feeds part x [])))));
    }

-- an entry that may not come stands in no finished journal
pub not_finished : (duties : Duties) (issued : ℕ) (feeds : List Feed) (journal part later : List AuditEntry) (progress : Progress) (x : AuditEntry) → HasCome duties issued feeds part progress
    → (IsEnabled duties progress (draft issued feeds x) → ⊥) → journal ≡ part ++ x ∷ later → IsFinished duties (drafted issued feeds journal) → ⊥
not_finished duties issued feeds journal part later progress x come bad split law =
    let whole = subst (λ (l : List Entry). IsExecution duties (initial duties) l) (ap (drafted issued feeds) split ∙ drafted_more issued feeds part x later) law.lawful.execution in
    let both = (IsExecution-append duties (initial duties) (drafted issued feeds part) (draft issued feeds x ∷ drafted issued feeds later)).0 whole in
    bad (subst (λ (p : Progress). IsEnabled duties p (draft issued feeds x)) (sym come.is) both.1.0)

-- the whole journal
pub is_finished : (duties : Duties) (issued : ℕ) (feeds : List Feed) (journal : List AuditEntry) (progress : Progress) → HasCome duties issued feeds journal progress
    → ((progress.marked ≡ []) × All (Contains progress.ended) duties.lanes) ↔ IsFinished duties (drafted issued feeds journal)
is_finished duties issued feeds journal progress come = (
  λ done. record {
    lawful = record { execution = come.execution; no_open_turn = ap (λ (p : Progress). p.marked) (sym come.is) ∙ done.0 };
    ended = subst (λ (p : Progress). All (Contains p.ended) duties.lanes) come.is done.1;
  },
  λ law. (ap (λ (p : Progress). p.marked) come.is ∙ law.lawful.no_open_turn, subst (λ (p : Progress). All (Contains p.ended) duties.lanes) (sym come.is) law.ended),
)
