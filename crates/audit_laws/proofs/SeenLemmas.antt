-- What an audit keeps of the items that a lane shows is what it keeps of the entries that take them.
use Rattle.std.proofs.Common.{◌≡◌, ◌∙◌, ◌==◌, ◌++◌, ℕ, List, [], ◌∷◌, inl, inr, refl, sym, ap, ap₂, subst, true, false, Bool, cond, map, filter, Some}
use Rattle.std.proofs.lemmas.Bool.{eqb-true}
use Rattle.std.proofs.lemmas.List.{map-append}
use Rattle.cover_planner.specs.declared.cover.Plan.{Plan}
use Rattle.sink_journal.specs.declared.journal.Entry.{Entry}
use Rattle.sink_journal.specs.declared.journal.Entry.TheVariants as entry
use Rattle.tuple_trace.specs.declared.tuple.Item.TheVariants as item
use Rattle.flow_model.specs.Covers.{plan_of}
use Rattle.flow_model.specs.Law.{IsExecution, Progress, Duties, after_entry, next_due}
use Rattle.flow_model.specs.SetupView.{SetupView}
use Rattle.flow_model.specs.Replay.{came_in, marker, marker_by, shown}
use Rattle.flow_model.proofs.ElementLemmas.{IsIn}
use Rattle.flow_model.proofs.JournalLemmas.{due_first}
use Rattle.flow_model.proofs.MarkerLemmas.{later_in}
use Rattle.audit_laws.specs.declared.audit.AuditEntry.{AuditEntry}
use Rattle.audit_laws.specs.declared.audit.AuditEntry.TheVariants as kept
use Rattle.audit_laws.specs.Faults.{comes_by, seen}
use Rattle.audit_laws.specs.Trimmed.{trim, trimmed}

-- every marker is of a request that has a plan
abbrev pub MarksPlans : SetupView → List Entry → Type 0
MarksPlans setup xs = (l r : ℕ) → IsIn (entry.Marked l r) xs → (plan : Plan) × (plan_of setup r ≡ Some plan)

-- ---- by the law a marker is of a due

pub marked_is_due : (duties : Duties) (progress : Progress) (xs : List Entry) (l r : ℕ) → IsExecution duties progress xs → IsIn (entry.Marked l r) xs → IsIn r progress.dues
marked_is_due duties progress [] l r f i = absurd i
marked_is_due duties progress (entry.Met k t ∷ xs) l r f (inl e) = absurd (cc)
marked_is_due duties progress (entry.Met k t ∷ xs) l r f (inr i) = marked_is_due duties (after_entry progress (entry.Met k t)) xs l r f.1 i
marked_is_due duties progress (entry.Marked k q ∷ xs) l r f (inl e) =
    let same : r ≡ q = cc in
    let due : next_due progress.dues ≡ Some q = f.0.0 in
    subst (λ (l : List ℕ). IsIn r l) (sym (due_first progress.dues q due)) (inl same)
marked_is_due duties progress (entry.Marked k q ∷ xs) l r f (inr i) = marked_is_due duties (after_entry progress (entry.Marked k q)) xs l r f.1 i
marked_is_due duties progress (entry.Turned q ∷ xs) l r f (inl e) = absurd (cc)
marked_is_due duties progress (entry.Turned q ∷ xs) l r f (inr i) = later_in r progress.dues (marked_is_due duties (after_entry progress (entry.Turned q)) xs l r f.1 i)
marked_is_due duties progress (entry.Ended k ∷ xs) l r f (inl e) = absurd (cc)
marked_is_due duties progress (entry.Ended k ∷ xs) l r f (inr i) = marked_is_due duties (after_entry progress (entry.Ended k)) xs l r f.1 i

-- ---- lanes

seen_one : (setup : SetupView) (n : ℕ) (x : Entry) → ((l r : ℕ) → entry.Marked l r ≡ x → (plan : Plan) × (plan_of setup r ≡ Some plan))
    → map (seen n) (came_in setup n x) ≡ cond (comes_by n (trim x)) (trim x ∷ []) []
seen_one setup n (entry.Met l t) p = go (l == n) refl
  where
    go : (b : Bool) → (l == n) ≡ b → map (seen n) (cond b (item.Carry t ∷ []) []) ≡ cond b (kept.Met l t.row t.birth ∷ []) []
    go true e = ap (λ (k : ℕ). kept.Met k t.row t.birth ∷ []) (sym (eqb-true l n e))
    go false e = refl
seen_one setup n (entry.Marked l r) p = go (l == n) refl (p l r refl)
  where
    go : (b : Bool) → (l == n) ≡ b → ((plan : Plan) × (plan_of setup r ≡ Some plan)) → map (seen n) (cond b (marker setup r) []) ≡ cond b (kept.Marked l r ∷ []) []
    go true e (plan, is) =
        ap (λ o. map (seen n) (marker_by r o)) is ∙ ap (λ (k : ℕ). kept.Marked k r ∷ []) (sym (eqb-true l n e))
    go false e q = refl
seen_one setup n (entry.Turned r) p = refl
seen_one setup n (entry.Ended l) p = go (l == n) refl
  where
    go : (b : Bool) → (l == n) ≡ b → map (seen n) (cond b (item.Last ∷ []) []) ≡ cond b (kept.Ended l ∷ []) []
    go true e = ap (λ (k : ℕ). kept.Ended k ∷ []) (sym (eqb-true l n e))
    go false e = refl

pub seen_shown : (setup : SetupView) (n : ℕ) (xs : List Entry) → MarksPlans setup xs → map (seen n) (shown setup n xs) ≡ filter (comes_by n) (trimmed xs)
seen_shown setup n [] p = refl
seen_shown setup n (x ∷ xs) p =
    map-append (seen n) (came_in setup n x) (shown setup n xs)
    ∙ (ap₂ (λ (a b : List AuditEntry). a ++ b) (seen_one setup n x (λ l r e. p l r (inl e))) (seen_shown setup n xs (λ l r i. p l r (inr i)))
    ∙ front (comes_by n (trim x)))
  where
    front : (b : Bool) → cond b (trim x ∷ []) [] ++ filter (comes_by n) (trimmed xs) ≡ cond b (trim x ∷ filter (comes_by n) (trimmed xs)) (filter (comes_by n) (trimmed xs))
    front true = refl
    front false = refl
