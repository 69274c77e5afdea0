-- Counts are in the range of their type.
use Rattle.std.proofs.Common.{◌≡◌, ◌∙◌, ◌<◌, ◌^◌, ℕ, ℤ, pos, negsuc, List, [], ◌∷◌, inl, inr, refl, sym, subst, arith, map, filter, Some, None, Option, Ordering}
use Rattle.std.proofs.Common.{All, slice_get}
use Rattle.std.specs.Cmp.Lexicographic.{slice_cmp, nat_list_cmp_total}
use Rattle.std.specs.FinMap.{empty, entries, entries-insert, from_entries, insert, len-empty, len-entries, put}
use Rattle.std.specs.FinMap.Entries.{by_order}
use Rattle.std.specs.Int.Signed.{mag}
use Rattle.std.specs.Ordering.{nat_cmp}
use Rattle.std.specs.declared.cmp.Ordering.TheVariants.{Less, Equal, Greater}
use Rattle.std.proofs.lemmas.List.{nil_from_length}
use Rattle.jobs.specs.JobView.{JobView}
use Rattle.jobs.specs.declared.func.Func.{Func}
use Rattle.keyed_state.specs.Counts.{Counts, carried, clamp, scaled}
use Rattle.keyed_state.specs.declared.carry.Carry.{Carry}
use Rattle.keyed_state.specs.declared.carry.Carry.TheVariants as carry
use Rattle.operators.specs.Fields.{text_at}
use Rattle.operators.specs.Meaning.{counts_after}
use Rattle.operators.proofs.CountLemmas.{counts_cases}
use Rattle.sink_journal.specs.declared.journal.Entry.{Entry}
use Rattle.sink_journal.specs.declared.journal.Entry.TheVariants as entry
use Rattle.tuple_trace.specs.declared.tuple.Tuple.{Tuple}
use Rattle.versions.specs.declared.request.Change.{Change}
use Rattle.flow_model.specs.Begin.{at_first}
use Rattle.flow_model.specs.SetupView.{SetupView, Worker}
use Rattle.flow_model.specs.Replay.{StateView, after, after_all, after_change}
use Rattle.flow_model.specs.Requests.{change_by}
use Rattle.flow_model.specs.Workers.{workers_in}
use Rattle.flow_model.proofs.ElementLemmas.{IsIn, all_of_at, at_of_all, in_filter, in_map, in_of_place}
use Rattle.audit_laws.specs.Range.{AreInRange, BeginsInRange}

-- each count is in the range of its type, item by item
abbrev pub EachInRange : List (List ℕ × ℤ) → Type 0
EachInRange counted = (c : List ℕ × ℤ) → IsIn c counted → mag c.1 < 2 ^ 63

clamp_range : (z : ℤ) → mag (clamp z) < 2 ^ 63
clamp_range (pos n) = omega arith
clamp_range (negsuc n) = omega arith

-- no text is counted at first
pub none_listed : entries (empty {X = ℤ} {R = slice_cmp nat_cmp}) ≡ []
none_listed = nil_from_length (entries (empty {X = ℤ} {R = slice_cmp nat_cmp})) (sym (len-entries (empty {X = ℤ} {R = slice_cmp nat_cmp})) ∙ len-empty (slice_cmp nat_cmp) ℤ)

pub empty_range : EachInRange (entries (empty {X = ℤ} {R = slice_cmp nat_cmp}))
empty_range = subst EachInRange (sym none_listed) (λ c i. absurd i)

-- nothing is counted at the beginning of all
pub first_range : (setup : SetupView) → BeginsInRange (at_first setup)
first_range setup =
    all_of_at (λ (counts : Counts). AreInRange (entries counts)) (at_first setup).states (λ counts i.
    let r = in_map (λ (who : Worker). empty) counts (workers_in setup.job) i in
    all_of_at (λ (c : List ℕ × ℤ). mag c.1 < 2 ^ 63) (entries counts)
    (subst (λ (counts : Counts). EachInRange (entries counts)) (sym r.2) empty_range))

-- the counts of a worker at the beginning
pub begin_range : (states : List Counts) (w : ℕ) (counts : Counts) → All (λ (counts : Counts). AreInRange (entries counts)) states
    → slice_get states w ≡ Some counts → EachInRange (entries counts)
begin_range states w counts all g c i =
    at_of_all (λ (c : List ℕ × ℤ). mag c.1 < 2 ^ 63) c (entries counts)
    (at_of_all (λ (counts : Counts). AreInRange (entries counts)) counts states all (in_of_place counts states w g)) i

put_range : (k : List ℕ) (v : ℤ) (es : List (List ℕ × ℤ)) → mag v < 2 ^ 63 → EachInRange es → EachInRange (put (slice_cmp nat_cmp) k v es)
put_range k v [] small h c (inl e) = subst (λ (c : List ℕ × ℤ). mag c.1 < 2 ^ 63) (sym e) small
put_range k v [] small h c (inr n) = absurd n
put_range k v (e ∷ es) small h c i = go (slice_cmp nat_cmp k e.0) (put_range k v es small (λ c i. h c (inr i))) c i
  where
    go : (o : Ordering) → EachInRange (put (slice_cmp nat_cmp) k v es) → EachInRange (by_order o ((k, v) ∷ e ∷ es) ((e.0, v) ∷ es) (e ∷ put (slice_cmp nat_cmp) k v es))
    go Less later c (inl p) = subst (λ (c : List ℕ × ℤ). mag c.1 < 2 ^ 63) (sym p) small
    go Less later c (inr i) = h c i
    go Equal later c (inl p) = subst (λ (c : List ℕ × ℤ). mag c.1 < 2 ^ 63) (sym p) small
    go Equal later c (inr i) = h c (inr i)
    go Greater later c (inl p) = h c (inl p)
    go Greater later c (inr i) = later c i

insert_range : (counts : Counts) (k : List ℕ) (v : ℤ) → mag v < 2 ^ 63 → EachInRange (entries counts) → EachInRange (entries (insert counts k v))
insert_range counts k v small h = subst EachInRange (sym (entries-insert nat_list_cmp_total counts k v)) (put_range k v (entries counts) small h)

list_range : (es : List (List ℕ × ℤ)) → EachInRange es → EachInRange (entries (from_entries {R = slice_cmp nat_cmp} es))
list_range [] h = empty_range
list_range (e ∷ es) h = insert_range (from_entries es) e.0 e.1 (h e (inl refl)) (list_range es (λ c i. h c (inr i)))

carried_range : (how : Carry) (counts : Counts) → EachInRange (entries counts) → EachInRange (entries (carried how counts))
carried_range carry.Keep counts h = h
carried_range carry.Reset counts h = empty_range
carried_range (carry.Scale by over) counts h =
    list_range (map (λ e. (e.0, scaled by over e.1)) (entries counts)) (λ c i.
    let r = in_map (λ e. (e.0, scaled by over e.1)) c (entries counts) i in
    subst (λ (c : List ℕ × ℤ). mag c.1 < 2 ^ 63) (sym r.2) (clamp_range _))
carried_range (carry.DropBelow least) counts h =
    list_range (filter _ (entries counts)) (λ c i. h c (in_filter _ c (entries counts) i).0)

step_range : (job : JobView) (f : Func) (counts : Counts) (t : Tuple) → EachInRange (entries counts) → EachInRange (entries (counts_after job f counts t))
step_range job f counts t h =
    elim (counts_cases job f counts t) [
      | inl same ↦ rw same h
      | inr set ↦ subst (λ (c : Counts). EachInRange (entries c)) (sym set.after) (insert_range counts (text_at job.columns t.fields set.key) (clamp set.sum) (clamp_range set.sum) h)
    ]

after_range : (setup : SetupView) (who : Worker) (view : StateView) (x : Entry) → EachInRange (entries view.counts) → EachInRange (entries (after setup who view x).counts)
after_range setup who view (entry.Met l t) h = step_range setup.job view.func view.counts t h
after_range setup who view (entry.Marked l r) h = h
after_range setup who view (entry.Turned r) h = go (change_by setup r who.node)
  where
    go : (o : Option Change) → EachInRange (entries (after_change o view).counts)
    go None = h
    go (Some change) = carried_range change.carry view.counts h
after_range setup who view (entry.Ended l) h = h

-- so it is at the end of a journal
pub all_range : (setup : SetupView) (who : Worker) (view : StateView) (xs : List Entry) → EachInRange (entries view.counts) → EachInRange (entries (after_all setup who view xs).counts)
all_range setup who view [] h = h
all_range setup who view (x ∷ xs) h = all_range setup who (after setup who view x) xs (after_range setup who view x h)
