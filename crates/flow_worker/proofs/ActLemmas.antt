-- What an act leaves of a worker, and what it adds to the journal.
use Rattle.std.proofs.Common.{◌≡◌, ◌∙◌, ◌⊎◌, inl, inr, ℕ, zero, suc, ◌+◌, ◌<◌, ◌≤◌, List, [], ◌∷◌, ◌++◌, Bool, true, false, cond, drop, length, refl, sym, ap, subst, arith, Option, Some, None, slice_get, append_assoc, append-nil, length-append}
use Rattle.std.specs.Prelude.{Contains}
use Rattle.flow_dag.specs.Masks.{has}
use Rattle.marker_align.specs.declared.decision.Act.{Act}
use Rattle.marker_align.specs.declared.decision.Act.TheVariants.{Turn, Process, Close, Nothing}
use Rattle.marker_align.specs.declared.decision.Due.{Due}
use Rattle.marker_align.specs.declared.held.Hand.TheVariants.{Empty}
use Rattle.sink_journal.specs.declared.journal.Entry.{Entry}
use Rattle.sink_journal.specs.declared.journal.Entry.TheVariants.{Ended, Met, Marked, Turned}
use Rattle.tuple_trace.specs.declared.tuple.Item.{Item}
use Rattle.tuple_trace.specs.declared.tuple.Tuple.{Tuple}
use Rattle.flow_model.specs.SetupView.{SetupView, Worker as WorkerOf}
use Rattle.flow_model.proofs.ElementLemmas.{IsIn, contains_of_in, in_cases, in_of_contains, in_right}
use Rattle.flow_worker.specs.Pairs.{EachPair, sum_each}
use Rattle.flow_worker.specs.Endpoints.{Gains, LaneInIs, LaneOutIs, SameButMemory, SameIn, SameOut, sent_in_all, all_taken}
use Rattle.flow_worker.specs.Worker.{WorkerIs}
use Rattle.flow_worker.specs.Steps.{HasClosed, HasProcessed, HasTurned, all_emptied, emptied, ended_entries, laid_down, marked_entries}
use Rattle.flow_worker.specs.Turning.{GrowsByOneAct, HasDone, SameEndpoints, added, moves}
use Rattle.flow_worker.proofs.Pairs.{each_same, pairs_keep}

-- ---- pairs

pub pairs_map : {A : Type 0} (R Q : A → A → Type 0) (xs ys : List A) → ((x y : A) → R x y → Q x y) → EachPair R xs ys → EachPair Q xs ys
pairs_map R Q [] [] h r = tt
pairs_map R Q [] (y ∷ ys) h r = absurd r
pairs_map R Q (x ∷ xs) [] h r = absurd r
pairs_map R Q (x ∷ xs) (y ∷ ys) h r = (h x y r.0, pairs_map R Q xs ys h r.1)

pub total_grows : {A : Type 0} (R : A → A → Type 0) (f : A → ℕ) (xs ys : List A) → ((x y : A) → R x y → f x ≤ f y) → EachPair R xs ys → sum_each f xs ≤ sum_each f ys
total_grows R f [] [] h r = omega arith
total_grows R f [] (y ∷ ys) h r = absurd r
total_grows R f (x ∷ xs) [] h r = absurd r
total_grows R f (x ∷ xs) (y ∷ ys) h r = let a = h x y r.0 in let b = total_grows R f xs ys h r.1 in omega arith

total_same : {A : Type 0} (R : A → A → Type 0) (f : A → ℕ) (xs ys : List A) → ((x y : A) → R x y → f x ≡ f y) → EachPair R xs ys → sum_each f xs ≡ sum_each f ys
total_same R f [] [] h r = refl
total_same R f [] (y ∷ ys) h r = absurd r
total_same R f (x ∷ xs) [] h r = absurd r
total_same R f (x ∷ xs) (y ∷ ys) h r = let a = h x y r.0 in let b = total_same R f xs ys h r.1 in omega (arith, a, b)

pub same_in : (a : LaneInIs) → SameIn a a
same_in a = (refl, refl, refl, refl)

same_out : (a : LaneOutIs) → SameOut a a
same_out a = (refl, refl, refl, refl)

pub in_then : (a b c : LaneInIs) → SameIn a b → SameIn b c → SameIn a c
in_then a b c p q = (q.0 ∙ p.0, q.1 ∙ p.1, q.2 ∙ p.2, q.3 ∙ p.3)

pub out_then : (a b c : LaneOutIs) → SameOut a b → SameOut b c → SameOut a c
out_then a b c p q = (q.0 ∙ p.0, q.1 ∙ p.1, q.2 ∙ p.2, q.3 ∙ p.3)

gains_same : (f : LaneOutIs → List Item) (a b : LaneOutIs) → Gains f a b → SameOut a b
gains_same f a b g = (ap (λ (o : LaneOutIs). o.lane) g, ap (λ (o : LaneOutIs). o.number) g, ap (λ (o : LaneOutIs). o.origin) g, ap (λ (o : LaneOutIs). o.edge) g)

pub memory_same : (a b : LaneOutIs) → SameButMemory a b → SameOut a b
memory_same a b g = (ap (λ (o : LaneOutIs). o.lane) g, ap (λ (o : LaneOutIs). o.number) g, ap (λ (o : LaneOutIs). o.origin) g, ap (λ (o : LaneOutIs). o.edge) g)

-- ---- what was added

drop_front : (xs ys : List Entry) → drop (length xs) (xs ++ ys) ≡ ys
drop_front [] ys = refl
drop_front (x ∷ xs) ys = drop_front xs ys

pub added_is : (w v : WorkerIs) (new : List Entry) → v.journal ≡ w.journal ++ new → added w v ≡ new
added_is w v new e = ap (drop (length w.journal)) e ∙ drop_front w.journal new

pub none_added : (w v : WorkerIs) (x : Entry) → v.journal ≡ w.journal → Contains (added w v) x → ⊥
none_added w v x e c = subst (IsIn x) (added_is w v [] (e ∙ sym (append-nil w.journal))) (in_of_contains x (added w v) c)

pub one_longer : (xs : List ℕ) (n : ℕ) → xs ≡ xs ++ n ∷ [] → ⊥
one_longer [] n e = cc
one_longer (x ∷ xs) n e = one_longer xs n (let r : xs ≡ xs ++ n ∷ [] = cc in r)

no_met_marks : (l : ℕ) (t : Tuple) (mask r i : ℕ) (ins : List LaneInIs) → IsIn (Met l t) (marked_entries mask r i ins) → ⊥
no_met_marks l t mask r i [] h = h
no_met_marks l t mask r i (a ∷ more) h = go (has mask i) (λ k. no_met_marks l t mask r (i + 1) more k) h
  where
    go : (b : Bool) → (IsIn (Met l t) (marked_entries mask r (i + 1) more) → ⊥) → IsIn (Met l t) (cond b (Marked a.number r ∷ []) [] ++ marked_entries mask r (i + 1) more) → ⊥
    go true f (inl e) = cc
    go true f (inr k) = f k
    go false f k = f k

no_met_turn : (l : ℕ) (t : Tuple) (mask r : ℕ) (ins : List LaneInIs) → IsIn (Met l t) (marked_entries mask r 0 ins ++ Turned r ∷ []) → ⊥
no_met_turn l t mask r ins h = go (in_cases (Met l t) (marked_entries mask r 0 ins) (Turned r ∷ []) h)
  where
    go : IsIn (Met l t) (marked_entries mask r 0 ins) ⊎ IsIn (Met l t) (Turned r ∷ []) → ⊥
    go (inl k) = no_met_marks l t mask r 0 ins k
    go (inr (inl e)) = cc
    go (inr (inr k)) = k

no_met_ends : (l : ℕ) (t : Tuple) (ins : List LaneInIs) → IsIn (Met l t) (ended_entries ins) → ⊥
no_met_ends l t [] h = h
no_met_ends l t (a ∷ more) (inl e) = cc
no_met_ends l t (a ∷ more) (inr h) = no_met_ends l t more h

pub no_turned_ends : (r : ℕ) (ins : List LaneInIs) → IsIn (Turned r) (ended_entries ins) → ⊥
no_turned_ends r [] h = h
no_turned_ends r (a ∷ more) (inl e) = cc
no_turned_ends r (a ∷ more) (inr h) = no_turned_ends r more h

turned_marks_is : (q mask r i : ℕ) (ins : List LaneInIs) → IsIn (Turned q) (marked_entries mask r i ins) → ⊥
turned_marks_is q mask r i [] h = h
turned_marks_is q mask r i (a ∷ more) h = go (has mask i) (λ k. turned_marks_is q mask r (i + 1) more k) h
  where
    go : (b : Bool) → (IsIn (Turned q) (marked_entries mask r (i + 1) more) → ⊥) → IsIn (Turned q) (cond b (Marked a.number r ∷ []) [] ++ marked_entries mask r (i + 1) more) → ⊥
    go true f (inl e) = cc
    go true f (inr k) = f k
    go false f k = f k

turned_turn_is : (q mask r : ℕ) (ins : List LaneInIs) → IsIn (Turned q) (marked_entries mask r 0 ins ++ Turned r ∷ []) → q ≡ r
turned_turn_is q mask r ins h = go (in_cases (Turned q) (marked_entries mask r 0 ins) (Turned r ∷ []) h)
  where
    go : IsIn (Turned q) (marked_entries mask r 0 ins) ⊎ IsIn (Turned q) (Turned r ∷ []) → q ≡ r
    go (inl k) = absurd (turned_marks_is q mask r 0 ins k)
    go (inr (inl e)) = cc
    go (inr (inr k)) = absurd k

pub marked_none : (mask r i : ℕ) (ins : List LaneInIs) → ((k : ℕ) (a : LaneInIs) → slice_get ins k ≡ Some a → has mask (i + k) ≡ true → ⊥) → marked_entries mask r i ins ≡ []
marked_none mask r i [] f = refl
marked_none mask r i (a ∷ more) f =
    go (has mask i) refl (marked_none mask r (i + 1) more (λ k b g h. f (suc k) b g (subst (λ n. has mask n ≡ true) (omega arith) h)))
  where
    go : (b : Bool) → has mask i ≡ b → marked_entries mask r (i + 1) more ≡ [] → cond b (Marked a.number r ∷ []) [] ++ marked_entries mask r (i + 1) more ≡ []
    go true e none = absurd (f 0 a refl (subst (λ n. has mask n ≡ true) (omega arith) e))
    go false e none = none

-- the entries of an act read only the numbers of the lanes
marked_same : (mask r i : ℕ) (xs ys : List LaneInIs) → EachPair SameIn xs ys → marked_entries mask r i ys ≡ marked_entries mask r i xs
marked_same mask r i [] [] p = refl
marked_same mask r i [] (b ∷ ys) p = absurd p
marked_same mask r i (a ∷ xs) [] p = absurd p
marked_same mask r i (a ∷ xs) (b ∷ ys) p = (
    let head : cond (has mask i) (Marked b.number r ∷ []) [] ≡ cond (has mask i) (Marked a.number r ∷ []) [] = ap (λ n. cond (has mask i) (Marked n r ∷ []) []) p.0.1 in
    let tail = marked_same mask r (i + 1) xs ys p.1 in
    λ k. head k ++ tail k)

ended_same : (xs ys : List LaneInIs) → EachPair SameIn xs ys → ended_entries ys ≡ ended_entries xs
ended_same xs ys p = pairs_keep SameIn (λ (a : LaneInIs). Ended a.number) xs ys (λ a b s. ap Ended s.1) p

pub emptied_none : (mask i : ℕ) (ins : List LaneInIs) → ((k : ℕ) (a : LaneInIs) → slice_get ins k ≡ Some a → has mask (i + k) ≡ true → ⊥) → emptied mask i ins ≡ ins
emptied_none mask i [] f = refl
emptied_none mask i (a ∷ more) f =
    go (has mask i) refl (emptied_none mask (i + 1) more (λ k b g h. f (suc k) b g (subst (λ n. has mask n ≡ true) (omega arith) h)))
  where
    go : (b : Bool) → has mask i ≡ b → emptied mask (i + 1) more ≡ more → cond b (record a { hand = Empty }) a ∷ emptied mask (i + 1) more ≡ a ∷ more
    go true e r = absurd (f 0 a refl (subst (λ n. has mask n ≡ true) (omega arith) e))
    go false e r = ap (λ xs. a ∷ xs) r

-- ---- what an act leaves

pairs_emptied : (mask i : ℕ) (ins : List LaneInIs) → EachPair SameIn ins (emptied mask i ins)
pairs_emptied mask i [] = tt
pairs_emptied mask i (a ∷ more) = (go (has mask i), pairs_emptied mask (i + 1) more)
  where
    go : (b : Bool) → SameIn a (cond b (record a { hand = Empty }) a)
    go true = (refl, refl, refl, refl)
    go false = (refl, refl, refl, refl)

pairs_laid : (k : ℕ) (ins : List LaneInIs) → EachPair SameIn ins (laid_down k ins)
pairs_laid k [] = tt
pairs_laid zero (a ∷ more) = ((refl, refl, refl, refl), each_same SameIn more same_in)
pairs_laid (suc k) (a ∷ more) = (same_in a, pairs_laid k more)

pairs_ended : (ins : List LaneInIs) → EachPair SameIn ins (all_emptied ins)
pairs_ended [] = tt
pairs_ended (a ∷ more) = ((refl, refl, refl, refl), pairs_ended more)

taken_emptied : (mask i : ℕ) (ins : List LaneInIs) → all_taken (emptied mask i ins) ≡ all_taken ins
taken_emptied mask i [] = refl
taken_emptied mask i (a ∷ more) = go (has mask i) (taken_emptied mask (i + 1) more)
  where
    go : (b : Bool) → all_taken (emptied mask (i + 1) more) ≡ all_taken more → all_taken (cond b (record a { hand = Empty }) a ∷ emptied mask (i + 1) more) ≡ all_taken (a ∷ more)
    go true h = ap (λ n. length a.taken + n) h
    go false h = ap (λ n. length a.taken + n) h

taken_laid : (k : ℕ) (ins : List LaneInIs) → all_taken (laid_down k ins) ≡ all_taken ins
taken_laid k [] = refl
taken_laid zero (a ∷ more) = refl
taken_laid (suc k) (a ∷ more) = ap (λ n. length a.taken + n) (taken_laid k more)

taken_ended : (ins : List LaneInIs) → all_taken (all_emptied ins) ≡ all_taken ins
taken_ended [] = refl
taken_ended (a ∷ more) = ap (λ n. length a.taken + n) (taken_ended more)

long_ended : (ins : List LaneInIs) → length (ended_entries ins) ≡ length ins
long_ended [] = refl
long_ended (a ∷ more) = ap suc (long_ended more)

sent_gains : (f : LaneOutIs → List Item) (xs ys : List LaneOutIs) → EachPair (Gains f) xs ys → sent_in_all ys ≡ sent_in_all xs
sent_gains f xs ys p = sym (total_same (Gains f) (λ (o : LaneOutIs). length o.sent) xs ys (λ a b g. sym (ap (λ (o : LaneOutIs). length o.sent) g)) p)

whole_turn : (setup : SetupView) (due : Due) (w v : WorkerIs) → HasTurned setup due w v → v.journal ≡ w.journal ++ (marked_entries due.lanes due.request 0 w.ins ++ Turned due.request ∷ [])
whole_turn setup due w v t = t.journal ∙ append_assoc w.journal (marked_entries due.lanes due.request 0 w.ins) (Turned due.request ∷ [])

-- the box is as after the poll, but for a turn
pub polls_done : (setup : SetupView) (who : WorkerOf) (due : Option Due) (act : Act) (w v : WorkerIs) → HasDone setup who due act w v → v.owner.polls ≡ w.owner.polls
polls_done setup who None (Turn r) w v d = absurd d
polls_done setup who (Some due) (Turn r) w v d = d.polls
polls_done setup who None (Process place) w v d = ap (λ (x : WorkerIs). x.owner.polls) d.rest
polls_done setup who (Some due) (Process place) w v d = ap (λ (x : WorkerIs). x.owner.polls) d.rest
polls_done setup who None Close w v d = ap (λ (x : WorkerIs). x.owner.polls) d.rest
polls_done setup who (Some due) Close w v d = ap (λ (x : WorkerIs). x.owner.polls) d.rest
polls_done setup who None Nothing w v d = absurd d
polls_done setup who (Some due) Nothing w v d = absurd d

turn_ends : (setup : SetupView) (due : Due) (w v : WorkerIs) → HasTurned setup due w v → SameEndpoints w v
turn_ends setup due w v d = record {
  number = ap (λ (x : WorkerIs). x.number) d.rest;
  ins = rw d.ins (pairs_emptied due.lanes 0 w.ins);
  outs = pairs_map (Gains _) SameOut w.outs v.outs (gains_same _) d.outs;
  within = d.within;
}

process_ends : (setup : SetupView) (who : WorkerOf) (place : ℕ) (w v : WorkerIs) → HasProcessed setup who place w v → SameEndpoints w v
process_ends setup who place w v d = record {
  number = ap (λ (x : WorkerIs). x.number) d.rest;
  ins = rw d.ins (pairs_laid place w.ins);
  outs = pairs_map (Gains _) SameOut w.outs v.outs (gains_same _) d.outs;
  within = ap (λ (x : WorkerIs). x.owner.within) d.rest;
}

close_ends : (w v : WorkerIs) → HasClosed w v → SameEndpoints w v
close_ends w v d = record {
  number = ap (λ (x : WorkerIs). x.number) d.rest;
  ins = rw d.ins (pairs_ended w.ins);
  outs = pairs_map (Gains _) SameOut w.outs v.outs (gains_same _) d.outs;
  within = ap (λ (x : WorkerIs). x.owner.within) d.rest;
}

pub ends_done : (setup : SetupView) (who : WorkerOf) (due : Option Due) (act : Act) (w v : WorkerIs) → HasDone setup who due act w v → SameEndpoints w v
ends_done setup who None (Turn r) w v d = absurd d
ends_done setup who (Some due) (Turn r) w v d = turn_ends setup due w v d
ends_done setup who None (Process place) w v d = process_ends setup who place w v d
ends_done setup who (Some due) (Process place) w v d = process_ends setup who place w v d
ends_done setup who None Close w v d = close_ends w v d
ends_done setup who (Some due) Close w v d = close_ends w v d
ends_done setup who None Nothing w v d = absurd d
ends_done setup who (Some due) Nothing w v d = absurd d

turn_grew : (setup : SetupView) (due : Due) (w v : WorkerIs) → HasTurned setup due w v → moves w < moves v
turn_grew setup due w v d =
    let es : List Entry = marked_entries due.lanes due.request 0 w.ins ++ Turned due.request ∷ [] in
    let j : length v.journal ≡ length w.journal + length es = ap length (whole_turn setup due w v d) ∙ length-append w.journal es in
    let e : length es ≡ length (marked_entries due.lanes due.request 0 w.ins) + 1 = length-append (marked_entries due.lanes due.request 0 w.ins) (Turned due.request ∷ []) in
    let t : all_taken v.ins ≡ all_taken w.ins = ap all_taken d.ins ∙ taken_emptied due.lanes 0 w.ins in
    let s : sent_in_all v.outs ≡ sent_in_all w.outs = sent_gains _ w.outs v.outs d.outs in
    omega (arith, j, e, t, s)

process_grew : (setup : SetupView) (who : WorkerOf) (place : ℕ) (w v : WorkerIs) → HasProcessed setup who place w v → moves w < moves v
process_grew setup who place w v d =
    let j : length v.journal ≡ length w.journal + 1 = ap length d.journal ∙ length-append w.journal (Met d.at.number d.tuple ∷ []) in
    let t : all_taken v.ins ≡ all_taken w.ins = ap all_taken d.ins ∙ taken_laid place w.ins in
    let s : sent_in_all v.outs ≡ sent_in_all w.outs = sent_gains _ w.outs v.outs d.outs in
    omega (arith, j, t, s)

close_grew : (w v : WorkerIs) → HasClosed w v → 0 < length w.ins → moves w < moves v
close_grew w v d l =
    let j : length v.journal ≡ length w.journal + length (ended_entries w.ins) = ap length d.journal ∙ length-append w.journal (ended_entries w.ins) in
    let e : length (ended_entries w.ins) ≡ length w.ins = long_ended w.ins in
    let t : all_taken v.ins ≡ all_taken w.ins = ap all_taken d.ins ∙ taken_ended w.ins in
    let s : sent_in_all v.outs ≡ sent_in_all w.outs = sent_gains _ w.outs v.outs d.outs in
    omega (arith, j, e, t, s, l)

pub grew_done : (setup : SetupView) (who : WorkerOf) (due : Option Due) (act : Act) (w v : WorkerIs) → 0 < length w.ins → HasDone setup who due act w v → moves w < moves v
grew_done setup who None (Turn r) w v l d = absurd d
grew_done setup who (Some due) (Turn r) w v l d = turn_grew setup due w v d
grew_done setup who None (Process place) w v l d = process_grew setup who place w v d
grew_done setup who (Some due) (Process place) w v l d = process_grew setup who place w v d
grew_done setup who None Close w v l d = close_grew w v d l
grew_done setup who (Some due) Close w v l d = close_grew w v d l
grew_done setup who None Nothing w v l d = absurd d
grew_done setup who (Some due) Nothing w v l d = absurd d

-- an act adds its own entries to a journal, whose lanes are the worker's
pub acts_done : (setup : SetupView) (who : WorkerOf) (due : Option Due) (act : Act) (w v before : WorkerIs) → w.journal ≡ before.journal → due ≡ before.due → EachPair SameIn before.ins w.ins
    → HasDone setup who due act w v → GrowsByOneAct before v
acts_done setup who None (Turn r) w v b j e p d = absurd d
acts_done setup who (Some due) (Turn r) w v b j e p d =
    let new : List Entry = marked_entries due.lanes due.request 0 w.ins ++ Turned due.request ∷ [] in
    (new, whole_turn setup due w v d ∙ ap (λ xs. xs ++ new) j, inr (inr (inl (due, sym e, ap (λ xs. xs ++ Turned due.request ∷ []) (marked_same due.lanes due.request 0 b.ins w.ins p)))))
acts_done setup who None (Process place) w v b j e p d =
    let new : List Entry = Met d.at.number d.tuple ∷ [] in (new, d.journal ∙ ap (λ xs. xs ++ new) j, inr (inl (d.at.number, d.tuple, refl)))
acts_done setup who (Some due) (Process place) w v b j e p d =
    let new : List Entry = Met d.at.number d.tuple ∷ [] in (new, d.journal ∙ ap (λ xs. xs ++ new) j, inr (inl (d.at.number, d.tuple, refl)))
acts_done setup who None Close w v b j e p d = (ended_entries w.ins, d.journal ∙ ap (λ xs. xs ++ ended_entries w.ins) j, inr (inr (inr (ended_same b.ins w.ins p))))
acts_done setup who (Some due) Close w v b j e p d = (ended_entries w.ins, d.journal ∙ ap (λ xs. xs ++ ended_entries w.ins) j, inr (inr (inr (ended_same b.ins w.ins p))))
acts_done setup who None Nothing w v b j e p d = absurd d
acts_done setup who (Some due) Nothing w v b j e p d = absurd d

-- a tuple was met only where the act was one
pub met_done : (setup : SetupView) (who : WorkerOf) (due : Option Due) (act : Act) (w v : WorkerIs) (before : WorkerIs) (l : ℕ) (t : Tuple) → w.journal ≡ before.journal → HasDone setup who due act w v
    → Contains (added before v) (Met l t) → (place : ℕ) × (act ≡ Process place)
met_done setup who None (Turn r) w v b l t j d c = absurd d
met_done setup who (Some due) (Turn r) w v b l t j d c =
    absurd (no_met_turn l t due.lanes due.request w.ins
    (subst (IsIn (Met l t)) (added_is b v _ (whole_turn setup due w v d ∙ ap (λ xs. xs ++ (marked_entries due.lanes due.request 0 w.ins ++ Turned due.request ∷ [])) j)) (in_of_contains (Met l t) (added b v) c)))
met_done setup who None (Process place) w v b l t j d c = (place, refl)
met_done setup who (Some due) (Process place) w v b l t j d c = (place, refl)
met_done setup who None Close w v b l t j d c =
    absurd (no_met_ends l t w.ins (subst (IsIn (Met l t)) (added_is b v (ended_entries w.ins) (d.journal ∙ ap (λ xs. xs ++ ended_entries w.ins) j)) (in_of_contains (Met l t) (added b v) c)))
met_done setup who (Some due) Close w v b l t j d c =
    absurd (no_met_ends l t w.ins (subst (IsIn (Met l t)) (added_is b v (ended_entries w.ins) (d.journal ∙ ap (λ xs. xs ++ ended_entries w.ins) j)) (in_of_contains (Met l t) (added b v) c)))
met_done setup who None Nothing w v b l t j d c = absurd d
met_done setup who (Some due) Nothing w v b l t j d c = absurd d

-- a request was turned only where the act was its turn
pub turned_done : (setup : SetupView) (who : WorkerOf) (due : Option Due) (act : Act) (w v : WorkerIs) (before : WorkerIs) (r : ℕ) → w.journal ≡ before.journal → HasDone setup who due act w v
    → Contains (added before v) (Turned r) → (its : Due) × (due ≡ Some its) × (r ≡ its.request) × ((q : ℕ) × (act ≡ Turn q)) × HasTurned setup its w v
turned_done setup who None (Turn q) w v b r j d c = absurd d
turned_done setup who (Some due) (Turn q) w v b r j d c = (
  due,
  refl,
  turned_turn_is r due.lanes due.request w.ins
      (subst (IsIn (Turned r)) (added_is b v _ (whole_turn setup due w v d ∙ ap (λ xs. xs ++ (marked_entries due.lanes due.request 0 w.ins ++ Turned due.request ∷ [])) j)) (in_of_contains (Turned r) (added b v) c)),
  (q, refl),
  d,
)
turned_done setup who None (Process place) w v b r j d c =
    absurd (not_met r d.at.number d.tuple (subst (IsIn (Turned r)) (added_is b v (Met d.at.number d.tuple ∷ []) (d.journal ∙ ap (λ xs. xs ++ Met d.at.number d.tuple ∷ []) j)) (in_of_contains (Turned r) (added b v) c)))
  where
    not_met : (r l : ℕ) (t : Tuple) → IsIn (Turned r) (Met l t ∷ []) → ⊥
    not_met r l t (inl e) = cc
    not_met r l t (inr e) = e
turned_done setup who (Some due) (Process place) w v b r j d c =
    absurd (not_met r d.at.number d.tuple (subst (IsIn (Turned r)) (added_is b v (Met d.at.number d.tuple ∷ []) (d.journal ∙ ap (λ xs. xs ++ Met d.at.number d.tuple ∷ []) j)) (in_of_contains (Turned r) (added b v) c)))
  where
    not_met : (r l : ℕ) (t : Tuple) → IsIn (Turned r) (Met l t ∷ []) → ⊥
    not_met r l t (inl e) = cc
    not_met r l t (inr e) = e
turned_done setup who None Close w v b r j d c =
    absurd (no_turned_ends r w.ins (subst (IsIn (Turned r)) (added_is b v (ended_entries w.ins) (d.journal ∙ ap (λ xs. xs ++ ended_entries w.ins) j)) (in_of_contains (Turned r) (added b v) c)))
turned_done setup who (Some due) Close w v b r j d c =
    absurd (no_turned_ends r w.ins (subst (IsIn (Turned r)) (added_is b v (ended_entries w.ins) (d.journal ∙ ap (λ xs. xs ++ ended_entries w.ins) j)) (in_of_contains (Turned r) (added b v) c)))
turned_done setup who None Nothing w v b r j d c = absurd d
turned_done setup who (Some due) Nothing w v b r j d c = absurd d

-- where the act is the turn of the due, it was turned
pub done_turned : (setup : SetupView) (who : WorkerOf) (due : Option Due) (its : Due) (act : Act) (w v : WorkerIs) (before : WorkerIs) → w.journal ≡ before.journal → due ≡ Some its → act ≡ Turn its.request
    → HasDone setup who due act w v → Contains (added before v) (Turned its.request)
done_turned setup who due its act w v b j e is d =
    let t : HasTurned setup its w v = subst (λ (o : Option Due). HasDone setup who o (Turn its.request) w v) e (subst (λ (a : Act). HasDone setup who due a w v) is d) in
    let es : List Entry = marked_entries its.lanes its.request 0 w.ins ++ Turned its.request ∷ [] in
    let a : added b v ≡ es = added_is b v es (whole_turn setup its w v t ∙ ap (λ xs. xs ++ es) j) in
    contains_of_in (Turned its.request) (added b v) (subst (IsIn (Turned its.request)) (sym a) (in_right (Turned its.request) (marked_entries its.lanes its.request 0 w.ins) (Turned its.request ∷ []) (inl refl)))
