-- The markers that a turn notes: what they are in the journal.
use Rattle.std.proofs.Common.{◌≡◌, ◌∙◌, ℕ, zero, suc, ◌+◌, ◌==◌, List, [], ◌∷◌, ◌++◌, inl, inr, Bool, true, false, cond, refl, sym, ap, subst, arith, Some, slice_get, append-nil}
use Rattle.std.proofs.lemmas.Bool.{eq-eqb, eqb-true}
use Rattle.std.proofs.lemmas.List.Elements.{filter_map-append}
use Rattle.flow_dag.specs.Masks.{has}
use Rattle.marker_align.specs.declared.held.Hand.TheVariants.{Empty, Holds}
use Rattle.sink_journal.specs.declared.journal.Entry.{Entry}
use Rattle.sink_journal.specs.declared.journal.Entry.TheVariants.{Marked}
use Rattle.tuple_trace.specs.declared.tuple.Item.TheVariants.{Mark}
use Rattle.flow_model.specs.Law.{IsExecution, Progress, Duties, next_due, progress_after}
use Rattle.flow_model.specs.declared.topology.Lane.{Lane}
use Rattle.flow_model.specs.SetupView.{SetupView, Worker as WorkerOf}
use Rattle.flow_model.specs.Points.{turn_in, turned}
use Rattle.flow_model.specs.Replay.{StateView, after_all, marker, items_sent, shown}
use Rattle.flow_model.proofs.ElementLemmas.{AreDistinct, IsIn, contains_of_in, in_of_contains}
use Rattle.flow_worker.specs.Pairs.{EachOne}
use Rattle.flow_worker.specs.Endpoints.{LaneInIs, in_hand}
use Rattle.flow_worker.specs.Worker.{ShowsTaken, lane_numbers_in}
use Rattle.flow_worker.specs.Steps.{emptied, marked_entries}

-- ---- what the markers are to the law

-- the places of the mask are those of marked lanes
abbrev pub AreMarked : Duties → ℕ → ℕ → ℕ → List LaneInIs → Type 0
AreMarked duties r mask i [] = Unit {0}
AreMarked duties r mask i (a ∷ more) = (has mask i ≡ true → IsIn a.number (duties.marked_lanes r)) × AreMarked duties r mask (i + 1) more

pub marks_follow : (duties : Duties) (r mask i : ℕ) (p : Progress) (ins : List LaneInIs) → next_due p.dues ≡ Some r → p.ended ≡ [] → AreDistinct (lane_numbers_in ins)
    → ((n : ℕ) → IsIn n p.marked → ¬ IsIn n (lane_numbers_in ins)) → AreMarked duties r mask i ins → IsExecution duties p (marked_entries mask r i ins)
marks_follow duties r mask i p [] n e d f m = tt
marks_follow duties r mask i p (a ∷ more) n e d f m =
    go (has mask i) refl
    (marks_follow duties r mask (i + 1) (record p { marked = a.number ∷ p.marked }) more n e d.1
    (λ k j l. elim j [ inl q ↦ d.0 (subst (λ x. IsIn x (lane_numbers_in more)) q l) | inr q ↦ f k q (inr l) ]) m.1)
    (marks_follow duties r mask (i + 1) p more n e d.1 (λ k j l. f k j (inr l)) m.1)
  where
    go : (b : Bool) → has mask i ≡ b → IsExecution duties (record p { marked = a.number ∷ p.marked }) (marked_entries mask r (i + 1) more)
        → IsExecution duties p (marked_entries mask r (i + 1) more) → IsExecution duties p (cond b (Marked a.number r ∷ []) [] ++ marked_entries mask r (i + 1) more)
    go true h x y = ((n, contains_of_in a.number (duties.marked_lanes r) (m.0 h), (λ k. f a.number (in_of_contains a.number p.marked k) (inl refl)), e), x)
    go false h x y = y

abbrev pub marks_onto : ℕ → ℕ → List LaneInIs → List ℕ → List ℕ
marks_onto mask i [] m = m
marks_onto mask i (a ∷ more) m = marks_onto mask (i + 1) more (cond (has mask i) (a.number ∷ m) m)

pub progress_marks : (mask r i : ℕ) (p : Progress) (ins : List LaneInIs) → progress_after p (marked_entries mask r i ins) ≡ record p { marked = marks_onto mask i ins p.marked }
progress_marks mask r i p [] = refl
progress_marks mask r i p (a ∷ more) = go (has mask i) (λ t. progress_marks mask r (i + 1) t more)
  where
    go : (b : Bool) → ((t : Progress) → progress_after t (marked_entries mask r (i + 1) more) ≡ record t { marked = marks_onto mask (i + 1) more t.marked })
        → progress_after p (cond b (Marked a.number r ∷ []) [] ++ marked_entries mask r (i + 1) more) ≡ record p { marked = marks_onto mask (i + 1) more (cond b (a.number ∷ p.marked) p.marked) }
    go true f = f (record p { marked = a.number ∷ p.marked })
    go false f = f p

pub in_onto : (mask i n : ℕ) (ins : List LaneInIs) (m : List ℕ) → IsIn n m → IsIn n (marks_onto mask i ins m)
in_onto mask i n [] m h = h
in_onto mask i n (a ∷ more) m h = go (has mask i) (λ t j. in_onto mask (i + 1) n more t j)
  where
    go : (b : Bool) → ((t : List ℕ) → IsIn n t → IsIn n (marks_onto mask (i + 1) more t)) → IsIn n (marks_onto mask (i + 1) more (cond b (a.number ∷ m) m))
    go true f = f (a.number ∷ m) (inr h)
    go false f = f m h

pub at_onto : (mask i k : ℕ) (a : LaneInIs) (ins : List LaneInIs) (m : List ℕ) → slice_get ins k ≡ Some a → has mask (i + k) ≡ true → IsIn a.number (marks_onto mask i ins m)
at_onto mask i k a [] m g h = absurd (cc)
at_onto mask i zero a (b ∷ more) m g h =
    let e : b ≡ a = cc in
    let t : has mask i ≡ true = subst (λ n. has mask n ≡ true) (omega arith) h in
    rw t (in_onto mask (i + 1) a.number more (b.number ∷ m) (inl (ap (λ (x : LaneInIs). x.number) (sym e))))
at_onto mask i (suc k) a (b ∷ more) m g h =
    at_onto mask (i + 1) k a more (cond (has mask i) (b.number ∷ m) m) g (subst (λ n. has mask n ≡ true) (omega arith) h)

-- ---- what the markers are to the replay

pub view_marks : (setup : SetupView) (who : WorkerOf) (mask r i : ℕ) (view : StateView) (ins : List LaneInIs) → after_all setup who view (marked_entries mask r i ins) ≡ view
view_marks setup who mask r i view [] = refl
view_marks setup who mask r i view (a ∷ more) = go (has mask i) (view_marks setup who mask r (i + 1) view more)
  where
    go : (b : Bool) → after_all setup who view (marked_entries mask r (i + 1) more) ≡ view → after_all setup who view (cond b (Marked a.number r ∷ []) [] ++ marked_entries mask r (i + 1) more) ≡ view
    go true h = h
    go false h = h

pub sent_marks : (setup : SetupView) (who : WorkerOf) (mask r i : ℕ) (lane : Lane) (view : StateView) (ins : List LaneInIs) → items_sent setup who view lane (marked_entries mask r i ins) ≡ []
sent_marks setup who mask r i lane view [] = refl
sent_marks setup who mask r i lane view (a ∷ more) = go (has mask i) (sent_marks setup who mask r (i + 1) lane view more)
  where
    go : (b : Bool) → items_sent setup who view lane (marked_entries mask r (i + 1) more) ≡ [] → items_sent setup who view lane (cond b (Marked a.number r ∷ []) [] ++ marked_entries mask r (i + 1) more) ≡ []
    go true h = h
    go false h = h

pub turned-append : (xs ys : List Entry) → turned (xs ++ ys) ≡ turned xs ++ turned ys
turned-append xs ys = filter_map-append turn_in xs ys

pub turned_marks : (mask r i : ℕ) (ins : List LaneInIs) → turned (marked_entries mask r i ins) ≡ []
turned_marks mask r i [] = refl
turned_marks mask r i (a ∷ more) = go (has mask i) (turned_marks mask r (i + 1) more)
  where
    go : (b : Bool) → turned (marked_entries mask r (i + 1) more) ≡ [] → turned (cond b (Marked a.number r ∷ []) [] ++ marked_entries mask r (i + 1) more) ≡ []
    go true h = h
    go false h = h

-- ---- what the markers show

pub shown_none : (setup : SetupView) (n mask r i : ℕ) (ins : List LaneInIs) → ¬ IsIn n (lane_numbers_in ins) → shown setup n (marked_entries mask r i ins) ≡ []
shown_none setup n mask r i [] f = refl
shown_none setup n mask r i (a ∷ more) f = go (has mask i) (shown_none setup n mask r (i + 1) more (λ h. f (inr h)))
  where
    other : (b : Bool) → (a.number == n) ≡ b → shown setup n (marked_entries mask r (i + 1) more) ≡ [] → cond b (marker setup r) [] ++ shown setup n (marked_entries mask r (i + 1) more) ≡ []
    other true e h = absurd (f (inl (sym (eqb-true a.number n e))))
    other false e h = h

    go : (b : Bool) → shown setup n (marked_entries mask r (i + 1) more) ≡ [] → shown setup n (cond b (Marked a.number r ∷ []) [] ++ marked_entries mask r (i + 1) more) ≡ []
    go true h = other (a.number == n) refl h
    go false h = h

pub self_test : (n : ℕ) → (n == n) ≡ true
self_test n = eq-eqb n n refl

pub in_numbers_at : (k : ℕ) (a : LaneInIs) (ins : List LaneInIs) → slice_get ins k ≡ Some a → IsIn a.number (lane_numbers_in ins)
in_numbers_at k a [] g = absurd (cc)
in_numbers_at zero a (b ∷ more) g = let e : b ≡ a = cc in inl (ap (λ (x : LaneInIs). x.number) (sym e))
in_numbers_at (suc k) a (b ∷ more) g = inr (in_numbers_at k a more g)

pub shown_marks : (setup : SetupView) (mask r i k : ℕ) (a : LaneInIs) (ins : List LaneInIs) → AreDistinct (lane_numbers_in ins) → slice_get ins k ≡ Some a
    → shown setup a.number (marked_entries mask r i ins) ≡ cond (has mask (i + k)) (marker setup r) []
shown_marks setup mask r i k a [] d g = absurd (cc)
shown_marks setup mask r i zero a (b ∷ more) d g =
    let e : b ≡ a = cc in
    subst (λ (x : LaneInIs). shown setup x.number (marked_entries mask r i (b ∷ more)) ≡ cond (has mask (i + 0)) (marker setup r) []) e
    (subst (λ n. shown setup b.number (marked_entries mask r i (b ∷ more)) ≡ cond (has mask n) (marker setup r) []) (omega arith) (go (has mask i)))
  where
    go : (c : Bool) → shown setup b.number (cond c (Marked b.number r ∷ []) [] ++ marked_entries mask r (i + 1) more) ≡ cond c (marker setup r) []
    go true = rw (self_test b.number) (ap (λ xs. marker setup r ++ xs) (shown_none setup b.number mask r (i + 1) more d.0) ∙ append-nil (marker setup r))
    go false = shown_none setup b.number mask r (i + 1) more d.0
shown_marks setup mask r i (suc k) a (b ∷ more) d g =
    subst (λ n. shown setup a.number (marked_entries mask r i (b ∷ more)) ≡ cond (has mask n) (marker setup r) []) (omega arith) (go (has mask i) (shown_marks setup mask r (i + 1) k a more d.1 g))
  where
    other : (c : Bool) → (b.number == a.number) ≡ c → shown setup a.number (marked_entries mask r (i + 1) more) ≡ cond (has mask ((i + 1) + k)) (marker setup r) []
        → cond c (marker setup r) [] ++ shown setup a.number (marked_entries mask r (i + 1) more) ≡ cond (has mask ((i + 1) + k)) (marker setup r) []
    other true e h = absurd (d.0 (subst (λ n. IsIn n (lane_numbers_in more)) (sym (eqb-true b.number a.number e)) (in_numbers_at k a more g)))
    other false e h = h

    go : (c : Bool) → shown setup a.number (marked_entries mask r (i + 1) more) ≡ cond (has mask ((i + 1) + k)) (marker setup r) []
        → shown setup a.number (cond c (Marked b.number r ∷ []) [] ++ marked_entries mask r (i + 1) more) ≡ cond (has mask ((i + 1) + k)) (marker setup r) []
    go true h = other (b.number == a.number) refl h
    go false h = h

-- ---- the hands

-- the hands of the mask hold the marker
abbrev pub HoldMarker : ℕ → ℕ → ℕ → ℕ → List LaneInIs → Type 0
HoldMarker mask r cover i [] = Unit {0}
HoldMarker mask r cover i (a ∷ more) = (has mask i ≡ true → a.hand ≡ Holds (Mark r cover)) × HoldMarker mask r cover (i + 1) more

-- the journal's new entries show the markers
abbrev pub ShowMarker : SetupView → ℕ → ℕ → List Entry → ℕ → List LaneInIs → Type 0
ShowMarker setup mask r new i [] = Unit {0}
ShowMarker setup mask r new i (a ∷ more) = (shown setup a.number new ≡ cond (has mask i) (marker setup r) []) × ShowMarker setup mask r new (i + 1) more

pub show_marker : (setup : SetupView) (mask r i : ℕ) (new : List Entry) (ins : List LaneInIs)
    → ((k : ℕ) (a : LaneInIs) → slice_get ins k ≡ Some a → shown setup a.number new ≡ cond (has mask (i + k)) (marker setup r) []) → ShowMarker setup mask r new i ins
show_marker setup mask r i new [] f = tt
show_marker setup mask r i new (a ∷ more) f = (
  subst (λ n. shown setup a.number new ≡ cond (has mask n) (marker setup r) []) (omega arith) (f 0 a refl),
  show_marker setup mask r (i + 1) new more (λ k b g. subst (λ n. shown setup b.number new ≡ cond (has mask n) (marker setup r) []) (omega arith) (f (suc k) b g)),
)

pub takes_marked : (setup : SetupView) (mask r cover i : ℕ) (journal later new : List Entry) (ins : List LaneInIs) → marker setup r ≡ Mark r cover ∷ []
    → ((n : ℕ) → shown setup n later ≡ shown setup n journal ++ shown setup n new) → ShowMarker setup mask r new i ins → HoldMarker mask r cover i ins
    → EachOne (ShowsTaken setup journal) ins → EachOne (ShowsTaken setup later) (emptied mask i ins)
takes_marked setup mask r cover i journal later new [] m f s h t = tt
takes_marked setup mask r cover i journal later new (a ∷ more) m f s h t =
    (go (has mask i) refl s.0, takes_marked setup mask r cover (i + 1) journal later new more m f s.1 h.1 t.1)
  where
    go : (b : Bool) → has mask i ≡ b → shown setup a.number new ≡ cond b (marker setup r) [] → ShowsTaken setup later (cond b (record a { hand = Empty }) a)
    go true e q =
        let held : a.hand ≡ Holds (Mark r cover) = h.0 e in
        rw (f a.number, q, m) (t.0 ∙ (ap (λ x. shown setup a.number journal ++ in_hand x) held ∙ sym (append-nil (shown setup a.number journal ++ Mark r cover ∷ []))))
    go false e q = rw (f a.number, q) (t.0 ∙ ap (λ xs. xs ++ in_hand a.hand) (sym (append-nil (shown setup a.number journal))))
