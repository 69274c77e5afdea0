-- What the law of a journal says of the markers of a request and of its turn.
use Rattle.std.proofs.Common.{◌≡◌, ℕ, List, [], ◌∷◌, ◌⊎◌, inl, inr, sym, subst, Some, Option, All, Contains}
use Rattle.sink_journal.specs.declared.journal.Entry.{Entry}
use Rattle.sink_journal.specs.declared.journal.Entry.TheVariants as entry
use Rattle.tuple_trace.specs.declared.tuple.Tuple.{Tuple}
use Rattle.flow_model.specs.Law.{IsEnabled, IsExecution, Progress, Duties, after_entry, later_dues, next_due}
use Rattle.flow_model.proofs.ElementLemmas.{Before, IsIn, at_of_all, before_second, in_of_contains}

-- ---- what a lawful entry names

-- a tuple is met on a lane of the worker
pub met_on_lane : (duties : Duties) (progress : Progress) (journal : List Entry) (l : ℕ) (t : Tuple) → IsExecution duties progress journal → IsIn (entry.Met l t) journal → IsIn l duties.lanes
met_on_lane duties progress [] l t f h = absurd h
met_on_lane duties progress (e ∷ journal) l t f (inl p) = go e p f.0
  where
    go : (e : Entry) → entry.Met l t ≡ e → IsEnabled duties progress e → IsIn l duties.lanes
    go (entry.Met k u) p a = let q : l ≡ k = cc in rw q (in_of_contains k duties.lanes a.0)
    go (entry.Marked k r) p a = absurd (cc)
    go (entry.Turned r) p a = absurd (cc)
    go (entry.Ended k) p a = absurd (cc)
met_on_lane duties progress (e ∷ journal) l t f (inr h) = met_on_lane duties (after_entry progress e) journal l t f.1 h

pub due_in : (r : ℕ) (dues : List ℕ) → next_due dues ≡ Some r → IsIn r dues
due_in r [] n = absurd (cc)
due_in r (d ∷ dues) n = inl (cc)

pub later_in : (r : ℕ) (dues : List ℕ) → IsIn r (later_dues dues) → IsIn r dues
later_in r [] h = absurd h
later_in r (d ∷ dues) h = inr h

-- what is turned was due
pub turned_is_due : (duties : Duties) (progress : Progress) (journal : List Entry) (r : ℕ) → IsExecution duties progress journal → IsIn (entry.Turned r) journal → IsIn r progress.dues
turned_is_due duties progress [] r f h = absurd h
turned_is_due duties progress (e ∷ journal) r f (inl p) = go e p f.0
  where
    go : (e : Entry) → entry.Turned r ≡ e → IsEnabled duties progress e → IsIn r progress.dues
    go (entry.Met k u) p a = absurd (cc)
    go (entry.Marked k q) p a = absurd (cc)
    go (entry.Turned q) p a = let k : r ≡ q = cc in due_in r progress.dues (rw k a.0)
    go (entry.Ended k) p a = absurd (cc)
turned_is_due duties progress (e ∷ journal) r f (inr h) = back e (turned_is_due duties (after_entry progress e) journal r f.1 h)
  where
    back : (e : Entry) → IsIn r (after_entry progress e).dues → IsIn r progress.dues
    back (entry.Met k u) i = i
    back (entry.Marked k q) i = i
    back (entry.Turned q) i = later_in r progress.dues i
    back (entry.Ended k) i = i

-- ---- markers and turns

same_marker : (k q n r : ℕ) (due : Option ℕ) → n ≡ k → due ≡ Some q → due ≡ Some r → entry.Marked n r ≡ entry.Marked k q
same_marker k q n r due e a b = cc

-- a turn stands behind the markers on its lanes, but for those that stood there already
pub marked_of_turned : (duties : Duties) (progress : Progress) (journal : List Entry) (r n : ℕ) → IsExecution duties progress journal → IsIn n (duties.marked_lanes r)
    → IsIn (entry.Turned r) journal → IsIn (entry.Marked n r) journal ⊎ (IsIn n progress.marked × (next_due progress.dues ≡ Some r))
marked_of_turned duties progress [] r n f i t = absurd t
marked_of_turned duties progress (entry.Met l u ∷ journal) r n f i (inl e) = absurd (cc)
marked_of_turned duties progress (entry.Met l u ∷ journal) r n f i (inr t) =
    elim (marked_of_turned duties progress journal r n f.1 i t) [ inl a ↦ inl (inr a) | inr b ↦ inr b ]
marked_of_turned duties progress (entry.Marked l q ∷ journal) r n f i (inl e) = absurd (cc)
marked_of_turned duties progress (entry.Marked l q ∷ journal) r n f i (inr t) =
    elim (marked_of_turned duties (after_entry progress (entry.Marked l q)) journal r n f.1 i t) [
      | inl a ↦ inl (inr a)
      | inr b ↦ elim b.0 [ inl e ↦ inl (inl (same_marker l q n r (next_due progress.dues) e f.0.0 b.1)) | inr k ↦ inr (k, b.1) ]
    ]
marked_of_turned duties progress (entry.Turned q ∷ journal) r n f i (inl e) =
    let k : r ≡ q = cc in
    let all : All (Contains progress.marked) (duties.marked_lanes r) = subst (λ x. All (Contains progress.marked) (duties.marked_lanes x)) (sym k) f.0.1 in
    inr (in_of_contains n progress.marked (at_of_all (Contains progress.marked) n (duties.marked_lanes r) all i), rw k f.0.0)
marked_of_turned duties progress (entry.Turned q ∷ journal) r n f i (inr t) =
    elim (marked_of_turned duties (after_entry progress (entry.Turned q)) journal r n f.1 i t) [ inl a ↦ inl (inr a) | inr b ↦ absurd b.0 ]
marked_of_turned duties progress (entry.Ended l ∷ journal) r n f i (inl e) = absurd (cc)
marked_of_turned duties progress (entry.Ended l ∷ journal) r n f i (inr t) =
    elim (marked_of_turned duties (after_entry progress (entry.Ended l)) journal r n f.1 i t) [ inl a ↦ inl (inr a) | inr b ↦ inr b ]

-- what is met before a turn stands before each of its markers
pub met_before_marked : (duties : Duties) (progress : Progress) (journal : List Entry) (l : ℕ) (t : Tuple) (r n : ℕ) → IsExecution duties progress journal
    → IsIn n (duties.marked_lanes r) → Before (entry.Met l t) (entry.Turned r) journal → Before (entry.Met l t) (entry.Marked n r) journal
met_before_marked duties progress [] l t r n f i b = absurd b
met_before_marked duties progress (e ∷ journal) l t r n f i (inl h) =
    let open_here : progress.marked ≡ [] = none_marked e h.0 f.0 in
    elim (marked_of_turned duties (after_entry progress e) journal r n f.1 i h.1) [
      | inl a ↦ inl (h.0, a)
      | inr b ↦ absurd (not_marked e h.0 open_here b.0)
    ]
  where
    none_marked : (e : Entry) → entry.Met l t ≡ e → IsEnabled duties progress e → progress.marked ≡ []
    none_marked (entry.Met k u) p a = a.1
    none_marked (entry.Marked k q) p a = absurd (cc)
    none_marked (entry.Turned q) p a = absurd (cc)
    none_marked (entry.Ended k) p a = absurd (cc)

    not_marked : (e : Entry) → entry.Met l t ≡ e → progress.marked ≡ [] → ¬ IsIn n (after_entry progress e).marked
    not_marked (entry.Met k u) p q i = rw q at i
    not_marked (entry.Marked k r) p q i = absurd (cc)
    not_marked (entry.Turned r) p q i = absurd (cc)
    not_marked (entry.Ended k) p q i = absurd (cc)
met_before_marked duties progress (e ∷ journal) l t r n f i (inr b) = inr (met_before_marked duties (after_entry progress e) journal l t r n f.1 i b)

-- what is met after a turn stands after each of its markers
pub marked_before_met : (duties : Duties) (progress : Progress) (journal : List Entry) (l : ℕ) (t : Tuple) (r n : ℕ) → IsExecution duties progress journal
    → IsIn n (duties.marked_lanes r) → Before (entry.Turned r) (entry.Met l t) journal
    → Before (entry.Marked n r) (entry.Met l t) journal ⊎ (IsIn n progress.marked × (next_due progress.dues ≡ Some r))
marked_before_met duties progress [] l t r n f i b = absurd b
marked_before_met duties progress (entry.Met k u ∷ journal) l t r n f i (inl h) = let e = h.0 in absurd (cc)
marked_before_met duties progress (entry.Met k u ∷ journal) l t r n f i (inr b) =
    elim (marked_before_met duties progress journal l t r n f.1 i b) [ inl a ↦ inl (inr a) | inr c ↦ inr c ]
marked_before_met duties progress (entry.Marked k q ∷ journal) l t r n f i (inl h) = let e = h.0 in absurd (cc)
marked_before_met duties progress (entry.Marked k q ∷ journal) l t r n f i (inr b) =
    elim (marked_before_met duties (after_entry progress (entry.Marked k q)) journal l t r n f.1 i b) [
      | inl a ↦ inl (inr a)
      | inr c ↦ elim c.0 [
        | inl e ↦ inl (inl (same_marker k q n r (next_due progress.dues) e f.0.0 c.1, before_second (entry.Turned r) (entry.Met l t) journal b))
        | inr j ↦ inr (j, c.1)
      ]
    ]
marked_before_met duties progress (entry.Turned q ∷ journal) l t r n f i (inl h) =
    let e = h.0 in
    let k : r ≡ q = cc in
    let all : All (Contains progress.marked) (duties.marked_lanes r) = subst (λ x. All (Contains progress.marked) (duties.marked_lanes x)) (sym k) f.0.1 in
    inr (in_of_contains n progress.marked (at_of_all (Contains progress.marked) n (duties.marked_lanes r) all i), rw k f.0.0)
marked_before_met duties progress (entry.Turned q ∷ journal) l t r n f i (inr b) =
    elim (marked_before_met duties (after_entry progress (entry.Turned q)) journal l t r n f.1 i b) [ inl a ↦ inl (inr a) | inr c ↦ absurd c.0 ]
marked_before_met duties progress (entry.Ended k ∷ journal) l t r n f i (inl h) = let e = h.0 in absurd (cc)
marked_before_met duties progress (entry.Ended k ∷ journal) l t r n f i (inr b) =
    elim (marked_before_met duties (after_entry progress (entry.Ended k)) journal l t r n f.1 i b) [ inl a ↦ inl (inr a) | inr c ↦ inr c ]
