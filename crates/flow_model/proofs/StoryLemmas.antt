-- What is in force at each entry of a journal, and the latest request that was turned before it.
use Rattle.std.proofs.Common.{◌≡◌, ◌∙◌, ◌<◌, ◌≤◌, ◌++◌, ℕ, zero, suc, List, [], ◌∷◌, inl, inr, refl, sym, subst, ap, arith, flat_map, Some, slice_get}
use Rattle.sink_journal.specs.declared.journal.Entry.{Entry}
use Rattle.sink_journal.specs.declared.journal.Entry.TheVariants as entry
use Rattle.tuple_trace.specs.declared.tuple.Item.{Item}
use Rattle.flow_model.specs.Law.{IsEnabled, IsExecution, Progress, Duties, after_entry, later_dues, next_due}
use Rattle.flow_model.specs.declared.topology.Lane.{Lane}
use Rattle.flow_model.specs.SetupView.{SetupView, Worker}
use Rattle.flow_model.specs.Replay.{StateView, after, items_on, puts, items_sent}
use Rattle.flow_model.proofs.ElementLemmas.{Before, IsIn}

-- An entry of a journal, with what was in force before it.
pub record Moment : Type 0 where
  pub view : StateView
  pub entry : Entry

-- the journal of a worker, each entry with what was in force before it
abbrev pub story : SetupView → Worker → StateView → List Entry → List Moment
story setup who view [] = []
story setup who view (x ∷ more) = record { view = view; entry = x } ∷ story setup who (after setup who view x) more

-- what is put on a lane at a moment
abbrev pub put_then : SetupView → Worker → Lane → Moment → List Item
put_then setup who lane m = items_on lane (puts setup who m.view m.entry)

-- what a journal sends on a lane is what its moments put there
pub sent-story : (setup : SetupView) (who : Worker) (view : StateView) (lane : Lane) (journal : List Entry)
    → items_sent setup who view lane journal ≡ flat_map (put_then setup who lane) (story setup who view journal)
sent-story setup who view lane [] = refl
sent-story setup who view lane (x ∷ more) =
    ap (λ (later : List Item). items_on lane (puts setup who view x) ++ later) (sent-story setup who (after setup who view x) lane more)

-- ---- entries of a story

pub entry_in : (setup : SetupView) (who : Worker) (view : StateView) (journal : List Entry) (m : Moment) → IsIn m (story setup who view journal) → IsIn m.entry journal
entry_in setup who view [] m h = absurd h
entry_in setup who view (e ∷ journal) m (inl p) = inl (ap (λ (m : Moment). m.entry) p)
entry_in setup who view (e ∷ journal) m (inr h) = inr (entry_in setup who (after setup who view e) journal m h)

pub entry_before : (setup : SetupView) (who : Worker) (view : StateView) (journal : List Entry) (m n : Moment) → Before m n (story setup who view journal) → Before m.entry n.entry journal
entry_before setup who view [] m n h = absurd h
entry_before setup who view (e ∷ journal) m n (inl h) = inl (ap (λ (m : Moment). m.entry) h.0, entry_in setup who (after setup who view e) journal n h.1)
entry_before setup who view (e ∷ journal) m n (inr h) = inr (entry_before setup who (after setup who view e) journal m n h)

pub story_get : (setup : SetupView) (who : Worker) (view : StateView) (journal : List Entry) (i : ℕ) (m : Moment) → slice_get (story setup who view journal) i ≡ Some m → slice_get journal i ≡ Some m.entry
story_get setup who view [] i m h = absurd (cc)
story_get setup who view (e ∷ journal) zero m h =
    let q : ◌≡◌ {A = Moment} (record { view = view; entry = e }) m = cc in
    ap (λ (m : Moment). Some m.entry) q
story_get setup who view (e ∷ journal) (suc i) m h = story_get setup who (after setup who view e) journal i m h

pub story_at : (setup : SetupView) (who : Worker) (view : StateView) (journal : List Entry) (i : ℕ) (e : Entry) → slice_get journal i ≡ Some e
    → (m : Moment) × (slice_get (story setup who view journal) i ≡ Some m) × (m.entry ≡ e)
story_at setup who view [] i e h = absurd (cc)
story_at setup who view (x ∷ journal) zero e h = (record { view = view; entry = x }, refl, cc)
story_at setup who view (x ∷ journal) (suc i) e h = story_at setup who (after setup who view x) journal i e h

-- ---- the latest turned

-- each is above the one before it, and the first above k
abbrev pub IsRising : ℕ → List ℕ → Type 0
IsRising k [] = Unit {0}
IsRising k (due ∷ more) = (k < due) × IsRising due more

pub rising_in : (k r : ℕ) (dues : List ℕ) → IsRising k dues → IsIn r dues → k < r
rising_in k r [] i h = absurd h
rising_in k r (d ∷ dues) i (inl e) = let lt = i.0 in omega arith
rising_in k r (d ∷ dues) i (inr h) = let a = i.0 in let b : d < r = rising_in d r dues i.1 h in omega arith

-- the first due is the least
pub rising_from : (k d r : ℕ) (dues : List ℕ) → IsRising k (d ∷ dues) → IsIn r (d ∷ dues) → d ≤ r
rising_from k d r dues i (inl e) = omega arith
rising_from k d r dues i (inr h) = let lt : d < r = rising_in d r dues i.1 h in omega arith

-- the dues that are left stay above the latest request turned, which never falls
pub rising_next : (setup : SetupView) (duties : Duties) (who : Worker) (progress : Progress) (view : StateView) (x : Entry) → IsEnabled duties progress x → IsRising view.last progress.dues
    → (view.last ≤ (after setup who view x).last) × IsRising (after setup who view x).last (after_entry progress x).dues
rising_next setup duties who progress view (entry.Met l t) a r = (omega arith, r)
rising_next setup duties who progress view (entry.Marked l q) a r = (omega arith, r)
rising_next setup duties who progress view (entry.Turned q) a r = go progress.dues a.0 r
  where
    go : (dues : List ℕ) → next_due dues ≡ Some q → IsRising view.last dues → (view.last ≤ q) × IsRising q (later_dues dues)
    go [] n i = absurd (cc)
    go (d ∷ dues) n i = let e : d ≡ q = cc in (omega (arith, i.0, e), subst (λ k. IsRising k dues) e i.1)
rising_next setup duties who progress view (entry.Ended l) a r = (omega arith, r)

pub last_rises : (setup : SetupView) (duties : Duties) (who : Worker) (progress : Progress) (view : StateView) (journal : List Entry) (m : Moment)
    → IsExecution duties progress journal → IsRising view.last progress.dues → IsIn m (story setup who view journal) → view.last ≤ m.view.last
last_rises setup duties who progress view [] m f r h = absurd h
last_rises setup duties who progress view (e ∷ journal) m f r (inl p) = let q : m.view.last ≡ view.last = ap (λ (m : Moment). m.view.last) p in omega arith
last_rises setup duties who progress view (e ∷ journal) m f r (inr h) =
    let n = rising_next setup duties who progress view e f.0 r in
    let k : (after setup who view e).last ≤ m.view.last = last_rises setup duties who (after_entry progress e) (after setup who view e) journal m f.1 n.1 h in
    omega (arith, n.0, k)

first_turned : (duties : Duties) (progress : Progress) (e : Entry) (r : ℕ) → entry.Turned r ≡ e → IsEnabled duties progress e → next_due progress.dues ≡ Some r
first_turned duties progress (entry.Met l t) r p a = absurd (cc)
first_turned duties progress (entry.Marked l q) r p a = absurd (cc)
first_turned duties progress (entry.Turned q) r p a = let k : r ≡ q = cc in rw k a.0
first_turned duties progress (entry.Ended l) r p a = absurd (cc)

pub turned_above : (setup : SetupView) (duties : Duties) (who : Worker) (progress : Progress) (view : StateView) (journal : List Entry) (r : ℕ)
    → IsExecution duties progress journal → IsRising view.last progress.dues → IsIn (entry.Turned r) journal → view.last < r
turned_above setup duties who progress view [] r f i h = absurd h
turned_above setup duties who progress view (e ∷ journal) r f i (inl p) = go progress.dues (first_turned duties progress e r p f.0) i
  where
    go : (dues : List ℕ) → next_due dues ≡ Some r → IsRising view.last dues → view.last < r
    go [] n i = absurd (cc)
    go (d ∷ dues) n i = let e : d ≡ r = cc in omega (arith, i.0, e)
turned_above setup duties who progress view (e ∷ journal) r f i (inr h) =
    let n = rising_next setup duties who progress view e f.0 i in
    let k : (after setup who view e).last < r = turned_above setup duties who (after_entry progress e) (after setup who view e) journal r f.1 n.1 h in
    omega (arith, n.0, k)

-- what stands before a turn has an earlier latest request
pub before_turned : (setup : SetupView) (duties : Duties) (who : Worker) (progress : Progress) (view : StateView) (journal : List Entry) (m n : Moment) (r : ℕ)
    → IsExecution duties progress journal → IsRising view.last progress.dues → Before m n (story setup who view journal) → n.entry ≡ entry.Turned r → m.view.last < r
before_turned setup duties who progress view [] m n r f i b e = absurd b
before_turned setup duties who progress view (x ∷ journal) m n r f i (inl h) e =
    let p : m.view.last ≡ view.last = ap (λ (m : Moment). m.view.last) h.0 in
    let q : IsIn (entry.Turned r) journal = subst (λ y. IsIn y journal) e (entry_in setup who (after setup who view x) journal n h.1) in
    let k : view.last < r = turned_above setup duties who progress view (x ∷ journal) r f i (inr q) in
    omega arith
before_turned setup duties who progress view (x ∷ journal) m n r f i (inr b) e =
    before_turned setup duties who (after_entry progress x) (after setup who view x) journal m n r f.1 (rising_next setup duties who progress view x f.0 i).1 b e

-- what stands after a turn has that request or a later one
pub after_turned : (setup : SetupView) (duties : Duties) (who : Worker) (progress : Progress) (view : StateView) (journal : List Entry) (m n : Moment) (r : ℕ)
    → IsExecution duties progress journal → IsRising view.last progress.dues → Before m n (story setup who view journal) → m.entry ≡ entry.Turned r → r ≤ n.view.last
after_turned setup duties who progress view [] m n r f i b e = absurd b
after_turned setup duties who progress view (x ∷ journal) m n r f i (inl h) e =
    let p : x ≡ entry.Turned r = sym (ap (λ (m : Moment). m.entry) h.0) ∙ e in
    let q : (after setup who view x).last ≡ r = ap (λ (x : Entry). (after setup who view x).last) p in
    let k : (after setup who view x).last ≤ n.view.last =
    last_rises setup duties who (after_entry progress x) (after setup who view x) journal n f.1 (rising_next setup duties who progress view x f.0 i).1 h.1 in
    omega arith
after_turned setup duties who progress view (x ∷ journal) m n r f i (inr b) e =
    after_turned setup duties who (after_entry progress x) (after setup who view x) journal m n r f.1 (rising_next setup duties who progress view x f.0 i).1 b e
