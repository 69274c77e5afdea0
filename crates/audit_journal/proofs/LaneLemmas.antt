-- The lanes into a worker, by their numbers.
use Rattle.std.proofs.Common.{◌≡◌, ◌∙◌, ◌==◌, ◌&&◌, ℕ, List, [], ◌∷◌, ◌++◌, inl, inr, sym, subst, true, Some, slice_get, ◌+◌, ◌<◌, ◌≤◌, length, take}
use Rattle.std.specs.Prelude.{All, Contains, slice_index_or}
use Rattle.std.proofs.lemmas.List.{take_all, take_more}
use Rattle.std.proofs.lemmas.Bool.{and_parts, eq-eqb, eqb-true}
use Rattle.std.proofs.lemmas.Option.{same_Some}
use Rattle.jobs.specs.JobView.{JobView}
use Rattle.flow_model.specs.Covers.{covers_edge}
use Rattle.flow_model.specs.Lanes.{lanes, lanes_in, marked_lanes}
use Rattle.flow_model.specs.SetupView.{SetupView}
use Rattle.flow_model.specs.declared.topology.Lane.{Lane}
use Rattle.flow_model.proofs.ElementLemmas.{IsIn, all_of_at, at_of_all, contains_of_in, in_cases, in_of_contains}
use Rattle.flow_model.proofs.LaneLemmas.{in_lanes_that, lanes_that_in}

pub lane_in : (job : JobView) (w n : ℕ) (lane : Lane) → slice_get (lanes job) n ≡ Some lane → lane.receiver ≡ w → Contains (lanes_in job w) n
lane_in job w n lane g r = contains_of_in n (lanes_in job w) (lanes_that_in (λ (lane : Lane). lane.receiver == w) job n lane g (eq-eqb lane.receiver w r))

pub in_lane : (job : JobView) (w n : ℕ) → Contains (lanes_in job w) n → (lane : Lane) × (slice_get (lanes job) n ≡ Some lane) × (lane.receiver ≡ w)
in_lane job w n c = let l = in_lanes_that (λ (lane : Lane). lane.receiver == w) job n (in_of_contains n (lanes_in job w) c) in (l.0, l.1, eqb-true l.0.receiver w l.2)

pub marked_lane : (setup : SetupView) (w r n : ℕ) (lane : Lane) → slice_get (lanes setup.job) n ≡ Some lane → lane.receiver ≡ w → covers_edge setup r lane.edge ≡ true → Contains (marked_lanes setup w r) n
marked_lane setup w r n lane g e covers =
    contains_of_in n (marked_lanes setup w r)
    (lanes_that_in (λ (lane : Lane). (lane.receiver == w) && covers_edge setup r lane.edge) setup.job n lane g (rw (eq-eqb lane.receiver w e) covers))

pub in_marked : (setup : SetupView) (w r n : ℕ) → Contains (marked_lanes setup w r) n → (lane : Lane) × (slice_get (lanes setup.job) n ≡ Some lane) × (lane.receiver ≡ w) × (covers_edge setup r lane.edge ≡ true)
in_marked setup w r n c =
    let l = in_lanes_that (λ (lane : Lane). (lane.receiver == w) && covers_edge setup r lane.edge) setup.job n (in_of_contains n (marked_lanes setup w r) c) in
    let both = and_parts (l.0.receiver == w) (covers_edge setup r l.0.edge) l.2 in
    (l.0, l.1, eqb-true l.0.receiver w both.0, both.1)

pub marked_in : (setup : SetupView) (w r n : ℕ) → Contains (marked_lanes setup w r) n → Contains (lanes_in setup.job w) n
marked_in setup w r n c = let l = in_marked setup w r n c in lane_in setup.job w n l.0 l.1 l.2

-- those of the first lanes that bring the marker are marked
abbrev pub AreMarked : SetupView → ℕ → ℕ → List ℕ → List ℕ → Type 0
AreMarked setup w r marks lanes = (n : ℕ) → IsIn n lanes → Contains (marked_lanes setup w r) n → Contains marks n

pub none_marked : (setup : SetupView) (w r : ℕ) (marks : List ℕ) → AreMarked setup w r marks []
none_marked setup w r marks n i = absurd i

pub one_more_marked : (setup : SetupView) (w r : ℕ) (marks lanes : List ℕ) (n : ℕ) → AreMarked setup w r marks lanes → (Contains (marked_lanes setup w r) n → Contains marks n) → AreMarked setup w r marks (lanes ++ n ∷ [])
one_more_marked setup w r marks lanes n all here m i c = elim (in_cases m lanes (n ∷ []) i) [
  | inl a ↦ all m a c
  | inr (inl e) ↦ subst (Contains marks) (sym e) (here (subst (Contains (marked_lanes setup w r)) e c))
  | inr (inr none) ↦ absurd none
]

pub all_marked : (setup : SetupView) (w r : ℕ) (marks : List ℕ) → AreMarked setup w r marks (lanes_in setup.job w) → All (Contains marks) (marked_lanes setup w r)
all_marked setup w r marks all =
    all_of_at (Contains marks) (marked_lanes setup w r) (λ n i.
    let c = contains_of_in n (marked_lanes setup w r) i in
    all n (in_of_contains n (lanes_in setup.job w) (marked_in setup w r n c)) c)

pub at_lane : (marks lanes : List ℕ) (n : ℕ) → All (Contains marks) lanes → Contains lanes n → Contains marks n
at_lane marks lanes n all c = at_of_all (Contains marks) n lanes all (in_of_contains n lanes c)

pub all_more : (marks xs : List ℕ) (i d : ℕ) → All (Contains marks) (take i xs) → i < length xs → Contains marks (slice_index_or xs i d) → All (Contains marks) (take (i + 1) xs)
all_more marks xs i d all lt c =
    all_of_at (Contains marks) (take (i + 1) xs) (λ n j.
    elim (in_cases n (take i xs) (slice_index_or xs i d ∷ []) (subst (λ (l : List ℕ). IsIn n l) (take_more xs i d lt) j)) [
      | inl a ↦ at_of_all (Contains marks) n (take i xs) all a
      | inr (inl e) ↦ subst (Contains marks) (sym e) c
      | inr (inr none) ↦ absurd none
    ])

pub all_there : (marks xs : List ℕ) (i : ℕ) → All (Contains marks) (take i xs) → length xs ≤ i → All (Contains marks) xs
all_there marks xs i all le = subst (λ (l : List ℕ). All (Contains marks) l) (take_all i xs le) all

pub marked_more : (setup : SetupView) (w r : ℕ) (marks xs : List ℕ) (i d : ℕ) → AreMarked setup w r marks (take i xs) → i < length xs
    → (Contains (marked_lanes setup w r) (slice_index_or xs i d) → Contains marks (slice_index_or xs i d)) → AreMarked setup w r marks (take (i + 1) xs)
marked_more setup w r marks xs i d all lt here =
    subst (λ (l : List ℕ). AreMarked setup w r marks l) (sym (take_more xs i d lt)) (one_more_marked setup w r marks (take i xs) (slice_index_or xs i d) all here)

pub marked_there : (setup : SetupView) (w r : ℕ) (marks xs : List ℕ) (i : ℕ) → AreMarked setup w r marks (take i xs) → length xs ≤ i → xs ≡ lanes_in setup.job w
    → All (Contains marks) (marked_lanes setup w r)
marked_there setup w r marks xs i all le e =
    all_marked setup w r marks (subst (λ (l : List ℕ). AreMarked setup w r marks l) (take_all i xs le ∙ e) all)

pub same_covers : (setup : SetupView) (w r n : ℕ) (lane : Lane) → slice_get (lanes setup.job) n ≡ Some lane → Contains (marked_lanes setup w r) n → covers_edge setup r lane.edge ≡ true
same_covers setup w r n lane g m =
    let l = in_marked setup w r n m in
    let same : l.0 ≡ lane = same_Some l.0 lane (sym l.1 ∙ g) in
    subst (λ (x : Lane). covers_edge setup r x.edge ≡ true) same l.3
