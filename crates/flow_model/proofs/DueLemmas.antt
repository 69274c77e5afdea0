-- The requests that are still to be turned, request by request.
use Rattle.std.proofs.Common.{◌≡◌, ◌∙◌, ◌⊎◌, inl, inr, take, get_or, ◌+◌, ◌-◌, ◌<◌, ◌≤◌, ℕ, zero, suc, List, [], ◌∷◌, Bool, true, false, cond, length, refl, sym, ap, subst, arith, add-one, Some, None, Option, map, slice_get, ◌==◌}
use Rattle.std.specs.Prelude.{◌↔◌, IsTrue, filter}
use Rattle.std.specs.List.{enumerate_from}
use Rattle.std.proofs.lemmas.Option.{same_Some, slice_get-get_or, slice_get_within}
use Rattle.jobs.specs.JobView.{JobView}
use Rattle.std.specs.Int.{bit_at}
use Rattle.std.proofs.lemmas.Bool.{cases_eq, eq-eqb, eqb-true}
use Rattle.flow_dag.specs.Masks.{Has, has}
use Rattle.cover_planner.specs.declared.cover.Plan.{Plan}
use Rattle.marker_align.specs.declared.decision.Due.{Due}
use Rattle.tuple_trace.specs.declared.tuple.Item.TheVariants as item
use Rattle.flow_model.specs.Covers.{covers, heads, holds_edge, holds_node, plan_of}
use Rattle.flow_model.specs.SetupView.{SetupView}
use Rattle.flow_model.specs.Replay.{marker_by}
use Rattle.flow_model.specs.Duties.{dues_after}
use Rattle.flow_model.specs.declared.topology.Lane.{Lane}
use Rattle.flow_model.specs.Dues.{IsDueAfter, edges_in, is_on}
use Rattle.flow_model.specs.Lanes.{lanes, lanes_in}
use Rattle.flow_model.proofs.LaneLemmas.{in_enumerate}
use Rattle.flow_model.proofs.ElementLemmas.{in_filter, in_of_place}

pub dues_none : (setup : SetupView) (node k : ℕ) → length setup.plans ≤ k → dues_after setup k node ≡ []
dues_none setup node k l = let e : length setup.plans - k ≡ 0 = omega arith in rw e refl

pub dues_next : (setup : SetupView) (node k : ℕ) → k < length setup.plans → dues_after setup k node ≡ cond (covers setup (k + 1) node) ((k + 1) ∷ dues_after setup (k + 1) node) (dues_after setup (k + 1) node)
dues_next setup node k l = let e : length setup.plans - k ≡ suc (length setup.plans - (k + 1)) = omega arith in rw e refl

pub plan_at : (setup : SetupView) (k : ℕ) → plan_of setup (k + 1) ≡ slice_get setup.plans k
plan_at setup k = rw add-one refl

pub dues_skip : (setup : SetupView) (node last k : ℕ) (plan : Plan) → slice_get setup.plans k ≡ Some plan → has plan.nodes node ≡ false → k < length setup.plans → dues_after setup last node ≡ dues_after setup k node
    → dues_after setup last node ≡ dues_after setup (k + 1) node
dues_skip setup node last k plan g none l same =
    let no : covers setup (k + 1) node ≡ false = ap (λ (o : Option Plan). holds_node o node) (plan_at setup k ∙ g) ∙ none in
    same ∙ (dues_next setup node k l ∙ ap (λ b. cond b ((k + 1) ∷ dues_after setup (k + 1) node) (dues_after setup (k + 1) node)) no)

-- the due that was found
pub due_here : (setup : SetupView) (node last k : ℕ) (edges : List ℕ) (plan : Plan) (due : Due) → slice_get setup.plans k ≡ Some plan → k < length setup.plans → last ≤ k
    → dues_after setup last node ≡ dues_after setup k node → has plan.nodes node ≡ true → due.request ≡ k + 1 → due.head ≡ has plan.heads node → due.cover ≡ plan.nodes
    → ((place edge : ℕ) → slice_get edges place ≡ Some edge → has due.lanes place ≡ has plan.edges edge)
    → IsDueAfter setup node edges last (Some due)
due_here setup node last k edges plan due g l le same holds request head cover lanes =
    let at : plan_of setup due.request ≡ Some plan = ap (plan_of setup) request ∙ (plan_at setup k ∙ g) in
    let covered : covers setup (k + 1) node ≡ true = ap (λ (o : Option Plan). holds_node o node) (plan_at setup k ∙ g) ∙ holds in
    let first : dues_after setup last node ≡ (k + 1) ∷ dues_after setup (k + 1) node =
    same ∙ (dues_next setup node k l ∙ ap (λ b. cond b ((k + 1) ∷ dues_after setup (k + 1) node) (dues_after setup (k + 1) node)) covered) in
    record {
      dues = first ∙ ap (λ r. r ∷ dues_after setup r node) (sym request);
      is_due = record {
        head = head ∙ sym (ap (λ (o : Option Plan). heads o node) at);
        marker_is = ap (marker_by due.request) at ∙ ap (λ c. item.Mark due.request c ∷ []) (sym cover);
        lanes = λ place edge e. lanes place edge e ∙ sym (ap (λ (o : Option Plan). holds_edge o edge) at);
      };
      later = omega (arith, request);
    }

pub due_none : (setup : SetupView) (node last k : ℕ) (edges : List ℕ) → length setup.plans ≤ k → dues_after setup last node ≡ dues_after setup k node → IsDueAfter setup node edges last None
due_none setup node last k edges l same = record { dues = same ∙ dues_none setup node k l; is_due = tt; later = tt }

-- ---- masks

same_bit : (mask place edges edge : ℕ) (b : Bool) → has edges edge ≡ b → (Has mask place ↔ IsTrue (has edges edge)) → has mask place ≡ b
same_bit mask place edges edge true e h = eq-eqb (bit_at mask place) 1 (h.1 e)
same_bit mask place edges edge false e h = go (has mask place) refl
  where
    go : (c : Bool) → has mask place ≡ c → c ≡ false
    go true q = let t : has edges edge ≡ true = h.0 (eqb-true (bit_at mask place) 1 q) in cc
    go false q = refl

-- a mask of the places of edges tells of each whether it is one of these
pub places_lanes : (mask edges : ℕ) (all : List ℕ) → ((place : ℕ) → Has mask place ↔ IsTrue (is_on edges (slice_get all place))) → (place edge : ℕ) → slice_get all place ≡ Some edge → has mask place ≡ has edges edge
places_lanes mask edges all h place edge g =
    let q : Has mask place ↔ IsTrue (has edges edge) = subst (λ (o : Option ℕ). Has mask place ↔ IsTrue (is_on edges o)) g (h place) in
    same_bit mask place edges edge (has edges edge) refl q

-- ---- the beginning of a list, place by place

take_suc_other : {A : Type 0} (xs : List A) (i k : ℕ) → (k ≡ i → ⊥) → slice_get (take (suc i) xs) k ≡ slice_get (take i xs) k
take_suc_other [] zero k n = refl
take_suc_other [] (suc i) k n = refl
take_suc_other (x ∷ xs) zero zero n = absurd (n refl)
take_suc_other (x ∷ xs) zero (suc k) n = refl
take_suc_other (x ∷ xs) (suc i) zero n = refl
take_suc_other (x ∷ xs) (suc i) (suc k) n = take_suc_other xs i k (λ e. n (ap suc e))

take_suc_here : {A : Type 0} (xs : List A) (i : ℕ) (x : A) → slice_get xs i ≡ Some x → slice_get (take (suc i) xs) i ≡ Some x
take_suc_here [] i x e = absurd (cc)
take_suc_here (y ∷ xs) zero x e = e
take_suc_here (y ∷ xs) (suc i) x e = take_suc_here xs i x e

pub take_end : {A : Type 0} (xs : List A) (i : ℕ) → slice_get (take i xs) i ≡ None
take_end [] zero = refl
take_end [] (suc i) = refl
take_end (x ∷ xs) zero = refl
take_end (x ∷ xs) (suc i) = take_end xs i

-- ---- a mask of places, place by place

-- one more place, whose item passes the test
pub places_more : {A : Type 0} (test : Option A → Bool) (mask more i : ℕ) (x : A) (all : List A)
    → slice_get all i ≡ Some x → test (Some x) ≡ true → Has more i
    → ((k : ℕ) → (k ≡ i → ⊥) → Has more k ↔ Has mask k)
    → ((k : ℕ) → Has mask k ↔ IsTrue (test (slice_get (take i all) k)))
    → (k : ℕ) → Has more k ↔ IsTrue (test (slice_get (take (i + 1) all) k))
places_more test mask more i x all at on set others before k = rw add-one (go (cases_eq k i))
  where
    go : (k ≡ i) ⊎ (k ≡ i → ⊥) → Has more k ↔ IsTrue (test (slice_get (take (suc i) all) k))
    go (inl e) =
        subst (λ m. Has more m ↔ IsTrue (test (slice_get (take (suc i) all) m))) (sym e)
        ((λ h. ap test (take_suc_here all i x at) ∙ on), (λ h. set))
    go (inr n) =
        let a = others k n in
        let b : Has mask k ↔ IsTrue (test (slice_get (take i all) k)) = before k in
        rw (take_suc_other all i k n) ((λ h. b.0 (a.0 h)), (λ h. a.1 (b.1 h)))

-- one more place, whose item doesn't pass
pub places_same : {A : Type 0} (test : Option A → Bool) (mask i : ℕ) (x : A) (all : List A)
    → slice_get all i ≡ Some x → test None ≡ false → test (Some x) ≡ false
    → ((k : ℕ) → Has mask k ↔ IsTrue (test (slice_get (take i all) k)))
    → (k : ℕ) → Has mask k ↔ IsTrue (test (slice_get (take (i + 1) all) k))
places_same test mask i x all at none off before k = rw add-one (go (cases_eq k i))
  where
    go : (k ≡ i) ⊎ (k ≡ i → ⊥) → Has mask k ↔ IsTrue (test (slice_get (take (suc i) all) k))
    go (inl e) =
        let b : Has mask i ↔ IsTrue (test (slice_get (take i all) i)) = before i in
        let unset : Has mask i → ⊥ = λ h.
        let t : test (slice_get (take i all) i) ≡ true = b.0 h in
        let n : test (slice_get (take i all) i) ≡ false = ap test (take_end all i) ∙ none in cc in
        let out : IsTrue (test (slice_get (take (suc i) all) i)) → ⊥ = λ h.
        let t : test (slice_get (take (suc i) all) i) ≡ true = h in
        let n : test (slice_get (take (suc i) all) i) ≡ false =
        ap test (take_suc_here all i x at) ∙ off in cc in
        subst (λ m. Has mask m ↔ IsTrue (test (slice_get (take (suc i) all) m))) (sym e)
        ((λ h. absurd (unset h)), (λ h. absurd (out h)))
    go (inr n) =
        let b : Has mask k ↔ IsTrue (test (slice_get (take i all) k)) = before k in
        rw (take_suc_other all i k n) b

-- ---- the edges of the lanes in

-- a place of the lanes in is that of a lane
pub lane_at_place : (job : JobView) (worker i number : ℕ) → slice_get (lanes_in job worker) i ≡ Some number
    → (lane : Lane) × (slice_get (lanes job) number ≡ Some lane) × (slice_get (edges_in job worker) i ≡ Some lane.edge)
lane_at_place job worker i number e =
    let (p, at, is) = get_map (λ (p : ℕ × Lane). p.0) all i number e in
    let (k, from, there) = in_enumerate 0 (lanes job) p (in_filter (λ (p : ℕ × Lane). p.1.receiver == worker) p (enumerate_from 0 (lanes job)) (in_of_place p all i at)).0 in
    (p.1, subst (λ (n : ℕ). slice_get (lanes job) n ≡ Some p.1) (omega (arith, from, is)) there, map_get (λ (p : ℕ × Lane). p.1.edge) all i p at)
  where
    all : List (ℕ × Lane)
    all = filter (λ (p : ℕ × Lane). p.1.receiver == worker) (enumerate_from 0 (lanes job))

    get_map : {A B : Type 0} (f : A → B) (xs : List A) (k : ℕ) (y : B) → slice_get (map f xs) k ≡ Some y → (x : A) × (slice_get xs k ≡ Some x) × (y ≡ f x)
    get_map f [] k y g = absurd (cc)
    get_map f (x ∷ xs) zero y g = (x, refl, (let e : f x ≡ y = cc in sym e))
    get_map f (x ∷ xs) (suc k) y g = get_map f xs k y g

    map_get : {A B : Type 0} (f : A → B) (xs : List A) (k : ℕ) (x : A) → slice_get xs k ≡ Some x → slice_get (map f xs) k ≡ Some (f x)
    map_get f [] k x g = absurd (cc)
    map_get f (y ∷ xs) zero x g = ap (λ o. Some (f o)) (same_Some y x g)
    map_get f (y ∷ xs) (suc k) x g = map_get f xs k x g

-- a number among the lanes in is that of a lane
pub number_within : (job : JobView) (worker i : ℕ) (numbers : List ℕ) → numbers ≡ lanes_in job worker → i < length numbers → get_or numbers i 0 < length (lanes job)
number_within job worker i numbers is lt =
    let at : slice_get (lanes_in job worker) i ≡ Some (get_or numbers i 0) = ap (λ (l : List ℕ). slice_get l i) (sym is) ∙ slice_get-get_or numbers i 0 lt in
    let (lane, there, edge) = lane_at_place job worker i (get_or numbers i 0) at in
    slice_get_within (lanes job) (get_or numbers i 0) lane there

-- the edge of a lane in that the code reads
pub edge_at_place : (job : JobView) (worker i : ℕ) (numbers : List ℕ) (lane : Lane) → numbers ≡ lanes_in job worker → i < length numbers → slice_get (lanes job) (get_or numbers i 0) ≡ Some lane
    → slice_get (edges_in job worker) i ≡ Some lane.edge
edge_at_place job worker i numbers lane is lt there =
    let at : slice_get (lanes_in job worker) i ≡ Some (get_or numbers i 0) = ap (λ (l : List ℕ). slice_get l i) (sym is) ∙ slice_get-get_or numbers i 0 lt in
    let (found, known, edge) = lane_at_place job worker i (get_or numbers i 0) at in
    edge ∙ ap (λ (l : Lane). Some l.edge) (same_Some found lane (sym known ∙ there))

-- a bit that the code tests
pub bit_told : (b : Bool) (mask n m : ℕ) → (IsTrue b ↔ Has mask n) → n ≡ m → b ≡ has mask m
bit_told b mask n m told same = go b (has mask n) refl told ∙ ap (has mask) same
  where
    go : (b c : Bool) → has mask n ≡ c → (IsTrue b ↔ Has mask n) → b ≡ has mask n
    go true true e h = sym e
    go true false e h = sym (eq-eqb (bit_at mask n) 1 (h.0 refl))
    go false true e h = let t : false ≡ true = h.1 (eqb-true (bit_at mask n) 1 e) in cc
    go false false e h = sym e
