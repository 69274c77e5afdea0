-- The workers in the order of their nodes.
use Rattle.std.proofs.Common.{◌≡◌, ◌≢◌, ◌∙◌, ◌<◌, ◌≤◌, ◌+◌, ◌==◌, ◌++◌, ℕ, zero, suc, List, [], ◌∷◌, inl, inr, refl, sym, ap, arith, true, false, Bool, cond, filter, get_or, length, take, append_assoc, Some, slice_get}
use Rattle.std.specs.List.{flat_map}
use Rattle.std.proofs.lemmas.Bool.{eq-eqb, eqb-true}
use Rattle.std.proofs.lemmas.List.{append-nil, take_more}
use Rattle.std.proofs.lemmas.List.Elements.{filter-append}
use Rattle.std.proofs.lemmas.Option.{same_Some, slice_get-get_or}
use Rattle.flow_dag.specs.Order.{place_of}
use Rattle.jobs.specs.JobView.{JobView}
use Rattle.flow_model.specs.Duties.{numbers_from}
use Rattle.flow_model.specs.Workers.{nth_worker, workers_in}
use Rattle.flow_model.proofs.ElementLemmas.{Before, IsIn, flat_map_before, flat_map_in, in_filter, filter_in, in_flat_map, place_of_in, in_of_place}
use Rattle.flow_model.proofs.WorkerPlaces.{worker_at}
use Rattle.audit_laws.specs.Faults.{ComesBefore}
use Rattle.audit_restore.specs.Restored.{IsOrder, numbers_at}
use Rattle.flow_dag.specs.Dag.{DagView}
use Rattle.flow_dag.specs.Edges.{HasEdge}
use Rattle.flow_dag.proofs.OrderLemmas.{Contains-from_any}
use Rattle.flow_dag.proofs.PlaceLemmas.{get_or-place_of, place_of-below}
use Rattle.flow_model.proofs.ElementLemmas.{AreDistinct, before_first, before_second, at_of_all, in_of_contains, pair_of_all, same_place}
use Rattle.flow_model.proofs.WorkerPlaces.{node_below}
use Rattle.flow_model.proofs.PlannedLemmas.{numbers_in}

-- ---- numbers

in_number : (first count n : ℕ) → IsIn n (numbers_from first count) → (first ≤ n) × (n < first + count)
in_number first zero n i = absurd i
in_number first (suc count) n (inl e) = (omega (arith, e), omega (arith, e))
in_number first (suc count) n (inr i) = let r = in_number (first + 1) count n i in let le = r.0 in let lt = r.1 in (omega (arith, le), omega (arith, lt))

filter_before : (test : ℕ → Bool) (v w : ℕ) (xs : List ℕ) → Before v w (filter test xs) → Before v w xs
filter_before test v w [] h = absurd h
filter_before test v w (x ∷ xs) h = go (test x) h (filter_before test v w xs)
  where
    go : (b : Bool) → Before v w (cond b (x ∷ filter test xs) (filter test xs)) → (Before v w (filter test xs) → Before v w xs) → Before v w (x ∷ xs)
    go true (inl p) rest = inl (p.0, (in_filter test w xs p.1).0)
    go true (inr q) rest = inr (rest q)
    go false q rest = inr (rest q)

rising_before : (first count v w : ℕ) → Before v w (numbers_from first count) → v < w
rising_before first zero v w h = absurd h
rising_before first (suc count) v w (inl p) = let r = in_number (first + 1) count w p.1 in let le = r.0 in let e = p.0 in omega (arith, e, le)
rising_before first (suc count) v w (inr q) = rising_before (first + 1) count v w q

-- ---- places

before_of_places : {A : Type 0} (xs : List A) (i j : ℕ) (x y : A) → slice_get xs i ≡ Some x → slice_get xs j ≡ Some y → i < j → Before x y xs
before_of_places [] i j x y g h lt = absurd (cc)
before_of_places (z ∷ xs) i zero x y g h lt = absurd (omega (arith, lt))
before_of_places (z ∷ xs) zero (suc j) x y g h lt = inl (sym (same_Some z x g), in_of_place y xs j h)
before_of_places (z ∷ xs) (suc i) (suc j) x y g h lt = inr (before_of_places xs i j x y g h (omega (arith, lt)))

places_of_before : {A : Type 0} (xs : List A) (x y : A) → Before x y xs → (i : ℕ) × (j : ℕ) × (i < j) × (slice_get xs i ≡ Some x) × (slice_get xs j ≡ Some y)
places_of_before [] x y h = absurd h
places_of_before (z ∷ xs) x y (inl p) = let k = place_of_in y xs p.1 in (0, suc k.0, omega arith, ap Some (sym p.0), k.1)
places_of_before (z ∷ xs) x y (inr q) = let r = places_of_before xs x y q in let lt = r.2 in (suc r.0, suc r.1, omega (arith, lt), r.3, r.4)

distinct_of : {A : Type 0} (xs : List A) → ((x y : A) → Before x y xs → x ≢ y) → AreDistinct xs
distinct_of [] h = tt
distinct_of (x ∷ xs) h = (λ i. h x x (inl (refl, i)) refl, distinct_of xs (λ a b q. h a b (inr q)))

-- ---- the order of a graph

module _ (job : JobView) (dag : DagView) (nodes : dag.nodes ≡ length job.nodes)
  where
    place_before : (x y : ℕ) → Before x y dag.order → place_of dag.order x < place_of dag.order y
    place_before x y h =
        let places = places_of_before dag.order x y h in
        let distinct = distinct_of dag.order (λ a b q. pair_of_all (λ a b. a ≢ b) a b dag.order dag.lawful.ordered.once q) in
        let first = at x (in_of_place x dag.order places.0 places.3) in
        let second = at y (in_of_place y dag.order places.1 places.4) in
        let i = same_place x places.0 (place_of dag.order x) dag.order distinct places.3 first in
        let j = same_place y places.1 (place_of dag.order y) dag.order distinct places.4 second in
        let lt = places.2 in
        omega (arith, lt, i, j)
      where
        at : (a : ℕ) → IsIn a dag.order → slice_get dag.order (place_of dag.order a) ≡ Some a
        at a i =
            let place = place_of_in a dag.order i in
            let lt : a < dag.nodes = inside a i in
            let there = get_or-place_of (HasEdge dag.edges) dag.nodes dag.order dag.lawful.ordered a lt in
            let below = place_of-below (HasEdge dag.edges) dag.nodes dag.order dag.lawful.ordered a lt in
            let long = dag.lawful.ordered.long in
            slice_get-get_or dag.order (place_of dag.order a) 0 (omega (arith, below, long)) ∙ ap Some there
          where
            inside : (a : ℕ) → IsIn a dag.order → a < dag.nodes
            inside a i = at_of_all (λ a. a < dag.nodes) a dag.order dag.lawful.ordered.inside i

    abbrev these : ℕ → List ℕ
    these node = numbers_at job node (length (workers_in job))

    pub is_order : IsOrder job dag.order (flat_map (λ node. numbers_at job node (length (workers_in job))) dag.order)
    is_order = record {
      within = λ i w g.
          let r = in_flat_map these w dag.order (in_of_place w (flat_map these dag.order) i g) in
          let f = in_filter (λ w. (nth_worker job w).node == r.0) w (numbers_from 0 (length (workers_in job))) r.2 in
          let lt = (in_number 0 (length (workers_in job)) w f.0).1 in
          omega (arith, lt);
      all = λ w lt.
          let node = (nth_worker job w).node in
          let below = node_below job w lt in
          let here = in_of_contains node dag.order (Contains-from_any dag.order node (dag.lawful.ordered.each node (omega (arith, below, nodes)))) in
          place_of_in w (flat_map these dag.order)
          (flat_map_in these node w dag.order here
          (filter_in (λ w. (nth_worker job w).node == node) w (numbers_from 0 (length (workers_in job))) (numbers_in 0 (length (workers_in job)) w (omega arith) (omega (arith, lt))) (eq-eqb node node refl)));
      sorted = λ i j v w g h lt.
          elim (flat_map_before these v w dag.order (before_of_places (flat_map these dag.order) i j v w g h lt)) [
            | inl one ↦ same_node one.0 v w one.2
            | inr two ↦ inl (
                let a = eqb-true (nth_worker job v).node two.0 (in_filter (λ w. (nth_worker job w).node == two.0) v (numbers_from 0 (length (workers_in job))) two.3).1 in
                let b = eqb-true (nth_worker job w).node two.1 (in_filter (λ w. (nth_worker job w).node == two.1) w (numbers_from 0 (length (workers_in job))) two.4).1 in
                let up = place_before two.0 two.1 two.2 in
                omega (arith, up, ap (place_of dag.order) a, ap (place_of dag.order) b)
                )
          ];
    }
      where
        same_node : (node v w : ℕ) → Before v w (these node) → ComesBefore dag.order (nth_worker job v) (nth_worker job w)
        same_node node v w h =
            let a = in_filter (λ w. (nth_worker job w).node == node) v (numbers_from 0 (length (workers_in job))) (before_first v w (these node) h) in
            let b = in_filter (λ w. (nth_worker job w).node == node) w (numbers_from 0 (length (workers_in job))) (before_second v w (these node) h) in
            let lt = rising_before 0 (length (workers_in job)) v w (filter_before (λ w. (nth_worker job w).node == node) v w (numbers_from 0 (length (workers_in job))) h) in
            let av = (in_number 0 (length (workers_in job)) v a.0).1 in
            let bv = (in_number 0 (length (workers_in job)) w b.0).1 in
            let p = (worker_at job v (omega (arith, av))).0 in
            let q = (worker_at job w (omega (arith, bv))).0 in
            inr (eqb-true (nth_worker job v).node node a.1 ∙ sym (eqb-true (nth_worker job w).node node b.1), omega (arith, lt, p, q))

-- ---- how they are listed

pub numbers_more : (job : JobView) (node n : ℕ) → numbers_at job node (n + 1) ≡ numbers_at job node n ++ cond ((nth_worker job n).node == node) (n ∷ []) []
numbers_more job node n =
    ap (filter (λ w. (nth_worker job w).node == node)) (last 0 n)
    ∙ (filter-append (λ w. (nth_worker job w).node == node) (numbers_from 0 n) ((0 + n) ∷ []) ∙ (let z : 0 + n ≡ n = omega arith in ap (λ k. numbers_at job node n ++ cond ((nth_worker job k).node == node) (k ∷ []) []) z))
  where
    last : (first n : ℕ) → numbers_from first (n + 1) ≡ numbers_from first n ++ (first + n) ∷ []
    last first zero = let z : first ≡ first + 0 = omega arith in ap (λ k. k ∷ []) z
    last first (suc n) =
        let s : suc n + 1 ≡ suc (n + 1) = omega arith in
        let t : first + 1 + n ≡ first + suc n = omega arith in
        ap (numbers_from first) s ∙ (ap (λ (l : List ℕ). first ∷ l) (last (first + 1) n) ∙ ap (λ k. first ∷ (numbers_from (first + 1) n ++ k ∷ [])) t)

pub flat_more : (f : ℕ → List ℕ) (xs : List ℕ) (i d : ℕ) → i < length xs → flat_map f (take (i + 1) xs) ≡ flat_map f (take i xs) ++ f (get_or xs i d)
flat_more f xs i d lt = ap (flat_map f) (take_more xs i d lt) ∙ flat_last (take i xs) (get_or xs i d)
  where
    flat_last : (xs : List ℕ) (x : ℕ) → flat_map f (xs ++ x ∷ []) ≡ flat_map f xs ++ f x
    flat_last [] x = append-nil (f x)
    flat_last (y ∷ xs) x = ap (λ (l : List ℕ). f y ++ l) (flat_last xs x) ∙ sym (append_assoc (f y) (flat_map f xs) (f x))
