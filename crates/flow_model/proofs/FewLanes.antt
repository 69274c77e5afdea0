-- How many lanes lead into a worker: at least one, and at most 127.
use Rattle.std.proofs.Common.{◌≡◌, ◌≢◌, ◌∙◌, ◌+◌, ◌==◌, ◌<◌, ◌≤◌, ℕ, zero, suc, List, [], ◌∷◌, inl, inr, Bool, true, false, not, cond, map, filter, take, length, refl, sym, ap, subst, arith, Option, Some, None, slice_get}
use Rattle.std.specs.List.{enumerate_from}
use Rattle.std.proofs.lemmas.Bool.{eq-eqb, eqb-true}
use Rattle.std.proofs.lemmas.List.{length-map, length-take}
use Rattle.std.proofs.lemmas.Option.{get_or_from_slice_get, same_Some, slice_get_within}
use Rattle.flow_dag.specs.declared.edge.Edge.{Edge}
use Rattle.jobs.specs.Law.{IsLawful}
use Rattle.jobs.specs.Nodes.{is_source, is_source_node}
use Rattle.jobs.specs.JobView.{JobView}
use Rattle.jobs.proofs.EdgeLemmas.{IsRepeated-ports, get_or-take}
use Rattle.flow_model.specs.Lanes.{lanes, lanes_in, senders}
use Rattle.flow_model.specs.declared.topology.Lane.{Lane}
use Rattle.flow_model.specs.SetupView.{Worker}
use Rattle.flow_model.specs.Workers.{workers_in}
use Rattle.flow_model.proofs.ElementLemmas.{AreDistinct, IsIn, distinct_filter, distinct_map, in_filter, in_map, in_of_place, place_of_in, same_place}
use Rattle.flow_model.proofs.JobLemmas.{inside_edge, reached_worker}
use Rattle.flow_model.proofs.LaneLemmas.{LaneIn, enumerate_distinct, in_enumerate, lane_into, lanes_distinct, sender_source, sender_worker}
use Rattle.flow_model.proofs.WorkerListLemmas.{length-workers_from}
use Rattle.flow_model.proofs.WorkerLemmas.{IsWorker, worker_with}

-- ---- so many different numbers below a number

all_pass : (test : ℕ → Bool) (xs : List ℕ) → ((x : ℕ) → IsIn x xs → test x ≡ true) → length (filter test xs) ≡ length xs
all_pass test [] f = refl
all_pass test (x ∷ xs) f = rw (f x (inl refl)) (ap suc (all_pass test xs (λ y i. f y (inr i))))

one_less : (n : ℕ) (xs : List ℕ) → AreDistinct xs → length xs ≤ suc (length (filter (λ x. not (x == n)) xs))
one_less n [] d = omega arith
one_less n (x ∷ xs) d = go (x == n) refl (one_less n xs d.1)
  where
    other : x ≡ n → (y : ℕ) → IsIn y xs → (b : Bool) → (y == n) ≡ b → not b ≡ true
    other e y i true q = absurd (d.0 (subst (λ z. IsIn z xs) (eqb-true y n q ∙ sym e) i))
    other e y i false q = refl

    go : (b : Bool) → (x == n) ≡ b → length xs ≤ suc (length (filter (λ x. not (x == n)) xs))
        → suc (length xs) ≤ suc (length (cond (not b) (x ∷ filter (λ x. not (x == n)) xs) (filter (λ x. not (x == n)) xs)))
    go true e rest =
        let all = all_pass (λ x. not (x == n)) xs (λ y i. other (eqb-true x n e) y i (y == n) refl) in
        omega (arith, all)
    go false e rest = omega (arith, rest)

few_below : (n : ℕ) (xs : List ℕ) → AreDistinct xs → ((x : ℕ) → IsIn x xs → x < n) → length xs ≤ n
few_below zero [] d b = omega arith
few_below zero (x ∷ xs) d b = absurd (let l = b x (inl refl) in omega (arith, l))
few_below (suc n) xs d b =
    let rest = few_below n (filter (λ x. not (x == n)) xs) (distinct_filter (λ x. not (x == n)) xs d) (λ x i. let f = in_filter (λ x. not (x == n)) x xs i in lower x f.0 (x == n) refl f.1) in
    let less = one_less n xs d in
    omega (arith, rest, less)
  where
    lower : (x : ℕ) → IsIn x xs → (c : Bool) → (x == n) ≡ c → not c ≡ true → x < n
    lower x i true q e = absurd (cc)
    lower x i false q e = let l = b x i in let ne : x ≢ n = λ s. (let t : (x == n) ≡ true = eq-eqb x n s in let k : true ≡ false = sym t ∙ q in cc) in apart x n l ne
      where
        apart : (x n : ℕ) → x < suc n → x ≢ n → x < n
        apart x n l ne = omega (arith, l, ne)

-- ---- lanes into a worker, told apart by who sends

abbrev code : Option ℕ → ℕ → ℕ
code None from = 64 + from
code (Some sender) from = sender

abbrev from_of : Option Edge → ℕ
from_of None = 0
from_of (Some edge) = edge.from

abbrev code_of : JobView → ℕ × Lane → ℕ
code_of job p = code p.1.sender (from_of (slice_get job.edges p.1.edge))

-- what is known of one lane
record Into (job : JobView) (who : Worker) (p : ℕ × Lane) : Type 0 where
  numbered : slice_get (lanes job) p.0 ≡ Some p.1
  receiver : p.1.receiver ≡ who.number
  edge : Edge
  edge_is : slice_get job.edges p.1.edge ≡ Some edge
  to : edge.to ≡ who.node
  sends : IsIn p.1.sender (senders job edge.from)

module _ (job : JobView) (who : Worker) (law : IsLawful job) (is : IsWorker job who) where
  into : (p : ℕ × Lane) → IsIn p (filter (λ (p : ℕ × Lane). p.1.receiver == who.number) (enumerate_from 0 (lanes job))) → Into job who p
  into p i =
      let f = in_filter (λ (p : ℕ × Lane). p.1.receiver == who.number) p (enumerate_from 0 (lanes job)) i in
      let q = in_enumerate 0 (lanes job) p f.0 in
      let at : slice_get (lanes job) p.0 ≡ Some p.1 = subst (λ n. slice_get (lanes job) n ≡ Some p.1) (let a = q.1 in omega arith) q.2 in
      let receiver = eqb-true p.1.receiver who.number f.1 in
      let k : LaneIn job who p.0 = lane_into job who p.0 p.1 is at receiver in
      let same : k.lane ≡ p.1 = same_Some k.lane p.1 (sym k.numbered ∙ at) in
      record {
        numbered = at;
        receiver = receiver;
        edge = k.edge;
        edge_is = subst (λ (l : Lane). slice_get job.edges l.edge ≡ Some k.edge) same k.edge_is;
        to = k.to;
        sends = subst (λ (l : Lane). IsIn l.sender (senders job k.edge.from)) same k.sends;
      }

  node_low : (n i : ℕ) (edge : Edge) → slice_get job.edges i ≡ Some edge → n ≡ edge.from → n < 64
  node_low n i edge g e = let l = (inside_edge job law i edge g).0 in let m = law.limits.nodes.1 in omega (arith, e, l, m)

  sender_low : (node s : ℕ) → IsIn (Some s) (senders job node) → s < 64
  sender_low node s i =
      let r = sender_worker job node s i in
      let l = slice_get_within (workers_in job) s r.0 r.1 in
      let m = length-workers_from 0 0 job.nodes in
      let k = law.limits.all_workers in
      omega (arith, l, m, k)

  code_low : (sender : Option ℕ) (i : ℕ) (edge : Edge) → slice_get job.edges i ≡ Some edge → IsIn sender (senders job edge.from) → code sender (from_of (slice_get job.edges i)) < 128
  code_low None i edge g s = let l = node_low edge.from i edge g refl in let e : from_of (slice_get job.edges i) ≡ edge.from = ap from_of g in omega (arith, l, e)
  code_low (Some w) i edge g s = let l = sender_low edge.from w s in omega (arith, l)

  code_other : (sender : Option ℕ) (i : ℕ) (edge : Edge) → slice_get job.edges i ≡ Some edge → IsIn sender (senders job edge.from) → 64 + who.node ≡ code sender (from_of (slice_get job.edges i)) → ⊥
  code_other None i edge g s e =
      let f : from_of (slice_get job.edges i) ≡ edge.from = ap from_of g in
      let same : edge.from ≡ who.node = omega (arith, e, f) in
      let source : is_source_node (slice_get job.nodes who.node) ≡ true = subst (λ n. is_source_node (slice_get job.nodes n) ≡ true) same (sender_source job edge.from s) in
      let known : is_source is.def.func ≡ true = sym (ap is_source_node is.node_is) ∙ source in
      let clash : true ≡ false = sym known ∙ is.no_source in
      cc
  code_other (Some w) i edge g s e = let l = sender_low edge.from w s in omega (arith, l, e)

  -- the code tells who sends, and from which node
  told : (a b : Option ℕ) (i j : ℕ) (x y : Edge) → slice_get job.edges i ≡ Some x → slice_get job.edges j ≡ Some y → IsIn a (senders job x.from) → IsIn b (senders job y.from)
      → code a (from_of (slice_get job.edges i)) ≡ code b (from_of (slice_get job.edges j)) → (a ≡ b) × (x.from ≡ y.from)
  told None None i j x y g h s t e =
      let f : from_of (slice_get job.edges i) ≡ x.from = ap from_of g in
      let k : from_of (slice_get job.edges j) ≡ y.from = ap from_of h in
      (refl, omega (arith, e, f, k))
  told None (Some w) i j x y g h s t e = absurd (let l = sender_low y.from w t in omega (arith, l, e))
  told (Some v) None i j x y g h s t e = absurd (let l = sender_low x.from v s in omega (arith, l, e))
  told (Some v) (Some w) i j x y g h s t e =
      let p = sender_worker job x.from v s in
      let q = sender_worker job y.from w t in
      let there : slice_get (workers_in job) v ≡ Some q.0 = subst (λ n. slice_get (workers_in job) n ≡ Some q.0) (sym e) q.1 in
      let same : p.0 ≡ q.0 = same_Some p.0 q.0 (sym p.1 ∙ there) in
      (ap Some e, sym p.3 ∙ (ap (λ (o : Worker). o.node) same ∙ q.3))

  -- two edges of one node lead to different nodes
  later : (i j : ℕ) (x y : Edge) → slice_get job.edges i ≡ Some x → slice_get job.edges j ≡ Some y → x.from ≡ y.from → x.to ≡ y.to → i < j → ⊥
  later i j x y g h from to lt =
      let l : i < length (take j job.edges) = let w = slice_get_within job.edges j y h in let m = length-take j job.edges in omega (arith, lt, w, m) in
      let at = get_or-take job.edges j i x lt ∙ get_or_from_slice_get job.edges i x x g in
      IsRepeated-ports job.nodes job.edges j law.endpoints law.ports (y, h, (i, x, l, at, (from, to)))

  one_edge : (i j : ℕ) (x y : Edge) → slice_get job.edges i ≡ Some x → slice_get job.edges j ≡ Some y → x.from ≡ y.from → x.to ≡ y.to → i ≡ j
  one_edge i j x y g h from to =
      let a = later i j x y g h from to in
      let b = later j i y x h g (sym from) (sym to) in
      between i j a b
    where
      between : (i j : ℕ) → (i < j → ⊥) → (j < i → ⊥) → i ≡ j
      between i j a b = omega (arith, a, b)

  codes_apart : (p q : ℕ × Lane) → Into job who p → Into job who q → code_of job p ≡ code_of job q → p ≡ q
  codes_apart p q k m e =
      let t = told p.1.sender q.1.sender p.1.edge q.1.edge k.edge m.edge k.edge_is m.edge_is k.sends m.sends e in
      let edge : p.1.edge ≡ q.1.edge = one_edge p.1.edge q.1.edge k.edge m.edge k.edge_is m.edge_is t.1 (k.to ∙ sym m.to) in
      let receiver : p.1.receiver ≡ q.1.receiver = k.receiver ∙ sym m.receiver in
      let sender : p.1.sender ≡ q.1.sender = t.0 in
      let lane : p.1 ≡ q.1 = λ i. record { edge = edge i; sender = sender i; receiver = receiver i } in
      let number : p.0 ≡ q.0 = same_place p.1 p.0 q.0 (lanes job) (lanes_distinct job) k.numbered (m.numbered ∙ ap Some (sym lane)) in
      λ i. (number i, lane i)

  few : length (filter (λ (p : ℕ × Lane). p.1.receiver == who.number) (enumerate_from 0 (lanes job))) ≤ 127
  few =
      let ps : List (ℕ × Lane) = filter (λ (p : ℕ × Lane). p.1.receiver == who.number) (enumerate_from 0 (lanes job)) in
      let apart : AreDistinct (map (code_of job) ps) =
      distinct_map (code_of job) ps (λ p q i j e. codes_apart p q (into p i) (into q j) e) (distinct_filter (λ (p : ℕ × Lane). p.1.receiver == who.number) (enumerate_from 0 (lanes job)) (enumerate_distinct (lanes job))) in
      let no : ¬ IsIn (64 + who.node) (map (code_of job) ps) =
      λ i. (let r = in_map (code_of job) (64 + who.node) ps i in let k = into r.0 r.1 in code_other r.0.1.sender r.0.1.edge k.edge k.edge_is k.sends r.2) in
      let low : (x : ℕ) → IsIn x ((64 + who.node) ∷ map (code_of job) ps) → x < 128 = λ x i. below x i in
      let many = few_below 128 ((64 + who.node) ∷ map (code_of job) ps) (no, apart) low in
      let long = length-map ps (code_of job) in
      omega (arith, many, long)
    where
      below : (x : ℕ) → IsIn x ((64 + who.node) ∷ map (code_of job) (filter (λ (p : ℕ × Lane). p.1.receiver == who.number) (enumerate_from 0 (lanes job)))) → x < 128
      below x (inl e) = let l = slice_get_within job.nodes who.node is.def is.node_is in let m = law.limits.nodes.1 in omega (arith, e, l, m)
      below x (inr i) =
          let r = in_map (code_of job) x (filter (λ (p : ℕ × Lane). p.1.receiver == who.number) (enumerate_from 0 (lanes job))) i in
          let k = into r.0 r.1 in
          let l = code_low r.0.1.sender r.0.1.edge k.edge k.edge_is k.sends in
          let e = r.2 in
          omega (arith, e, l)

pub few_lanes : (job : JobView) (w : ℕ) (who : Worker) → IsLawful job → slice_get (workers_in job) w ≡ Some who → length (lanes_in job w) ≤ 127
few_lanes job w who law there =
    let is = worker_with job w who there in
    let few = few job who law is.1 in
    subst (λ n. length (lanes_in job n) ≤ 127) is.0
    (let long = length-map (filter (λ (p : ℕ × Lane). p.1.receiver == who.number) (enumerate_from 0 (lanes job))) (λ (p : ℕ × Lane). p.0) in omega (arith, long, few))

pub some_lane : (job : JobView) (w : ℕ) (who : Worker) → IsLawful job → slice_get (workers_in job) w ≡ Some who → 1 ≤ length (lanes_in job w)
some_lane job w who law there =
    let (number, is) = worker_with job w who there in
    let (n, among) = reached_worker job law who is (in_of_place who (workers_in job) w there) in
    let (place, at) = place_of_in n (lanes_in job who.number) among in
    subst (λ k. 1 ≤ length (lanes_in job k)) number (let l = slice_get_within (lanes_in job who.number) place n at in omega (arith, l))
