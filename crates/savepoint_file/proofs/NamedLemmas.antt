-- The worker that a record names.
use Rattle.std.proofs.Common.{◌≡◌, ◌∙◌, ◌<◌, ◌≤◌, ◌&&◌, ◌==◌, ◌+◌, ℕ, ℤ, zero, suc, [], ◌∷◌, cond, if◌then◌else◌, map, nat_le, nat_lt, option_map, subst, Bool, true, false, List, Option, Some, None, refl, sym, ap, arith, get_or, length, nat_eq, slice_get}
use Rattle.std.specs.Prelude.{position}
use Rattle.std.specs.Cmp.Lexicographic.{pointwise}
use Rattle.std.specs.List.{position_or_len}
use Rattle.std.proofs.lemmas.Bool.{le-leb, le-ltb, lt-ltb, ltb-true}
use Rattle.std.proofs.lemmas.List.Sums.{position_or_len_is}
use Rattle.std.proofs.lemmas.Option.{slice_get-get_or}
use Rattle.jobs.specs.Law.{IsLawful}
use Rattle.jobs.proofs.RoleLemmas.{kind_row}
use Rattle.jobs.specs.Nodes.{is_count, most_workers}
use Rattle.jobs.specs.JobView.{JobView}
use Rattle.jobs.specs.declared.func.NodeDef.{NodeDef}
use Rattle.flow_model.specs.SetupView.{Worker}
use Rattle.flow_model.specs.Workers.{nobody, nth_worker, workers_in}
use Rattle.flow_model.proofs.ElementLemmas.{IsIn, at_of_all, in_of_place}
use Rattle.flow_model.proofs.WorkerLemmas.{worker_with}
use Rattle.tuple_trace.specs.Spread.{spread_of}
use Rattle.savepoint.specs.SaveReading.{Placed, Spelled, is_place, is_worker_of, place_of_key, placed_by, placed_of}
use Rattle.savepoint.specs.SaveText.{name_of}
use Rattle.savepoint_file.specs.Steps.{spelled_with, takes_key}
use Rattle.jobs.specs.declared.limits.TheConstants.{TEXT_MAX}

pub position-at : {A : Type 0} (p : A → Bool) (xs : List A) (i : ℕ) (d : A) → i < length xs → ((k : ℕ) → k < i → p (get_or xs k d) ≡ false) → p (get_or xs i d) ≡ true → position p xs ≡ Some i
position-at p xs i d lt before at =
    let first : position_or_len p xs ≡ i = position_or_len_is p xs i d (omega (arith, lt)) before (λ _. at) in
    rw (first, lt-ltb i (length xs) lt) refl

pub position-none : {A : Type 0} (p : A → Bool) (xs : List A) (n : ℕ) (d : A) → length xs ≤ n → ((k : ℕ) → k < n → p (get_or xs k d) ≡ false) → position p xs ≡ None
position-none p xs n d all before =
    let first : position_or_len p xs ≡ length xs = position_or_len_is p xs (length xs) d (omega arith) (λ k lk. before k (omega (arith, lk, all))) (λ lt. absurd (omega (arith, lt))) in
    rw (first, le-ltb (length xs) (length xs) (omega arith)) refl

and_assoc : (a b c : Bool) → (a && (b && c)) ≡ ((a && b) && c)
and_assoc true b c = refl
and_assoc false b c = refl

same_some : (a b : NodeDef) → Some a ≡ Some b → a ≡ b
same_some a b e = cc e

-- a node of a job, by its number
node_there : (job : JobView) (def : NodeDef) (n : ℕ) (items : List NodeDef) → n < length job.nodes → items ≡ job.nodes → def ≡ get_or items n def → slice_get job.nodes n ≡ Some def
node_there job def n items within items_are is = slice_get-get_or job.nodes n def within ∙ ap Some (sym (is ∙ ap (λ l. get_or l n def) items_are))

-- the worker's node is the one at its number, and its function is that node's
pub led-by : (job : JobView) (w : ℕ) (name : List ℕ) (place : ℤ) (key : List ℕ) (def : NodeDef) (n index : ℕ) (items : List NodeDef) → w < length (workers_in job) → n ≡ (nth_worker job w).node
    → index ≡ (nth_worker job w).place → n < length job.nodes → items ≡ job.nodes → def ≡ get_or items n def
    → takes_key job name place key (nth_worker job w) ≡ ((is_count def.func && pointwise nat_eq name def.name) && (is_place place index && (spread_of key def.workers == index)))
led-by job w name place key def n index items lt node_is place_is within items_are is =
    let who : Worker = nth_worker job w in
    let there : slice_get (workers_in job) w ≡ Some who = slice_get-get_or (workers_in job) w nobody lt in
    let worker = (worker_with job w who there).1 in
    let at : slice_get job.nodes who.node ≡ Some def = ap (slice_get job.nodes) (sym node_is) ∙ node_there job def n items within items_are is in
    let same : worker.def ≡ def = same_some worker.def def (sym worker.node_is ∙ at) in
    let counting : is_count who.func ≡ is_count def.func = ap is_count worker.func_is ∙ ap (λ d. is_count d.func) same in
    let named : pointwise nat_eq name (name_of (slice_get job.nodes who.node)) ≡ pointwise nat_eq name def.name = ap (λ o. pointwise nat_eq name (name_of o)) at in
    let led : (place_of_key (slice_get job.nodes who.node) key == who.place) ≡ (spread_of key def.workers == who.place) = ap (λ o. place_of_key o key == who.place) at in
    ap (λ b. b && (pointwise nat_eq name (name_of (slice_get job.nodes who.node)) && (is_place place who.place && (place_of_key (slice_get job.nodes who.node) key == who.place)))) counting
    ∙ (ap (λ b. is_count def.func && (b && (is_place place who.place && (place_of_key (slice_get job.nodes who.node) key == who.place)))) named
    ∙ (ap (λ b. is_count def.func && (pointwise nat_eq name def.name && (is_place place who.place && b))) led
    ∙ (ap (λ k. is_count def.func && (pointwise nat_eq name def.name && (is_place place k && (spread_of key def.workers == k)))) (sym place_is)
    ∙ and_assoc (is_count def.func) (pointwise nat_eq name def.name) (is_place place index && (spread_of key def.workers == index)))))

-- a node has 1 to 8 workers
pub few-workers : (job : JobView) → IsLawful job → (name : List ℕ) (def : NodeDef) (n : ℕ) (items : List NodeDef) → n < length job.nodes → items ≡ job.nodes → def ≡ get_or items n def
    → (is_count def.func && pointwise nat_eq name def.name) ≡ true → (1 ≤ def.workers) × (def.workers ≤ 8)
few-workers job lawful name def n items within items_are is node =
    let there : IsIn def job.nodes = in_of_place def job.nodes n (node_there job def n items within items_are is) in
    let few = at_of_all (λ (node : NodeDef). (1 ≤ node.workers) × (node.workers ≤ most_workers node.func)) def job.nodes lawful.limits.workers there in
    (few.0, omega (arith, few.1, (kind_row def.func).few_workers))

pub numbered : (job : JobView) (i : ℕ) (who : Worker) → slice_get (workers_in job) i ≡ Some who → who.number ≡ 0 + i
numbered job i who at = let e = (worker_with job i who at).0 in omega (arith, e)

-- ---- a count has a worker

placed-within : (job : JobView) (s : Spelled) (p : Placed) → placed_of job s ≡ Some p → p.worker < length (workers_in job)
placed-within job s p is = by_length (nat_le (length s.key) TEXT_MAX) is
  where
    by_place : (b : Bool) → nat_lt (position_or_len (is_worker_of job s) (workers_in job)) (length (workers_in job)) ≡ b
        → option_map (placed_by s) (cond b (Some (position_or_len (is_worker_of job s) (workers_in job))) None) ≡ Some p → p.worker < length (workers_in job)
    by_place true less e =
        let same : position_or_len (is_worker_of job s) (workers_in job) ≡ p.worker = cc e in
        subst (λ w. w < length (workers_in job)) same (ltb-true (position_or_len (is_worker_of job s) (workers_in job)) (length (workers_in job)) less)
    by_place false less e = absurd (cc e)

    by_length : (b : Bool) → (if b then option_map (placed_by s) (position (is_worker_of job s) (workers_in job)) else None) ≡ Some p → p.worker < length (workers_in job)
    by_length true e = by_place (nat_lt (position_or_len (is_worker_of job s) (workers_in job)) (length (workers_in job))) refl e
    by_length false e = absurd (cc e)

each-within : (job : JobView) (spelled : List Spelled) (i : ℕ) (p : Placed) → i < length (map (placed_of job) spelled) → get_or (map (placed_of job) spelled) i (Some p) ≡ Some p → p.worker < length (workers_in job)
each-within job [] i p lt at = absurd (omega (arith, lt))
each-within job (s ∷ spelled) zero p lt at = placed-within job s p at
each-within job (s ∷ spelled) (suc i) p lt at = each-within job spelled i p (omega (arith, lt)) at

pub named-within : (job : JobView) (counts : List (Option Placed)) → ((spelled : List Spelled) × (counts ≡ map (placed_of job) spelled)) → (i : ℕ) (p : Placed) → i < length counts → get_or counts i (Some p) ≡ Some p
    → p.worker < length (workers_in job)
named-within job counts (spelled, is) i p lt at =
    each-within job spelled i p (subst (λ l. i < length l) is lt) (subst (λ l. get_or l i (Some p) ≡ Some p) is at)

-- no worker is named
pub none_placed : (job : JobView) (name key : List ℕ) (place count : ℤ) → length key ≤ 48 → position (takes_key job name place key) (workers_in job) ≡ None → placed_of job (spelled_with name place key count) ≡ None
none_placed job name key place count le none = rw (le-leb (length key) 48 le) (ap (option_map (placed_by (spelled_with name place key count))) none)
