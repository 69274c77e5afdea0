-- Workers as runners, one more or one less.
use Rattle.std.proofs.Common.{◌≡◌, ℕ, zero, suc, ◌+◌, ◌<◌, List, [], ◌∷◌, ◌++◌, Err, Ok, Result, Some, length, map, slice_get, slice_index_or, false, refl, sym, ap, ap₂, ◌∙◌, subst, arith}
use Rattle.std.specs.List.{All, range_with_len}
use Rattle.std.specs.Result.{IfOk}
use Rattle.std.proofs.lemmas.List.{append_assoc, length-map, map-append}
use Rattle.std.proofs.lemmas.List.Elements.{All-head, All-push, All-tail}
use Rattle.std.proofs.lemmas.Option.{slice_get-get_or, slice_get_within}
use Rattle.jobs.specs.Job.{job_view}
use Rattle.flow_model.specs.Begin.{Begin}
use Rattle.flow_model.specs.SetupView.{SetupView}
use Rattle.flow_model.specs.Setup.{setup_view}
use Rattle.flow_model.specs.Workers.{workers_in}
use Rattle.flow_model.specs.declared.setup.Setup.{Setup}
use Rattle.flow_model.proofs.SizeLemmas.{workers-few}
use Rattle.flow_worker.specs.Pairs.{EachOne}
use Rattle.flow_worker.specs.Worker.{IsWorker, WorkerIs}
use Rattle.flow_runners.specs.Crew.{AreWorkers, fixed_in, crew_number, runner_of}
use Rattle.flow_runner.specs.Rule.{HasItsEndpoints, AreListed, fixed_of, numbers, times, without}
use Rattle.flow_runner.specs.Runner.{EndpointsIs, RunnerIs, endpoints_of}
use Rattle.flow_runner.proofs.Bringing.{agreed, given, has}
use Rattle.flow_runner.proofs.Keeps.{last_and_rest}

pub numbers_runners : (ws : List WorkerIs) → numbers (map runner_of ws) ≡ map crew_number ws
numbers_runners [] = refl
numbers_runners (w ∷ ws) = ap (λ xs. w.number ∷ xs) (numbers_runners ws)

pub ends_runners : (ws : List WorkerIs) → map (λ (r : RunnerIs). r.endpoints) (map runner_of ws) ≡ map endpoints_of ws
ends_runners [] = refl
ends_runners (w ∷ ws) = ap (λ xs. endpoints_of w ∷ xs) (ends_runners ws)

pub fixed_runners : (ws : List WorkerIs) → map fixed_of (map runner_of ws) ≡ map fixed_in ws
fixed_runners [] = refl
fixed_runners (w ∷ ws) = ap (λ xs. fixed_in w ∷ xs) (fixed_runners ws)

numbers_fixed : (ws : List WorkerIs) → map crew_number ws ≡ map (λ (p : ℕ × EndpointsIs). p.0) (map fixed_in ws)
numbers_fixed [] = refl
numbers_fixed (w ∷ ws) = ap (λ xs. w.number ∷ xs) (numbers_fixed ws)

pub same_numbers_in : (ws vs : List WorkerIs) → map fixed_in vs ≡ map fixed_in ws → map crew_number vs ≡ map crew_number ws
same_numbers_in ws vs e = numbers_fixed vs ∙ (ap (map (λ (p : ℕ × EndpointsIs). p.0)) e ∙ sym (numbers_fixed ws))

-- numbers in order are those of the places
pub number_at : (a : ℕ) (ws : List WorkerIs) (i : ℕ) (w : WorkerIs) → map crew_number ws ≡ range_with_len a (length ws) → slice_get ws i ≡ Some w → w.number ≡ a + i
number_at a [] i w e at = absurd (cc)
number_at a (v ∷ vs) zero w e at =
    let head : v.number ≡ a = cc in
    let same : v ≡ w = cc in
    let here : v.number ≡ w.number = ap (λ (u : WorkerIs). u.number) same in omega (arith, head, here)
number_at a (v ∷ vs) (suc i) w e at =
    let tail : map crew_number vs ≡ range_with_len (a + 1) (length vs) = cc in
    let h = number_at (a + 1) vs i w tail at in omega (arith, h)

pub in_range : (a : ℕ) (ws : List WorkerIs) → ((i : ℕ) (w : WorkerIs) → slice_get ws i ≡ Some w → w.number ≡ a + i) → map crew_number ws ≡ range_with_len a (length ws)
in_range a [] h = refl
in_range a (w ∷ ws) h =
    let head : w.number ≡ a = (let k = h 0 w refl in omega (arith, k)) in
    ap₂ (λ x xs. x ∷ xs) head (in_range (a + 1) ws (λ i v at. let k = h (suc i) v at in omega (arith, k)))

pub in_order : (ws : List WorkerIs) → ((i : ℕ) (w : WorkerIs) → slice_get ws i ≡ Some w → w.number ≡ i) → map crew_number ws ≡ range_with_len 0 (length ws)
in_order ws h = in_range 0 ws (λ i w at. let k = h i w at in omega (arith, k))

pub last_number : (a : ℕ) (ws : List WorkerIs) (w : WorkerIs) → map crew_number (ws ++ w ∷ []) ≡ range_with_len a (length (ws ++ w ∷ []))
    → (map crew_number ws ≡ range_with_len a (length ws)) × (w.number ≡ a + length ws)
last_number a [] w e = let head : w.number ≡ a = cc in (refl, omega (arith, head))
last_number a (v ∷ vs) w e =
    let head : v.number ≡ a = cc in
    let tail : map crew_number (vs ++ w ∷ []) ≡ range_with_len (a + 1) (length (vs ++ w ∷ [])) = cc in
    let h = last_number (a + 1) vs w tail in
    let k = h.1 in
    (ap₂ (λ x xs. x ∷ xs) head h.0, omega (arith, k))

-- all workers have the law, by their places and in other words
pub all_at : {X : Type 0} (P : X → Type 0) (xs : List X) → ((i : ℕ) (x : X) → slice_get xs i ≡ Some x → P x) → All P xs
all_at P xs h i d lt = h i (slice_index_or xs i d) (slice_get-get_or xs i d lt)

pub at_all : {X : Type 0} (P : X → Type 0) (xs : List X) → All P xs → (i : ℕ) (x : X) → slice_get xs i ≡ Some x → P x
at_all P [] all i x at = absurd (cc)
at_all P (y ∷ ys) all zero x at =
    let same : y ≡ x = cc in let Q : _ → Type 0 = λ z. P z in subst Q same (All-head P y ys all)
at_all P (y ∷ ys) all (suc i) x at = at_all P ys (All-tail P y ys all) i x at

pub each_all : {X : Type 0} (P : X → Type 0) (xs : List X) → All P xs → EachOne P xs
each_all P [] all = tt
each_all P (x ∷ xs) all = (All-head P x xs all, each_all P xs (All-tail P x xs all))

pub few_workers : (setup : Setup) (begin : Begin) (w : WorkerIs) → IsWorker (setup_view setup) begin w → w.number < 64
few_workers setup begin w law =
    let within = slice_get_within (workers_in (job_view setup.job)) w.number law.who law.placed.stands.who_is in
    let few = workers-few (job_view setup.job) setup.job.lawful in omega (arith, within, few)

abbrev with_number : ℕ → WorkerIs → RunnerIs
with_number k w = record { number = k; endpoints = endpoints_of w; is_done = false }

pub as_runner : (r : RunnerIs) (w : WorkerIs) (n : ℕ) → r ≡ record { number = n; endpoints = endpoints_of w; is_done = false } → n ≡ w.number → r ≡ runner_of w
as_runner r w n e m = e ∙ ap (λ k. with_number k w) m

module _ (charter : List EndpointsIs) where
  more : (ws : List WorkerIs) (w : WorkerIs) (list : List ℕ) → AreListed charter (map runner_of (ws ++ w ∷ [])) list → AreListed charter (map runner_of ws ++ runner_of w ∷ []) list
  more ws w list b = let P : List RunnerIs → Type 0 = λ rs. AreListed charter rs list in subst P (map-append runner_of ws (w ∷ [])) b

  along : (all ws : List WorkerIs) (list : List ℕ) → all ≡ ws → AreListed charter (map runner_of all) list → AreListed charter (map runner_of ws) list
  along all ws list e b = let P : List WorkerIs → Type 0 = λ vs. AreListed charter (map runner_of vs) list in subst P e b

  last : (all ws : List WorkerIs) (w : WorkerIs) (list : List ℕ) → all ≡ ws ++ w ∷ [] → AreListed charter (map runner_of all) list → AreListed charter (map runner_of ws ++ runner_of w ∷ []) list
  last all ws w list e b = more ws w list (along all (ws ++ w ∷ []) list e b)

  pub named_last : (all ws : List WorkerIs) (w : WorkerIs) (r : RunnerIs) (list : List ℕ) → all ≡ ws ++ w ∷ [] → r ≡ runner_of w → AreListed charter (map runner_of all) list → 0 < times r.number list
  named_last all ws w r list e f b =
      let P : RunnerIs → Type 0 = λ s. 0 < times s.number list in subst P (sym f) (has charter (map runner_of ws) list (runner_of w) (last all ws w list e b))

  pub agreed_last : (all ws : List WorkerIs) (w : WorkerIs) (r : RunnerIs) (list : List ℕ) → all ≡ ws ++ w ∷ [] → r ≡ runner_of w → AreListed charter (map runner_of all) list → HasItsEndpoints charter r
  agreed_last all ws w r list e f b =
      let P : RunnerIs → Type 0 = λ s. HasItsEndpoints charter s in subst P (sym f) (agreed charter (map runner_of ws) list (runner_of w) (last all ws w list e b))

  pub pushed : (all ws : List WorkerIs) (w : WorkerIs) (r : RunnerIs) (list less : List ℕ) → all ≡ ws ++ w ∷ [] → r ≡ runner_of w → less ≡ without r.number list → AreListed charter (map runner_of all) list → AreListed charter (map runner_of ws) less
  pushed all ws w r list less e f l b =
      given charter (map runner_of ws) list less (runner_of w) (l ∙ ap (λ (s : RunnerIs). without s.number list) f) (last all ws w list e b)

pub law_last : (setup : SetupView) (begin : Begin) (all ws : List WorkerIs) (w : WorkerIs) → all ≡ ws ++ w ∷ [] → All (IsWorker setup begin) all → All (IsWorker setup begin) ws × IsWorker setup begin w
law_last setup begin all ws w e law =
    let P : List WorkerIs → Type 0 = λ vs. All (IsWorker setup begin) vs in
    last_and_rest (IsWorker setup begin) ws w (subst P e law)

pub numbers_last : (all ws : List WorkerIs) (w : WorkerIs) → all ≡ ws ++ w ∷ [] → map crew_number all ≡ range_with_len 0 (length all)
    → (map crew_number ws ≡ range_with_len 0 (length ws)) × (w.number ≡ 0 + length ws)
numbers_last all ws w e n =
    let P : List WorkerIs → Type 0 = λ vs. map crew_number vs ≡ range_with_len 0 (length vs) in
    last_number 0 ws w (subst P e n)

-- workers with the numbers of workers in order are in order
pub workers_again : (setup : SetupView) (begin : Begin) (ws vs : List WorkerIs) → AreWorkers setup begin ws → map fixed_in vs ≡ map fixed_in ws → All (IsWorker setup begin) vs → AreWorkers setup begin vs
workers_again setup begin ws vs was e law = record {
  number = λ i v at. let h = number_at 0 vs i v (same_numbers_in ws vs e ∙ (in_order ws was.number ∙ ap (range_with_len 0) (sym long))) at in omega (arith, h);
  law = at_all (IsWorker setup begin) vs law;
}
  where
    long : length vs ≡ length ws
    long = sym (length-map vs fixed_in) ∙ (ap (λ (ps : List (ℕ × EndpointsIs)). length ps) e ∙ length-map ws fixed_in)

-- one more worker is made of its runner
pub fixed_more : (ws vs : List WorkerIs) (w : WorkerIs) (rs ss : List RunnerIs) (r : RunnerIs) (all : List (ℕ × EndpointsIs)) → vs ≡ ws ++ w ∷ [] → rs ≡ r ∷ ss → fixed_in w ≡ fixed_of r
    → map fixed_in ws ++ map fixed_of rs ≡ all → map fixed_in vs ++ map fixed_of ss ≡ all
fixed_more ws vs w rs ss r all e f same h =
    let front : map fixed_in vs ≡ map fixed_in ws ++ fixed_in w ∷ [] = ap (map fixed_in) e ∙ map-append fixed_in ws (w ∷ []) in
    let back : map fixed_of rs ≡ fixed_in w ∷ map fixed_of ss = ap (map fixed_of) f ∙ ap (λ p. p ∷ map fixed_of ss) (sym same) in
    ap (λ ps. ps ++ map fixed_of ss) front ∙ (append_assoc (map fixed_in ws) (fixed_in w ∷ []) (map fixed_of ss) ∙ (ap (λ ps. map fixed_in ws ++ ps) (sym back) ∙ h))

pub all_more : {X : Type 0} (P : X → Type 0) (xs ys : List X) (x : X) → ys ≡ xs ++ x ∷ [] → All P xs → P x → All P ys
all_more {X} P xs ys x e all p = let Q : List X → Type 0 = λ zs. All P zs in subst Q (sym e) (All-push P xs x all p)

pub all_rest : {X : Type 0} (P : X → Type 0) (xs ys : List X) (x : X) → xs ≡ x ∷ ys → All P xs → All P ys
all_rest {X} P xs ys x e all = let Q : List X → Type 0 = λ zs. All P zs in All-tail P x ys (subst Q e all)

-- what follows from two facts about the value, if there is one
pub both_ok : {X E : Type 0} (r : Result X E) (P Q S : X → Type 0) → ((x : X) → P x → Q x → S x) → IfOk r P → IfOk r Q → IfOk r S
both_ok (Ok x) P Q S f p q = f x p q
both_ok (Err e) P Q S f p q = tt
