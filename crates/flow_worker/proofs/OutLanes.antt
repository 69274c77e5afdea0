-- The lanes out of a worker, edge by edge.
use Rattle.std.proofs.Common.{◌≡◌, ◌≢◌, ◌==◌, ℕ, zero, suc, List, [], ◌∷◌, ◌++◌, Bool, true, false, map, filter, Option, Some, refl, sym, ap, ◌∙◌, arith}
use Rattle.std.specs.Prelude.{slice_get, if◌then◌else◌}
use Rattle.std.specs.List.{enumerate_from, flat_map}
use Rattle.std.proofs.lemmas.Bool.{eq-eqb, eqb-false, eqb-true}
use Rattle.std.proofs.lemmas.List.Elements.{filter-append}
use Rattle.std.proofs.lemmas.List.{append-nil}
use Rattle.std.proofs.lemmas.Option.{same_Some}
use Rattle.flow_dag.specs.declared.edge.Edge.{Edge}
use Rattle.jobs.specs.JobView.{JobView}
use Rattle.flow_model.specs.Lanes.{is_sender, lanes_out, senders}
use Rattle.flow_model.specs.Topology.{lanes_along}
use Rattle.flow_model.specs.declared.topology.Lane.{Lane}
use Rattle.flow_model.specs.SetupView.{Worker}
use Rattle.flow_model.specs.Workers.{workers_in, workers_at_node}
use Rattle.flow_model.proofs.ElementLemmas.{in_of_place, same_place}
use Rattle.flow_model.proofs.LaneLemmas.{lanes_from, sender_is, sender_worker, senders_distinct}
use Rattle.flow_model.proofs.LaneNumbers.{sends}

-- ---- elements that pass a test

all-pass : {X A : Type 0} (test : A → Bool) (g : X → A) (xs : List X) → ((x : X) → test (g x) ≡ true) → filter test (map g xs) ≡ map g xs
all-pass test g [] passes = refl
all-pass test g (x ∷ xs) passes = rw (passes x) (ap (λ rest. g x ∷ rest) (all-pass test g xs passes))

none-passes : {X A : Type 0} (test : A → Bool) (g : X → A) (xs : List X) → ((x : X) → test (g x) ≡ false) → filter test (map g xs) ≡ []
none-passes test g [] fails = refl
none-passes test g (x ∷ xs) fails = rw (fails x) (none-passes test g xs fails)

-- of joined pieces none passes
no-piece : {X A : Type 0} (test : A → Bool) (f : X → List A) (xs : List X) → ((j : ℕ) (y : X) → slice_get xs j ≡ Some y → filter test (f y) ≡ []) → filter test (flat_map f xs) ≡ []
no-piece test f [] fails = refl
no-piece test f (x ∷ xs) fails = filter-append test (f x) (flat_map f xs) ∙ (rw (fails 0 x refl) (no-piece test f xs (λ j y there. fails (suc j) y there)))

-- of joined pieces one passes whole and no other does
one-piece : {X A : Type 0} (test : A → Bool) (f : X → List A) (xs : List X) (k : ℕ) (x : X) → slice_get xs k ≡ Some x → filter test (f x) ≡ f x
    → ((j : ℕ) (y : X) → slice_get xs j ≡ Some y → j ≢ k → filter test (f y) ≡ []) → filter test (flat_map f xs) ≡ f x
one-piece test f [] k x there passes fails = absurd (cc)
one-piece test f (y ∷ xs) zero x there passes fails =
    let same : y ≡ x = same_Some y x there in
    let rest : filter test (flat_map f xs) ≡ [] = no-piece test f xs (λ j z at. fails (suc j) z at (λ e. absurd (omega (arith, e)))) in
    filter-append test (f y) (flat_map f xs) ∙ (rw (rest, same, passes) (append-nil (f x)))
one-piece test f (y ∷ xs) (suc k) x there passes fails =
    let first : filter test (f y) ≡ [] = fails 0 y refl (λ e. absurd (omega (arith, e))) in
    filter-append test (f y) (flat_map f xs) ∙ (rw first (one-piece test f xs k x there passes (λ j z at ne. fails (suc j) z at (λ e. ne (omega (arith, e))))))

-- ---- the lanes of one sender along an edge

abbrev by : ℕ → Lane → Bool
by worker lane = is_sender worker lane.sender

mine : (job : JobView) (number : ℕ) (edge : Edge) (worker : ℕ) → filter (by worker) (lanes_from job number edge (Some worker)) ≡ lanes_from job number edge (Some worker)
mine job number edge worker =
    all-pass (by worker) (λ (who : Worker). record { edge = number; sender = Some worker; receiver = who.number }) (workers_at_node job edge.to) (λ who. eq-eqb worker worker refl)

others : (job : JobView) (number : ℕ) (edge : Edge) (worker : ℕ) (sender : Option ℕ) → is_sender worker sender ≡ false → filter (by worker) (lanes_from job number edge sender) ≡ []
others job number edge worker sender isnt = none-passes (by worker) (λ (who : Worker). record { edge = number; sender = sender; receiver = who.number }) (workers_at_node job edge.to) (λ who. isnt)

-- a worker sends on the edges of its node alone
along : (job : JobView) (w : ℕ) (who : Worker) (p : ℕ × Edge) → slice_get (workers_in job) w ≡ Some who
    → filter (by w) (lanes_along job p) ≡ (if p.1.from == who.node then lanes_from job p.0 p.1 (Some w) else [])
along job w who p there = go (p.1.from == who.node) refl
  where
    other : (j : ℕ) (sender : Option ℕ) → slice_get (senders job who.node) j ≡ Some sender → j ≢ who.place → (b : Bool) → is_sender w sender ≡ b → b ≡ false
    other j sender at ne true its =
        let here : slice_get (senders job who.node) j ≡ Some (Some w) = at ∙ ap Some (sender_is w sender its) in
        absurd (ne (same_place (Some w) j who.place (senders job who.node) (senders_distinct job who.node) here (sends job w who there)))
    other j sender at ne false isnt = refl

    away : p.1.from ≢ who.node → (j : ℕ) (sender : Option ℕ) → slice_get (senders job p.1.from) j ≡ Some sender → (b : Bool) → is_sender w sender ≡ b → b ≡ false
    away ne j sender at true its =
        let (other, here, number, node) = sender_worker job p.1.from w (in_of_place (Some w) (senders job p.1.from) j (at ∙ ap Some (sender_is w sender its))) in
        absurd (ne (sym node ∙ ap (λ (x : Worker). x.node) (same_Some other who (sym here ∙ there))))
    away ne j sender at false isnt = refl

    go : (b : Bool) → (p.1.from == who.node) ≡ b → filter (by w) (lanes_along job p) ≡ (if b then lanes_from job p.0 p.1 (Some w) else [])
    go true from =
        let e : p.1.from ≡ who.node = eqb-true p.1.from who.node from in
        one-piece (by w) (lanes_from job p.0 p.1) (senders job p.1.from) who.place (Some w) (rw e (sends job w who there)) (mine job p.0 p.1 w)
        (λ j sender at ne. others job p.0 p.1 w sender (other j sender (rw (← e) at) ne (is_sender w sender) refl))
    go false from =
        let e : p.1.from ≢ who.node = eqb-false p.1.from who.node from in
        no-piece (by w) (lanes_from job p.0 p.1) (senders job p.1.from) (λ j sender at. others job p.0 p.1 w sender (away e j sender at (is_sender w sender) refl))

out_of : (job : JobView) (w : ℕ) (who : Worker) (edges : List (ℕ × Edge)) → slice_get (workers_in job) w ≡ Some who
    → filter (by w) (flat_map (lanes_along job) edges) ≡ flat_map (λ (p : ℕ × Edge). lanes_from job p.0 p.1 (Some w)) (filter (λ (p : ℕ × Edge). p.1.from == who.node) edges)
out_of job w who [] there = refl
out_of job w who (p ∷ edges) there =
    filter-append (by w) (lanes_along job p) (flat_map (lanes_along job) edges) ∙ (rw (along job w who p there) (go (p.1.from == who.node) (out_of job w who edges there)))
  where
    go : (b : Bool) → filter (by w) (flat_map (lanes_along job) edges) ≡ flat_map (λ (p : ℕ × Edge). lanes_from job p.0 p.1 (Some w)) (filter (λ (p : ℕ × Edge). p.1.from == who.node) edges)
        → (if b then lanes_from job p.0 p.1 (Some w) else []) ++ filter (by w) (flat_map (lanes_along job) edges)
        ≡ flat_map (λ (p : ℕ × Edge). lanes_from job p.0 p.1 (Some w)) (if b then p ∷ filter (λ (p : ℕ × Edge). p.1.from == who.node) edges else filter (λ (p : ℕ × Edge). p.1.from == who.node) edges)
    go true later = ap (λ rest. lanes_from job p.0 p.1 (Some w) ++ rest) later
    go false later = later

-- the lanes out of a worker are its rows along the edges of its node
pub lanes_out-rows : (job : JobView) (w : ℕ) (who : Worker) → slice_get (workers_in job) w ≡ Some who
    → lanes_out job w ≡ flat_map (λ (p : ℕ × Edge). lanes_from job p.0 p.1 (Some w)) (filter (λ (p : ℕ × Edge). p.1.from == who.node) (enumerate_from 0 job.edges))
lanes_out-rows job w who there = out_of job w who (enumerate_from 0 job.edges) there
