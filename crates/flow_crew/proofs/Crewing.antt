-- The workers are made one after another.
use Rattle.std.proofs.Common.{◌≡◌, ◌⊎◌, ◌∙◌, ◌==◌, ◌+◌, ◌-◌, ◌<◌, ℕ, drop, length-drop, zero, suc, List, [], ◌∷◌, ◌++◌, inl, inr, refl, sym, ap, subst, arith, length, map, Some, slice_get}
use Rattle.std.proofs.lemmas.Bool.{eqb-true}
use Rattle.std.proofs.lemmas.Option.{same_Some}
use Rattle.atomic_table.specs.Seated.{TableId}
use Rattle.control_box.specs.Endpoints.{OwnerIs, PosterIs, ShareBoxes}
use Rattle.jobs.specs.JobView.{JobView}
use Rattle.keyed_state.specs.Counts.{Counts}
use Rattle.flow_model.specs.Begin.{Begin, at_first}
use Rattle.flow_model.specs.Lanes.{lanes_in}
use Rattle.flow_model.specs.declared.topology.Lane.{Lane}
use Rattle.flow_model.specs.SetupView.{SetupView, Worker as WorkerOf}
use Rattle.flow_model.specs.Workers.{workers_in}
use Rattle.flow_model.proofs.ElementLemmas.{IsIn}
use Rattle.flow_model.proofs.LaneLemmas.{in_lanes_that}
use Rattle.flow_worker.specs.Endpoints.{LaneInIs}
use Rattle.flow_worker.specs.Parts.{endpoint_in, endpoint_out}
use Rattle.lane_core.specs.Lane.{EndpointIs}
use Rattle.flow_worker.specs.Worker.{IsWorker, WorkerIs, lane_numbers_in}
use Rattle.std.proofs.Common.{append-nil, append_assoc, length-append}
use Rattle.std.proofs.lemmas.List.{length-map, map-append}
use Rattle.flow_model.proofs.PlaceLemmas.{append_get}
use Rattle.flow_crew.specs.Sides.{SideIs, numbers_of, worker_side}

-- an item of a list with one item more: it was there, or it is the last one
pub get-more : {A : Type 0} (xs : List A) (i : ℕ) (y z : A) → slice_get (xs ++ y ∷ []) i ≡ Some z → (slice_get xs i ≡ Some z) ⊎ ((i ≡ length xs) × (z ≡ y))
get-more [] zero y z g = inr (refl, (let e : y ≡ z = cc in sym e))
get-more [] (suc i) y z g = absurd (cc)
get-more (x ∷ xs) zero y z g = inl g
get-more (x ∷ xs) (suc i) y z g = elim (get-more xs i y z g) [ inl a ↦ inl a | inr b ↦ inr (ap suc b.0, b.1) ]

-- with an item of which it holds too, it holds of each
pub placed_more : {A : Type 0} (P : ℕ → A → Type 0) (xs ys : List A) (y : A) → ys ≡ xs ++ y ∷ [] → ((k : ℕ) (x : A) → slice_get xs k ≡ Some x → P k x) → P (length xs) y
    → (k : ℕ) (x : A) → slice_get ys k ≡ Some x → P k x
placed_more P xs ys y same each is k x g = go (get-more xs k y x (ap (λ l. slice_get l k) (sym same) ∙ g))
  where
    go : (slice_get xs k ≡ Some x) ⊎ ((k ≡ length xs) × (x ≡ y)) → P k x
    go (inl h) = each k x h
    go (inr e) = subst (λ n. P n x) (sym e.0) (subst (P (length xs)) (sym e.1) is)

pub same_in : (ins : List LaneInIs) → numbers_of (map endpoint_in ins) ≡ lane_numbers_in ins
same_in [] = refl
same_in (a ∷ ins) = ap (λ l. a.number ∷ l) (same_in ins)

-- a number is in the lists of the lanes of one worker
one_receiver : (job : JobView) (n v w : ℕ) → IsIn n (lanes_in job v) → IsIn n (lanes_in job w) → v ≡ w
one_receiver job n v w a b =
    let (x, at_x, into_x) = in_lanes_that (λ (lane : Lane). lane.receiver == v) job n a in
    let (y, at_y, into_y) = in_lanes_that (λ (lane : Lane). lane.receiver == w) job n b in
    let same : x ≡ y = same_Some x y (sym at_x ∙ at_y) in
    sym (eqb-true x.receiver v into_x) ∙ (ap (λ (lane : Lane). lane.receiver) same ∙ eqb-true y.receiver w into_y)

-- a worker has the number of the worker into which its lanes lead
pub has_number : (setup : SetupView) (begin : Begin) (v : WorkerIs) (ends : List EndpointIs) (w : ℕ) → IsWorker setup begin v → map endpoint_in v.ins ≡ ends → numbers_of ends ≡ lanes_in setup.job w → v.number ≡ w
has_number setup begin v ends w law same are =
    go v.ins (law.placed.ins.some) (sym (same_in v.ins) ∙ (ap numbers_of same ∙ are)) law.placed.ins.are
  where
    go : (ins : List LaneInIs) → v.next < length ins → lane_numbers_in ins ≡ lanes_in setup.job w → lane_numbers_in ins ≡ lanes_in setup.job v.number → v.number ≡ w
    go [] lt a b = absurd (omega (arith, lt))
    go (x ∷ ins) lt a b = one_receiver setup.job x.number v.number w (subst (IsIn x.number) b (inl refl)) (subst (IsIn x.number) a (inl refl))

-- the side of the next worker stands at its number
pub next_side : (workers : List WorkerIs) (all its rest : List SideIs) (side : SideIs) → map worker_side workers ++ its ≡ all → its ≡ side ∷ rest
    → (length workers < length all) × (slice_get all (length workers) ≡ Some side)
next_side workers all its rest side are next =
    let long = length-map workers worker_side in
    let sum = length-append (map worker_side workers) its in
    let more = ap (λ (l : List SideIs). length l) next in
    let whole = ap (λ (l : List SideIs). length l) are in
    let at : slice_get all (length (map worker_side workers) + 0) ≡ Some side =
    ap (λ (l : List SideIs). slice_get l (length (map worker_side workers) + 0)) (sym are ∙ ap (λ l. map worker_side workers ++ l) next)
    ∙ append_get (map worker_side workers) (side ∷ rest) 0 side refl in
    let e : length (map worker_side workers) + 0 ≡ length workers = omega (arith, long) in
    (omega (arith, long, sum, more, whole), subst (λ n. slice_get all n ≡ Some side) e at)

-- one more worker is made of its side
pub side_made : (workers new : List WorkerIs) (worker : WorkerIs) (all its rest : List SideIs) (side : SideIs) → map worker_side workers ++ its ≡ all → its ≡ side ∷ rest → new ≡ workers ++ worker ∷ [] → worker_side worker ≡ side
    → map worker_side new ++ rest ≡ all
side_made workers new worker all its rest side are next pushed same =
    ap (λ ws. map worker_side ws ++ rest) pushed
    ∙ (ap (λ l. l ++ rest) (map-append worker_side workers (worker ∷ []))
    ∙ (append_assoc (map worker_side workers) (worker_side worker ∷ []) rest
    ∙ (ap (λ s. map worker_side workers ++ s ∷ rest) same ∙ (ap (λ l. map worker_side workers ++ l) (sym next) ∙ are))))

pub side_is : (worker : WorkerIs) (side : SideIs) → map endpoint_in worker.ins ≡ side.ins → map endpoint_out worker.outs ≡ side.outs → worker_side worker ≡ side
side_is worker side a b = λ i. record { ins = a i; outs = b i }

-- all sides are used
pub all_made : (workers : List WorkerIs) (all its : List SideIs) → map worker_side workers ++ its ≡ all → length its ≡ 0 → (length workers ≡ length all) × (map worker_side workers ≡ all)
all_made workers all [] are none =
    let long = length-map workers worker_side in
    let same : map worker_side workers ≡ all = sym (append-nil (map worker_side workers)) ∙ are in
    let whole = ap (λ (l : List SideIs). length l) same in
    (omega (arith, long, whole), same)
all_made workers all (x ∷ its) are none = absurd (omega (arith, none))

-- the beginning of all has the counts of each worker
pub first_has_all : (setup : SetupView) (start : Begin) → start ≡ at_first setup → length start.states ≡ length (workers_in setup.job)
first_has_all setup start is = ap (λ (b : Begin). length b.states) is ∙ length-map (workers_in setup.job) (λ (who : WorkerOf). _)

-- a poster more, and a worker more with the owner of the poster's box
pub share_more : (posters more : List PosterIs) (workers new : List WorkerIs) (poster : PosterIs) (worker : WorkerIs) → more ≡ posters ++ poster ∷ [] → new ≡ workers ++ worker ∷ [] → poster.within ≡ worker.owner.within
    → ShareBoxes posters (map (λ (w : WorkerIs). w.owner) workers) → ShareBoxes more (map (λ (w : WorkerIs). w.owner) new)
share_more posters more workers new poster worker boxed pushed same share =
    let of_poster : PosterIs → TableId = λ p. p.within in
    let of_owner : OwnerIs → TableId = λ o. o.within in
    let owner : WorkerIs → OwnerIs = λ w. w.owner in
    ap (map of_poster) boxed
    ∙ (map-append of_poster posters (poster ∷ [])
    ∙ (ap (λ l. l ++ poster.within ∷ []) share
    ∙ (ap (λ z. map of_owner (map owner workers) ++ z ∷ []) same
    ∙ (sym (map-append of_owner (map owner workers) (worker.owner ∷ []))
    ∙ (ap (map of_owner) (sym (map-append owner workers (worker ∷ [])))
    ∙ ap (λ ws. map of_owner (map owner ws)) (sym pushed))))))

-- the counts that are left begin with those of the next worker
pub next_counts : (all its rest : List Counts) (k : ℕ) (x : Counts) → its ≡ drop k all → its ≡ x ∷ rest → (slice_get all k ≡ Some x) × (rest ≡ drop (k + 1) all)
next_counts all its rest k x left next = go all k (sym left ∙ next)
  where
    go : (all : List Counts) (k : ℕ) → drop k all ≡ x ∷ rest → (slice_get all k ≡ Some x) × (rest ≡ drop (k + 1) all)
    go [] zero e = absurd (cc)
    go [] (suc k) e = absurd (cc)
    go (y ∷ all) zero e = let a : y ≡ x = cc in let b : all ≡ rest = cc in (ap Some a, sym b)
    go (y ∷ all) (suc k) e =
        let more = go all k e in
        let n : k + 1 ≡ suc k = omega arith in
        let m : suc k + 1 ≡ suc (suc k) = omega arith in
        (more.0, more.1 ∙ (ap (λ j. drop j all) n ∙ ap (λ j. drop j (y ∷ all)) (sym m)))

-- there are counts for the next worker
pub some_counts : (all its : List Counts) (k : ℕ) → its ≡ drop k all → k < length all → 0 < length its
some_counts all its k left lt = let a = ap length left in let b = length-drop k all in omega (arith, a, b, lt)
