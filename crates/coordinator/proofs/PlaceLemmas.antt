-- The places of the lanes of the sources.
use Rattle.std.proofs.Common.{◌≡◌, ◌∙◌, ◌+◌, ◌-◌, ◌<◌, ◌≤◌, ℕ, zero, suc, List, [], ◌∷◌, ◌++◌, refl, sym, subst, ap, true, false, Bool, cond, arith, length, drop, filter, Option, None, Some, slice_get, append_assoc}
use Rattle.std.specs.Option.{option_map}
use Rattle.std.specs.List.{enumerate_from}
use Rattle.std.proofs.lemmas.Option.{same_Some, slice_get_within}
use Rattle.flow_dag.specs.declared.edge.Edge.{Edge}
use Rattle.jobs.specs.Law.{IsLawful}
use Rattle.jobs.specs.Nodes.{IsSourceOf}
use Rattle.jobs.specs.JobView.{JobView}
use Rattle.tuple_trace.specs.declared.tuple.Tuple.{Tuple}
use Rattle.flow_model.specs.Lanes.{first_on, is_same_sender, lane_along, lane_of, lanes, receiver_of, senders}
use Rattle.flow_model.specs.SetupView.{Worker}
use Rattle.flow_model.specs.Topology.{IsNumberOf}
use Rattle.flow_model.specs.declared.topology.Lane.{Lane}
use Rattle.flow_model.proofs.OutLanes.{lane_from_source}
use Rattle.coordinator.specs.Feeding.{fed_lanes, places_after, places_of}
use Rattle.coordinator.proofs.ListLemmas.{drop_at}

abbrev fed : Lane → Bool
fed lane = is_same_sender None lane.sender

-- one lane more
pub places_next : (all : List Lane) (ps : List ℕ) (k place now : ℕ) (lane : Lane) → ps ++ places_after place (drop k all) ≡ places_after 0 all → slice_get all k ≡ Some lane
    → now ≡ cond (is_same_sender None lane.sender) (suc place) place → (ps ++ place ∷ []) ++ places_after now (drop (k + 1) all) ≡ places_after 0 all
places_next all ps k place now lane so g is =
    let one : k + 1 ≡ suc k = omega arith in
    ap (λ n. (ps ++ place ∷ []) ++ places_after now (drop n all)) one
    ∙ (append_assoc ps (place ∷ []) (places_after now (drop (suc k) all))
    ∙ (ap (λ n. ps ++ place ∷ places_after n (drop (suc k) all)) is ∙ (ap (λ (l : List Lane). ps ++ places_after place l) (sym (drop_at all k lane g)) ∙ so)))

pub length_places : (k : ℕ) (all : List Lane) → length (places_after k all) ≡ length all
length_places k [] = refl
length_places k (lane ∷ more) = ap suc (length_places (cond (fed lane) (suc k) k) more)

-- the lane is at its place
at_place : (all : List Lane) (k n p : ℕ) (lane : Lane) → slice_get all n ≡ Some lane → fed lane ≡ true → slice_get (places_after k all) n ≡ Some p
    → (k ≤ p) × (slice_get (filter fed all) (p - k) ≡ Some lane)
at_place [] k n p lane g e h = absurd (cc)
at_place (l ∷ ls) k zero p lane g e h =
    let same : l ≡ lane = same_Some l lane g in
    let number : k ≡ p = same_Some k p h in
    let none : p - k ≡ 0 = omega (arith, number) in
    let first : fed l ≡ true = ap fed same ∙ e in
    (omega (arith, number), ap (λ (xs : List Lane). slice_get xs (p - k)) (ap (λ b. cond b (l ∷ filter fed ls) (filter fed ls)) first) ∙ (ap (slice_get (l ∷ filter fed ls)) none ∙ g))
at_place (l ∷ ls) k (suc n) p lane g e h = go (fed l) refl (λ from. at_place ls from n p lane g e)
  where
    go : (b : Bool) → fed l ≡ b → ((from : ℕ) → slice_get (places_after from ls) n ≡ Some p → (from ≤ p) × (slice_get (filter fed ls) (p - from) ≡ Some lane))
        → (k ≤ p) × (slice_get (filter fed (l ∷ ls)) (p - k) ≡ Some lane)
    go true f next =
        let r = next (suc k) (ap (λ b. slice_get (places_after (cond b (suc k) k) ls) n) (sym f) ∙ h) in
        let le = r.0 in
        let one : p - k ≡ suc (p - suc k) = omega (arith, le) in
        (omega (arith, le), ap (λ (xs : List Lane). slice_get xs (p - k)) (ap (λ b. cond b (l ∷ filter fed ls) (filter fed ls)) f) ∙ (ap (slice_get (l ∷ filter fed ls)) one ∙ r.1))
    go false f next =
        let r = next k (ap (λ b. slice_get (places_after (cond b (suc k) k) ls) n) (sym f) ∙ h) in
        (r.0, ap (λ (xs : List Lane). slice_get xs (p - k)) (ap (λ b. cond b (l ∷ filter fed ls) (filter fed ls)) f) ∙ r.1)

pub source_senders : (job : JobView) (source : ℕ) → IsSourceOf job source → senders job source ≡ None ∷ []
source_senders job source e = rw e refl

pub one_sender : (job : JobView) (source : ℕ) → IsSourceOf job source → 0 < length (senders job source)
one_sender job source e = subst (λ (l : List (Option ℕ)). 0 < length l) (sym (source_senders job source e)) (omega arith)

-- the feeder sends on the lane of a row
sent_by_feeder : (job : JobView) (out : Option (ℕ × Edge)) (t : Tuple) (lane : Lane) → lane_along job None out t ≡ Some lane → lane.sender ≡ None
sent_by_feeder job None t lane e = absurd (cc)
sent_by_feeder job (Some out) t lane e = go (receiver_of job out.1 t) e
  where
    go : (o : Option Worker) → option_map (λ (post : Worker). record { edge = out.0; sender = None; receiver = post.number }) o ≡ Some lane → lane.sender ≡ None
    go None e = absurd (cc)
    go (Some post) e = let same : record { edge = out.0; sender = None; receiver = post.number } ≡ lane = same_Some _ lane e in ap (λ (l : Lane). l.sender) (sym same)

-- what the topology finds for a row
pub row_number : (job : JobView) (source number : ℕ) (t : Tuple) → IsSourceOf job source
    → ((from : Option ℕ) → slice_get (senders job source) 0 ≡ Some from → IsNumberOf job (lane_of job from source 0 t) number) → IsNumberOf job (lane_of job None source 0 t) number
row_number job source number t e f = f None (ap (λ (l : List (Option ℕ)). slice_get l 0) (source_senders job source e))

pub number_there : (job : JobView) (places : List ℕ) (found : Option Lane) (number : ℕ) → places ≡ places_of job → IsNumberOf job found number → number < length places
number_there job places found number is (lane, e, g) =
    let long = ap (λ (l : List ℕ). length l) is in
    let all = length_places 0 (lanes job) in
    let lt = slice_get_within (lanes job) number lane g in
    omega (arith, long, all, lt)

pub place_found : (job : JobView) (places : List ℕ) (source number p : ℕ) (t : Tuple) → places ≡ places_of job → IsNumberOf job (lane_of job None source 0 t) number → slice_get places number ≡ Some p
    → (lane : Lane) × (lane_of job None source 0 t ≡ Some lane) × (slice_get (fed_lanes job) p ≡ Some lane)
place_found job places source number p t is (lane, e, g) at =
    let sender : lane.sender ≡ None = sent_by_feeder job (first_on source 0 (enumerate_from 0 job.edges)) t lane e in
    let r = at_place (lanes job) 0 number p lane g (ap (is_same_sender None) sender) (ap (λ (l : List ℕ). slice_get l number) (sym is) ∙ at) in
    let none : p - 0 ≡ p = omega arith in
    (lane, e, ap (slice_get (fed_lanes job)) (sym none) ∙ r.1)

pub no_lane : (job : JobView) (source : ℕ) (t : Tuple) → IsLawful job → IsSourceOf job source → ((from : Option ℕ) → lane_of job from source 0 t ≡ None) → ⊥
no_lane job source t law e f = lane_from_source job source t law e (f None)
