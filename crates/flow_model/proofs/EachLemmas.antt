-- A run, worker by worker and lane by lane.
use Rattle.std.proofs.Common.{◌≡◌, ◌+◌, ℕ, zero, suc, List, [], ◌∷◌, length, Some, refl, ap, sym, subst, ◌∙◌, arith}
use Rattle.std.specs.Prelude.{⊤, option_map, slice_get}
use Rattle.keyed_state.specs.Counts.{Counts}
use Rattle.sink_journal.specs.declared.journal.Entry.{Entry}
use Rattle.std.specs.FinMap.{empty}
use Rattle.std.proofs.lemmas.List.{length-map}
use Rattle.std.proofs.lemmas.Option.{same_Some}
use Rattle.tuple_trace.specs.declared.row.Row.{Row}
use Rattle.flow_model.specs.Begin.{at_first}
use Rattle.flow_model.specs.Feeding.{feed_from}
use Rattle.flow_model.specs.Lanes.{lanes}
use Rattle.flow_model.specs.declared.topology.Lane.{Lane}
use Rattle.flow_model.specs.SetupView.{SetupView, Worker}
use Rattle.flow_model.specs.Replay.{shown}
use Rattle.flow_model.specs.Requests.{afters}
use Rattle.flow_model.specs.Run.{IsRun, IsWorked, Ran, put_by}
use Rattle.flow_model.specs.Workers.{workers_in}

-- it holds of each worker, with its counts at the beginning, its journal, and its counts at the end
abbrev pub OfEach : (Worker → Counts → List Entry → Counts → Type 0) → List Worker → List Counts → List (List Entry) → List Counts → Type 0
OfEach P [] counts journals states = ⊤
OfEach P (who ∷ workers_in) [] journals states = ⊥
OfEach P (who ∷ workers_in) (count ∷ counts) [] states = ⊥
OfEach P (who ∷ workers_in) (count ∷ counts) (journal ∷ journals) [] = ⊥
OfEach P (who ∷ workers_in) (count ∷ counts) (journal ∷ journals) (state ∷ states) = P who count journal state × OfEach P workers_in counts journals states

pub of_each-gets : (P : Worker → Counts → List Entry → Counts → Type 0) (workers_in : List Worker) (counts : List Counts) (journals : List (List Entry)) (states : List Counts) → OfEach P workers_in counts journals states
    → (w : ℕ) (who : Worker) (count : Counts) (journal : List Entry) (state : Counts)
    → slice_get workers_in w ≡ Some who → slice_get counts w ≡ Some count → slice_get journals w ≡ Some journal → slice_get states w ≡ Some state
    → P who count journal state
of_each-gets P [] counts journals states all w who count journal state p c j s = absurd (cc)
of_each-gets P (who' ∷ workers_in) [] journals states all w who count journal state p c j s = absurd all
of_each-gets P (who' ∷ workers_in) (count' ∷ counts) [] states all w who count journal state p c j s = absurd all
of_each-gets P (who' ∷ workers_in) (count' ∷ counts) (journal' ∷ journals) [] all w who count journal state p c j s = absurd all
of_each-gets P (who' ∷ workers_in) (count' ∷ counts) (journal' ∷ journals) (state' ∷ states) all zero who count journal state p c j s =
    let p' = same_Some who' who p in
    let c' = same_Some count' count c in
    let j' = same_Some journal' journal j in
    let s' = same_Some state' state s in
    subst (λ (x : Worker). P x count journal state) p' (
    subst (λ (x : Counts). P who' x journal state) c' (
    subst (λ (x : List Entry). P who' count' x state) j' (
    subst (λ (x : Counts). P who' count' journal' x) s' all.0)))
of_each-gets P (who' ∷ workers_in) (count' ∷ counts) (journal' ∷ journals) (state' ∷ states) all (suc w) who count journal state p c j s =
    of_each-gets P workers_in counts journals states all.1 w who count journal state p c j s

-- it holds of each lane, with its number, counted from this one
abbrev pub OfEachLane : (ℕ → Lane → Type 0) → ℕ → List Lane → Type 0
OfEachLane P n [] = ⊤
OfEachLane P n (lane ∷ lanes) = P n lane × OfEachLane P (suc n) lanes

of_each_lane-from : (P : ℕ → Lane → Type 0) (first : ℕ) (lanes : List Lane) → OfEachLane P first lanes → (n : ℕ) (lane : Lane) → slice_get lanes n ≡ Some lane → P (n + first) lane
of_each_lane-from P first [] all n lane is = absurd (cc)
of_each_lane-from P first (lane' ∷ lanes) all zero lane is =
    subst (λ (k : ℕ). P k lane) (omega arith) (subst (λ (x : Lane). P first x) (same_Some lane' lane is) all.0)
of_each_lane-from P first (lane' ∷ lanes) all (suc n) lane is =
    let there = of_each_lane-from P (suc first) lanes all.1 n lane is in
    subst (λ (k : ℕ). P k lane) (omega arith) there

pub of_each_lane-gets : (P : ℕ → Lane → Type 0) (lanes : List Lane) → OfEachLane P 0 lanes → (n : ℕ) (lane : Lane) → slice_get lanes n ≡ Some lane → P n lane
of_each_lane-gets P lanes all n lane is = subst (λ (k : ℕ). P k lane) (omega arith) (of_each_lane-from P 0 lanes all n lane is)

-- the worker's journal is finished, from the beginning of all on
abbrev pub Worked : SetupView → Worker → Counts → List Entry → Counts → Type 0
Worked setup who counts journal state = IsWorked setup (at_first setup) who counts journal state

-- what the lane shows is what was put on it
abbrev pub Conserved : List Row → Ran → ℕ → Lane → Type 0
Conserved rows ran n lane = option_map (shown ran.setup n) (slice_get ran.journals lane.receiver) ≡ put_by (at_first ran.setup) rows ran lane lane.sender

-- a record is a run where its feed is the one of its requests, each worker has worked, and each lane is tied
pub run-by_parts : (rows : List Row) (ran : Ran)
    → ran.feeds ≡ feed_from 0 0 (afters ran.setup.requests) (length rows)
    → length ran.journals ≡ length (workers_in ran.setup.job) → length ran.states ≡ length (workers_in ran.setup.job)
    → OfEach (Worked ran.setup) (workers_in ran.setup.job) (at_first ran.setup).states ran.journals ran.states
    → OfEachLane (Conserved rows ran) 0 (lanes ran.setup.job)
    → IsRun ran.setup rows ran
run-by_parts rows ran feed journals states worked conserved = record {
  setup_is = refl;
  run = record {
    feed = feed;
    one_start_each = length-map (workers_in ran.setup.job) (λ (who : Worker). empty);
    one_journal_each = journals;
    one_state_each = states;
    worked = of_each-gets (Worked ran.setup) (workers_in ran.setup.job) (at_first ran.setup).states ran.journals ran.states worked;
    conserved = λ n lane journal at in_place. sym (of_each_lane-gets (Conserved rows ran) (lanes ran.setup.job) conserved n lane at) ∙ ap (option_map (shown ran.setup n)) in_place;
  };
}
