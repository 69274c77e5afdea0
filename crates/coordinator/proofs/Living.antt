-- The law of a live feeder, and what its turn tells.
use Rattle.std.proofs.Common.{◌≡◌, ◌⊎◌, ◌∙◌, ◌-◌, ◌<◌, ◌≤◌, ℕ, suc, List, [], ◌++◌, inl, inr, refl, sym, subst, ap, true, arith, length, min, Some, slice_get}
use Rattle.std.specs.Prelude.{Contains, replicate}
use Rattle.std.proofs.lemmas.List.{length-map}
use Rattle.std.proofs.lemmas.Bool.{cases_lt}
use Rattle.std.proofs.lemmas.Option.{slice_get_within}
use Rattle.sink_journal.specs.declared.journal.Feed.{Feed}
use Rattle.sink_journal.specs.declared.journal.Feed.TheVariants.{Issued}
use Rattle.tuple_trace.specs.declared.row.Row.{Row}
use Rattle.versions.specs.declared.request.Request.{Request}
use Rattle.flow_model.specs.Begin.{Begin, at_first}
use Rattle.flow_model.specs.SetupView.{SetupView}
use Rattle.flow_model.specs.Requests.{afters}
use Rattle.flow_model.proofs.ElementLemmas.{IsIn, in_of_contains}
use Rattle.coordinator.specs.Boxes.{LastAtLeast, LoadedBelow}
use Rattle.coordinator.specs.Due.{HasHeard, IsDue, NoneIsDue}
use Rattle.coordinator.specs.Feeding.{IsFeeder, IsFeeding, issue_rows, waits}
use Rattle.coordinator.specs.Live.{AreHeard, AreNumbered, Hears, IsFromFirst, fed_in, released_rows}
use Rattle.coordinator.specs.Steps.{IsAhead, IsReached, Steps}
use Rattle.coordinator.specs.Turning.{IsFeederTurn, Waits}
use Rattle.coordinator.specs.Views.{BoxesIs, FeederIs}
use Rattle.lane_core.specs.Lane.{EndpointIs}
use Rattle.coordinator.specs.declared.feeding.FeedTurn.{FeedTurn}
use Rattle.coordinator.specs.declared.feeding.FeedTurn.TheVariants.{Idle}
use Rattle.coordinator.proofs.ListLemmas.{get_set_same}
use Rattle.coordinator.proofs.LiveLemmas.{at_released, at_replicate, get_released, get_unreleased}
use Rattle.coordinator.proofs.Starting.{new_feeder}
use Rattle.coordinator.proofs.Telling.{boxes_kept, begun_kept, done_stopped, ended_told, ends_kept, entries_told, fed_told, issued_told, moved_grew, posts_kept, starved}
use Rattle.coordinator.proofs.Loading.{loaded_unreleased, loads_once, not_shown, shown_released}
use Rattle.coordinator.proofs.Waiting.{issued_is, law_loads, law_unloads, plain, waits_plain}
use Rattle.coordinator.proofs.LiveSteps.{exist_kept, feeding_kept, first_kept, heard_kept, not_before_kept, released_kept, waiting}

-- ---- all of a live turn

abbrev with_loads : FeederIs → List ℕ → FeederIs
with_loads f loads = record f { loads = loads }

module _ (setup : SetupView) (rows : List Row) (released : ℕ) (old new : FeederIs) (turn : FeedTurn) (lo ln : List ℕ) (first : IsFromFirst old)
    (s : Steps setup (released_rows released (length rows) (afters setup.requests)) rows old new turn) (hears : Hears (length setup.requests) released lo ln) where
  -- the law of the feeder, without its loads
  pub plain_law : (begin : Begin) → IsFeeder true setup begin rows (with_loads old lo) → IsFeeding setup begin (plain setup rows old) rows old
  plain_law begin law =
      subst (λ xs. IsFeeding setup begin xs rows old) (waits_plain setup begin rows old first) (law_unloads setup begin rows (waits true setup (length rows) old) old lo law.feeding)

  first_next : (begin : Begin) → IsFeeder true setup begin rows (with_loads old lo) → IsFromFirst new
  first_next begin law = first_kept setup rows (waiting setup begin rows released) old new turn s (issued_is setup begin rows (plain setup rows old) old first (plain_law begin law)) first

  law_kept : (begin : Begin) → IsFeeder true setup begin rows (with_loads old lo) → IsFeeder true setup begin rows (with_loads new ln)
  law_kept begin law =
      let law' = plain_law begin law in
      let first' = first_next begin law in
      let now : waits true setup (length rows) new ≡ plain setup rows new = waits_plain setup begin rows new first' in
      let was : waits true setup (length rows) old ≡ plain setup rows old = waits_plain setup begin rows old first in
      record {
        feeding = law_loads setup begin rows (waits true setup (length rows) new) new ln (subst (λ xs. IsFeeding setup begin xs rows new) (sym now) (feeding_kept setup begin rows released old new first law' turn s));
        issued_exist = exist_kept setup begin rows released old new first law' turn s law.issued_exist;
        not_before = λ place after waited g h.
            not_before_kept setup begin rows released old new first law' turn s
            (λ p a w i j. law.not_before p a w i (ap (λ (l : List ℕ). slice_get l p) was ∙ j)) place after waited g (ap (λ (l : List ℕ). slice_get l place) (sym now) ∙ h);
        released = λ t lt r c. released_kept setup begin rows released old new first law' turn (length setup.requests) lo ln s hears (law.released refl) lt r c;
      }

  heard_next : (begin : Begin) → IsFeeder true setup begin rows (with_loads old lo) → AreHeard lo old.feeds → AreHeard ln new.feeds
  heard_next begin law heard = heard_kept setup begin rows released old new first (plain_law begin law) turn (length setup.requests) lo ln s hears (law.released refl) heard

  abbrev waited : List ℕ
  waited = released_rows released (length rows) (afters setup.requests)

  few : (k a : ℕ) → slice_get (afters setup.requests) k ≡ Some a → k < length setup.requests
  few k a g = let lt = slice_get_within (afters setup.requests) k a g in let e = length-map setup.requests (λ (request : Request). request.after) in omega (arith, lt, e)

  due_now : IsReached waited (length rows) old.row old.issued → IsDue true setup rows ln (with_loads old lo)
  due_now (b, g, le) =
      let at = at_released released (length rows) (afters setup.requests) old.issued b g in (
        at.0,
        at.1,
        elim at.2 [
          | inl p ↦ inl (shown_released (length setup.requests) released lo ln (suc old.issued) hears (omega arith) (let lt = p.0 in omega (arith, lt)), (let e = p.1 in omega (arith, e, le)))
          | inr p ↦ inr (let e = p.1 in omega (arith, e, le))
        ],
      )

  none_due : IsAhead waited (length rows) old.row old.issued → NoneIsDue true setup rows ln (with_loads old lo)
  none_due ahead a g = go (cases_lt old.issued released)
    where
      go : (old.issued < released) ⊎ (released ≤ old.issued) → (old.row < length rows) × (LastAtLeast (suc old.issued) ln → old.row < min a (length rows))
      go (inl lt) = let h = ahead a (get_released released (length rows) (afters setup.requests) old.issued a g lt) in (omega (arith, h), λ _. h)
      go (inr le) =
          let h = ahead (length rows) (get_unreleased released (length rows) (afters setup.requests) old.issued a g le) in
          (omega (arith, h), λ last. absurd (not_shown (length setup.requests) released old.issued lo ln hears (few old.issued a g) le last))

  has_heard : IsAhead waited (length rows) old.row old.issued → HasHeard setup rows (with_loads old lo) (with_loads new ln)
  has_heard ahead a g reached = go (cases_lt old.issued released)
    where
      go : (old.issued < released) ⊎ (released ≤ old.issued) → LoadedBelow (suc old.issued) lo ln
      go (inl lt) = let h = ahead a (get_released released (length rows) (afters setup.requests) old.issued a g lt) in absurd (omega (arith, h, reached))
      go (inr le) = loaded_unreleased (length setup.requests) released old.issued lo ln hears (few old.issued a g) le

live_waits : (setup : SetupView) (rows : List Row) (released : ℕ) (old new : FeederIs) (lo ln : List ℕ) (first : IsFromFirst old)
    → Steps setup (released_rows released (length rows) (afters setup.requests)) rows old new Idle → Hears (length setup.requests) released lo ln
    → (new.feeds ≡ old.feeds) × Waits true setup rows (with_loads old lo) (with_loads new ln)
live_waits setup rows released old new lo ln first (inl h) hears = let e = h.2 in absurd (cc)
live_waits setup rows released old new lo ln first (inr (inl h)) hears =
    (ap (λ f. f.feeds) h.2.4, inl (due_now setup rows released old new Idle lo ln first (inr (inl h)) hears h.1, h.2.0))
live_waits setup rows released old new lo ln first (inr (inr (inl h))) hears =
    let o : EndpointIs = h.3.2 in
    let s : Steps setup (released_rows released (length rows) (afters setup.requests)) rows old new Idle = inr (inr (inl h)) in (
      ap (λ f. f.feeds) h.3.8,
      inr (inl (
        h.3.0,
        h.3.1,
        h.3.4,
        none_due setup rows released old new Idle lo ln first s hears h.1,
        has_heard setup rows released old new Idle lo ln first s hears h.1,
        h.3.5,
        (o, record o { stalls = h.3.3 }, h.3.6, ap (λ f. slice_get f.outs h.3.1) h.3.8 ∙ get_set_same old.outs h.3.1 o (record o { stalls = h.3.3 }) h.3.6, h.3.7),
      )),
    )
live_waits setup rows released old new lo ln first (inr (inr (inr h))) hears =
    let o : EndpointIs = h.3.0 in
    let s : Steps setup (released_rows released (length rows) (afters setup.requests)) rows old new Idle = inr (inr (inr h)) in (
      ap (λ f. f.feeds) h.3.4,
      inr (inr (
        none_due setup rows released old new Idle lo ln first s hears h.1,
        h.2,
        slice_get_within old.outs old.ended o h.3.2,
        (o, record o { stalls = h.3.1 }, h.3.2, ap (λ f. slice_get f.outs old.ended) h.3.4 ∙ get_set_same old.outs old.ended o (record o { stalls = h.3.1 }) h.3.2, h.3.3),
      )),
    )

pub is_live_turn : (setup : SetupView) (rows : List Row) (released : ℕ) (old new : FeederIs) (turn : FeedTurn) (lo ln : List ℕ) → IsFromFirst old
    → Steps setup (released_rows released (length rows) (afters setup.requests)) rows old new turn → Hears (length setup.requests) released lo ln
    → IsFeederTurn true setup rows turn (record old { loads = lo }) (record new { loads = ln })
is_live_turn setup rows released old new turn lo ln first s hears =
    let xs : List ℕ = released_rows released (length rows) (afters setup.requests) in
    record {
      law = λ begin law. law_kept setup rows released old new turn lo ln first s hears begin law;
      endpoints = ends_kept setup xs rows old new turn s;
      boxes = boxes_kept setup xs rows old new turn s;
      begun = begun_kept setup xs rows old new turn s;
      loads = loads_once (length setup.requests) released lo ln hears;
      one_entry = entries_told setup xs rows old new turn s;
      issued = λ r e. let t = issued_told setup xs rows old new turn s r e in (due_now setup rows released old new turn lo ln first s hears t.0, t.1);
      unissued = posts_kept setup xs rows old new turn s;
      fed = λ r e. let t = fed_told setup xs rows old new turn s r e in (none_due setup rows released old new turn lo ln first s hears t, has_heard setup rows released old new turn lo ln first s hears t);
      ended = λ lt. none_due setup rows released old new turn lo ln first s hears (ended_told setup xs rows old new turn s lt);
      moved = λ e. moved_grew setup xs rows old new (subst (Steps setup xs rows old new) e s);
      idle = λ e. live_waits setup rows released old new lo ln first (subst (Steps setup xs rows old new) e s) hears;
      done = done_stopped setup xs rows old new turn s;
      no_memory = λ e. ap (λ (f : FeederIs). record f { loads = ln }) (starved setup xs rows old new (subst (Steps setup xs rows old new) e s));
    }

pub first_after : (setup : SetupView) (begin : Begin) (rows : List Row) (released : ℕ) (old new : FeederIs) (turn : FeedTurn) (loads : List ℕ) → IsFromFirst old
    → IsFeeder true setup begin rows (record old { loads = loads }) → Steps setup (released_rows released (length rows) (afters setup.requests)) rows old new turn → IsFromFirst new
first_after setup begin rows released old new turn loads first law s =
    let law' = subst (λ xs. IsFeeding setup begin xs rows old) (waits_plain setup begin rows old first) (law_unloads setup begin rows (waits true setup (length rows) old) old loads law.feeding) in
    first_kept setup rows (released_rows released (length rows) (afters setup.requests)) old new turn s (issued_is setup begin rows (plain setup rows old) old first law') first

pub heard_after : (setup : SetupView) (begin : Begin) (rows : List Row) (released : ℕ) (old new : FeederIs) (turn : FeedTurn) (lo ln : List ℕ) → IsFromFirst old
    → Steps setup (released_rows released (length rows) (afters setup.requests)) rows old new turn → Hears (length setup.requests) released lo ln
    → IsFeeder true setup begin rows (record old { loads = lo }) → AreHeard lo old.feeds → AreHeard ln new.feeds
heard_after setup begin rows released old new turn lo ln first s hears law heard = heard_next setup rows released old new turn lo ln first s hears begin law heard

-- ---- a new feeder

pub new_first : (fs : List Feed) (outs : List EndpointIs) (b : BoxesIs) (places : List ℕ) (row turned : ℕ) → fs ≡ [] → row ≡ 0 → turned ≡ 0 → IsFromFirst (new_feeder fs outs b places row turned)
new_first fs outs b places row turned none no_row none_turned = record {
  row_first = no_row;
  turned_first = none_turned;
  row_is = no_row ∙ sym (ap fed_in none);
  numbered = λ _. subst (AreNumbered 0 0) (sym none) tt;
}

nothing_held : (fs : List Feed) (r : ℕ) → fs ≡ [] → Contains fs (Issued r) → ⊥
nothing_held fs r none c = subst (IsIn (Issued r)) none (in_of_contains (Issued r) fs c)

-- the law of a new feeder, whose requests all wait for the last row
pub live_first : (setup : SetupView) (rows : List Row) (loads : List ℕ) (fs : List Feed) (outs : List EndpointIs) (b : BoxesIs) (places : List ℕ) (row turned : ℕ) → fs ≡ [] → row ≡ 0 → turned ≡ 0
    → IsFeeding setup (at_first setup) (replicate (length setup.requests) (length rows)) rows (new_feeder fs outs b places row turned)
    → IsFeeder true setup (at_first setup) rows (record (new_feeder fs outs b places row turned) { loads = loads })
live_first setup rows loads fs outs b places row turned none no_row none_turned law =
    let f : FeederIs = new_feeder fs outs b places row turned in
    let first : IsFromFirst f = new_first fs outs b places row turned none no_row none_turned in
    let all_left : length setup.requests - turned ≡ length setup.requests = omega (arith, none_turned) in
    let same : waits true setup (length rows) f ≡ replicate (length setup.requests) (length rows) =
    waits_plain setup (at_first setup) rows f first
    ∙ (ap (λ fs. issue_rows 0 fs ++ replicate (length setup.requests - turned) (length rows)) none
    ∙ ap (λ t. replicate t (length rows)) all_left) in
    record {
      feeding = law_loads setup (at_first setup) rows (waits true setup (length rows) f) f loads (subst (λ xs. IsFeeding setup (at_first setup) xs rows f) (sym same) law);
      issued_exist = omega (arith, none_turned);
      not_before = λ place after waited g h.
          (let e = at_replicate (length setup.requests) (length rows) place waited (ap (λ (l : List ℕ). slice_get l place) (sym same) ∙ h) in omega (arith, e));
      released = λ t lt r c. absurd (nothing_held fs r none c);
    }
