-- Exact borders: in a run from the start, with a next part, and of no request.
use Rattle.std.proofs.Common.{◌≡◌, ◌∙◌, ◌<◌, ◌≤◌, ◌+◌, ◌-◌, ◌⊎◌, ℕ, zero, suc, List, [], inl, inr}
use Rattle.std.proofs.Common.{refl, sym, subst, ap, arith, drop, get_or, length, min, option_map}
use Rattle.std.proofs.Common.{All, IfSome, None, Some, Option, slice_get}
use Rattle.std.proofs.lemmas.Bool.{cases_lt}
use Rattle.std.proofs.lemmas.List.{get_or-drop, length-drop, length-take}
use Rattle.std.proofs.lemmas.List.Elements.{All-get_or}
use Rattle.std.proofs.lemmas.Option.{get_or_from_slice_get, slice_get-map, slice_get_within}
use Rattle.versions.specs.declared.request.Request.{Request}
use Rattle.tuple_trace.specs.declared.row.Row.{Row}
use Rattle.flow_model.specs.Requests.{afters, request_at}
use Rattle.flow_model.specs.Run.{IsRun, Ran}
use Rattle.flow_model.specs.Setup.{setup_view}
use Rattle.flow_model.specs.SetupView.{SetupView}
use Rattle.flow_model.specs.declared.setup.Setup.{Setup}
use Rattle.savepoint.proofs.CutLemmas.{request_first}
use Rattle.stream_law.specs.Stream.{IsNextPart, IsRunSoFar, RunPart, SoFar, with_part}
use Rattle.stream_law.specs.Border.{AreExactAfter, IsBorder}
use Rattle.stream_law.proofs.PartLemmas.{border_anew, border_first, border_stays}

-- ---- a request that there is

-- what holds of it holds if there is one
of_asked : (setup : SetupView) (request : ℕ) (P : Request → Type 0)
    → ((asked : Request) → request_at setup request ≡ Some asked → P asked)
    → IfSome (request_at setup request) P
of_asked setup request P holds = go (request_at setup request) refl
  where
    go : (o : Option Request) → request_at setup request ≡ o → IfSome o P
    go None e = tt
    go (Some asked) e = holds asked e

-- the requests are numbered from 1
asked_within : (setup : SetupView) (request : ℕ) (asked : Request) → request_at setup request
    ≡ Some asked → request ≤ length setup.requests
asked_within setup zero asked e = absurd (cc)
asked_within setup (suc place) asked e =
    let lt : place < length setup.requests = slice_get_within setup.requests place asked e in
    omega (arith, lt)

-- what holds of each row that a request after the first m waits for holds of this one's
wait_after : (P : ℕ → Type 0) (setup : SetupView) (m request : ℕ) (asked : Request) → m < request
    → request_at setup request ≡ Some asked → All P (drop m (afters setup.requests))
    → P asked.after
wait_after P setup m zero asked lt e all = absurd (cc)
wait_after P setup m (suc place) asked lt e all =
    let waits : List ℕ = afters setup.requests in
    let there : slice_get waits place ≡ Some asked.after =
    slice_get-map (λ (r : Request). r.after) setup.requests place
    ∙ ap (option_map (λ (r : Request). r.after)) e in
    let within : place < length waits = slice_get_within waits place asked.after there in
    let sum : m + (place - m) ≡ place = omega (arith, lt) in
    let is : get_or (drop m waits) (place - m) 0 ≡ asked.after =
    get_or-drop m waits (place - m) 0
    ∙ (ap (λ i. get_or waits i 0) sum ∙ get_or_from_slice_get waits place asked.after 0 there) in
    subst P is (All-get_or P (drop m waits) (place - m) 0
    (omega (arith, lt, within, length-drop m waits)) all)

-- ---- a next part

module _ (so_far : SoFar) (part : RunPart) (is : IsRunSoFar so_far) (next : IsNextPart so_far part)
  where
    abbrev setup : SetupView
    setup = setup_view part.setup

    abbrev m : ℕ
    m = length so_far.setup.requests

    abbrev n : ℕ
    n = length so_far.rows

    -- a request so far waits for none of the part's own rows, so its border stays exact
    exact_kept : (request : ℕ) (asked : Request) → 0 < request → request ≤ m
        → request_at setup request ≡ Some asked
        → IfSome (request_at so_far.setup request)
        (λ (asked : Request). IsBorder so_far.ran request (min asked.after n))
        → IsBorder (with_part so_far part).ran request (min asked.after (length part.rows))
    exact_kept request asked above le e was =
        let before : request_at so_far.setup request ≡ Some asked =
        ap (λ (o : SetupView). request_at o request) (sym next.requests_begin)
        ∙ (request_first setup m request le ∙ e) in
        let due : min asked.after (length part.rows) ≤ n =
        wait_after (λ after. min after (length part.rows) ≤ n) so_far.setup 0 request asked above
        before next.due in
        let more : n ≤ length part.rows =
        omega (arith, length-take n part.rows, ap length next.rows_begin) in
        let same : min asked.after n ≡ min asked.after (length part.rows) =
        omega (arith, due, more) in
        subst (IsBorder (with_part so_far part).ran request) same
        (border_stays so_far part is next request (min asked.after n) le (omega arith)
        (subst (λ (o : Option Request). IfSome o
        (λ (asked : Request). IsBorder so_far.ran request (min asked.after n))) before was))

    -- a new request waits at least for the last row so far
    exact_anew : (request : ℕ) (asked : Request) → length part.rows ≡ n → m < request
        → request_at setup request ≡ Some asked
        → IsBorder (with_part so_far part).ran request (min asked.after (length part.rows))
    exact_anew request asked none above e =
        let wait : n ≤ asked.after =
        wait_after (λ after. n ≤ after) setup m request asked above e next.wait in
        let same : n ≡ min asked.after (length part.rows) = omega (arith, none, wait) in
        subst (IsBorder (with_part so_far part).ran request) same
        (border_anew so_far part is next none request above)

    pub exact_next : (base : ℕ) → (length part.rows ≡ n) ⊎ (length setup.requests ≡ m)
        → AreExactAfter base so_far → AreExactAfter base (with_part so_far part)
    exact_next base alone were request above =
        of_asked setup request
        (λ asked. IsBorder (with_part so_far part).ran request
        (min asked.after (length part.rows)))
        (λ asked e. go asked e alone (cases_lt m request))
      where
        go : (asked : Request) → request_at setup request ≡ Some asked
            → (length part.rows ≡ n) ⊎ (length setup.requests ≡ m) → (m < request) ⊎ (request ≤ m)
            → IsBorder (with_part so_far part).ran request (min asked.after (length part.rows))
        go asked e alone (inr le) =
            exact_kept request asked (omega (arith, above)) le e (were request above)
        go asked e (inl none) (inl lt) = exact_anew request asked none lt e
        go asked e (inr none) (inl lt) =
            absurd (omega (arith, none, lt, asked_within setup request asked e))

-- ---- a run from the start

pub exact_first : (setup : Setup) (rows : List Row) (ran : Ran) → IsRun (setup_view setup) rows ran
    → (rows ≡ []) ⊎ ((setup_view setup).requests ≡ [])
    → AreExactAfter 0 (record { setup = setup_view setup; rows = rows; ran = ran })
exact_first setup rows ran is alone request above =
    of_asked (setup_view setup) request
    (λ asked. IsBorder ran request (min asked.after (length rows))) (λ asked e. go asked e alone)
  where
    go : (asked : Request) → request_at (setup_view setup) request ≡ Some asked
        → (rows ≡ []) ⊎ ((setup_view setup).requests ≡ [])
        → IsBorder ran request (min asked.after (length rows))
    go asked e (inl none) =
        let same : 0 ≡ min asked.after (length rows) = omega (arith, ap length none) in
        subst (IsBorder ran request) same
        (border_first setup ran
        (subst (λ (r : List Row). IsRun (setup_view setup) r ran) none is) request)
    go asked e (inr none) =
        let within = asked_within (setup_view setup) request asked e in
        absurd (omega (arith, above, ap length none, within))

-- ---- no request

pub exact_none : (so_far : SoFar) → AreExactAfter (length so_far.setup.requests) so_far
exact_none so_far request above =
    of_asked so_far.setup request
    (λ asked. IsBorder so_far.ran request (min asked.after (length so_far.rows)))
    (λ asked e. absurd (omega (arith, above, asked_within so_far.setup request asked e)))
