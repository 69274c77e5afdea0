-- A part of a stream goes on from all so far.
use Rattle.std.proofs.Common.{◌≡◌, ◌∙◌, ◌⊎◌, inl, inr, ◌≤◌, ◌+◌, ◌++◌, ℕ, zero, suc, List, []}
use Rattle.std.proofs.Common.{◌∷◌, All, Option, None, Some, drop, length, take, refl, sym, subst}
use Rattle.std.proofs.Common.{ap, arith, slice_get}
use Rattle.std.specs.Prelude.{IfSome}
use Rattle.std.proofs.lemmas.List.{append-nil, length-append, length-drop}
use Rattle.std.proofs.lemmas.List.{length-take-le, nil_from_length, take-append-drop}
use Rattle.std.proofs.lemmas.List.Elements.{All-append, All-drop}
use Rattle.cover_planner.specs.declared.cover.Plan.{Plan}
use Rattle.keyed_state.specs.Counts.{Counts}
use Rattle.jobs.specs.JobView.{JobView}
use Rattle.jobs.specs.Nodes.{AreFromSources, IsSourceOf}
use Rattle.tuple_trace.specs.Rows.{AreRows, IsRow}
use Rattle.tuple_trace.specs.declared.row.Row.{Row}
use Rattle.versions.specs.declared.request.Request.{Request}
use Rattle.flow_model.specs.Begin.{Begin, at_first}
use Rattle.flow_model.specs.Planned.{extended}
use Rattle.flow_model.specs.Requests.{afters}
use Rattle.flow_model.specs.Run.{IsRun, IsRunSince, Ran}
use Rattle.flow_model.specs.Setup.{setup_view}
use Rattle.flow_model.specs.SetupView.{SetupView}
use Rattle.flow_model.specs.declared.setup.Setup.{Setup}
use Rattle.flow_model.proofs.PlannedLemmas.{has_covers}
use Rattle.savepoint.specs.Parts.{start_of}
use Rattle.stream_law.specs.PartRun.{IsPartRun}
use Rattle.stream_law.specs.Stream.{IsNextPart, IsRunSoFar, RunPart, SoFar, with_part}
use Rattle.stream_law.specs.Border.{AreExactAfter}
use Rattle.stream_step.specs.Parts.{HasRun, IsBetweenRows, IsFirstRun, IsPartAfter, IsRunOn}
use Rattle.stream_step.specs.Parts.{first_part}
use Rattle.stream_step.specs.declared.stream.Stream.{Stream}
use Rattle.stream_step.proofs.PendingLemmas.{fed_due}

-- what the laws of parts say
abbrev pub RunsAreParts : Type 0
RunsAreParts =
    (so_far : SoFar) (others new : List Row) (requests : List Request) (plans : List Plan)
    (part : RunPart) → IsPartRun so_far others new requests plans part → IsNextPart so_far part

abbrev pub MoreIsRun : Type 0
MoreIsRun =
    (so_far : SoFar) (part : RunPart) → IsRunSoFar so_far → IsNextPart so_far part
    → IsRunSoFar (with_part so_far part)

-- what the law of borders says of parts between rows
abbrev pub PartsKeepBorders : Type 0
PartsKeepBorders =
    (base : ℕ) (so_far : SoFar) (part : RunPart) → IsRunSoFar so_far → IsNextPart so_far part
    → (length part.rows ≡ length so_far.rows)
    ⊎ (length (setup_view part.setup).requests ≡ length so_far.setup.requests)
    → AreExactAfter base so_far → AreExactAfter base (with_part so_far part)

abbrev pub FirstHasBorders : Type 0
FirstHasBorders =
    (setup : Setup) (rows : List Row) (ran : Ran) → IsRun (setup_view setup) rows ran
    → (rows ≡ []) ⊎ ((setup_view setup).requests ≡ []) → AreExactAfter 0 (first_part setup rows ran)

-- ---- rows

get_either : {A : Type 0} (P : ℕ → A → Type 0) (xs ys : List A)
    → ((i : ℕ) (x : A) → slice_get xs i ≡ Some x → P i x)
    → ((i : ℕ) (y : A) → slice_get ys i ≡ Some y → P (length xs + i) y)
    → (i : ℕ) (x : A) → slice_get (xs ++ ys) i ≡ Some x → P i x
get_either P [] ys f g i x e = (let k : 0 + i ≡ i = omega arith in subst (λ n. P n x) k (g i x e))
get_either P (a ∷ xs) ys f g zero x e = f zero x e
get_either P (a ∷ xs) ys f g (suc i) x e =
    get_either (λ n y. P (suc n) y) xs ys (λ n y h. f (suc n) y h)
    (λ n y h. (let k : length (a ∷ xs) + n ≡ suc (length xs + n) = omega arith in subst
    (λ m. P m y) k (g n y h))) i x e

pub get_beyond : {A : Type 0} (n i : ℕ) (xs : List A) → slice_get (drop n xs) i
    ≡ slice_get xs (n + i)
get_beyond zero i xs = (let k : i ≡ 0 + i = omega arith in ap (slice_get xs) k)
get_beyond (suc n) i [] = refl
get_beyond (suc n) i (x ∷ xs) =
    get_beyond n i xs ∙ (let k : suc (n + i) ≡ suc n + i = omega arith in ap (slice_get (x ∷ xs)) k)

pub rows_both : (xs ys : List Row) → AreRows xs → AreRows ys → AreRows (xs ++ drop (length xs) ys)
rows_both xs ys are more =
    get_either (λ n (r : Row). IsRow (n + 1) r) xs (drop (length xs) ys) are
    (λ i r e. more (length xs + i) r (sym (get_beyond (length xs) i ys) ∙ e))

-- ---- the part

-- all so far, which one run is, before a part that was run from its end
module _ (stream : Stream) (so_far : SoFar) (requests : List Request) (rows : List Row)
    (setup : Setup) (left : Ran) (has : HasRun stream so_far)
    (on : IsRunOn stream requests rows setup left) where
  row_is : stream.start.row ≡ length so_far.rows
  row_is = ap (λ (b : Begin). b.row) has.start_is

  one_each : length so_far.setup.plans ≡ length so_far.setup.requests
  one_each =
      subst (λ (s : SetupView). length s.plans ≡ length s.requests) (sym has.setup_is)
      (has_covers (setup_view stream.setup) stream.setup.planned).one_each

  due : All (λ after. after ≤ length so_far.rows) (afters so_far.setup.requests)
  due =
      subst (λ (s : SetupView). All (λ after. after ≤ length so_far.rows) (afters s.requests))
      (sym has.setup_is)
      (subst (λ k. All (λ after. after ≤ k) (afters stream.setup.judged.accepted)) row_is
      (fed_due stream.start.row stream.setup.judged.accepted stream.due))

  job_is : (setup_view setup).job ≡ so_far.setup.job
  job_is = ap (λ (s : SetupView). s.job) on.followed.extended_is
      ∙ ap (λ (s : SetupView). s.job) (sym has.setup_is)

  goes_on : IsRunSince (start_of (length so_far.rows) so_far.ran) (setup_view setup)
      (take (length so_far.rows) rows ++ drop (length so_far.rows) rows) left
  goes_on =
      subst (λ (r : List Row). IsRunSince (start_of (length so_far.rows) so_far.ran)
      (setup_view setup) r left) (sym (take-append-drop (length so_far.rows) rows))
      (subst (λ (b : Begin). IsRunSince b (setup_view setup) rows left) has.start_is on.run)

  abbrev new_part : RunPart
  new_part =
      record { setup = setup; rows = so_far.rows ++ drop (length so_far.rows) rows; left = left }

  part_run : IsPartRun so_far (take (length so_far.rows) rows)
      (drop (length so_far.rows) rows) requests on.followed.plans new_part
  part_run = record {
    setup_is =
        on.followed.extended_is ∙ ap (λ (s : SetupView). extended s requests on.followed.plans)
        (sym has.setup_is);
    one_each = one_each;
    rows_are = refl;
    numbered = rows_both so_far.rows rows has.numbered on.numbered;
    as_many =
        length-take-le (length so_far.rows) rows
        (let w : stream.start.row ≤ length rows = on.within in omega (arith, row_is));
    due = due;
    wait = subst (λ k. All (λ after. k ≤ after) (afters requests)) row_is on.wait;
    goes_on = goes_on;
  }

  sources : AreFromSources (setup_view setup).job (so_far.rows ++ drop (length so_far.rows) rows)
  sources =
      subst (λ (j : JobView). AreFromSources j (so_far.rows ++ drop (length so_far.rows) rows))
      (sym job_is)
      (All-append (λ (r : Row). IsSourceOf so_far.setup.job r.source) so_far.rows
      (drop (length so_far.rows) rows) has.sources
      (All-drop (λ (r : Row). IsSourceOf so_far.setup.job r.source) (length so_far.rows) rows
      (subst (λ (s : SetupView). AreFromSources s.job rows) (sym has.setup_is) on.sources)))

  no_row : length rows ≡ length so_far.rows → length new_part.rows ≡ length so_far.rows
  no_row e = omega (
    arith,
    length-append so_far.rows (drop (length so_far.rows) rows),
    length-drop (length so_far.rows) rows,
    e,
  )

  no_request : requests ≡ []
      → length (setup_view setup).requests ≡ length so_far.setup.requests
  no_request e =
      ap (λ (s : SetupView). length s.requests) part_run.setup_is
      ∙ (ap (λ (l : List Request). length (so_far.setup.requests ++ l)) e
      ∙ ap (λ (l : List Request). length l) (append-nil so_far.setup.requests))

  pub part_after : RunsAreParts → MoreIsRun → PartsKeepBorders
      → (p : RunPart) × IsPartAfter so_far requests rows setup left p
  part_after parts more keep =
      let next : IsNextPart so_far new_part =
      parts so_far (take (length so_far.rows) rows) (drop (length so_far.rows) rows) requests
      on.followed.plans new_part part_run in (
        new_part,
        record {
          setup_is = refl;
          left_is = refl;
          plans = on.followed.plans;
          is_run = part_run;
          one_run = more so_far new_part has.run next;
          numbered = rows_both so_far.rows rows has.numbered on.numbered;
          sources = sources;
          borders = λ base between was. keep base so_far new_part has.run next
              (elim between [ inl e ↦ inl (no_row e) | inr e ↦ inr (no_request e) ]) was;
        },
      )

-- ---- the first part

at_same : (a b : SetupView) → a.job ≡ b.job → at_first a ≡ at_first b
at_same a b e = ap (λ (j : JobView). at_first (record a { job = j })) e

pub first_run : FirstHasBorders
    → (stream : Stream) (requests : List Request) (rows : List Row) (setup : Setup) (left : Ran)
    → stream.start ≡ at_first (setup_view stream.setup) → IsRunOn stream requests rows setup left
    → IsFirstRun requests setup rows left
first_run has_borders stream requests rows setup left first on =
    let job_is : (setup_view stream.setup).job ≡ (setup_view setup).job =
    sym (ap (λ (s : SetupView). s.job) on.followed.extended_is) in
    let run : IsRun (setup_view setup) rows left =
    subst (λ (b : Begin). IsRunSince b (setup_view setup) rows left)
    (first ∙ at_same (setup_view stream.setup) (setup_view setup) job_is) on.run in
    let none : stream.setup.judged.accepted ≡ [] =
    nil_from_length stream.setup.judged.accepted
    (sym stream.turned ∙ ap (λ (b : Begin). b.turned) first) in
    let requests_are : (setup_view setup).requests ≡ requests =
    ap (λ (s : SetupView). s.requests) on.followed.extended_is
    ∙ ap (λ (l : List Request). l ++ requests) none in
    record {
      run = run;
      borders = λ base between request above. has_borders setup rows left run
          (elim between [
            | inl e ↦ inl (nil_from_length rows e)
            | inr e ↦ inr (requests_are ∙ e)
          ]) request (omega (arith, above));
      numbered = on.numbered;
      sources = subst (λ (j : JobView). AreFromSources j rows) job_is on.sources;
    }

-- ---- where the stream goes on

abbrev begin_as : ℕ → ℕ → List Counts → Begin
begin_as row turned states = record { row = row; turned = turned; states = states }

-- borders that a part keeps exact, if the stream is
exact_after : (exact : Option ℕ) (fed : ℕ) (requests : List Request) (rows : List Row)
    (old new : SoFar)
    → ((base : ℕ) → IsBetweenRows fed requests rows → AreExactAfter base old
    → AreExactAfter base new) → IfSome exact (λ base. IsBetweenRows fed requests rows)
    → IfSome exact (λ base. AreExactAfter base old)
    → IfSome exact (λ base. AreExactAfter base new)
exact_after None fed requests rows old new borders between was = tt
exact_after (Some base) fed requests rows old new borders between was = borders base between was

-- the same of the first part, before which there are none
pub exact_first : (exact : Option ℕ) (requests : List Request) (setup : Setup) (rows : List Row)
    (left : Ran) → IsFirstRun requests setup rows left
    → IfSome exact (λ base. IsBetweenRows 0 requests rows)
    → IfSome exact (λ base. AreExactAfter base (first_part setup rows left))
exact_first None requests setup rows left is between = tt
exact_first (Some base) requests setup rows left is between = is.borders base between

pub goes_on_after : (stream : Stream) (so_far : SoFar) (requests : List Request) (rows : List Row)
    (next : Stream) (left : Ran) (part : RunPart) → HasRun stream so_far
    → IsPartAfter so_far requests rows next.setup left part
    → length so_far.rows ≤ length rows → next.start ≡ start_of (length rows) left → left.setup
    ≡ setup_view next.setup → next.exact ≡ stream.exact
    → IfSome stream.exact (λ base. IsBetweenRows stream.start.row requests rows)
    → HasRun next (with_part so_far part)
goes_on_after stream so_far requests rows next left part has after le start_is setup_is exact_is
    between =
    let same : setup_view part.setup ≡ setup_view next.setup = ap setup_view after.setup_is in
    let rest : length so_far.rows + length (drop (length so_far.rows) rows) ≡ length rows =
    omega (arith, length-drop (length so_far.rows) rows, le) in
    let row_is : stream.start.row ≡ length so_far.rows =
    ap (λ (b : Begin). b.row) has.start_is in
    let count : length part.rows ≡ length rows =
    ap (λ (r : List Row). length r) after.is_run.rows_are
    ∙ (length-append so_far.rows (drop (length so_far.rows) rows) ∙ rest) in
    record {
      run = after.one_run;
      numbered = after.numbered;
      sources = after.sources;
      setup_is = same;
      start_is =
          start_is
          ∙ (ap (λ k. start_of k left) (sym count)
          ∙ (ap (λ (r : Ran). begin_as (length part.rows) (length left.setup.requests) r.states)
          (sym after.left_is)
          ∙ ap (λ (s : SetupView). begin_as (length part.rows) (length s.requests) part.left.states)
          (setup_is ∙ sym same)));
      exact =
          subst (λ (e : Option ℕ). IfSome e (λ base. AreExactAfter base (with_part so_far part)))
          (sym exact_is)
          (exact_after stream.exact (length so_far.rows) requests rows so_far
          (with_part so_far part) after.borders
          (subst (λ k. IfSome stream.exact (λ base. IsBetweenRows k requests rows)) row_is between)
          has.exact);
    }
