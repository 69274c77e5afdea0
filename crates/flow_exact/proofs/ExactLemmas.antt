-- A part more keeps a run exact.
use Rattle.std.proofs.Common.{◌≡◌, ◌∙◌, ◌⊎◌, inl, inr, ◌≤◌, ◌++◌, ℕ, List, [], ◌∷◌, All, ap}
use Rattle.std.proofs.Common.{arith, drop, length, min, refl, subst, sym, take}
use Rattle.std.proofs.Math.Seq.{drop-append_seam, drop-length}
use Rattle.std.proofs.lemmas.List.{length-map, length-take-le, map-append}
use Rattle.std.proofs.lemmas.List.{take-take}
use Rattle.std.proofs.lemmas.List.Elements.{All-nil, All-push, All-weaker}
use Rattle.cover_planner.specs.declared.cover.Plan.{Plan}
use Rattle.tuple_trace.specs.Rows.{AreRows}
use Rattle.tuple_trace.specs.declared.row.Row.{Row}
use Rattle.versions.specs.declared.request.Request.{Request}
use Rattle.flow_model.specs.Planned.{extended}
use Rattle.flow_model.specs.Requests.{afters}
use Rattle.flow_model.specs.Run.{IsRun, IsRunSince, Ran}
use Rattle.flow_model.specs.Setup.{setup_view}
use Rattle.flow_model.specs.SetupView.{SetupView}
use Rattle.flow_model.specs.declared.setup.Setup.{Setup}
use Rattle.flow_model.proofs.PlannedLemmas.{has_covers}
use Rattle.savepoint.specs.Parts.{first_of, joined, start_of}
use Rattle.stream_law.specs.Stream.{IsNextPart, RunPart, SoFar}
use Rattle.stream_law.proofs.ExtendedLemmas.{first_extended}
use Rattle.stream_law.proofs.NextLemmas.{next_run}
use Rattle.stream_law.proofs.ExactLemmas.{exact_first, exact_next}
use Rattle.flow_exact.specs.inner.Course.{IsExactRun}
use Rattle.savepoint.proofs.PartsLemmas.{AreRows-take}

pub one_each : (setup : Setup) → length (setup_view setup).plans
    ≡ length (setup_view setup).requests
one_each setup = (has_covers (setup_view setup) setup.planned).one_each

-- ---- a next part

module _ (rows : List Row) (old : SetupView) (setup : Setup) (fed row : ℕ) (ran left : Ran)
    (numbered : AreRows rows) (was : IsExactRun rows old fed ran) (more : fed ≤ row)
    (within : row ≤ length rows)
    (begins : first_of (setup_view setup) (length old.requests) ≡ old)
    (wait : All (λ after. fed ≤ after)
    (drop (length old.requests) (afters (setup_view setup).requests)))
    (goes : IsRunSince (start_of fed ran) (setup_view setup) (take row rows) left) where
  abbrev so_far : SoFar
  so_far = record { setup = old; rows = take fed rows; ran = ran }

  abbrev part : RunPart
  part = record { setup = setup; rows = take row rows; left = left }

  fed_is : length (take fed rows) ≡ fed
  fed_is = length-take-le fed rows was.within

  row_is : length (take row rows) ≡ row
  row_is = length-take-le row rows within

  next : IsNextPart so_far part
  next = record {
    numbered = AreRows-take row rows numbered;
    rows_begin = ap (λ k. take k (take row rows)) fed_is ∙ take-take fed row rows more;
    requests_begin = begins;
    due =
        All-weaker (λ after. min after (length rows) ≤ fed)
        (λ after. min after (length (take row rows)) ≤ length (take fed rows))
        (λ after le. omega (arith, le, fed_is, row_is, within)) (afters old.requests) was.due;
    wait = subst (λ k. All (λ after. k ≤ after)
        (drop (length old.requests) (afters (setup_view setup).requests))) (sym fed_is) wait;
    goes_on = subst (λ k. IsRunSince (start_of k ran) (setup_view setup) (take row rows) left)
        (sym fed_is) goes;
  }

  -- a part has no row, or it issues no request
  pub exact_more : (row ≡ fed) ⊎ (length (setup_view setup).requests ≡ length old.requests)
      → All (λ after. min after (length rows) ≤ row) (afters (setup_view setup).requests)
      → IsExactRun rows (setup_view setup) row (joined (setup_view setup) ran left)
  exact_more alone due = record {
    within = within;
    run = next_run so_far part was.run next;
    exact =
        exact_next so_far part was.run next 0
        (elim alone [ inl e ↦ inl (row_is ∙ (e ∙ sym fed_is)) | inr e ↦ inr e ]) was.exact;
    due = due;
  }

-- ---- rows

-- a part that issues no request
pub exact_rows : (rows : List Row) (setup : Setup) (fed row : ℕ) (ran left : Ran) → AreRows rows
    → IsExactRun rows (setup_view setup) fed ran → fed ≤ row → row ≤ length rows
    → IsRunSince (start_of fed ran) (setup_view setup) (take row rows) left
    → IsExactRun rows (setup_view setup) row (joined (setup_view setup) ran left)
exact_rows rows setup fed row ran left numbered was more within goes =
    let s : SetupView = setup_view setup in
    let begins : first_of s (length s.requests) ≡ s =
    ap (λ (l : List Request). record s { requests = l; plans = take (length s.requests) s.plans })
    (take_whole s.requests)
    ∙ ap (λ (l : List Plan). record s { plans = l })
    (ap (λ k. take k s.plans) (sym (one_each setup)) ∙ take_whole s.plans) in
    let none : drop (length s.requests) (afters s.requests) ≡ [] =
    ap (λ k. drop k (afters s.requests)) (sym (length-map s.requests (λ (r : Request). r.after)))
    ∙ drop-length (afters s.requests) in
    exact_more rows s setup fed row ran left numbered was more within begins
    (subst (λ l. All (λ after. fed ≤ after) l) (sym none) (All-nil (λ after. fed ≤ after))) goes
    (inr refl)
    (All-weaker (λ after. min after (length rows) ≤ fed) (λ after. min after (length rows) ≤ row)
    (λ after le. omega (arith, le, more)) (afters s.requests) was.due)
  where
    take_whole : {A : Type 0} (xs : List A) → take (length xs) xs ≡ xs
    take_whole [] = refl
    take_whole (x ∷ xs) = ap (λ l. x ∷ l) (take_whole xs)

-- ---- a request

-- a part without a row that issues one request
pub exact_request : (rows : List Row) (setup grown : Setup) (fed : ℕ) (request : Request)
    (plan : Plan) (ran left : Ran) → AreRows rows → IsExactRun rows (setup_view setup) fed ran
    → fed ≡ min request.after (length rows)
    → setup_view grown ≡ extended (setup_view setup) (request ∷ []) (plan ∷ [])
    → IsRunSince (start_of fed ran) (setup_view grown) (take fed rows) left
    → IsExactRun rows (setup_view grown) fed (joined (setup_view grown) ran left)
exact_request rows setup grown fed request plan ran left numbered was border is goes =
    let s : SetupView = setup_view setup in
    let all_are : afters (setup_view grown).requests ≡ afters s.requests ++ request.after ∷ [] =
    ap (λ (o : SetupView). afters o.requests) is
    ∙ map-append (λ (r : Request). r.after) s.requests (request ∷ []) in
    let begins : first_of (setup_view grown) (length s.requests) ≡ s =
    ap (λ (o : SetupView). first_of o (length s.requests)) is
    ∙ first_extended s (request ∷ []) (plan ∷ []) (one_each setup) in
    let new : drop (length s.requests) (afters (setup_view grown).requests) ≡ request.after ∷ [] =
    ap (drop (length s.requests)) all_are
    ∙ (ap (λ k. drop k (afters s.requests ++ request.after ∷ []))
    (sym (length-map s.requests (λ (r : Request). r.after)))
    ∙ drop-append_seam (afters s.requests) (request.after ∷ [])) in
    let late : fed ≤ request.after = omega (arith, border) in
    let due : min request.after (length rows) ≤ fed = omega (arith, border) in
    exact_more rows s grown fed fed ran left numbered was (omega arith) was.within begins
    (subst (λ l. All (λ after. fed ≤ after) l) (sym new)
    (All-push (λ after. fed ≤ after) [] request.after (All-nil (λ after. fed ≤ after)) late)) goes
    (inl refl)
    (subst (λ l. All (λ after. min after (length rows) ≤ fed) l) (sym all_are)
    (All-push (λ after. min after (length rows) ≤ fed) (afters s.requests) request.after was.due
    due))

-- ---- the first part

-- it issues no request
pub exact_begun : (rows : List Row) (setup : Setup) (row : ℕ) (ran : Ran) → row ≤ length rows
    → (setup_view setup).requests ≡ [] → IsRun (setup_view setup) (take row rows) ran
    → IsExactRun rows (setup_view setup) row ran
exact_begun rows setup row ran within none run = record {
  within = within;
  run = run;
  exact = exact_first setup (take row rows) ran run (inr none);
  due = subst (λ (l : List Request). All (λ after. min after (length rows) ≤ row) (afters l))
      (sym none) (All-nil (λ after. min after (length rows) ≤ row));
}
