-- What a program has after it has run a part makes it a next part.
use Rattle.std.proofs.Common.{◌≡◌, ◌∙◌, ◌≤◌, ◌++◌, ℕ, zero, suc, List, [], ◌∷◌, refl, sym, subst, ap, arith, All, drop, length, min, take}
use Rattle.std.proofs.lemmas.List.{length-append, length-map, map-append}
use Rattle.cover_planner.specs.declared.cover.Plan.{Plan}
use Rattle.tuple_trace.specs.declared.row.Row.{Row}
use Rattle.versions.specs.declared.request.Request.{Request}
use Rattle.flow_model.specs.SetupView.{SetupView}
use Rattle.flow_model.specs.Requests.{afters}
use Rattle.flow_model.proofs.ElementLemmas.{all_of_at, at_of_all}
use Rattle.flow_model.specs.Setup.{setup_view}
use Rattle.savepoint.specs.Parts.{first_of, start_of}
use Rattle.stream_law.specs.PartRun.{IsPartRun}
use Rattle.stream_law.specs.Stream.{IsNextPart, RunPart, SoFar}
use Rattle.stream_law.proofs.ExtendedLemmas.{first_extended}
use Rattle.stream_law.proofs.BeforeLemmas.{run_of_others}

take_append : {A : Type 0} (n : ℕ) (xs ys : List A) → n ≡ length xs → take n (xs ++ ys) ≡ xs
take_append zero [] ys e = refl
take_append zero (x ∷ xs) ys e = absurd (omega (arith, e))
take_append (suc n) [] ys e = absurd (omega (arith, e))
take_append (suc n) (x ∷ xs) ys e = ap (λ l. x ∷ l) (take_append n xs ys (omega (arith, e)))

drop_append : {A : Type 0} (n : ℕ) (xs ys : List A) → n ≡ length xs → drop n (xs ++ ys) ≡ ys
drop_append zero [] ys e = refl
drop_append zero (x ∷ xs) ys e = absurd (omega (arith, e))
drop_append (suc n) [] ys e = absurd (omega (arith, e))
drop_append (suc n) (x ∷ xs) ys e = drop_append n xs ys (omega (arith, e))

pub part_run_is_next : (so_far : SoFar) (others new : List Row) (requests : List Request) (plans : List Plan) (part : RunPart) → IsPartRun so_far others new requests plans part → IsNextPart so_far part
part_run_is_next so_far others new requests plans part is =
    let n : ℕ = length so_far.rows in
    let m : ℕ = length so_far.setup.requests in
    let s : SetupView = setup_view part.setup in
    let waits : drop m (afters s.requests) ≡ afters requests =
    ap (λ (o : SetupView). drop m (afters o.requests)) is.setup_is
    ∙ (ap (drop m) (map-append (λ (request : Request). request.after) so_far.setup.requests requests)
    ∙ drop_append m (afters so_far.setup.requests) (afters requests) (sym (length-map so_far.setup.requests (λ (request : Request). request.after)))) in
    let same : length part.rows ≡ length (others ++ new) = omega (arith, ap length is.rows_are, length-append so_far.rows new, length-append others new, is.as_many) in
    let behind : drop n part.rows ≡ drop n (others ++ new) =
    ap (drop n) is.rows_are ∙ (drop_append n so_far.rows new refl ∙ sym (drop_append n others new (sym is.as_many))) in
    record {
      numbered = is.numbered;
      rows_begin = ap (take n) is.rows_are ∙ take_append n so_far.rows new refl;
      requests_begin = ap (λ (o : SetupView). first_of o m) is.setup_is ∙ first_extended so_far.setup requests plans is.one_each;
      due = all_of_at (λ after. min after (length part.rows) ≤ n) (afters so_far.setup.requests) (λ x i. (let le : x ≤ n = at_of_all (λ after. after ≤ n) x (afters so_far.setup.requests) is.due i in omega arith));
      wait = subst (All (λ after. n ≤ after)) (sym waits) is.wait;
      goes_on = record {
        setup_is = is.goes_on.setup_is;
        run = run_of_others (start_of n so_far.ran) (others ++ new) part.rows part.left same behind is.goes_on.run;
      };
    }
