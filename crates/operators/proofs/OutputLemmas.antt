-- What is true of all outputs.
use Rattle.std.proofs.Common.{◌≡◌, ◌∙◌, ℕ, ◌+◌, ◌<◌, zero, suc, ap, refl, subst, List, [], ◌∷◌, ◌++◌, length, map, take, filter, Bool, true, false, Some, None, inl, inr, arith}
use Rattle.std.specs.Prelude.{if◌then◌else◌, int_le, pos, slice_get}
use Rattle.std.specs.List.{enumerate_from, list_all}
use Rattle.std.specs.Option.{option_map}
use Rattle.std.proofs.lemmas.List.{length-take}
use Rattle.std.proofs.lemmas.List.FromFn.{length-enumerate_from}
use Rattle.std.proofs.lemmas.Option.{slice_get-map, slice_get_within}
use Rattle.flow_dag.specs.declared.edge.Edge.{Edge}
use Rattle.tuple_trace.specs.declared.tuple.Tuple.{Tuple}
use Rattle.tuple_trace.specs.declared.tuple.Visit.{Visit}
use Rattle.keyed_state.specs.Counts.{Counts}
use Rattle.jobs.specs.declared.func.Cond.{Cond}
use Rattle.jobs.specs.declared.func.DedupeBy.{DedupeBy}
use Rattle.jobs.specs.declared.func.Func.{Func}
use Rattle.jobs.specs.declared.func.Func.TheVariants as func
use Rattle.jobs.specs.Places.{Each}
use Rattle.jobs.specs.Ports.{has_port, leaves}
use Rattle.jobs.specs.JobView.{JobView}
use Rattle.operators.specs.declared.output.Output.{Output}
use Rattle.operators.specs.Conditions.{meets}
use Rattle.operators.specs.Fields.{text_at}
use Rattle.operators.specs.Laws.{IsMadeOf, bare, bare_tuple, bare_visit}
use Rattle.operators.specs.Meaning.{born, met_after, outputs, piece_sent, sent}
use Rattle.operators.specs.Pieces.{pieces}

each_one : (P : ℕ → Output → Type 0) (x : Output) → P 0 x → (k : ℕ) (o : Output) → slice_get (x ∷ []) k ≡ Some o → P k o
each_one P x p zero o is = let same : x ≡ o = cc in subst (P 0) same p
each_one P x p (suc k) o is = cc

each_map : {A : Type 0} (P : ℕ → Output → Type 0) (f : A → Output) (xs : List A) → ((k : ℕ) (a : A) → slice_get xs k ≡ Some a → P k (f a)) → (k : ℕ) (o : Output) → slice_get (map f xs) k ≡ Some o → P k o
each_map P f [] h k o is = cc
each_map P f (x ∷ xs) h zero o is = let same : f x ≡ o = cc in subst (P 0) same (h 0 x refl)
each_map P f (x ∷ xs) h (suc k) o is = each_map (λ j. P (suc j)) f xs (λ j a e. h (suc j) a e) k o is

-- the k-th of the pieces that are numbered from n on
numbered : {A : Type 0} (n : ℕ) (xs : List A) (k : ℕ) (p : ℕ × A) → slice_get (enumerate_from n xs) k ≡ Some p → p.0 ≡ n + k
numbered n [] k p is = cc
numbered n (x ∷ xs) zero p is = let same : n ≡ p.0 = ap (λ o. elim o [ Some q ↦ q.0 | None ↦ n ]) is in omega arith
numbered n (x ∷ xs) (suc k) p is = let later : p.0 ≡ n + 1 + k = numbered (n + 1) xs k p is in omega arith

-- and it is one of the first
numbered-below : {A : Type 0} (most : ℕ) (xs : List A) (k : ℕ) (p : ℕ × A) → slice_get (enumerate_from 0 (take most xs)) k ≡ Some p → k < most
numbered-below most xs k p is =
    let within : k < length (enumerate_from 0 (take most xs)) = slice_get_within (enumerate_from 0 (take most xs)) k p is in
    omega (arith, length-enumerate_from 0 (take most xs), length-take most xs)

-- a filter's outputs, by whether the conditions hold and whether there is an edge on port 1
filter_made : (edges : List Edge) (visit : Visit) (conds : List Cond) (tuple : Tuple) (p q : Bool) → has_port edges visit.node 1 ≡ q → (k : ℕ) (o : Output) → slice_get (if p then sent visit 0 tuple ∷ [] else (if q then sent visit 1 tuple ∷ [] else [])) k ≡ Some o → IsMadeOf edges visit (func.Filter conds) tuple k o
filter_made edges visit conds tuple true q has =
    each_one (IsMadeOf edges visit (func.Filter conds) tuple) (sent visit 0 tuple) (record { row = refl; issued = refl; trace = refl; birth = refl; port = (refl, inl refl) })
filter_made edges visit conds tuple false true has =
    each_one (IsMadeOf edges visit (func.Filter conds) tuple) (sent visit 1 tuple) (record { row = refl; issued = refl; trace = refl; birth = refl; port = (refl, inr (refl, refl, has)) })
filter_made edges visit conds tuple false false has = λ k o is. cc

-- a dedupe's, by whether the tuple is the first of its key
dedupe_made : (edges : List Edge) (visit : Visit) (dedupe : DedupeBy) (tuple : Tuple) (first : Bool) (k : ℕ) (o : Output) → slice_get (if first then sent visit 0 tuple ∷ [] else []) k ≡ Some o → IsMadeOf edges visit (func.Dedupe dedupe) tuple k o
dedupe_made edges visit dedupe tuple true =
    each_one (IsMadeOf edges visit (func.Dedupe dedupe) tuple) (sent visit 0 tuple) (record { row = refl; issued = refl; trace = refl; birth = refl; port = (refl, inl refl) })
dedupe_made edges visit dedupe tuple false = λ k o is. cc

pub outputs_made : (job : JobView) (visit : Visit) (f : Func) (counts : Counts) (tuple : Tuple) → Each (IsMadeOf job.edges visit f tuple) (outputs job visit f counts tuple)
outputs_made job visit func.Source counts tuple = λ k o is. cc
outputs_made job visit (func.Filter conds) counts tuple = filter_made job.edges visit conds tuple (list_all (meets job.columns tuple.fields) conds) (has_port job.edges visit.node 1) refl
outputs_made job visit (func.Map steps) counts tuple =
    each_one (IsMadeOf job.edges visit (func.Map steps) tuple) _ (record { row = refl; issued = refl; trace = refl; birth = refl; port = (refl, inl refl) })
outputs_made job visit (func.Enrich lookup) counts tuple =
    each_one (IsMadeOf job.edges visit (func.Enrich lookup) tuple) _ (record { row = refl; issued = refl; trace = refl; birth = refl; port = (refl, inl refl) })
outputs_made job visit (func.Count count) counts tuple =
    each_one (IsMadeOf job.edges visit (func.Count count) tuple) _ (record { row = refl; issued = refl; trace = refl; birth = refl; port = (refl, inl refl) })
outputs_made job visit (func.Dedupe dedupe) counts tuple = dedupe_made job.edges visit dedupe tuple (int_le (met_after job.columns dedupe counts tuple) (pos 1))
outputs_made job visit (func.Clamp clamp) counts tuple =
    each_one (IsMadeOf job.edges visit (func.Clamp clamp) tuple) _ (record { row = refl; issued = refl; trace = refl; birth = refl; port = (refl, inl refl) })
outputs_made job visit (func.Split split) counts tuple =
    let all = pieces split.by (text_at job.columns tuple.fields split.on) in
    each_map (IsMadeOf job.edges visit (func.Split split) tuple) (piece_sent job.columns visit split.on tuple) (enumerate_from 0 (take split.most all)) (λ k piece is.
    let number : piece.0 ≡ k = numbered 0 (take split.most all) k piece is ∙ omega arith in
    record {
      row = refl;
      issued = refl;
      trace = refl;
      birth = ap (λ n. tuple.birth ++ n ∷ []) number;
      port = (numbered-below split.most all k piece is, refl);
    })
outputs_made job visit func.Replicate counts tuple =
    let outs = filter (leaves visit.node) job.edges in
    each_map (IsMadeOf job.edges visit func.Replicate tuple) (λ (e : Edge). sent visit e.port (born e.port tuple)) outs (λ k e is.
    record {
      row = refl;
      issued = refl;
      trace = refl;
      birth = refl;
      port = slice_get-map (λ (e : Edge). e.port) outs k ∙ ap (option_map (λ (e : Edge). e.port)) is;
    })
outputs_made job visit (func.Sink listed) counts tuple = λ k o is. cc

same_bare : {A : Type 0} (f g : A → Output) (xs : List A) → ((a : A) → bare (f a) ≡ bare (g a)) → map bare (map f xs) ≡ map bare (map g xs)
same_bare f g [] same = refl
same_bare f g (x ∷ xs) same = rw (same x, same_bare f g xs same) refl

filter_bare : (visit : Visit) (tuple : Tuple) (p q : Bool) → map bare (if p then sent visit 0 tuple ∷ [] else (if q then sent visit 1 tuple ∷ [] else [])) ≡ map bare (if p then sent (bare_visit visit) 0 (bare_tuple tuple) ∷ [] else (if q then sent (bare_visit visit) 1 (bare_tuple tuple) ∷ [] else []))
filter_bare visit tuple true q = refl
filter_bare visit tuple false true = refl
filter_bare visit tuple false false = refl

dedupe_bare : (visit : Visit) (tuple : Tuple) (first : Bool) → map bare (if first then sent visit 0 tuple ∷ [] else []) ≡ map bare (if first then sent (bare_visit visit) 0 (bare_tuple tuple) ∷ [] else [])
dedupe_bare visit tuple true = refl
dedupe_bare visit tuple false = refl

pub outputs_bare : (job : JobView) (visit : Visit) (f : Func) (counts : Counts) (tuple : Tuple) → map bare (outputs job visit f counts tuple) ≡ map bare (outputs job (bare_visit visit) f counts (bare_tuple tuple))
outputs_bare job visit func.Source counts tuple = refl
outputs_bare job visit (func.Filter conds) counts tuple = filter_bare visit tuple (list_all (meets job.columns tuple.fields) conds) (has_port job.edges visit.node 1)
outputs_bare job visit (func.Map steps) counts tuple = refl
outputs_bare job visit (func.Enrich lookup) counts tuple = refl
outputs_bare job visit (func.Count count) counts tuple = refl
outputs_bare job visit (func.Dedupe dedupe) counts tuple = dedupe_bare visit tuple (int_le (met_after job.columns dedupe counts tuple) (pos 1))
outputs_bare job visit (func.Clamp clamp) counts tuple = refl
outputs_bare job visit (func.Split split) counts tuple = same_bare _ _ (enumerate_from 0 (take split.most (pieces split.by (text_at job.columns tuple.fields split.on)))) (λ a. refl)
outputs_bare job visit func.Replicate counts tuple = same_bare _ _ (filter (leaves visit.node) job.edges) (λ a. refl)
outputs_bare job visit (func.Sink listed) counts tuple = refl
