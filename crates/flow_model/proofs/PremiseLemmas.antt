-- The premises of the laws of runs, met by the four payments.
use Rattle.std.proofs.Common.{IsTrue, ◌≡◌, ◌∙◌, ◌<◌, ◌≤◌, ◌+◌, ℕ, zero, suc, List, [], ◌∷◌, inl, inr, refl, sym, subst, ap, arith, lit<, lit≤, true, false, Bool, ◌&&◌, ◌||◌, ◌==◌, pos, replicate, Some, None, slice_get, slice_index}
use Rattle.std.proofs.lemmas.Bool.{and_parts, eqb-true}
use Rattle.std.proofs.lemmas.List.Elements.{All-from_recursion, All-nil}
use Rattle.std.proofs.lemmas.Option.{slice_get-get_or}
use Rattle.cover_planner.specs.Cover.{InOnePart, IsCoveredEdge, IsCoveredNode}
use Rattle.cover_planner.specs.Parts.{IsNumbered}
use Rattle.cover_planner.specs.Plan.{IsPlan}
use Rattle.cover_planner.specs.declared.cover.Plan.{Plan}
use Rattle.flow_dag.specs.Edges.{HasEdge, IsInside}
use Rattle.flow_dag.specs.Masks.{Has}
use Rattle.flow_dag.specs.Paths.{IsAcyclic, IsWalk, Leads, last_of}
use Rattle.flow_dag.specs.declared.edge.Edge.{Edge}
use Rattle.flow_dag.proofs.MaskLemmas.{Has-below, Has-none}
use Rattle.flow_dag.proofs.PathLemmas.{Reaches-steps}
use Rattle.jobs.specs.Law.{IsLawful, has_columns_of, has_ports_of, has_table_of}
use Rattle.jobs.specs.Limits.{HasLimits, most_roof_of, oversize, table_oversize}
use Rattle.jobs.specs.Names.{is_new_column, is_new_node}
use Rattle.jobs.specs.Nodes.{AreFromSources, fan_out, IsSourceOf, is_count, is_source_node, most_workers}
use Rattle.jobs.specs.Places.{EachPasses}
use Rattle.jobs.specs.Ports.{are_ports, has_ports}
use Rattle.jobs.specs.Weights.{weight_after}
use Rattle.jobs.specs.declared.func.NodeDef.{NodeDef}
use Rattle.jobs.specs.declared.table.Table.{Table}
use Rattle.tuple_trace.specs.Rows.{AreRows, IsRow}
use Rattle.tuple_trace.specs.declared.row.Row.{Row}
use Rattle.versions.specs.Book.{accepted, is_named}
use Rattle.versions.specs.Judged.{AreAccepted, judged_from}
use Rattle.versions.specs.Judging.{first_with}
use Rattle.versions.specs.declared.request.Request.{Request}
use Rattle.versions.proofs.KeptLemmas.{accepted-kept, accepted-order}
use Rattle.flow_model.specs.FourPayments.{chain, falls_after, filter_alone, four_payments, four_ran, four_setup, row_of}
use Rattle.flow_model.specs.OneTable.{HasNoCounts}
use Rattle.flow_model.specs.Planned.{IsPlanFor, IsPlanned, copies_at, is_made_split, splits_at}
use Rattle.flow_model.proofs.ExampleLemmas.{four-run}
use Rattle.flow_model.proofs.JobLemmas.{connected_by_rank}
use Rattle.flow_model.proofs.PlannedLemmas.{has_covers}
use Rattle.flow_model.proofs.RunLemmas.{Running}

abbrev E : ℕ → ℕ → Type 0
E = HasEdge chain.edges

-- ---- the job is lawful

each_edge : (i : ℕ) (edge : Edge) → slice_get chain.edges i ≡ Some edge → edge.from < edge.to
each_edge zero edge g = let e : ◌≡◌ {A = Edge} (record { from = 0; port = 0; to = 1 }) edge = cc in subst (λ (x : Edge). x.from < x.to) e (lit< tt)
each_edge (suc zero) edge g = let e : ◌≡◌ {A = Edge} (record { from = 1; port = 0; to = 2 }) edge = cc in subst (λ (x : Edge). x.from < x.to) e (lit< tt)
each_edge (suc (suc i)) edge g = absurd (cc)

edge_rises : (a b : ℕ) → E a b → a < b
edge_rises a b (i, edge, lt, at, (from, to)) =
    let up : edge.from < edge.to = each_edge i edge (slice_get-get_or chain.edges i edge lt ∙ ap Some at) in
    omega (arith, from, to)

walk_rises : (a : ℕ) (rest : List ℕ) → IsWalk E a rest → a ≤ last_of a rest
walk_rises a [] w = omega arith
walk_rises a (b ∷ rest) w = let lt = edge_rises a b w.0 in let le = walk_rises b rest w.1 in omega arith

acyclic : IsAcyclic E
acyclic a r =
    let (b, e, (rest, w, l)) = Reaches-steps E a a r in
    let lt = edge_rises a b e in
    let le = walk_rises b rest w in
    omega (arith, l)

limits : HasLimits chain
limits = record {
  nodes = (lit≤ tt, lit≤ tt);
  edges = lit≤ tt;
  columns = (lit≤ tt, lit≤ tt);
  workers = All-from_recursion (λ (node : NodeDef). (1 ≤ node.workers) × (node.workers ≤ most_workers node.func)) chain.nodes
      ((lit≤ tt, lit≤ tt), ((lit≤ tt, lit≤ tt), ((lit≤ tt, lit≤ tt), tt)));
  all_workers = lit≤ tt;
  entries = lit≤ tt;
  texts = All-nil (λ (table : Table). table_oversize table ≡ None);
  functions = All-from_recursion (λ (node : NodeDef). oversize node.func ≡ None) chain.nodes (refl, (refl, (refl, tt)));
  roofs = All-from_recursion (λ (node : NodeDef). (fan_out node.func ≤ node.roof) × (node.roof ≤ most_roof_of chain.nodes chain.edges node)) chain.nodes
      ((lit≤ tt, lit≤ tt), ((lit≤ tt, lit≤ tt), ((lit≤ tt, lit≤ tt), tt)));
}

-- each item passes the test, with its place
abbrev pass_from : {A : Type 0} → (ℕ → A → Bool) → ℕ → List A → Bool
pass_from test i [] = true
pass_from test i (x ∷ xs) = test i x && pass_from test (i + 1) xs

passes : {A : Type 0} (test : ℕ → A → Bool) (i : ℕ) (xs : List A) → pass_from test i xs ≡ true → (j k : ℕ) (x : A) → slice_get xs k ≡ Some x → j ≡ i + k → test j x ≡ true
passes test i [] h j k x g e = absurd (cc)
passes test i (y ∷ ys) h j zero x g e =
    let same : y ≡ x = cc in
    let at : i ≡ j = omega arith in
    subst (λ z. test j z ≡ true) same (subst (λ n. test n y ≡ true) at (and_parts (test i y) (pass_from test (i + 1) ys) h).0)
passes test i (y ∷ ys) h j (suc k) x g e = passes test (i + 1) ys (and_parts (test i y) (pass_from test (i + 1) ys) h).1 j k x g (omega arith)

each_passes : {A : Type 0} (test : ℕ → A → Bool) (xs : List A) → pass_from test 0 xs ≡ true → EachPasses test xs
each_passes test xs h i x g = passes test 0 xs h i i x g (omega arith)

pub four-lawful : IsLawful chain
unfolding are_ports has_ports weight_after
four-lawful = record {
  limits = limits;
  column_names = each_passes (is_new_column chain.columns) chain.columns refl;
  node_names = each_passes (is_new_node chain.nodes) chain.nodes refl;
  endpoints = All-from_recursion (IsInside 3) chain.edges ((lit< tt, lit< tt), ((lit< tt, lit< tt), tt));
  ports = each_passes (has_ports_of chain) chain.nodes refl;
  acyclic = acyclic;
  columns = each_passes (has_columns_of chain) chain.nodes refl;
  tables = each_passes (has_table_of chain) chain.nodes refl;
  weight = lit≤ tt;
}

-- ---- its rows are numbered, and come from its source

pub four-rows : AreRows four_payments
four-rows zero row g = let e : row_of 1 (pos 9999) ≡ row = cc in subst (IsRow 1) e (record { numbered = refl; unborn = refl; unissued = refl; unmoved = refl })
four-rows (suc zero) row g = let e : row_of 2 (pos 10000) ≡ row = cc in subst (IsRow 2) e (record { numbered = refl; unborn = refl; unissued = refl; unmoved = refl })
four-rows (suc (suc zero)) row g = let e : row_of 3 (pos 5000) ≡ row = cc in subst (IsRow 3) e (record { numbered = refl; unborn = refl; unissued = refl; unmoved = refl })
four-rows (suc (suc (suc zero))) row g = let e : row_of 4 (pos 12000) ≡ row = cc in subst (IsRow 4) e (record { numbered = refl; unborn = refl; unissued = refl; unmoved = refl })
four-rows (suc (suc (suc (suc i)))) row g = absurd (cc)

pub four-sources : AreFromSources chain four_payments
four-sources = All-from_recursion (λ (row : Row). IsSourceOf chain row.source) four_payments (refl, (refl, (refl, (refl, tt))))

pub four-no_counts : HasNoCounts chain
four-no_counts = All-from_recursion (λ (def : NodeDef). is_count def.func ≡ false) chain.nodes (refl, (refl, (refl, tt)))

-- ---- its request is accepted

pub four-accepted : AreAccepted chain four_setup.requests
unfolding judged_from first_with accepted
four-accepted = refl

-- ---- and has the planner's plan

filter_only : (a : ℕ) → Has 2 a → a ≡ 1
filter_only zero h = let e : ◌≡◌ {A = ℕ} 0 1 = h in absurd (omega arith)
filter_only (suc zero) h = refl
filter_only (suc (suc a)) h = let lt = Has-below 2 2 (suc (suc a)) (lit< tt) h in absurd (omega arith)

no_edge : (a b : ℕ) → ¬ IsCoveredEdge E (Has 2) a b
no_edge a b (from, to, path, f, t, leads, on) =
    let e : from ≡ to = filter_only from f ∙ sym (filter_only to t) in
    acyclic to (path, subst (λ v. Leads E v to path) e leads)

the_filter : (a : ℕ) → IsCoveredNode E (Has 2) a → Has 2 a
the_filter a (inl m) = m
the_filter a (inr (b, inl e)) = absurd (no_edge a b e)
the_filter a (inr (b, inr e)) = absurd (no_edge b a e)

outside : (a : ℕ) → a < 64 → ¬ Has 2 a → slice_index filter_alone.part a ≡ 255
outside zero lt n = refl
outside (suc zero) lt n = absurd (n refl)
outside (suc (suc a)) lt n = all_outside 62 a (omega arith)
  where
    all_outside : (n k : ℕ) → k < n → slice_index (replicate n 255) k ≡ 255
    all_outside zero k lt = absurd (omega arith)
    all_outside (suc n) zero lt = refl
    all_outside (suc n) (suc k) lt = all_outside n k (omega arith)

parts : IsNumbered (Has 2) (InOnePart E (Has 2)) filter_alone.part
parts = record {
  outside = outside;
  small = λ a h. let e = filter_only a h in rw e (lit< tt);
  same = λ a b h k.
      let e : a ≡ b = filter_only a h ∙ sym (filter_only b k) in
      ((λ same. ([], tt, e)), (λ joined. ap (slice_index filter_alone.part) e));
  least = λ a p h lt.
      let e : slice_index filter_alone.part a ≡ 0 = ap (slice_index filter_alone.part) (filter_only a h) in
      absurd (omega (arith, lt, e));
}

no_copies : (node : ℕ) → copies_at chain.nodes node ≡ true → ⊥
no_copies zero h = cc
no_copies (suc zero) h = cc
no_copies (suc (suc zero)) h = cc
no_copies (suc (suc (suc node))) h = cc

filter_plan : IsPlan chain.edges (Has 0) (λ (node : ℕ). IsTrue (copies_at chain.nodes node)) 2 filter_alone
filter_plan = record {
  asks = refl;
  members = λ a. ((λ h. inl h), (λ h. elim h [ inl m ↦ m | inr n ↦ elim n [ inl s ↦ absurd (Has-none a s.0) | inr c ↦ absurd (no_copies a c.0) ] ]));
  cover = record {
    covered = λ i. ((λ h. absurd (Has-none i h)), (λ h. absurd (no_edge h.0.from h.0.to h.2)));
    nodes = λ a. ((λ h. inl h), (λ h. the_filter a h));
    heads = λ a. ((λ h. (inl h, λ b e. no_edge b a e)), (λ h. the_filter a h.0));
    parts = parts;
  };
}

-- the request makes the filter no split
no_made : (node : ℕ) → is_made_split (falls_after 2 ∷ []) node ≡ true → ⊥
no_made node h = go (1 == node) h
  where
    go : (b : Bool) → ((b && false) || false) || false ≡ true → ⊥
    go true h = cc
    go false h = cc

no_splits : (node : ℕ) → splits_at chain.nodes (falls_after 2 ∷ []) node ≡ true → Has 0 node
no_splits zero h = absurd (no_made 0 h)
no_splits (suc zero) h = absurd (no_made 1 h)
no_splits (suc (suc zero)) h = absurd (no_made 2 h)
no_splits (suc (suc (suc node))) h = absurd (no_made (suc (suc (suc node))) h)

pub four-planned : IsPlanned four_setup
four-planned = record { splits = no_splits; sources = λ node source has. Has-none node has; inside = lit< tt; one_each = refl; plans = plans; no_source = no_source; ordered = λ o. absurd (cc) }
  where
    alone : (b : Bool) → b || false ≡ true → b ≡ true
    alone true e = refl
    alone false e = e

    asked : (node : ℕ) → is_named (falls_after 2).changes node ≡ true → Has 2 node
    asked zero h = absurd (cc)
    asked (suc zero) h = refl
    asked (suc (suc node)) h = let e : 1 ≡ suc (suc node) = eqb-true 1 (suc (suc node)) (alone (1 == suc (suc node)) h) in absurd (omega arith)

    plans : (r : ℕ) (request : Request) (plan : Plan) → slice_get four_setup.requests r ≡ Some request → slice_get four_setup.plans r ≡ Some plan → IsPlanFor chain 0 request plan
    plans zero request plan q p =
        let e : falls_after 2 ≡ request = cc in
        let f : filter_alone ≡ plan = cc in
        subst (λ (x : Request). IsPlanFor chain 0 x plan) e (subst (λ (x : Plan). IsPlanFor chain 0 (falls_after 2) x) f (record { planned = filter_plan; asked = asked }))
    plans (suc r) request plan q p = absurd (cc)

    no_source : (r node : ℕ) (plan : Plan) → slice_get four_setup.plans r ≡ Some plan → IsSourceOf chain node → ¬ Has plan.members node
    no_source zero node plan p source member =
        let f : filter_alone ≡ plan = cc in
        let e : node ≡ 1 = filter_only node (subst (λ (x : Plan). Has x.members node) (sym f) member) in
        let s : is_source_node (slice_get chain.nodes 1) ≡ true = subst (λ (n : ℕ). is_source_node (slice_get chain.nodes n) ≡ true) e source in
        absurd (cc)
    no_source (suc r) node plan p source member = absurd (cc)

-- ---- so the laws hold of it

pub four-running : Running four_payments four_ran
four-running = record {
  connected = connected_by_rank chain (λ node. node) four-lawful (λ node lt. lt) each_edge;
  kept = has_covers four_setup ∣ four-planned ∣₁;
  kinds = accepted-kept chain four_setup.requests four-accepted;
  order = accepted-order chain four_setup.requests four-accepted;
  rows_are = four-rows;
  run = four-run.run;
}
