-- Plans, one more at a time.
use Rattle.std.proofs.Common.{◌≡◌, ◌⊎◌, ◌<◌, ◌^◌, ◌+◌, ◌++◌, ◌==◌, ◌≤◌, ◌↔◌, ℕ, zero, suc, inl, inr, true, false, Bool, take, List, [], ◌∷◌, length, Option, Some, None, refl, sym, ap, subst, ◌∙◌, arith}
use Rattle.std.specs.Prelude.{◌&&◌, ◌||◌, All, nat_le, slice_get, IsTrue, if◌then◌else◌}
use Rattle.std.specs.List.{list_any}
use Rattle.std.proofs.lemmas.Bool.{and_parts, cases_lt, eq-eqb, eqb-true, or_cases, or_left, or_right}
use Rattle.std.proofs.lemmas.List.{length_push, take-append-le, take_all}
use Rattle.std.proofs.lemmas.List.Elements.{All-cons, All-head, All-nil, All-tail}
use Rattle.std.proofs.lemmas.List.Folds.{list_any-append}
use Rattle.std.proofs.lemmas.Option.{slice_get_within}
use Rattle.cover_planner.specs.declared.cover.Plan.{Plan}
use Rattle.versions.specs.declared.request.Change.{Change}
use Rattle.versions.specs.declared.request.Request.{Request}
use Rattle.versions.specs.Judging.{is_like, leaves_once, may_replace}
use Rattle.versions.proofs.KeptLemmas.{are_like}
use Rattle.versions.specs.Kept.{KeepKinds, KeepsKind}
use Rattle.cover_planner.specs.Members.{IsMember}
use Rattle.flow_dag.specs.Edges.{HasEdge}
use Rattle.jobs.proofs.RoleLemmas.{kind_row}
use Rattle.jobs.specs.Nodes.{IsSourceOf, fan_out, is_fixed, is_free, is_replicate, is_source, is_source_node, is_split}
use Rattle.jobs.specs.declared.func.Func.{Func}
use Rattle.jobs.specs.declared.func.NodeDef.{NodeDef}
use Rattle.flow_dag.proofs.MaskLemmas.{Has-none}
use Rattle.flow_dag.specs.Masks.{Has, has}
use Rattle.cover_planner.specs.Plan.{IsPlan}
use Rattle.jobs.specs.JobView.{JobView}
use Rattle.versions.specs.Book.{is_named}
use Rattle.flow_model.specs.SetupView.{SetupView, setup_view_of, splits_of}
use Rattle.flow_model.proofs.ElementLemmas.{IsIn, any_in, at_of_all, in_any, in_of_place}
use Rattle.flow_model.proofs.PlaceLemmas.{append_get, get_left}
use Rattle.flow_model.proofs.WorkerLemmas.{item_at}
use Rattle.flow_model.specs.Planned.{ArePlansFrom, ArePlansOf, IsExactFor, IsPlanOf, IsPlanned, copies_at, extended, is_made_split, is_named_by, is_planned, is_replicate_node, is_split_node, makes_split, may_become_split, names_node, splits_at}

pushed-before : {A : Type 0} (xs : List A) (x : A) (k : ℕ) → k < length xs → slice_get (xs ++ x ∷ []) k ≡ slice_get xs k
pushed-before xs x k lt = let r = item_at xs k lt in get_left xs (x ∷ []) k r.0 r.1 ∙ sym r.1

pushed-last : {A : Type 0} (xs : List A) (x : A) (k : ℕ) → k ≡ length xs → slice_get (xs ++ x ∷ []) k ≡ Some x
pushed-last xs x k e =
    let z : length xs + 0 ≡ k = omega (arith, e) in
    subst (λ (m : ℕ). slice_get (xs ++ x ∷ []) m ≡ Some x) z (append_get xs (x ∷ []) 0 x refl)

-- ---- the set that is planned

in_take : {A : Type 0} (n : ℕ) (xs : List A) (x : A) → IsIn x (take n xs) → IsIn x xs
in_take zero xs x i = absurd i
in_take (suc n) [] x i = absurd i
in_take (suc n) (y ∷ xs) x (inl e) = inl e
in_take (suc n) (y ∷ xs) x (inr i) = inr (in_take n xs x i)

take_in : {A : Type 0} (n k : ℕ) (xs : List A) (x : A) → k < n → slice_get xs k ≡ Some x → IsIn x (take n xs)
take_in zero k xs x lt g = absurd (omega arith)
take_in (suc n) k [] x lt g = absurd (cc)
take_in (suc n) zero (y ∷ xs) x lt g = inl (let e : y ≡ x = cc in sym e)
take_in (suc n) (suc k) (y ∷ xs) x lt g = inr (take_in n k xs x (omega arith) g)

-- one more request changes nothing for the earlier ones
planned-before : (ordered : Bool) (requests : List Request) (request : Request) (r node : ℕ) → r < length requests
    → is_planned ordered (requests ++ request ∷ []) r node ≡ is_planned ordered requests r node
planned-before true requests request r node lt = ap (list_any (names_node node)) (take-append-le (r + 1) requests (request ∷ []) (omega arith))
planned-before false requests request r node lt = ap (λ o. is_named_by o node) (pushed-before requests request r lt)

-- what a request changes is planned for it, and for later ones where rows and requests have one order
planned_own : (ordered : Bool) (requests : List Request) (r node : ℕ) (request : Request) → slice_get requests r ≡ Some request → names_node node request ≡ true
    → is_planned ordered requests r node ≡ true
planned_own true requests r node request g h = in_any (names_node node) request (take (r + 1) requests) (take_in (r + 1) r requests request (omega arith) g) h
planned_own false requests r node request g h = rw g h

planned_later : (ordered : Bool) → ordered ≡ true → (requests : List Request) (s r node : ℕ) (request : Request) → s ≤ r → slice_get requests s ≡ Some request → names_node node request ≡ true
    → is_planned ordered requests r node ≡ true
planned_later true o requests s r node request le g h = in_any (names_node node) request (take (r + 1) requests) (take_in (r + 1) s requests request (omega arith) g) h
planned_later false o requests s r node request le g h = absurd (cc)

-- some request changes what is planned
planned_by : (ordered : Bool) (requests : List Request) (r node : ℕ) → is_planned ordered requests r node ≡ true → (request : Request) × IsIn request requests × (names_node node request ≡ true)
planned_by true requests r node h =
    let a = any_in (names_node node) (take (r + 1) requests) h in
    (a.0, in_take (r + 1) requests a.0 a.1, a.2)
planned_by false requests r node h = go (slice_get requests r) refl h
  where
    go : (o : Option Request) → slice_get requests r ≡ o → is_named_by o node ≡ true → (request : Request) × IsIn request requests × (names_node node request ≡ true)
    go None e h = absurd (cc)
    go (Some request) e h = (request, in_of_place request requests r e, h)

-- ---- one more plan

pub ArePlansFrom-push : (first : ℕ) (job : JobView) (splits : ℕ) (ordered : Bool) (requests : List Request) (plans : List Plan) (request : Request) (plan : Plan)
    → ArePlansFrom first job splits ordered requests plans → IsPlanOf job splits (is_planned ordered (requests ++ request ∷ []) (length requests)) plan
    → ArePlansFrom first job splits ordered (requests ++ request ∷ []) (plans ++ plan ∷ [])
ArePlansFrom-push first job splits ordered requests plans request plan are is = record {
  one_each = omega (arith, are.one_each, length_push plans plan, length_push requests request);
  each = λ r p from ep. elim (cases_lt r (length requests)) [
    | inl lt ↦
        let old : IsPlanOf job splits (is_planned ordered requests r) p = are.each r p from (sym (pushed-before plans plan r (omega (arith, are.one_each))) ∙ ep) in
        record { by = old.by; asked = λ node. rw (planned-before ordered requests request r node lt) (old.asked node) }
    | inr ge ↦
        let within : r < length (plans ++ plan ∷ []) = slice_get_within (plans ++ plan ∷ []) r p ep in
        let last : r ≡ length requests = omega (arith, length_push plans plan, are.one_each) in
        let same : Some plan ≡ Some p = sym (pushed-last plans plan r (omega (arith, are.one_each))) ∙ ep in
        let e : plan ≡ p = cc in
        subst (λ (k : ℕ). IsPlanOf job splits (is_planned ordered (requests ++ request ∷ []) k) p) (sym last)
        (subst (λ (x : Plan). IsPlanOf job splits (is_planned ordered (requests ++ request ∷ []) (length requests)) x) e is)
  ];
}

-- no plan is needed yet
pub ArePlansFrom-none : (job : JobView) (splits : ℕ) (ordered : Bool) (requests : List Request) (plans : List Plan) → length plans ≡ length requests → ArePlansFrom (length requests) job splits ordered requests plans
ArePlansFrom-none job splits ordered requests plans e = record {
  one_each = e;
  each = λ r p from ep. absurd (let within : r < length plans = slice_get_within plans r p ep in omega (arith, within, e, from));
}

-- masks that hold the same nodes are exact for the same setup
pub IsExactFor-like : (p q : ℕ → Bool) (setup : SetupView) → ((node : ℕ) → (IsTrue (p node) → IsTrue (q node)) × (IsTrue (q node) → IsTrue (p node))) → IsExactFor p setup → IsExactFor q setup
IsExactFor-like p q setup same is = record {
  splits = λ node. (λ h. (same node).0 ((is.splits node).0 h), λ h. (is.splits node).1 ((same node).1 h));
  plans = is.plans;
}

-- no node is spare
pub no_spare : (a : Bool) (node : ℕ) → (IsTrue (a || has 0 node) → IsTrue a) × (IsTrue a → IsTrue (a || has 0 node))
no_spare a node = (
  λ h. elim (or_cases a (has 0 node) h) [ inl own ↦ own | inr spare ↦ absurd (Has-none node (eqb-true _ _ spare)) ],
  λ own. or_left a (has 0 node) own,
)

-- the spare nodes are those that pass a test
pub spare_as : (a b : Bool) (mask node : ℕ) → Has mask node ↔ IsTrue b → (IsTrue (a || has mask node) → IsTrue (a || b)) × (IsTrue (a || b) → IsTrue (a || has mask node))
spare_as a b mask node is = (
  λ h. elim (or_cases a (has mask node) h) [ inl own ↦ or_left a b own | inr spare ↦ or_right a b (is.0 (eqb-true _ _ spare)) ],
  λ h. elim (or_cases a b h) [ inl own ↦ or_left a (has mask node) own | inr spare ↦ or_right a (has mask node) (eq-eqb _ _ (is.1 spare)) ],
)

-- no source may become a split
pub no_source_spare : (o : Option NodeDef) → is_source_node o ≡ true → may_become_split o ≡ true → ⊥
no_source_spare None is may = cc
no_source_spare (Some def) is may =
    let free = (and_parts (is_free def.func) (nat_le 2 def.roof) may).0 in
    let no : is_free def.func ≡ false = ((kind_row def.func).of_source is).free in
    absurd (cc)

-- the members of a plan do not depend on how its sets are told
members_alike : (E : ℕ → ℕ → Type 0) (asked splits copies others : ℕ → Type 0) (a : ℕ) → ((n : ℕ) → copies n → others n) → IsMember E asked splits copies a → IsMember E asked splits others a
members_alike E asked splits copies others a f (inl m) = inl m
members_alike E asked splits copies others a f (inr (inl m)) = inr (inl m)
members_alike E asked splits copies others a f (inr (inr m)) = inr (inr (f a m.0, m.1))

-- the planner's plan for the set of a request
pub IsPlanOf-plan : (job : JobView) (splits copies asked so_far changed : ℕ) (ordered : Bool) (requests : List Request) (request : Request) (plan : Plan)
    → ((n : ℕ) → Has copies n ↔ IsTrue (copies_at job.nodes n)) → IsPlan job.edges (Has splits) (Has copies) asked plan
    → asked ≡ (if ordered then so_far else changed)
    → ((node : ℕ) → Has so_far node ↔ IsTrue (list_any (names_node node) (requests ++ request ∷ [])))
    → ((node : ℕ) → Has changed node ↔ IsTrue (is_named request.changes node))
    → IsPlanOf job splits (is_planned ordered (requests ++ request ∷ []) (length requests)) plan
IsPlanOf-plan job splits copies asked so_far changed ordered requests request plan are is set all own = record {
  by = record {
    asks = refl;
    members = λ a. rw is.asks (
      λ h. members_alike (HasEdge job.edges) (Has asked) (Has splits) (Has copies) (λ n. IsTrue (copies_at job.nodes n)) a (λ n. (are n).0) ((is.members a).0 h),
      λ m. (is.members a).1 (members_alike (HasEdge job.edges) (Has asked) (Has splits) (λ n. IsTrue (copies_at job.nodes n)) (Has copies) a (λ n. (are n).1) m),
    );
    cover = is.cover;
  };
  asked = λ node. rw (is.asks, set) (by_mode ordered node);
}
  where
    by_mode : (o : Bool) (node : ℕ) → Has (if o then so_far else changed) node ↔ IsTrue (is_planned o (requests ++ request ∷ []) (length requests) node)
    by_mode true node = rw (take_all (length requests + 1) (requests ++ request ∷ []) (omega (arith, length_push requests request))) (all node)
    by_mode false node = rw (pushed-last requests request (length requests) refl) (own node)

-- ---- no source is a member

no_source_replaced : (node : NodeDef) (f : Func) (roof : ℕ) (once : Bool) → is_source node.func ≡ true → may_replace node.func f roof once ≡ true → ⊥
no_source_replaced node f roof once is may =
    let row = (kind_row node.func).of_source is in
    let p = and_parts (is_like node.func f || (is_free node.func && is_free f && once)) (nat_le (fan_out f) roof) may in
    elim (or_cases (is_like node.func f) (is_free node.func && is_free f && once) p.0) [
      | inl like ↦ let no : is_fixed node.func ≡ false = (are_like node.func f like).fixed in let yes : is_fixed node.func ≡ true = row.fixed in absurd (cc)
      | inr free ↦ let no : is_free node.func ≡ false = row.free in let yes : is_free node.func ≡ true = (and_parts (is_free node.func) (is_free f) (and_parts (is_free node.func && is_free f) once free).0).0 in absurd (cc)
    ]

no_source_split : (o : Option NodeDef) → is_source_node o ≡ true → is_split_node o ≡ true → ⊥
no_source_split None is split = cc
no_source_split (Some def) is split = let no : is_split def.func ≡ false = ((kind_row def.func).of_source is).pieces in absurd (cc)

no_source_copies : (o : Option NodeDef) → is_source_node o ≡ true → is_replicate_node o ≡ true → ⊥
no_source_copies None is copies = cc
no_source_copies (Some def) is copies = let no : is_replicate def.func ≡ false = ((kind_row def.func).of_source is).copies in absurd (cc)

-- a request that keeps the kinds of the job's functions changes no source
no_source_changed : (job : JobView) (change : Change) (node : ℕ) → change.node ≡ node → KeepsKind job change → IsSourceOf job node → ⊥
no_source_changed job change node at kept source = go (slice_get job.nodes node) refl source
  where
    go : (o : Option NodeDef) → slice_get job.nodes node ≡ o → is_source_node o ≡ true → ⊥
    go None is source = cc
    go (Some def) is source = no_source_replaced def change.func def.roof (leaves_once job.edges change.node) source (kept def (ap (slice_get job.nodes) at ∙ is))

module _ (job : JobView) (requests : List Request) (kept : KeepKinds job requests) where
  kept_in : (request : Request) (change : Change) → IsIn request requests → IsIn change request.changes → KeepsKind job change
  kept_in request change i j =
      at_of_all (KeepsKind job) change request.changes (at_of_all (λ (request : Request). All (KeepsKind job) request.changes) request requests kept i) j

  no_source_named : (node : ℕ) (request : Request) → IsIn request requests → names_node node request ≡ true → IsSourceOf job node → ⊥
  no_source_named node request i h source =
      let c = any_in (λ (c : Change). c.node == node) request.changes h in
      no_source_changed job c.0 node (eqb-true c.0.node node c.2) (kept_in request c.0 i c.1) source

  no_source_made : (node : ℕ) → is_made_split requests node ≡ true → IsSourceOf job node → ⊥
  no_source_made node h source =
      let r = any_in (λ (request : Request). list_any (makes_split node) request.changes) requests h in
      let c = any_in (makes_split node) r.0.changes r.2 in
      no_source_changed job c.0 node (eqb-true c.0.node node (and_parts (c.0.node == node) (is_split c.0.func) c.2).0) (kept_in r.0 c.0 r.1 c.1) source

  -- no source may make pieces of a tuple
  pub no_source_splits : (node : ℕ) → splits_at job.nodes requests node ≡ true → IsSourceOf job node → ⊥
  no_source_splits node splits source =
      elim (or_cases (is_split_node (slice_get job.nodes node)) (is_made_split requests node) splits) [
        | inl own ↦ no_source_split (slice_get job.nodes node) source own
        | inr made ↦ no_source_made node made source
      ]

  no_source_planned : (splits : ℕ) (ordered : Bool) (r : ℕ) (plan : Plan) (node : ℕ) → ((n : ℕ) → IsSourceOf job n → ¬ Has splits n)
      → IsPlanOf job splits (is_planned ordered requests r) plan → IsSourceOf job node → ¬ Has plan.members node
  no_source_planned splits ordered r plan node sources is source member = go ((is.by.members node).0 member)
    where
      go : IsMember (HasEdge job.edges) (Has plan.asked) (Has splits) (λ n. IsTrue (copies_at job.nodes n)) node → ⊥
      go (inl asked) =
          let q = planned_by ordered requests r node ((is.asked node).0 asked) in
          no_source_named node q.0 q.1 q.2 source
      go (inr (inl split)) = sources node source split.0
      go (inr (inr copy)) = no_source_copies (slice_get job.nodes node) source copy.0

pub IsPlanned-exact : (job : JobView) (requests : List Request) (plans : List Plan) (splits : ℕ) (ordered : Bool)
    → ((node : ℕ) → splits_at job.nodes requests node ≡ true → Has splits node) → ((node : ℕ) → IsSourceOf job node → ¬ Has splits node) → splits < 2 ^ length job.nodes
    → KeepKinds job requests → ArePlansOf job splits ordered requests plans
    → IsPlanned (setup_view_of job requests plans splits ordered)
IsPlanned-exact job requests plans splits ordered cover sources inside kept are = record {
  splits = cover;
  sources = sources;
  inside = inside;
  one_each = are.one_each;
  plans = λ r request plan eq ep. let is = are.each r plan (omega arith) ep in record { planned = is.by; asked = λ node h. (is.asked node).1 (planned_own ordered requests r node request eq h) };
  no_source = λ r node plan ep source. no_source_planned job requests kept splits ordered r plan node sources (are.each r plan (omega arith) ep) source;
  ordered = λ o s r request plan le eq ep node h. ((are.each r plan (omega arith) ep).asked node).1 (planned_later ordered o requests s r node request le eq h);
}

-- ---- a setup that is followed by later requests

pub All-front : {A : Type 0} (P : A → Type 0) (xs ys : List A) → All P (xs ++ ys) → All P xs
All-front P [] ys all = All-nil P
All-front P (x ∷ xs) ys all = All-cons P x xs (All-head P x (xs ++ ys) all) (All-front P xs ys (All-tail P x (xs ++ ys) all))

pub All-back : {A : Type 0} (P : A → Type 0) (xs ys : List A) → All P (xs ++ ys) → All P ys
All-back P [] ys all = all
All-back P (x ∷ xs) ys all = All-back P xs ys (All-tail P x (xs ++ ys) all)

get_front : {A : Type 0} (r : ℕ) (xs ys : List A) → r < length xs → slice_get (xs ++ ys) r ≡ slice_get xs r
get_front r [] ys lt = absurd (omega arith)
get_front zero (x ∷ xs) ys lt = refl
get_front (suc r) (x ∷ xs) ys lt = get_front r xs ys (omega arith)

pub IsPlanned-followed : (setup : SetupView) (later : List Request) (plans : List Plan) → IsPlanned setup → KeepKinds setup.job (setup.requests ++ later)
    → ((node : ℕ) → is_made_split later node ≡ true → Has (splits_of setup) node)
    → ArePlansFrom (length setup.requests) setup.job (splits_of setup) setup.ordered (setup.requests ++ later) (setup.plans ++ plans)
    → IsPlanned (extended setup later plans)
IsPlanned-followed setup later plans is kept made are = record {
  splits = λ node s. split_cases node (or_cases (is_split_node (slice_get setup.job.nodes node)) (is_made_split (setup.requests ++ later) node) s);
  sources = is.sources;
  inside = is.inside;
  one_each = are.one_each;
  plans = λ r request plan g h. elim (cases_lt r (length setup.requests)) [
    | inl lt ↦ is.plans r request plan (sym (get_front r setup.requests later lt) ∙ g) (sym (get_front r setup.plans plans (omega (arith, is.one_each, lt))) ∙ h)
    | inr ge ↦ let of = are.each r plan ge h in record { planned = of.by; asked = λ node n. (of.asked node).1 (planned_own setup.ordered (setup.requests ++ later) r node request g n) }
  ];
  no_source = λ r node plan h source. elim (cases_lt r (length setup.requests)) [
    | inl lt ↦ is.no_source r node plan (sym (get_front r setup.plans plans (omega (arith, is.one_each, lt))) ∙ h) source
    | inr ge ↦ no_source_planned setup.job (setup.requests ++ later) kept (splits_of setup) setup.ordered r plan node is.sources (are.each r plan ge h) source
  ];
  ordered = λ o s r request plan le g h node n. elim (cases_lt r (length setup.requests)) [
    | inl lt ↦ is.ordered o s r request plan le (sym (get_front s setup.requests later (omega (arith, lt, le))) ∙ g) (sym (get_front r setup.plans plans (omega (arith, is.one_each, lt))) ∙ h) node n
    | inr ge ↦ ((are.each r plan ge h).asked node).1 (planned_later setup.ordered o (setup.requests ++ later) s r node request le g n)
  ];
}
  where
    made_cases : (node : ℕ) → (is_made_split setup.requests node ≡ true) ⊎ (is_made_split later node ≡ true) → Has (splits_of setup) node
    made_cases node (inl e) = is.splits node (or_right (is_split_node (slice_get setup.job.nodes node)) (is_made_split setup.requests node) e)
    made_cases node (inr e) = made node e

    split_cases : (node : ℕ) → (is_split_node (slice_get setup.job.nodes node) ≡ true) ⊎ (is_made_split (setup.requests ++ later) node ≡ true) → Has (splits_of setup) node
    split_cases node (inl e) = is.splits node (or_left (is_split_node (slice_get setup.job.nodes node)) (is_made_split setup.requests node) e)
    split_cases node (inr e) =
        made_cases node (or_cases (is_made_split setup.requests node) (is_made_split later node)
        (sym (list_any-append (λ (request : Request). list_any (makes_split node) request.changes) setup.requests later) ∙ e))
