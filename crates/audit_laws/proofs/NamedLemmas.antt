-- A worker's names tell its number.
use Rattle.std.proofs.Common.{◌≡◌, ◌∙◌, ◌<◌, ◌≤◌, ◌+◌, ℕ, zero, suc, List, [], ◌∷◌, inl, inr, refl, sym, ap, subst, arith, true, false, Bool, cond, length, take, Some, slice_get}
use Rattle.std.specs.Prelude.{nat_eq, not}
use Rattle.std.specs.Cmp.Lexicographic.{pointwise}
use Rattle.std.specs.List.{list_any}
use Rattle.std.proofs.lemmas.Bool.{cases_lt, eq-eqb}
use Rattle.std.proofs.lemmas.Fmt.{decimal_injective}
use Rattle.std.proofs.lemmas.Option.{same_Some}
use Rattle.jobs.specs.Law.{IsLawful}
use Rattle.jobs.proofs.RoleLemmas.{kind_row}
use Rattle.jobs.specs.Nodes.{is_source, most_workers, worker_count, workers_of, workers_with}
use Rattle.jobs.specs.JobView.{JobView}
use Rattle.jobs.specs.declared.func.Func.{Func}
use Rattle.jobs.specs.declared.func.NodeDef.{NodeDef}
use Rattle.audit_laws.specs.Names.{Named, named_at, named_workers}
use Rattle.flow_model.proofs.ElementLemmas.{IsIn, at_of_all, in_any, in_of_place}
use Rattle.flow_model.proofs.WorkerLemmas.{get_append}
use Rattle.audit_laws.proofs.LineLemmas.{AreTold}
use Rattle.audit_laws.proofs.TextLemmas.{length-named_at}

-- ---- where a name stands

-- a name is that of a worker of a node: its number is that of the node's first worker and its place
pub record NameStands (nodes : List NodeDef) (w : ℕ) (x : Named) : Type 0 where
  pub at : ℕ
  pub def : NodeDef
  pub there : slice_get nodes at ≡ Some def
  pub node_is : x.node ≡ def.name
  pub within : x.place < workers_of def
  pub number : w ≡ worker_count (take at nodes) + x.place

named_get : (node : List ℕ) (place left k : ℕ) (x : Named) → slice_get (named_at node place left) k ≡ Some x → (x.node ≡ node) × (x.place ≡ place + k) × (k < left)
named_get node place zero k x g = absurd (cc)
named_get node place (suc left) zero x g =
    let e : ◌≡◌ {A = Named} (record { node = node; place = place }) x = same_Some (record { node = node; place = place }) x g in
    let p : place ≡ x.place = ap (λ (x : Named). x.place) e in
    (sym (ap (λ (x : Named). x.node) e), omega arith, omega arith)
named_get node place (suc left) (suc k) x g =
    let r = named_get node (place + 1) left k x g in
    let p = r.1 in
    let lt = r.2 in
    (r.0, omega arith, omega arith)

pub name_stands : (nodes : List NodeDef) (w : ℕ) (x : Named) → slice_get (named_workers nodes) w ≡ Some x → NameStands nodes w x
name_stands [] w x g = absurd (cc)
name_stands (def ∷ nodes) w x g =
    elim (get_append (named_at def.name 0 (workers_of def)) (named_workers nodes) w x g) [
      | inl a ↦
          let r = named_get def.name 0 (workers_of def) w x a in
          let p = r.1 in
          let lt = r.2 in
          record { at = 0; def = def; there = refl; node_is = r.0; within = omega arith; number = omega arith }
      | inr b ↦
          let r : NameStands nodes b.0 x = name_stands nodes b.0 x b.2 in
          let l : length (named_at def.name 0 (workers_of def)) ≡ workers_of def = length-named_at def.name 0 (workers_of def) in
          let n = b.1 in
          let m = r.number in
          record { at = suc r.at; def = r.def; there = r.there; node_is = r.node_is; within = r.within; number = omega arith }
    ]

-- ---- names of nodes

same_text : (xs ys : List ℕ) → xs ≡ ys → pointwise nat_eq xs ys ≡ true
same_text xs ys e = subst (λ zs. pointwise nat_eq xs zs ≡ true) e (self xs)
  where
    self : (xs : List ℕ) → pointwise nat_eq xs xs ≡ true
    self [] = refl
    self (x ∷ xs) = rw (eq-eqb x x refl) (self xs)

taken_in : {A : Type 0} (xs : List A) (k n : ℕ) (x : A) → slice_get xs k ≡ Some x → k < n → IsIn x (take n xs)
taken_in [] k n x g lt = absurd (cc)
taken_in (y ∷ xs) k zero x g lt = absurd (omega arith)
taken_in (y ∷ xs) zero (suc n) x g lt = inl (sym (same_Some y x g))
taken_in (y ∷ xs) (suc k) (suc n) x g lt = inr (taken_in xs k n x g (omega arith))

not_named_before : (job : JobView) → IsLawful job → (i j : ℕ) (a b : NodeDef) → slice_get job.nodes i ≡ Some a → slice_get job.nodes j ≡ Some b → a.name ≡ b.name → i < j → ⊥
not_named_before job is i j a b g h e lt =
    let named : list_any (λ (n : NodeDef). pointwise nat_eq n.name b.name) (take j job.nodes) ≡ true =
    in_any (λ (n : NodeDef). pointwise nat_eq n.name b.name) a (take j job.nodes) (taken_in job.nodes i j a g lt) (same_text a.name b.name e) in
    go (list_any (λ (n : NodeDef). pointwise nat_eq n.name b.name) (take j job.nodes)) named (is.node_names j b h)
  where
    go : (any : Bool) → any ≡ true → not any ≡ true → ⊥
    go true e f = absurd (cc)
    go false e f = absurd (cc)

one_node : (job : JobView) → IsLawful job → (i j : ℕ) (a b : NodeDef) → slice_get job.nodes i ≡ Some a → slice_get job.nodes j ≡ Some b → a.name ≡ b.name → i ≡ j
one_node job is i j a b g h e =
    elim (cases_lt i j) [
      | inl lt ↦ absurd (not_named_before job is i j a b g h e lt)
      | inr ge ↦ elim (cases_lt j i) [ inl lt ↦ absurd (not_named_before job is j i b a h g (sym e) lt) | inr le ↦ omega arith ]
    ]

-- ---- places

few : (f : Func) (workers : ℕ) → workers ≤ most_workers f → workers_with f workers ≤ 8
few f workers le = go (is_source f)
  where
    go : (b : Bool) → cond b 0 workers ≤ 8
    go true = omega arith
    go false = omega (arith, le, (kind_row f).few_workers)

pub few_workers : (job : JobView) → IsLawful job → (i : ℕ) (def : NodeDef) → slice_get job.nodes i ≡ Some def → workers_of def ≤ 8
few_workers job is i def g =
    few def.func def.workers (at_of_all (λ (n : NodeDef). (1 ≤ n.workers) × (n.workers ≤ most_workers n.func)) def job.nodes is.limits.workers (in_of_place def job.nodes i g)).1

pub are_told : (job : JobView) → IsLawful job → AreTold job
are_told job is w v x y g h node place =
    let a : NameStands job.nodes w x = name_stands job.nodes w x g in
    let b : NameStands job.nodes v y = name_stands job.nodes v y h in
    let at : a.at ≡ b.at = one_node job is a.at b.at a.def b.def a.there b.there (sym a.node_is ∙ (node ∙ b.node_is)) in
    let p : workers_of a.def ≤ 8 = few_workers job is a.at a.def a.there in
    let q : workers_of b.def ≤ 8 = few_workers job is b.at b.def b.there in
    let i = a.within in
    let j = b.within in
    let same : x.place ≡ y.place = decimal_injective x.place y.place (omega arith) (omega arith) place in
    let first : worker_count (take a.at job.nodes) ≡ worker_count (take b.at job.nodes) = ap (λ n. worker_count (take n job.nodes)) at in
    let m = a.number in
    let n = b.number in
    omega arith
