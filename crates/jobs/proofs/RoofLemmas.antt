-- Roofs of a job's nodes.
use Rattle.std.proofs.Common.{◌≡◌, ◌<◌, ◌≤◌, ◌∙◌, ℕ, List, [], ◌∷◌, Bool, true, false, not, inl, inr, refl, sym, ap, subst, arith, get_or, length, take, suc, Option, Some, None, slice_get}
use Rattle.std.specs.List.{list_any}
use Rattle.std.specs.Cmp.Lexicographic.{bytes_decides, pointwise}
use Rattle.std.specs.Prelude.{nat_eq}
use Rattle.std.proofs.lemmas.Bool.{cases_Bool, cases_eq, cases_order, eq-eqb, ne_eqb}
use Rattle.std.proofs.lemmas.List.{get_or-take, length-take}
use Rattle.std.proofs.lemmas.List.Elements.{All-get_or}
use Rattle.std.proofs.lemmas.List.Folds.{list_any_at}
use Rattle.std.proofs.lemmas.Option.{get_or_from_slice_get, slice_get_within}
use Rattle.flow_dag.specs.declared.edge.Edge.{Edge}
use Rattle.jobs.specs.declared.func.NodeDef.{NodeDef}
use Rattle.jobs.specs.Law.{IsLawful}
use Rattle.jobs.specs.Limits.{most_roof_of}
use Rattle.jobs.specs.Names.{is_new_node, is_node_named, leaves_named, named_out_count}
use Rattle.jobs.specs.Nodes.{fan_out, most_roof}
use Rattle.jobs.specs.Places.{EachPasses}
use Rattle.jobs.specs.Ports.{leaves, out_count}
use Rattle.jobs.specs.JobView.{JobView}

-- no node has the name of an earlier one
apart : (nodes : List NodeDef) (i j : ℕ) (a b : NodeDef) → EachPasses (is_new_node nodes) nodes → slice_get nodes i ≡ Some a → slice_get nodes j ≡ Some b
    → a.name ≡ b.name → i < j → ⊥
apart nodes i j a b distinct at_i at_j same lt =
    let p : NodeDef → Bool = λ n. pointwise nat_eq n.name b.name in
    let new : not (list_any p (take j nodes)) ≡ true = distinct j b at_j in
    let within : i < length (take j nodes) = omega (arith, length-take j nodes, slice_get_within nodes i a at_i, slice_get_within nodes j b at_j, lt) in
    let here : get_or (take j nodes) i a ≡ a = get_or-take j nodes i a lt ∙ get_or_from_slice_get nodes i a a at_i in
    let found : list_any p (take j nodes) ≡ true = list_any_at p (take j nodes) i a within (ap p here ∙ (bytes_decides a.name b.name).1 same) in
    let no : not true ≡ true = rw found at new in
    cc

-- so an edge that leaves a node of a name leaves the node that has it
module _ (nodes : List NodeDef) (distinct : EachPasses (is_new_node nodes) nodes) (v : ℕ) (node : NodeDef) (there : slice_get nodes v ≡ Some node) where
  other_name : (u : ℕ) (o : Option NodeDef) → slice_get nodes u ≡ o → (u ≡ v → ⊥) → is_node_named node.name o ≡ false
  other_name u None at ne = refl
  other_name u (Some other) at ne =
      elim (cases_Bool (pointwise nat_eq other.name node.name)) [
        | inl told ↦
            let same : other.name ≡ node.name = (bytes_decides other.name node.name).0 told in
            elim (cases_order u v) [
              | inl is ↦ absurd (ne is)
              | inr (inl lt) ↦ absurd (apart nodes u v other node distinct at there same lt)
              | inr (inr gt) ↦ absurd (apart nodes v u node other distinct there at (sym same) gt)
            ]
        | inr other ↦ other
      ]

  leaves_same : (edge : Edge) → leaves_named nodes node.name edge ≡ leaves v edge
  leaves_same edge =
      elim (cases_eq edge.from v) [
        | inl is ↦
            let at : slice_get nodes edge.from ≡ Some node = ap (slice_get nodes) is ∙ there in
            ap (is_node_named node.name) at ∙ (bytes_decides node.name node.name).1 refl ∙ sym (eq-eqb edge.from v is)
        | inr ne ↦ other_name edge.from (slice_get nodes edge.from) refl ne ∙ sym (ne_eqb edge.from v ne)
      ]

  count_same : (edges : List Edge) → named_out_count nodes edges node.name ≡ out_count edges v
  count_same [] = refl
  count_same (edge ∷ edges) =
      let tail : named_out_count nodes edges node.name ≡ out_count edges v = count_same edges in
      elim (cases_Bool (leaves v edge)) [
        | inl out ↦ rw (leaves_same edge, out) (ap suc tail)
        | inr other ↦ rw (leaves_same edge, other) tail
      ]

-- the roof of a node is at least its own function's fan-out, and at most what its kind and its edges allow
pub roof_of_node : (job : JobView) (v : ℕ) (node : NodeDef) → IsLawful job → slice_get job.nodes v ≡ Some node
    → (fan_out node.func ≤ node.roof) × (node.roof ≤ most_roof node.func (out_count job.edges v))
roof_of_node job v node law there =
    let P : NodeDef → Type 0 = λ (n : NodeDef). (fan_out n.func ≤ n.roof) × (n.roof ≤ most_roof_of job.nodes job.edges n) in
    let within : v < length job.nodes = slice_get_within job.nodes v node there in
    let at : P (get_or job.nodes v node) = All-get_or P job.nodes v node within law.limits.roofs in
    let both : P node = subst P (get_or_from_slice_get job.nodes v node node there) at in
    (both.0, subst (λ n. node.roof ≤ most_roof node.func n) (count_same job.nodes law.node_names v node there job.edges) both.1)
