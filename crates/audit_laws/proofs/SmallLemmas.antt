-- The births that a function adds are small.
use Rattle.std.proofs.Common.{◌≡◌, ◌<◌, ◌≤◌, ◌^◌, ◌++◌, ◌==◌, ◌&&◌, ℕ, suc, List, [], ◌∷◌, inl, inr, refl, sym, subst, arith, true, false, Bool, cond, eqb}
use Rattle.std.proofs.Common.{All, Some, filter, length, map, slice_get}
use Rattle.std.specs.Prelude.{nat_le}
use Rattle.std.specs.List.{list_any}
use Rattle.std.proofs.lemmas.Bool.{and_parts, cases_lt, eq-eqb, eqb-true, leb-true, ne_eqb}
use Rattle.std.proofs.lemmas.List.{length-map}
use Rattle.std.proofs.lemmas.Map.Steps.{le-length_from_below}
use Rattle.flow_dag.specs.declared.edge.Edge.{Edge}
use Rattle.jobs.specs.Kinds.{row_at}
use Rattle.jobs.specs.Nodes.{fan_out}
use Rattle.jobs.specs.Ports.{are_ports, has_port, has_ports, leaves, out_count}
use Rattle.jobs.specs.declared.func.Func.{Func}
use Rattle.jobs.specs.declared.kind.Shape.{Shape}
use Rattle.jobs.specs.declared.kind.Shape.TheVariants as shape
use Rattle.jobs.proofs.PortLemmas.{has_ports-lacks}
use Rattle.jobs.proofs.RoleLemmas.{kind_row}
use Rattle.operators.specs.Laws.{MayLeaveAs, MayLeaveBy, births_as, births_of}
use Rattle.operators.specs.Ports.{out_ports}
use Rattle.flow_model.proofs.ElementLemmas.{IsIn, all_of_at, any_in, at_of_all, filter_in, in_any, in_cases, in_of_place, map_in}
use Rattle.flow_model.proofs.JobLemmas.{ports_by_kind}

-- each of these births is in the range of its type
abbrev pub AreNarrow : List ℕ → Type 0
AreNarrow births = All (λ birth. birth < 2 ^ 32) births

one_more : (births : List ℕ) (n : ℕ) → AreNarrow births → n < 2 ^ 32 → AreNarrow (births ++ n ∷ [])
one_more births n h lt =
    all_of_at (λ birth. birth < 2 ^ 32) (births ++ n ∷ []) (λ x i.
    elim (in_cases x births (n ∷ []) i) [
      | inl a ↦ at_of_all (λ birth. birth < 2 ^ 32) x births h a
      | inr (inl e) ↦ subst (λ v. v < 2 ^ 32) (sym e) lt
      | inr (inr none) ↦ absurd none
    ])

-- ---- the ports of a node are those below the number of its edges

port_there : (edges : List Edge) (node q n : ℕ) → has_ports edges node n ≡ true → q < n → IsIn q (out_ports edges node)
port_there edges node q n all lt = go (has_port edges node q) refl
  where
    go : (b : Bool) → has_port edges node q ≡ b → IsIn q (out_ports edges node)
    go false e = let lacks : has_ports edges node n ≡ false = has_ports-lacks edges node q n lt e in absurd (cc)
    go true e =
        let r = any_in (λ (e : Edge). e.from == node && e.port == q) edges e in
        let p = and_parts (r.0.from == node) (r.0.port == q) r.2 in
        subst (λ v. IsIn v (out_ports edges node)) (eqb-true r.0.port q p.1)
        (map_in (λ (e : Edge). e.port) r.0 (filter (leaves node) edges) (filter_in (leaves node) r.0 edges r.1 p.0))

-- a number past the last one would be one number too many
-- the ports, with another number in place of one of them
abbrev in_place : ℕ → ℕ → ℕ → ℕ
in_place port n x = cond (x == port) n x

stands_in : (ports : List ℕ) (port n q x : ℕ) → IsIn x ports → q ≡ in_place port n x → list_any (eqb q) (map (in_place port n) ports) ≡ true
stands_in ports port n q x i e = in_any (eqb q) (in_place port n x) (map (in_place port n) ports) (map_in (in_place port n) x ports i) (eq-eqb q (in_place port n x) e)

all_in : (edges : List Edge) (node port n q : ℕ) → has_ports edges node n ≡ true → IsIn port (out_ports edges node) → n ≤ port → q < suc n
    → list_any (eqb q) (map (in_place port n) (out_ports edges node)) ≡ true
all_in edges node port n q all i ge lt =
    elim (cases_lt q n) [
      | inl less ↦ stands_in (out_ports edges node) port n q q (port_there edges node q n all less) (rw (ne_eqb q port (λ same. omega arith)) refl)
      | inr last ↦ stands_in (out_ports edges node) port n q port i (rw (eq-eqb port port refl) (omega arith))
    ]

port_below : (edges : List Edge) (node port : ℕ) → has_ports edges node (out_count edges node) ≡ true → IsIn port (out_ports edges node) → port < out_count edges node
port_below edges node port all i =
    elim (cases_lt port (out_count edges node)) [
      | inl lt ↦ lt
      | inr ge ↦
          let ports : List ℕ = map (in_place port (out_count edges node)) (out_ports edges node) in
          let many : suc (out_count edges node) ≤ length ports = le-length_from_below ports (suc (out_count edges node)) (λ q lt. all_in edges node port (out_count edges node) q all i ge lt) in
          let one : length ports ≡ length (out_ports edges node) = length-map (out_ports edges node) (in_place port (out_count edges node)) in
          let two : length (out_ports edges node) ≡ out_count edges node = length-map (filter (leaves node) edges) (λ (e : Edge). e.port) in
          absurd (omega arith)
    ]

port_narrow : (edges : List Edge) (node : ℕ) (f : Func) (k port : ℕ) → are_ports edges node f ≡ true → slice_get (out_ports edges node) k ≡ Some port → port < 2 ^ 32
port_narrow edges node f k port all g =
    let p = ports_by_kind edges node f all in
    let few : out_count edges node ≤ (row_at f).most_outs =
    leb-true (out_count edges node) (row_at f).most_outs (and_parts (nat_le (row_at f).least_outs (out_count edges node)) (nat_le (out_count edges node) (row_at f).most_outs) p.1).1 in
    let lt = port_below edges node port p.2 (in_of_place port (out_ports edges node) k g) in
    omega (arith, few, lt, (kind_row f).few_outs)

-- ---- births

pub births_narrow : (edges : List Edge) (node : ℕ) (f : Func) (births : List ℕ) (k port : ℕ) → fan_out f ≤ 16 → are_ports edges node f ≡ true
    → MayLeaveBy edges node f k port → AreNarrow births → AreNarrow (births_of f births k port)
births_narrow edges node f births k port few all may h = go (row_at f).shape may
  where
    go : (s : Shape) → MayLeaveAs s edges node f k port → AreNarrow (births_as s births k port)
    go shape.Pieces may = let lt = may.0 in one_more births k h (omega arith)
    go shape.Copies may = one_more births port h (port_narrow edges node f k port all may)
    go _ may = h
