-- Edges between the nodes of a job.
use Rattle.std.proofs.Common.{◌≡◌, ◌<◌, ℕ, List, [], ◌∷◌, length, take, get_or, Bool, true, false, ◌&&◌, ◌==◌, not, Some, All, refl, sym, ◌∙◌, arith, zero, suc}
use Rattle.std.specs.List.{slice_get}
use Rattle.std.proofs.lemmas.Bool.{and_from, and_parts, both_ways, eq-eqb, not-true, or_parts}
use Rattle.std.proofs.lemmas.Grind.{common_steps}
use Rattle.std.proofs.lemmas.Option.{get_or_from_slice_get, slice_get_within, slice_get-get_or}
use Rattle.std.proofs.lemmas.List.{length-take}
use Rattle.std.proofs.lemmas.List.Elements.{All-get_or}
use Rattle.std.proofs.lemmas.List.Folds.{list_any_at}
use Rattle.flow_dag.specs.declared.edge.Edge.{Edge}
use Rattle.flow_dag.specs.Edges.{HasEdge, IsInside, IsOutside, IsRepeated}
use Rattle.jobs.specs.declared.func.Func.{Func}
use Rattle.jobs.specs.declared.func.NodeDef.{NodeDef}
use Rattle.jobs.specs.Places.{EachPasses}
use Rattle.jobs.specs.Ports.{are_ports, has_edge, has_ports, is_entered, leads_twice, leaves, may_enter, may_leave, out_count}

-- an edge with an end outside is no edge inside
pub IsOutside-inside : (n : ℕ) (edges : List Edge) (i : ℕ) → IsOutside n edges i → All (IsInside n) edges → ⊥
IsOutside-inside n edges i (e, at, out) all =
    let within : i < length edges = slice_get_within edges i e at in
    let here : get_or edges i e ≡ e = get_or_from_slice_get edges i e e at in
    let inside : IsInside n (get_or edges i e) = All-get_or (IsInside n) edges i e within all in
    out (rw here at inside)

and_cases-right : (a b : Bool) → a ≡ true → (a && b) ≡ false → b ≡ false
and_cases-right true b p e = e
and_cases-right false b p e = absurd (both_ways false refl p)

-- where a node's edges lead to different nodes, no two of them lead to one
leads_twice-apart :
    (edges : List Edge) (v i j : ℕ) (d : Edge) → leads_twice edges v ≡ false → i < j → j < length edges
    → (get_or edges i d).from ≡ v → (get_or edges j d).from ≡ v → (get_or edges j d).to ≡ (get_or edges i d).to → ⊥
leads_twice-apart [] v i j d apart lt within fi fj to = omega arith
leads_twice-apart (e ∷ edges) v i zero d apart lt within fi fj to = omega arith
leads_twice-apart (e ∷ edges) v zero (suc j) d apart lt within fi fj to =
    let (first, rest) = or_parts (leaves v e && has_edge edges v e.to) (leads_twice edges v) apart in
    let none : has_edge edges v e.to ≡ false = and_cases-right (leaves v e) (has_edge edges v e.to) (eq-eqb e.from v fi) first in
    let joins : ((get_or edges j d).from == v && (get_or edges j d).to == e.to) ≡ true =
    and_from ((get_or edges j d).from == v) ((get_or edges j d).to == e.to) (eq-eqb (get_or edges j d).from v fj) (eq-eqb (get_or edges j d).to e.to to) in
    let some : has_edge edges v e.to ≡ true = list_any_at (λ (x : Edge). x.from == v && x.to == e.to) edges j d (omega (arith, within)) joins in
    both_ways (has_edge edges v e.to) none some
leads_twice-apart (e ∷ edges) v (suc i) (suc j) d apart lt within fi fj to =
    let (first, rest) = or_parts (leaves v e && has_edge edges v e.to) (leads_twice edges v) apart in
    leads_twice-apart edges v i j d rest (omega (arith, lt)) (omega (arith, within)) fi fj to

pub get_or-take : {A : Type 0} (xs : List A) (i k : ℕ) (d : A) → k < i → get_or (take i xs) k d ≡ get_or xs k d
get_or-take xs i k d lt = grind (arith, common_steps)

IsRepeated-twice : (edges : List Edge) (i : ℕ) (e : Edge) → slice_get edges i ≡ Some e → HasEdge (take i edges) e.from e.to → leads_twice edges e.from ≡ false → ⊥
IsRepeated-twice edges i e at (k, x, lt, there, (from, to)) apart =
    let within : i < length edges = slice_get_within edges i e at in
    let here : get_or edges i x ≡ e = get_or_from_slice_get edges i e x at in
    let before : k < i = omega (arith, length-take i edges, lt) in
    let earlier : get_or edges k x ≡ x = sym (get_or-take edges i k x before) ∙ there in
    leads_twice-apart edges e.from k i x apart before within (rw earlier from) (rw here refl) (rw (here, earlier) (sym to))

are_ports-apart : (edges : List Edge) (v : ℕ) (f : Func) → are_ports edges v f ≡ true → leads_twice edges v ≡ false
unfolding are_ports
are_ports-apart edges v f ok =
    let kind : Bool = may_enter f (is_entered edges v) && may_leave f (out_count edges v) && has_ports edges v (out_count edges v) in
    not-true (leads_twice edges v) (and_parts kind (not (leads_twice edges v)) ok).1

pub item_at : {A : Type 0} (xs : List A) (i : ℕ) → i < length xs → (x : A) × (slice_get xs i ≡ Some x)
item_at [] i lt = absurd (omega arith)
item_at (x ∷ xs) i lt = (get_or (x ∷ xs) i x, slice_get-get_or (x ∷ xs) i x lt)

-- no edge has the ends of an earlier one where the edges of each node are those of its kind
pub IsRepeated-ports :
    (nodes : List NodeDef) (edges : List Edge) (i : ℕ) → All (IsInside (length nodes)) edges
    → EachPasses (λ v n. are_ports edges v n.func) nodes → IsRepeated edges i → ⊥
IsRepeated-ports nodes edges i inside ports (e, at, earlier) =
    let within : i < length edges = slice_get_within edges i e at in
    let here : get_or edges i e ≡ e = get_or_from_slice_get edges i e e at in
    let ends : IsInside (length nodes) (get_or edges i e) = All-get_or (IsInside (length nodes)) edges i e within inside in
    let ends_e : IsInside (length nodes) e = rw here at ends in
    let (n, there) = item_at nodes e.from ends_e.0 in
    IsRepeated-twice edges i e at earlier (are_ports-apart edges e.from n.func (ports e.from n there))
