-- The functions of all nodes after some requests.
use Rattle.std.proofs.Common.{◌≡◌, ◌∙◌, ◌+◌, ◌++◌, ℕ, zero, suc, List, [], ◌∷◌, Option, Some, append_assoc, refl, sym, subst, ap, arith, drop, slice_get}
use Rattle.jobs.specs.declared.func.Func.{Func}
use Rattle.jobs.specs.declared.func.NodeDef.{NodeDef}
use Rattle.versions.specs.declared.request.Change.{Change}
use Rattle.flow_model.specs.SetupView.{SetupView}
use Rattle.flow_model.specs.Requests.{change_by, func_after, func_with}
use Rattle.flow_model.specs.Serial.{func_of_node}

-- the functions of these nodes after the first k requests; the first node has this number
abbrev pub funcs_from : SetupView → ℕ → ℕ → List NodeDef → List Func
funcs_from setup k node [] = []
funcs_from setup k node (def ∷ more) = func_after setup node def.func k ∷ funcs_from setup k (node + 1) more

pub get-funcs : (setup : SetupView) (k first : ℕ) (nodes : List NodeDef) (i : ℕ) → slice_get (funcs_from setup k first nodes) i ≡ func_of_node setup k (first + i) (slice_get nodes i)
get-funcs setup k first [] i = refl
get-funcs setup k first (def ∷ more) zero = let e : first ≡ first + 0 = omega arith in ap (λ n. Some (func_after setup n def.func k)) e
get-funcs setup k first (def ∷ more) (suc i) =
    let e : first + 1 + i ≡ first + suc i = omega arith in
    get-funcs setup k (first + 1) more i ∙ ap (λ n. func_of_node setup k n (slice_get more i)) e

-- one node more
pub funcs-more : (setup : SetupView) (k node : ℕ) (nodes : List NodeDef) (table : List Func) (def : NodeDef) → drop node nodes ≡ def ∷ drop (node + 1) nodes
    → (table ++ func_after setup node def.func k ∷ []) ++ funcs_from setup k (node + 1) (drop (node + 1) nodes) ≡ table ++ funcs_from setup k node (drop node nodes)
funcs-more setup k node nodes table def e =
    append_assoc table (func_after setup node def.func k ∷ []) (funcs_from setup k (node + 1) (drop (node + 1) nodes))
    ∙ ap (λ (l : List NodeDef). table ++ funcs_from setup k node l) (sym e)

-- one request more
pub func-next : (setup : SetupView) (node : ℕ) (func : Func) (place : ℕ) (change : Option Change) (latest : Func) → change ≡ change_by setup (place + 1) node → latest ≡ func_after setup node func place
    → func_with change latest ≡ func_after setup node func (place + 1)
func-next setup node func place change latest c l =
    let e : suc place ≡ place + 1 = omega arith in
    subst (λ k. change ≡ change_by setup k node → func_with change latest ≡ func_after setup node func k) e
    (λ h. ap (λ o. func_with o latest) h ∙ ap (func_with (change_by setup (suc place) node)) l) c
