-- Masks that gather what a list says of nodes, an item at a time.
use Rattle.std.proofs.Common.{◌≡◌, ◌∙◌, ◌<◌, ◌++◌, ◌||◌, ◌↔◌, ℕ, List, [], ◌∷◌, inl, inr, refl, ap, true, false, Bool, cond, bit_or}
use Rattle.std.specs.Prelude.{IsTrue, slice_get}
use Rattle.std.specs.List.{list_any}
use Rattle.std.proofs.lemmas.Bool.{or_cases, or_left, or_right}
use Rattle.flow_dag.specs.Masks.{Has}
use Rattle.flow_dag.proofs.MaskLemmas.{Has-or, Has-or_cases}
use Rattle.jobs.specs.declared.func.NodeDef.{NodeDef}
use Rattle.versions.specs.declared.request.Request.{Request}
use Rattle.flow_model.specs.Planned.{is_split_node, makes_split, splits_at}

or_assoc : (a b c : Bool) → (a || (b || c)) ≡ ((a || b) || c)
or_assoc true b c = refl
or_assoc false b c = refl

pub or_false : (b : Bool) → (b || false) ≡ b
or_false true = refl
or_false false = refl

-- one more item that may pass the test
pub any_more : {A : Type 0} (test : A → Bool) (xs : List A) (x : A) → list_any test (xs ++ x ∷ []) ≡ (list_any test xs || test x)
any_more test [] x = or_false (test x)
any_more test (y ∷ xs) x = ap (λ b. test y || b) (any_more test xs x) ∙ or_assoc (test y) (list_any test xs) (test x)

-- the nodes of either mask
pub either_has : (m n k : ℕ) (a b : Bool) → Has m k ↔ IsTrue a → Has n k ↔ IsTrue b → Has (bit_or m n) k ↔ IsTrue (a || b)
either_has m n k a b f g = (
  λ h. elim (Has-or_cases m n k h) [ inl u ↦ or_left a b (f.0 u) | inr v ↦ or_right a b (g.0 v) ],
  λ h. Has-or m n k (elim (or_cases a b h) [ inl u ↦ inl (f.1 u) | inr v ↦ inr (g.1 v) ]),
)

-- one more request that may make the node a split
pub splits-more : (nodes : List NodeDef) (requests : List Request) (request : Request) (node : ℕ)
    → splits_at nodes (requests ++ request ∷ []) node ≡ (splits_at nodes requests node || list_any (makes_split node) request.changes)
splits-more nodes requests request node =
    ap (λ b. is_split_node (slice_get nodes node) || b) (any_more (λ (request : Request). list_any (makes_split node) request.changes) requests request)
    ∙ or_assoc (is_split_node (slice_get nodes node)) (list_any (λ (request : Request). list_any (makes_split node) request.changes) requests) (list_any (makes_split node) request.changes)

-- the set of a mode
pub mode_below : (mode : Bool) (a b n : ℕ) → a < n → b < n → cond mode a b < n
mode_below true a b n p q = p
mode_below false a b n p q = q
