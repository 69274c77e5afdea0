-- The mask of the nodes that may be splits in a stream of a job.
use Rattle.std.proofs.Common.{◌≡◌, ◌∙◌, ◌<◌, ◌↔◌, ◌||◌, inl, inr, ℕ, List, [], Bool, true, false}
use Rattle.std.proofs.Common.{refl, sym, arith, slice_get}
use Rattle.std.specs.Prelude.{IsTrue}
use Rattle.std.specs.Int.{bit_at}
use Rattle.std.proofs.lemmas.Bool.{cases_eq, or_cases, or_left, or_right}
use Rattle.std.proofs.lemmas.Nat.Bits.{bit_at-lt, same_from_bits}
use Rattle.flow_dag.specs.Masks.{Has}
use Rattle.jobs.specs.declared.func.NodeDef.{NodeDef}
use Rattle.versions.specs.declared.request.Request.{Request}
use Rattle.flow_model.specs.Planned.{is_made_split, is_split_node, may_become_split, splits_at}
use Rattle.stream_intake.specs.Intake.{IsMaskOfNodes}

bit_same : (a b : ℕ) → a < 2 → b < 2 → (a ≡ 1 → b ≡ 1) → (b ≡ 1 → a ≡ 1) → a ≡ b
bit_same a b p q f g = elim (cases_eq a 1) [
  | inl e ↦ e ∙ sym (f e)
  | inr none ↦ elim (cases_eq b 1) [ inl h ↦ g h ∙ sym h | inr other ↦ omega arith ]
]

-- a job has one such mask
pub one_mask : (nodes : List NodeDef) (a b : ℕ) → IsMaskOfNodes nodes a → IsMaskOfNodes nodes b → a ≡ b
one_mask nodes a b f g =
    same_from_bits a b (λ i. bit_same (bit_at a i) (bit_at b i) (bit_at-lt a i) (bit_at-lt b i)
    (λ h. (g i).1 ((f i).0 h)) (λ h. (f i).1 ((g i).0 h)))

-- ---- the mask of a setup with these requests, which make splits of nodes of the job's mask alone

or_false : (a : Bool) → (a || false) ≡ true → a ≡ true
or_false true e = refl
or_false false e = e

pub mask_of_none : (nodes : List NodeDef) (splits : ℕ)
    → ((node : ℕ) → Has splits node ↔ IsTrue (splits_at nodes [] node || may_become_split
    (slice_get nodes node))) → IsMaskOfNodes nodes splits
mask_of_none nodes splits is node = (to, from)
  where
    own : Bool
    own = is_split_node (slice_get nodes node)

    spare : Bool
    spare = may_become_split (slice_get nodes node)

    to : Has splits node → IsTrue (own || spare)
    to h = elim (or_cases (own || false) spare ((is node).0 h)) [
      | inl a ↦ or_left own spare (or_false own a)
      | inr b ↦ or_right own spare b
    ]

    from : IsTrue (own || spare) → Has splits node
    from h = elim (or_cases own spare h) [
      | inl a ↦ (is node).1 (or_left (own || false) spare (or_left own false a))
      | inr b ↦ (is node).1 (or_right (own || false) spare b)
    ]

pub mask_of_some : (nodes : List NodeDef) (mask splits : ℕ) (requests : List Request)
    → IsMaskOfNodes nodes mask → ((node : ℕ) → IsTrue (is_made_split requests node) → Has mask node)
    → ((node : ℕ) → Has splits node ↔ IsTrue (splits_at nodes requests node || may_become_split
    (slice_get nodes node))) → IsMaskOfNodes nodes splits
mask_of_some nodes mask splits requests own_mask within is node = (to, from)
  where
    own : Bool
    own = is_split_node (slice_get nodes node)

    made : Bool
    made = is_made_split requests node

    spare : Bool
    spare = may_become_split (slice_get nodes node)

    to : Has splits node → IsTrue (own || spare)
    to h = elim (or_cases (own || made) spare ((is node).0 h)) [
      | inl a ↦ elim (or_cases own made a)
          [ inl b ↦ or_left own spare b | inr b ↦ (own_mask node).0 (within node b) ]
      | inr b ↦ or_right own spare b
    ]

    from : IsTrue (own || spare) → Has splits node
    from h = elim (or_cases own spare h) [
      | inl a ↦ (is node).1 (or_left (own || made) spare (or_left own made a))
      | inr b ↦ (is node).1 (or_right (own || made) spare b)
    ]
