-- One more node in an order of nodes.
use Rattle.std.proofs.Common.{◌≡◌, ◌≢◌, ◌∙◌, ℕ, ◌+◌, ◌-◌, ◌<◌, ◌≤◌, inl, inr, arith, subst, sym, List, length, get_or}
use Rattle.std.specs.Prelude.{All, AllPairs, Contains, insert, IsTrue, ◌==◌}
use Rattle.std.specs.List.{list_any}
use Rattle.std.proofs.lemmas.List.Folds.{Any-from_list_any, list_any_at}
use Rattle.std.proofs.lemmas.Bool.Decides.{Decides-eqb}
use Rattle.std.proofs.lemmas.Bool.{cases_eq, cases_lt, cases_order}
use Rattle.std.proofs.lemmas.List.{get_or_default}
use Rattle.std.proofs.lemmas.List.Edits.{length-insert, get_or-insert_below, get_or-insert_at, get_or-insert_above}
use Rattle.flow_dag.specs.Order.{IsTopologicalOrder}

-- of two nodes of an order the one that stands first
abbrev Precedes : (ℕ → ℕ → Type 0) → ℕ → ℕ → Type 0
Precedes E x y = (x ≢ y) × (E y x → ⊥)

-- `list_any` says that a number stands in a list, by a test
pub Contains-from_any : (xs : List ℕ) (a : ℕ) → IsTrue (list_any (λ x. x == a) xs) → Contains xs a
Contains-from_any xs a h =
    let (k, x, lt, is, e) = Any-from_list_any (λ x. x == a) xs h in
    let same : x ≡ a = (Decides-eqb x a).0 e in
    (k, lt, subst (λ v. get_or xs k v ≡ v) same is)

pub any-from_Contains : (xs : List ℕ) (a : ℕ) → Contains xs a → IsTrue (list_any (λ x. x == a) xs)
any-from_Contains xs a (k, lt, is) = list_any_at (λ x. x == a) xs k a lt ((Decides-eqb (get_or xs k a) a).1 is)

-- past the new element stand the old ones, one place on
after : (xs : List ℕ) (at y d k : ℕ) → at < k → at ≤ length xs → get_or (insert xs at y) k d ≡ get_or xs (k - 1) d
after xs at y d k lt le =
    let is : (k - 1) + 1 ≡ k = omega arith in
    subst (λ v. get_or (insert xs at y) v d ≡ get_or xs (k - 1) d) is (get_or-insert_above xs at y d (k - 1) (omega arith) le)

-- what holds of each element, the new one and the old ones
all_insert : (P : ℕ → Type 0) (xs : List ℕ) (at y : ℕ) → at ≤ length xs → P y → All P xs → All P (insert xs at y)
all_insert P xs at y le p all k d lt =
    let long : length (insert xs at y) ≡ length xs + 1 = length-insert xs at y le in
    elim (cases_lt k at) [
      | inl l ↦ rw (get_or-insert_below xs at y d k l le) (all k d (omega arith))
      | inr ge ↦ elim (cases_eq k at) [
        | inl e ↦ rw (e, get_or-insert_at xs at y d le) p
        | inr ne ↦ rw (after xs at y d k (omega arith) le) (all (k - 1) d (omega arith))
      ]
    ]

module _ (E : ℕ → ℕ → Type 0) (n at : ℕ) (xs : List ℕ)
    (trans : (a b c : ℕ) → E a b → E b c → E a c)
    (acyclic : (a : ℕ) → E a a → ⊥)
    (order : IsTopologicalOrder E n xs)
    (le : at ≤ length xs)
    (before : (k : ℕ) → k < at → E n (get_or xs k 0) → ⊥)
    (found : at < length xs → E n (get_or xs at 0))
  where
    pairs : AllPairs (Precedes E) xs
    pairs i j d lt lj =
        let li : i < length xs = omega arith in (
          order.once i j d lt lj,
          λ e.
              let e' : E (get_or xs j 0) (get_or xs i 0) = rw (get_or_default xs j 0 d lj, get_or_default xs i 0 d li) e in
              let back : j < i = order.forward j i (omega (arith, order.long)) (omega (arith, order.long)) e' in
              absurd (omega (arith, back)),
        )

    -- an old node that stands before the new one
    early : (i d : ℕ) → i < at → Precedes E (get_or xs i d) n
    early i d lt =
        let lt' : i < length xs = omega arith in
        let below : get_or xs i d < n = order.inside i d lt' in
        let same : get_or xs i d ≡ get_or xs i 0 = get_or_default xs i d 0 lt' in
        (omega (arith, below), λ e. before i lt (rw same at e))

    -- an old node that stands after it
    late : (j d : ℕ) → at ≤ j → j < length xs → Precedes E n (get_or xs j d)
    late j d ge lt =
        let below : get_or xs j d < n = order.inside j d lt in
        let lt' : at < length xs = omega arith in
        let first : E n (get_or xs at d) = rw (get_or_default xs at d 0 lt') (found lt') in (
          omega (arith, below),
          λ e.
              let round : E (get_or xs j d) (get_or xs at d) = trans (get_or xs j d) n (get_or xs at d) e first in
              elim (cases_eq at j) [
                | inl is ↦ acyclic (get_or xs j d) (rw is at round)
                | inr ne ↦ (pairs at j d (omega arith) lt).1 round
              ],
        )

    pairs_insert : AllPairs (Precedes E) (insert xs at n)
    pairs_insert i j d lt lj =
        let long : length (insert xs at n) ≡ length xs + 1 = length-insert xs at n le in
        elim (cases_lt j at) [
          | inl jl ↦
              rw (get_or-insert_below xs at n d j jl le, get_or-insert_below xs at n d i (omega arith) le)
              (pairs i j d lt (omega arith))
          | inr jg ↦ elim (cases_eq j at) [
            | inl je ↦
                let il : i < at = omega arith in
                rw (je, get_or-insert_at xs at n d le, get_or-insert_below xs at n d i il le) (early i d il)
            | inr jn ↦
                rw (after xs at n d j (omega arith) le) (elim (cases_lt i at) [
                  | inl il ↦ rw (get_or-insert_below xs at n d i il le) (pairs i (j - 1) d (omega arith) (omega arith))
                  | inr ig ↦ elim (cases_eq i at) [
                    | inl ie ↦ rw (ie, get_or-insert_at xs at n d le) (late (j - 1) d (omega arith) (omega arith))
                    | inr in' ↦
                        rw (after xs at n d i (omega arith) le) (pairs (i - 1) (j - 1) d (omega arith) (omega arith))
                  ]
                ])
          ]
        ]

    forward_insert : (i j : ℕ) → i < n + 1 → j < n + 1 → E (get_or (insert xs at n) i 0) (get_or (insert xs at n) j 0) → i < j
    forward_insert i j li lj e =
        elim (cases_order i j) [
          | inl same ↦ absurd (acyclic (get_or (insert xs at n) i 0) (subst (λ (v : ℕ). E (get_or (insert xs at n) i 0) (get_or (insert xs at n) v 0)) (sym same) e))
          | inr other ↦ elim other [
            | inl before' ↦ before'
            | inr behind ↦ absurd ((pairs_insert j i 0 behind (omega (arith, length-insert xs at n le, order.long))).1 e)
          ]
        ]

    each_insert : (a : ℕ) → a < n + 1 → Contains (insert xs at n) a
    each_insert a lt =
        let long : length (insert xs at n) ≡ length xs + 1 = length-insert xs at n le in
        elim (cases_eq a n) [
          | inl e ↦ (at, omega arith, rw e (get_or-insert_at xs at n n le))
          | inr ne ↦
              let (k, lk, is) = Contains-from_any xs a (order.each a (omega arith)) in
              elim (cases_lt k at) [
                | inl l ↦ (k, omega arith, get_or-insert_below xs at n a k l le ∙ is)
                | inr ge ↦ (k + 1, omega arith, get_or-insert_above xs at n a k ge le ∙ is)
              ]
        ]

    pub IsTopologicalOrder-insert : IsTopologicalOrder E (n + 1) (insert xs at n)
    IsTopologicalOrder-insert = record {
      long = omega (arith, length-insert xs at n le, order.long);
      inside = all_insert (λ x. x < n + 1) xs at n le (omega arith) (λ k d lt. omega (arith, order.inside k d lt));
      each = λ a lt. any-from_Contains (insert xs at n) a (each_insert a lt);
      once = λ i j d lt lj. (pairs_insert i j d lt lj).0;
      forward = forward_insert;
    }

-- an order for some edges is one for fewer
pub IsTopologicalOrder-fewer : (E F : ℕ → ℕ → Type 0) (n : ℕ) (xs : List ℕ) → ((a b : ℕ) → F a b → E a b) → IsTopologicalOrder E n xs → IsTopologicalOrder F n xs
IsTopologicalOrder-fewer E F n xs fewer o = record {
  long = o.long;
  inside = o.inside;
  each = o.each;
  once = o.once;
  forward = λ i j li lj e. o.forward i j li lj (fewer (get_or xs i 0) (get_or xs j 0) e);
}
