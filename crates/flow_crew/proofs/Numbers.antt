-- The numbers of the first lanes that pass a test.
use Rattle.std.proofs.Common.{◌≡◌, ◌∙◌, ◌+◌, ◌≤◌, ℕ, suc, List, [], ◌∷◌, ◌++◌, Bool, true, false, cond, refl, ap, arith, length, map, filter, take, Some, slice_get}
use Rattle.std.specs.List.{enumerate_from}
use Rattle.std.proofs.lemmas.List.{append-nil, length-take, map-append, take_all}
use Rattle.std.proofs.lemmas.List.Elements.{filter-append}
use Rattle.std.proofs.lemmas.Option.{slice_get_within}
use Rattle.jobs.specs.JobView.{JobView}
use Rattle.flow_model.specs.Lanes.{lanes, lanes_that}
use Rattle.flow_model.specs.declared.topology.Lane.{Lane}
use Rattle.flow_model.proofs.TopologyLemmas.{take-next}
use Rattle.flow_crew.specs.Sorted.{first_numbers}

enumerate_last : {A : Type 0} (n : ℕ) (xs : List A) (x : A) → enumerate_from n (xs ++ x ∷ []) ≡ enumerate_from n xs ++ (n + length xs, x) ∷ []
enumerate_last n [] x = let e : n ≡ n + 0 = omega arith in ap (λ k. (k, x) ∷ []) e
enumerate_last n (y ∷ ys) x =
    let e : n + 1 + length ys ≡ n + suc (length ys) = omega arith in
    ap (λ l. (n, y) ∷ l) (enumerate_last (n + 1) ys x ∙ ap (λ k. enumerate_from (n + 1) ys ++ (k, x) ∷ []) e)

-- a list with a last item determines both
pub last_same : {A : Type 0} (xs ys : List A) (x y : A) → xs ++ x ∷ [] ≡ ys ++ y ∷ [] → (xs ≡ ys) × (x ≡ y)
last_same [] [] x y e = (refl, (let h : x ≡ y = cc in h))
last_same [] (z ∷ []) x y e = absurd (cc)
last_same [] (z ∷ w ∷ ws) x y e = absurd (cc)
last_same (z ∷ []) [] x y e = absurd (cc)
last_same (z ∷ w ∷ ws) [] x y e = absurd (cc)
last_same (v ∷ vs) (w ∷ ws) x y e =
    let h : v ≡ w = cc in
    let t : vs ++ x ∷ [] ≡ ws ++ y ∷ [] = cc in
    let r = last_same vs ws x y t in
    let s = r.0 in
    ((let g : v ∷ vs ≡ w ∷ ws = cc in g), r.1)

pub not_empty : {A : Type 0} (xs : List A) (x : A) → xs ++ x ∷ [] ≡ [] → ⊥
not_empty [] x e = absurd (cc)
not_empty (y ∷ ys) x e = absurd (cc)

take_none : {A : Type 0} (xs : List A) → take 0 xs ≡ []
take_none [] = refl
take_none (x ∷ xs) = refl

module _ (test : Lane → Bool) (job : JobView) where
  pub first_none : first_numbers test job 0 ≡ []
  first_none = ap (λ l. map (λ (p : ℕ × Lane). p.0) (filter (λ (p : ℕ × Lane). test p.1) (enumerate_from 0 l))) (take_none (lanes job))

  pub first_all : (i : ℕ) → length (lanes job) ≤ i → first_numbers test job i ≡ lanes_that test job
  first_all i le = ap (λ l. map (λ (p : ℕ × Lane). p.0) (filter (λ (p : ℕ × Lane). test p.1) (enumerate_from 0 l))) (take_all i (lanes job) le)

  first_next : (i : ℕ) (lane : Lane) → slice_get (lanes job) i ≡ Some lane
      → first_numbers test job (i + 1) ≡ first_numbers test job i ++ map (λ (p : ℕ × Lane). p.0) (filter (λ (p : ℕ × Lane). test p.1) ((i, lane) ∷ []))
  first_next i lane at =
      let front = take i (lanes job) in
      let t : ℕ × Lane → Bool = λ p. test p.1 in
      let lt = slice_get_within (lanes job) i lane at in
      let long : 0 + length front ≡ i = (let l = length-take i (lanes job) in omega (arith, lt, l)) in
      ap (λ l. map (λ (p : ℕ × Lane). p.0) (filter t (enumerate_from 0 l))) (take-next (lanes job) i lane at)
      ∙ (ap (λ l. map (λ (p : ℕ × Lane). p.0) (filter t l)) (enumerate_last 0 front lane ∙ ap (λ k. enumerate_from 0 front ++ (k, lane) ∷ []) long)
      ∙ (ap (map (λ (p : ℕ × Lane). p.0)) (filter-append t (enumerate_from 0 front) ((i, lane) ∷ []))
      ∙ map-append (λ (p : ℕ × Lane). p.0) (filter t (enumerate_from 0 front)) (filter t ((i, lane) ∷ []))))

  pub first_taken : (i : ℕ) (lane : Lane) → slice_get (lanes job) i ≡ Some lane → test lane ≡ true → first_numbers test job (i + 1) ≡ first_numbers test job i ++ i ∷ []
  first_taken i lane at t =
      first_next i lane at ∙ ap (λ b. first_numbers test job i ++ map (λ (p : ℕ × Lane). p.0) (cond b ((i, lane) ∷ []) [])) t

  pub first_skipped : (i : ℕ) (lane : Lane) → slice_get (lanes job) i ≡ Some lane → test lane ≡ false → first_numbers test job (i + 1) ≡ first_numbers test job i
  first_skipped i lane at t =
      first_next i lane at
      ∙ (ap (λ b. first_numbers test job i ++ map (λ (p : ℕ × Lane). p.0) (cond b ((i, lane) ∷ []) [])) t ∙ append-nil (first_numbers test job i))
