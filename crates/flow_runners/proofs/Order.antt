-- A list in which each number below n stands once, in the order of its numbers.
use Rattle.std.proofs.Common.{◌≡◌, ℕ, zero, suc, ◌+◌, ◌<◌, ◌≤◌, ◌==◌, List, [], ◌∷◌, map, refl, sym, ap, ap₂, ◌∙◌, arith, eq-eqb, nat_lt, inl, inr}
use Rattle.std.specs.List.{All, range_with_len, sum_by}
use Rattle.std.specs.List.Sorted.{IsPermutation, IsNonDecreasingBy}
use Rattle.std.proofs.lemmas.List.Elements.{All-head, All-tail}
use Rattle.std.proofs.lemmas.List.Sorted.{sum_by-IsPermutation}
use Rattle.std.proofs.lemmas.List.Sums.{sum_by-cons}
use Rattle.std.proofs.lemmas.Bool.{cases_lt}
use Rattle.std.proofs.lemmas.Bool.Decides.{nat_tests}
use Rattle.flow_runner.specs.Rule.{one_if, times}

one_unless : (x y : ℕ) → x < y → one_if (y == x) ≡ 0
one_unless x y lt = grind (arith, nat_tests)

one_unless' : (x y : ℕ) → y < x → one_if (y == x) ≡ 0
one_unless' x y lt = grind (arith, nat_tests)

one_self : (x : ℕ) → one_if (x == x) ≡ 1
one_self x = ap one_if (eq-eqb x x refl)

-- how often the numbers from a on stand in a list: each of these n once, and no other
pub record Spans (a n : ℕ) (ks : List ℕ) : Type 0 where
  pub below : (x : ℕ) → x < a → times x ks ≡ 0
  pub within : (x : ℕ) → a ≤ x → x < a + n → times x ks ≡ 1
  pub above : (x : ℕ) → a + n ≤ x → times x ks ≡ 0

pub spans : (n : ℕ) (ks : List ℕ) → ((x : ℕ) → times x ks ≡ one_if (nat_lt x n)) → Spans 0 n ks
spans n ks h = record {
  below = λ x lt. absurd (omega (arith, lt));
  within = λ x low lt. h x ∙ yes x lt;
  above = λ x le. h x ∙ no x le;
}
  where
    yes : (x : ℕ) → x < 0 + n → one_if (nat_lt x n) ≡ 1
    yes x lt = grind (arith, nat_tests)

    no : (x : ℕ) → 0 + n ≤ x → one_if (nat_lt x n) ≡ 0
    no x le = grind (arith, nat_tests)

module _ {X : Type 0} (key : X → ℕ) where
  times_by : (x : ℕ) (xs : List X) → times x (map key xs) ≡ sum_by (λ r. one_if (key r == x)) xs
  times_by x [] = refl
  times_by x (r ∷ rs) = ap (λ w. one_if (key r == x) + w) (times_by x rs) ∙ sym (sum_by-cons (λ s. one_if (key s == x)) r rs)

  pub times_permuted : (xs ys : List X) (x : ℕ) → IsPermutation xs ys → times x (map key ys) ≡ times x (map key xs)
  times_permuted xs ys x p = times_by x ys ∙ (sum_by-IsPermutation (λ r. one_if (key r == x)) xs ys p ∙ sym (times_by x xs))

  none_below : (a : ℕ) (xs : List X) → All (λ r. a < key r) xs → times a (map key xs) ≡ 0
  none_below a [] all = refl
  none_below a (r ∷ rs) all =
      let P : X → Type 0 = λ s. a < key s in
      let h = one_unless a (key r) (All-head P r rs all) in
      let k = none_below a rs (All-tail P r rs all) in omega (arith, h, k)

  -- the first of a rising list is its least number
  first_is : (a n : ℕ) (r : X) (rs : List X) → IsNonDecreasingBy key (r ∷ rs) → Spans a (suc n) (key r ∷ map key rs) → key r ≡ a
  first_is a n r rs up s = elim (cases_lt (key r) a) [
    | inl lt ↦ (let h = s.below (key r) lt in let o = one_self (key r) in absurd (omega (arith, h, o)))
    | inr ge ↦ elim (cases_lt a (key r)) [
      | inl lt ↦ (
          let h = s.within a (omega arith) (omega arith) in
          let z = none_below a (r ∷ rs) (λ i d within. let le = up 0 i d (omega arith) within in omega (arith, lt, le)) in absurd (omega (arith, h, z)))
      | inr le ↦ omega (arith, ge, le)
    ]
  ]

  rest_spans : (a n : ℕ) (r : X) (rs : List X) → key r ≡ a → Spans a (suc n) (key r ∷ map key rs) → Spans (a + 1) n (map key rs)
  rest_spans a n r rs e s = record {
    below = λ x lt. elim (cases_lt x a) [
      | inl less ↦ (let h = s.below x less in omega (arith, h))
      | inr ge ↦ (
          let h = s.within x ge (omega (arith, lt)) in
          let o = one_self x in
          let k : one_if (key r == x) ≡ one_if (x == x) = ap (λ w. one_if (w == x)) (same x lt ge) in omega (arith, h, o, k))
    ];
    within = λ x low lt.
        let h = s.within x (omega (arith, low)) (omega (arith, lt)) in
        let o = one_unless' x (key r) (omega (arith, e, low)) in omega (arith, h, o);
    above = λ x le.
        let h = s.above x (omega (arith, le)) in omega (arith, h);
  }
    where
      same : (x : ℕ) → x < a + 1 → a ≤ x → key r ≡ x
      same x lt ge = omega (arith, lt, ge, e)

  rises : (a n : ℕ) (xs : List X) → IsNonDecreasingBy key xs → Spans a n (map key xs) → map key xs ≡ range_with_len a n
  rises a zero [] up s = refl
  rises a (suc n) [] up s = let h = s.within a (omega arith) (omega arith) in absurd (omega (arith, h))
  rises a zero (r ∷ rs) up s =
      let o = one_self (key r) in elim (cases_lt (key r) a) [
        | inl lt ↦ (let h = s.below (key r) lt in absurd (omega (arith, h, o)))
        | inr ge ↦ (let h = s.above (key r) (omega (arith, ge)) in absurd (omega (arith, h, o)))
      ]
  rises a (suc n) (r ∷ rs) up s =
      let e = first_is a n r rs up s in
      ap₂ (λ x xs. x ∷ xs) e (rises (a + 1) n rs (λ i j d le lt. up (suc i) (suc j) d (omega (arith, le)) (omega (arith, lt))) (rest_spans a n r rs e s))

  -- after a sort by its numbers, number i stands at place i
  pub in_order : (n : ℕ) (xs ys : List X) → IsPermutation xs ys → IsNonDecreasingBy key ys → ((x : ℕ) → times x (map key xs) ≡ one_if (nat_lt x n)) → map key ys ≡ range_with_len 0 n
  in_order n xs ys p up h = rises 0 n ys up (spans n (map key ys) (λ x. times_permuted xs ys x p ∙ h x))

times_from : (x a n : ℕ) → x < a → times x (range_with_len a n) ≡ 0
times_from x a zero lt = refl
times_from x a (suc n) lt =
    let h = times_from x (a + 1) n (omega (arith, lt)) in
    let o = one_unless x a lt in omega (arith, h, o)

times_within : (x a n : ℕ) → a ≤ x → x < a + n → times x (range_with_len a n) ≡ 1
times_within x a zero low lt = absurd (omega (arith, low, lt))
times_within x a (suc n) low lt = elim (cases_lt a x) [
  | inl less ↦ (
      let h = times_within x (a + 1) n (omega (arith, less)) (omega (arith, lt)) in
      let o = one_unless' x a less in omega (arith, h, o))
  | inr ge ↦ (
      let h = times_from x (a + 1) n (omega (arith, ge)) in
      let o = one_self x in
      let k : one_if (a == x) ≡ one_if (x == x) = ap (λ w. one_if (w == x)) (same low ge) in omega (arith, h, o, k))
]
  where
    same : a ≤ x → x ≤ a → a ≡ x
    same low ge = omega (arith, low, ge)

times_past : (x a n : ℕ) → a + n ≤ x → times x (range_with_len a n) ≡ 0
times_past x a zero le = refl
times_past x a (suc n) le =
    let h = times_past x (a + 1) n (omega (arith, le)) in
    let o = one_unless' x a (omega (arith, le)) in omega (arith, h, o)

pub times_range : (x n : ℕ) → times x (range_with_len 0 n) ≡ one_if (nat_lt x n)
times_range x n = elim (cases_lt x n) [
  | inl lt ↦ times_within x 0 n (omega arith) (omega (arith, lt)) ∙ sym (yes lt)
  | inr ge ↦ times_past x 0 n (omega (arith, ge)) ∙ sym (no ge)
]
  where
    yes : x < n → one_if (nat_lt x n) ≡ 1
    yes lt = grind (arith, nat_tests)

    no : n ≤ x → one_if (nat_lt x n) ≡ 0
    no le = grind (arith, nat_tests)
