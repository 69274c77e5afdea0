-- Each move keeps the rule.
use Rattle.std.proofs.Common.{Some, ◌≡◌, ℕ, zero, suc, ◌+◌, ◌-◌, ◌<◌, Bool, true, false, cond, nat_lt, ◌==◌, List, [], ◌∷◌, ◌++◌, length, set, sym, refl, ap, ◌∙◌, arith}
use Rattle.std.specs.List.{All}
use Rattle.std.proofs.lemmas.List.{map-append}
use Rattle.std.proofs.lemmas.List.Elements.{All-push, All-head, All-tail, All-nil, All-pop}
use Rattle.std.proofs.lemmas.Bool.Decides.{nat_tests}
use mathlib.Core.Option.{some, some-ne-none, some-injective}
use lib.ListN.{get_elem?}
use Rattle.crossbeam_queue.specs.Fifo.{Pushes, Pops, Forks, Merges, Learns}
use Rattle.flow_runner.specs.Runner.{RunnerIs, EndpointsIs}
use Rattle.flow_runner.specs.declared.rule.Tally.{Tally}
use Rattle.flow_runner.specs.Rule.{tally, one_if, all_below, times, without, numbers, HasItsEndpoints, IsEachOnce}
use Rattle.flow_runner.proofs.Totals.{total_set, total_snoc, alone, each_set, each_snoc}

pub times-append : (y : ℕ) (xs ys : List ℕ) → times y (xs ++ ys) ≡ times y xs + times y ys
times-append y [] ys = omega arith
times-append y (x ∷ xs) ys = let h = times-append y xs ys in omega (arith, h)

without_at : (x y z : ℕ) (zs : List ℕ) (b : Bool) → (z == x) ≡ b → 0 < times x (z ∷ zs)
    → (0 < times x zs → times y (without x zs) + one_if (x == y) ≡ times y zs)
    → times y (cond b zs (z ∷ without x zs)) + one_if (x == y) ≡ one_if (z == y) + times y zs
without_at x y z zs true is h ih =
    let e : z ≡ x = grind (arith, nat_tests) in
    let c : one_if (z == y) ≡ one_if (x == y) = ap (λ w. one_if (w == y)) e in omega (arith, c)
without_at x y z zs false is h ih =
    let c : one_if (z == x) ≡ 0 = ap (λ w. one_if w) is in
    let k = ih (omega (arith, h, c)) in omega (arith, k)

pub times-without : (x y : ℕ) (xs : List ℕ) → 0 < times x xs → times y (without x xs) + one_if (x == y) ≡ times y xs
times-without x y [] h = absurd (omega (arith, h))
times-without x y (z ∷ zs) h = without_at x y z zs (z == x) refl h (times-without x y zs)

abbrev Idle : Tally → Type 0
Idle u = u.parts ≡ 0 → u.list ≡ []

pub times-push : (y : ℕ) (items : List RunnerIs) (x : RunnerIs) → times y (numbers (items ++ x ∷ [])) ≡ times y (numbers items) + one_if (x.number == y)
times-push y items x =
    let h = ap (times y) (map-append (λ (r : RunnerIs). r.number) items (x ∷ [])) in
    let k = times-append y (numbers items) (x.number ∷ []) in omega (arith, h, k)

pub pushes : (charter : List EndpointsIs) (n port : ℕ) (v : Tally) (x : RunnerIs) → 0 < v.parts → 0 < times x.number v.list → HasItsEndpoints charter x
    → Pushes (IsEachOnce charter) n port v x (λ w. w ≡ tally v.parts (without x.number v.list))
pushes charter n port v x p h a items views _ k at =
    let w : Tally = tally v.parts (without x.number v.list) in (
      w,
      record {
        parts = let t = total_set (λ (u : Tally). u.parts) views port v w at in let q = k.parts in omega (arith, t, q);
        once = λ y.
            let t = total_set (λ (u : Tally). times y u.list) views port v w at in
            let q = k.once y in
            let r = times-push y items x in
            let s = times-without x.number y v.list h in omega (arith, t, q, r, s);
        agree = All-push (HasItsEndpoints charter) items x k.agree a;
        idle = each_set Idle views port w (λ z. absurd (omega (arith, z, p))) k.idle;
      },
      refl,
    )

pub pops : (charter : List EndpointsIs) (port : ℕ) (v : Tally) → 0 < v.parts
    → Pops (IsEachOnce charter) port v (λ x w. (w ≡ tally v.parts (v.list ++ x.number ∷ [])) × HasItsEndpoints charter x)
pops charter port v p x items views k at =
    let w : Tally = tally v.parts (v.list ++ x.number ∷ []) in (
      w,
      record {
        parts = let t = total_set (λ (u : Tally). u.parts) views port v w at in let q = k.parts in omega (arith, t, q);
        once = λ y.
            let t = total_set (λ (u : Tally). times y u.list) views port v w at in
            let q = k.once y in
            let s = times-append y v.list (x.number ∷ []) in omega (arith, t, q, s);
        agree = All-tail (HasItsEndpoints charter) x items k.agree;
        idle = each_set Idle views port w (λ z. absurd (omega (arith, z, p))) k.idle;
      },
      (refl, All-head (HasItsEndpoints charter) x items k.agree),
    )

pub learns : (charter : List EndpointsIs) (port : ℕ) (v : Tally)
    → Learns (IsEachOnce charter) port v (λ items. v.parts ≡ 16 → (x : ℕ) → times x (numbers items) + times x v.list ≡ one_if (nat_lt x (length charter)))
learns charter port v items views k at full x =
    let a = alone (λ (u : Tally). u.parts) (λ (u : Tally). times x u.list) views port v at (k.parts ∙ sym full) (λ p u e z. ap (times x) (k.idle p u e z)) in
    let q = k.once x in omega (arith, a, q)

pub forks : (charter : List EndpointsIs) (port : ℕ) (v : Tally) → 1 < v.parts → Forks (IsEachOnce charter) port v (tally (v.parts - 1) v.list) (tally 1 [])
forks charter port v p items views k at =
    let l : Tally = tally (v.parts - 1) v.list in let r : Tally = tally 1 [] in record {
      parts =
          let t = total_set (λ (u : Tally). u.parts) views port v l at in
          let s = total_snoc (λ (u : Tally). u.parts) (set views port l) r in
          let q = k.parts in omega (arith, t, s, q, p);
      once = λ y.
          let t = total_set (λ (u : Tally). times y u.list) views port v l at in
          let s = total_snoc (λ (u : Tally). times y u.list) (set views port l) r in
          let q = k.once y in omega (arith, t, s, q);
      agree = k.agree;
      idle = each_snoc Idle (set views port l) r (λ z. refl) (each_set Idle views port l (λ z. absurd (omega (arith, z, p))) k.idle);
    }

pub merges : (charter : List EndpointsIs) (port : ℕ) (v : Tally) (other : ℕ) (u : Tally) → 0 < v.parts
    → Merges (IsEachOnce charter) port v other u (tally (v.parts + u.parts) (v.list ++ u.list)) (tally 0 [])
merges charter port v other u p items views k at apart at' =
    let b : Tally = tally (v.parts + u.parts) (v.list ++ u.list) in let s : Tally = tally 0 [] in record {
      parts =
          let t = total_set (λ (x : Tally). x.parts) views port v b at in
          let r = total_set (λ (x : Tally). x.parts) (set views port b) other u s at' in
          let q = k.parts in omega (arith, t, r, q);
      once = λ y.
          let t = total_set (λ (x : Tally). times y x.list) views port v b at in
          let r = total_set (λ (x : Tally). times y x.list) (set views port b) other u s at' in
          let j = times-append y v.list u.list in
          let q = k.once y in omega (arith, t, r, j, q);
      agree = k.agree;
      idle = each_set Idle (set views port b) other s (λ z. refl) (each_set Idle views port b (λ z. absurd (omega (arith, z, p))) k.idle);
    }

one_more : (y n : ℕ) → one_if (nat_lt y n) + one_if (n == y) ≡ one_if (nat_lt y (suc n))
one_more y n = grind (arith, nat_tests)

pub times-up_to : (y n : ℕ) → times y (all_below n) ≡ one_if (nat_lt y n)
times-up_to y zero = grind (arith, nat_tests)
times-up_to y (suc n) =
    let h = times-up_to y n in
    let k = times-append y (all_below n) (n ∷ []) in
    let m = one_more y n in omega (arith, h, k, m)

first_full : (charter : List EndpointsIs) (port : ℕ) (v : Tally) → get_elem? (tally 16 (all_below (length charter)) ∷ []) port ≡ some v → v.parts ≡ 0 → v.list ≡ []
first_full charter zero v e z = let h : 16 ≡ v.parts = ap (λ (u : Tally). u.parts) (some-injective _ v e) in absurd (omega (arith, h, z))
first_full charter (suc port) v e z = absurd (some-ne-none v (sym e))

pub begins : (charter : List EndpointsIs) → IsEachOnce charter [] (tally 16 (all_below (length charter)) ∷ [])
begins charter = record {
  parts = refl;
  once = λ y. let h = times-up_to y (length charter) in omega (arith, h);
  agree = All-nil (HasItsEndpoints charter);
  idle = λ port v e z. first_full charter port v e z;
}

pub last_and_rest : {X : Type 0} (P : X → Type 0) (ys : List X) (x : X) → All P (ys ++ x ∷ []) → All P ys × P x
last_and_rest P ys x all = All-pop P (ys ++ x ∷ []) ys (Some x) refl all
