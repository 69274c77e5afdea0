-- What a pass's list names, when two passes unite, and when runners come and go.
use Rattle.std.proofs.Common.{◌≡◌, ℕ, ◌<◌, ◌++◌, ◌∷◌, [], List, length, map, refl, sym, ap, ◌∙◌, subst, arith}
use Rattle.std.specs.List.{All}
use Rattle.std.proofs.lemmas.List.{map-append}
use Rattle.std.proofs.lemmas.List.Elements.{All-append}
use Rattle.flow_runner.specs.Runner.{RunnerIs, EndpointsIs}
use Rattle.flow_runner.specs.Rule.{times, without, numbers, fixed_of, HasItsEndpoints, AreListed, HasEachOf, HasEnded}
use Rattle.flow_runner.proofs.Keeps.{times-append}
use Rattle.flow_runner.proofs.Bringing.{has, agreed, given, in_hand}
use Rattle.flow_runner.proofs.Fixed.{same_agree, same_numbers}
use Rattle.flow_runners.specs.Crew.{AreBack}

module _ (charter : List EndpointsIs) where
  pub united : (rs bs cs : List RunnerIs) (list more all : List ℕ) → cs ≡ rs ++ bs → all ≡ list ++ more → AreListed charter rs list → AreListed charter bs more → AreListed charter cs all
  united rs bs cs list more all e f a b = record {
    same = λ x.
        let h = ap (λ w. times x (numbers w)) e in
        let k = ap (times x) (map-append (λ (r : RunnerIs). r.number) rs bs) in
        let l = times-append x (numbers rs) (numbers bs) in
        let m = times-append x list more in
        let n = ap (times x) f in
        let p = a.same x in let q = b.same x in omega (arith, h, k, l, m, n, p, q);
    agree = let P : List RunnerIs → Type 0 = λ w. All (HasItsEndpoints charter) w in subst P (sym e) (All-append (HasItsEndpoints charter) rs bs a.agree b.agree);
  }

  pub along : (rs bs : List RunnerIs) (list : List ℕ) → rs ≡ bs → AreListed charter rs list → AreListed charter bs list
  along rs bs list e b = let P : List RunnerIs → Type 0 = λ w. AreListed charter w list in subst P e b

  pub listed : (rs : List RunnerIs) (list more : List ℕ) → more ≡ list → AreListed charter rs list → AreListed charter rs more
  listed rs list more e b = let P : List ℕ → Type 0 = λ w. AreListed charter rs w in subst P (sym e) b

  pub named_last : (rs bs : List RunnerIs) (list : List ℕ) (r : RunnerIs) → rs ≡ bs ++ r ∷ [] → AreListed charter rs list → 0 < times r.number list
  named_last rs bs list r e b = has charter bs list r (along rs (bs ++ r ∷ []) list e b)

  pub agreed_last : (rs bs : List RunnerIs) (list : List ℕ) (r : RunnerIs) → rs ≡ bs ++ r ∷ [] → AreListed charter rs list → HasItsEndpoints charter r
  agreed_last rs bs list r e b = agreed charter bs list r (along rs (bs ++ r ∷ []) list e b)

  pub pushed : (rs bs : List RunnerIs) (list less : List ℕ) (r : RunnerIs) → rs ≡ bs ++ r ∷ [] → less ≡ without r.number list → AreListed charter rs list → AreListed charter bs less
  pushed rs bs list less r e f b = given charter bs list less r f (along rs (bs ++ r ∷ []) list e b)

  -- r was taken out of the queue
  pub taken : (rs room bs : List RunnerIs) (list more : List ℕ) (r : RunnerIs) → room ≡ rs → bs ≡ room ++ r ∷ [] → more ≡ list ++ r.number ∷ [] → HasItsEndpoints charter r → AreListed charter rs list → AreListed charter bs more
  taken rs room bs list more r h e f a b = in_hand charter rs bs list more r r (e ∙ ap (λ w. w ++ r ∷ []) h) f refl refl a b

  -- turns after the queue is drained keep each runner
  pub back : (rs bs : List RunnerIs) → map fixed_of bs ≡ map fixed_of rs → HasEachOf (length charter) (numbers rs) → All (HasItsEndpoints charter) rs → All HasEnded bs → AreBack charter bs
  back rs bs same once agree done = record {
    once = λ x. ap (times x) (same_numbers rs bs same) ∙ once x;
    agree = same_agree charter rs bs same agree;
    done = done;
  }
