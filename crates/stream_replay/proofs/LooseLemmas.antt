-- The first part that is no run from where the one before it has ended.
use Rattle.std.proofs.Common.{◌≡◌, ◌∙◌, ◌<◌, ◌≤◌, ◌-◌, ◌++◌, ◌∷◌, ℕ, List, [], arith, inl, inr}
use Rattle.std.proofs.Common.{subst, sym, take}
use Rattle.std.proofs.lemmas.Bool.{cases_order}
use Rattle.std.proofs.lemmas.List.{same_from_push, take-take}
use Rattle.stream_replay.specs.InParts.{ArePartRuns, AreRunInParts, Given, Records, first_start}
use Rattle.stream_replay.specs.Loose.{AreRunUpTo, HasLoose, IsLoose}
use Rattle.stream_replay.proofs.ChainLemmas.{runs_take}

-- if all are runs, so are the first ones
pub up_to_of_all : (given : Given) (earlier : List Records) (last : Records) (count : ℕ)
    → AreRunInParts given earlier last → AreRunUpTo given earlier last count
up_to_of_all given earlier last count all = record {
  lefts = take count all.lefts;
  runs = runs_take given (first_start given) count earlier all.lefts all.runs;
  ends = λ few. all;
}

-- so are fewer of them
pub up_to_fewer : (given : Given) (earlier : List Records) (last : Records) (few many : ℕ)
    → few ≤ many → AreRunUpTo given earlier last many → AreRunUpTo given earlier last few
up_to_fewer given earlier last few many le are = record {
  lefts = take few are.lefts;
  runs =
      subst (λ (l : List Records). ArePartRuns given (first_start given) l (take few are.lefts))
      (take-take few many earlier le)
      (runs_take given (first_start given) few (take many earlier) are.lefts are.runs);
  ends = λ short. are.ends (omega arith);
}

pub loose_apart : (given : Given) (earlier : List Records) (last : Records) (part : ℕ)
    → AreRunInParts given earlier last → IsLoose given earlier last part → ⊥
loose_apart given earlier last part all loose =
    loose.here (up_to_of_all given earlier last part all)

loose_least : (given : Given) (earlier : List Records) (last : Records) (first second : ℕ)
    → IsLoose given earlier last first → IsLoose given earlier last second → first < second → ⊥
loose_least given earlier last first second a b lt =
    a.here (up_to_fewer given earlier last first (second - 1) (omega arith) b.before)

pub loose_sole : (given : Given) (earlier : List Records) (last : Records) (first second : ℕ)
    → IsLoose given earlier last first → IsLoose given earlier last second → first ≡ second
loose_sole given earlier last first second a b =
    elim (cases_order first second) [
      | inl same ↦ same
      | inr (inl lt) ↦ absurd (loose_least given earlier last first second a b lt)
      | inr (inr lt) ↦ absurd (loose_least given earlier last second first b a lt)
    ]

-- parts have one such part at most
pub has_sole : (given : Given) (parts : List Records) (first second : ℕ)
    → HasLoose given parts first → HasLoose given parts second → first ≡ second
has_sole given parts first second a b =
    let both = same_from_push b.earlier a.earlier b.last a.last (sym b.parts_are ∙ a.parts_are) in
    loose_sole given a.earlier a.last first second a.loose
    (subst (λ (e : List Records). IsLoose given e a.last second) both.0
    (subst (λ (r : Records). IsLoose given b.earlier r second) both.1 b.loose))

-- and none if they are runs one after another
pub has_apart : (given : Given) (parts : List Records) (part : ℕ)
    → ((earlier : List Records) (last : Records) → parts ≡ earlier ++ last ∷ []
    → AreRunInParts given earlier last) → HasLoose given parts part → ⊥
has_apart given parts part runs loose =
    loose_apart given loose.earlier loose.last part (runs loose.earlier loose.last loose.parts_are)
    loose.loose
