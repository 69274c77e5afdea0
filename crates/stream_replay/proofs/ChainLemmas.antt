-- Parts that are runs one after another, with one more or with fewer.
use Rattle.std.proofs.Common.{◌≡◌, ◌++◌, ℕ, zero, suc, List, [], ◌∷◌, ap, refl, take}
use Rattle.flow_model.specs.Run.{Ran}
use Rattle.stream_replay.specs.InParts.{ArePartRuns, Given, IsPartReplay, PartStart, Records}
use Rattle.stream_replay.specs.InParts.{start_after, start_behind}

-- a part more
pub runs_append : (given : Given) (start : PartStart) (parts : List Records) (lefts : List Ran)
    (records : Records) (left : Ran) → ArePartRuns given start parts lefts
    → IsPartReplay given (start_behind given start parts lefts) records left
    → ArePartRuns given start (parts ++ records ∷ []) (lefts ++ left ∷ [])
runs_append given start [] [] records left runs is = (is, tt)
runs_append given start (first ∷ later) (own ∷ more) records left runs is = (
  runs.0,
  runs_append given (start_after given start first own) later more records left runs.1 is,
)
runs_append given start [] (own ∷ more) records left runs is = absurd runs
runs_append given start (first ∷ later) [] records left runs is = absurd runs

pub behind_append : (given : Given) (start : PartStart) (parts : List Records) (lefts : List Ran)
    (records : Records) (left : Ran) → ArePartRuns given start parts lefts
    → start_behind given start (parts ++ records ∷ []) (lefts ++ left ∷ [])
    ≡ start_after given (start_behind given start parts lefts) records left
behind_append given start [] [] records left runs = refl
behind_append given start (first ∷ later) (own ∷ more) records left runs =
    behind_append given (start_after given start first own) later more records left runs.1
behind_append given start [] (own ∷ more) records left runs = absurd runs
behind_append given start (first ∷ later) [] records left runs = absurd runs

-- all but the last of them, and the last one
pub record AreSplit (given : Given) (start : PartStart) (parts : List Records) (records : Records)
    (all : List Ran) : Type 0 where
  pub lefts : List Ran
  pub left : Ran
  pub all_are : all ≡ lefts ++ left ∷ []
  pub runs : ArePartRuns given start parts lefts
  pub is : IsPartReplay given (start_behind given start parts lefts) records left

with_first : (given : Given) (start : PartStart) (first : Records) (later : List Records)
    (records : Records) (own : Ran) (more : List Ran) → IsPartReplay given start first own
    → AreSplit given (start_after given start first own) later records more
    → AreSplit given start (first ∷ later) records (own ∷ more)
with_first given start first later records own more run of = record {
  lefts = own ∷ of.lefts;
  left = of.left;
  all_are = ap (λ (l : List Ran). own ∷ l) of.all_are;
  runs = (run, of.runs);
  is = of.is;
}

pub runs_split : (given : Given) (start : PartStart) (parts : List Records) (records : Records)
    (all : List Ran) → ArePartRuns given start (parts ++ records ∷ []) all
    → AreSplit given start parts records all
runs_split given start [] records [] runs = absurd runs
runs_split given start [] records (left ∷ []) runs =
    record { lefts = []; left = left; all_are = refl; runs = tt; is = runs.0 }
runs_split given start [] records (left ∷ own ∷ more) runs = absurd runs.1
runs_split given start (first ∷ later) records [] runs = absurd runs
runs_split given start (first ∷ later) records (own ∷ more) runs =
    with_first given start first later records own more runs.0
    (runs_split given (start_after given start first own) later records more runs.1)

-- the first parts
pub runs_take : (given : Given) (start : PartStart) (count : ℕ) (parts : List Records)
    (lefts : List Ran) → ArePartRuns given start parts lefts
    → ArePartRuns given start (take count parts) (take count lefts)
runs_take given start zero parts lefts runs = tt
runs_take given start (suc n) [] [] runs = tt
runs_take given start (suc n) (first ∷ later) (own ∷ more) runs =
    (runs.0, runs_take given (start_after given start first own) n later more runs.1)
runs_take given start (suc n) [] (own ∷ more) runs = absurd runs
runs_take given start (suc n) (first ∷ later) [] runs = absurd runs
