-- What is known of the parts that were looked at, and of the part that is no run.
use Rattle.std.proofs.Common.{◌≡◌, ◌∙◌, ◌+◌, ◌-◌, ◌++◌, ℕ, List, [], ◌∷◌, ap, arith}
use Rattle.std.proofs.Common.{length, subst, sym, take}
use Rattle.std.proofs.lemmas.List.{append-nil, length-append}
use Rattle.std.proofs.Math.Seq.{take-append-add, take-append_seam}
use Rattle.audit_fault.specs.declared.fault.AuditFault.{AuditFault}
use Rattle.audit_fault.specs.declared.fault.AuditFault.TheVariants as audit
use Rattle.flow_model.specs.Run.{Ran}
use Rattle.flow_model.specs.Setup.{setup_view}
use Rattle.stream_replay.specs.InParts.{ArePartRuns, AreRunInParts, Given, IsLastReplay, IsPartReplay}
use Rattle.stream_replay.specs.InParts.{PartStart, Records, first_start, start_after}
use Rattle.stream_replay.specs.InParts.{start_behind}
use Rattle.stream_replay.specs.Loose.{AreRunUpTo, IsLoose}
use Rattle.stream_replay.specs.declared.fault.PartFault.{PartFault}
use Rattle.stream_replay.specs.declared.fault.PartFault.TheVariants as part
use Rattle.stream_replay.specs.declared.progress.Progress.{Progress}
use Rattle.stream_replay.specs.declared.whole.Whole.{Whole}
use Rattle.stream_replay.specs.inner.Progress.{HasPassed, IsLooseAmong, IsLooseFor, IsProgress}
use Rattle.stream_replay.specs.inner.Progress.{fault_of, given_of, start_in}
use Rattle.stream_replay.proofs.ChainLemmas.{behind_append, runs_append, runs_split}

-- ---- a part more

-- what a call of `pass` says of the part
pub record Passes (given : Given) (start : PartStart) (records : Records) (next : PartStart)
    : Type 0 where
  pub left : Ran
  pub is : IsPartReplay given start records left
  pub next_is : next ≡ start_after given start records left
  pub only : (other : Ran) → IsPartReplay given start records other
      → next ≡ start_after given start records other

pub passed_more : (whole : Whole) (given : Given) (parts : List Records) (old new : Progress)
    (records : Records) → HasPassed whole given parts old → IsProgress whole new
    → given_of whole (setup_view new.setup) ≡ given
    → Passes given (start_in old) records (start_in new)
    → HasPassed whole given (parts ++ records ∷ []) new
passed_more whole given parts old new records was is same part = record {
  is = is;
  given_is = same;
  lefts = was.lefts ++ part.left ∷ [];
  runs =
      runs_append given (first_start given) parts was.lefts records part.left was.runs
      (subst (λ (s : PartStart). IsPartReplay given s records part.left)
      (sym (was.only was.lefts was.runs)) part.is);
  only = λ others runs.
      let of = runs_split given (first_start given) parts records others runs in
      let at = was.only of.lefts of.runs in
      ap (start_behind given (first_start given) (parts ++ records ∷ [])) of.all_are
      ∙ (behind_append given (first_start given) parts of.lefts records of.left of.runs
      ∙ (ap (λ (s : PartStart). start_after given s records of.left) at
      ∙ sym (part.only of.left
      (subst (λ (s : PartStart). IsPartReplay given s records of.left) at of.is))));
}

-- it says so of these, in the words of the call
pub passes_given : (whole : Whole) (given : Given) (old new : Progress) (records : Records)
    → given_of whole (setup_view old.setup) ≡ given
    → (left : Ran) × IsPartReplay (given_of whole (setup_view old.setup)) (start_in old) records left
    × (start_in new
    ≡ start_after (given_of whole (setup_view old.setup)) (start_in old) records left)
    → ((left : Ran) → IsPartReplay (given_of whole (setup_view old.setup)) (start_in old) records left
    → start_in new
    ≡ start_after (given_of whole (setup_view old.setup)) (start_in old) records left)
    → Passes given (start_in old) records (start_in new)
passes_given whole given old new records same part only =
    subst (λ (g : Given). Passes g (start_in old) records (start_in new)) same
    (record { left = part.0; is = part.1; next_is = part.2; only = only })

-- ---- a part that is no run

-- the first parts of a stream, and those after them
module _ (whole : Whole) (given : Given) (parts : List Records) (progress : Progress)
    (was : HasPassed whole given parts progress) where
  -- nothing is run up to a part that is none from here
  pub none_up_to : (records : Records) (later : List Records) (last : Records)
      → ((left : Ran) → IsPartReplay given (start_in progress) records left → ⊥)
      → AreRunUpTo given (parts ++ records ∷ later) last (length parts + 1) → ⊥
  none_up_to records later last none are =
      let front : take (length parts + 1) (parts ++ records ∷ later) ≡ parts ++ records ∷ [] =
      take-append-add parts (records ∷ later) 1 in
      let of = runs_split given (first_start given) parts records are.lefts
      (subst (λ (l : List Records). ArePartRuns given (first_start given) l are.lefts) front
      are.runs) in
      none of.left
      (subst (λ (s : PartStart). IsPartReplay given s records of.left) (was.only of.lefts of.runs)
      of.is)

  -- the parts before are
  pub up_to_here : (later : List Records) (last : Records) (count : ℕ) → count ≡ length parts
      → AreRunUpTo given (parts ++ later) last count
  up_to_here later last count same = record {
    lefts = was.lefts;
    runs =
        subst (λ (l : List Records). ArePartRuns given (first_start given) l was.lefts)
        (sym (ap (λ k. take k (parts ++ later)) same ∙ take-append_seam parts later)) was.runs;
    ends = λ few. absurd (omega (arith, length-append parts later));
  }

  pub loose_part : (records : Records) (later : List Records) (last : Records) (number : ℕ)
      → number ≡ length parts + 1
      → ((left : Ran) → IsPartReplay given (start_in progress) records left → ⊥)
      → IsLoose given (parts ++ records ∷ later) last number
  loose_part records later last number same none = record {
    counted = omega arith;
    before = up_to_here (records ∷ later) last (number - 1) (omega arith);
    here = λ are.
        none_up_to records later last none
        (subst (λ k. AreRunUpTo given (parts ++ records ∷ later) last k) same are);
  }

  pub loose_last : (last : Records) (number : ℕ) → number ≡ length parts + 1
      → ((left : Ran) → IsLastReplay given (start_in progress) last left → ⊥)
      → IsLoose given parts last number
  loose_last last number same none = record {
    counted = omega arith;
    before =
        subst (λ (l : List Records). AreRunUpTo given l last (number - 1)) (append-nil parts)
        (up_to_here [] last (number - 1) (omega arith));
    here = λ are.
        let all = are.ends (omega arith) in
        none all.left
        (subst (λ (s : PartStart). IsLastReplay given s last all.left) (was.only all.lefts all.runs)
        all.ends);
  }

  pub all_in_parts : (last : Records) (left : Ran) → IsLastReplay given (start_in progress) last left
      → AreRunInParts given parts last
  all_in_parts last left is = record {
    lefts = was.lefts;
    left = left;
    runs = was.runs;
    ends =
        subst (λ (s : PartStart). IsLastReplay given s last left) (sym (was.only was.lefts was.runs))
        is;
  }

-- ---- faults

-- the part's fault, if memory was found, says that it is no run
pub loose_at : (whole : Whole) (given : Given) (parts : List Records) (progress : Progress)
    (was : HasPassed whole given parts progress) (records : Records) (later : List Records)
    (last : Records) (number : ℕ) → number ≡ length parts + 1 → (code : AuditFault)
    → ((left : Ran) → IsPartReplay given (start_in progress) records left → code ≡ audit.NoMemory)
    → IsLooseFor given (parts ++ records ∷ later) last (fault_of number code)
loose_at whole given parts progress was records later last number same audit.NoMemory found = tt
loose_at whole given parts progress was records later last number same (audit.Shape i) found =
    loose_part whole given parts progress was records later last number same
    (λ left is. let e = found left is in absurd (cc e))
loose_at whole given parts progress was records later last number same (audit.Refused i) found =
    loose_part whole given parts progress was records later last number same
    (λ left is. let e = found left is in absurd (cc e))
loose_at whole given parts progress was records later last number same (audit.Feed i) found =
    loose_part whole given parts progress was records later last number same
    (λ left is. let e = found left is in absurd (cc e))
loose_at whole given parts progress was records later last number same (audit.Law w) found =
    loose_part whole given parts progress was records later last number same
    (λ left is. let e = found left is in absurd (cc e))
loose_at whole given parts progress was records later last number same (audit.Lane n) found =
    loose_part whole given parts progress was records later last number same
    (λ left is. let e = found left is in absurd (cc e))
loose_at whole given parts progress was records later last number same (audit.State w) found =
    loose_part whole given parts progress was records later last number same
    (λ left is. let e = found left is in absurd (cc e))

-- so does that of the last one
pub loose_end : (whole : Whole) (given : Given) (parts : List Records) (progress : Progress)
    (was : HasPassed whole given parts progress) (last : Records) (number : ℕ)
    → number ≡ length parts + 1 → (code : AuditFault)
    → ((left : Ran) → IsLastReplay given (start_in progress) last left → code ≡ audit.NoMemory)
    → IsLooseFor given parts last (fault_of number code)
loose_end whole given parts progress was last number same audit.NoMemory found = tt
loose_end whole given parts progress was last number same (audit.Shape i) found =
    loose_last whole given parts progress was last number same
    (λ left is. let e = found left is in absurd (cc e))
loose_end whole given parts progress was last number same (audit.Refused i) found =
    loose_last whole given parts progress was last number same
    (λ left is. let e = found left is in absurd (cc e))
loose_end whole given parts progress was last number same (audit.Feed i) found =
    loose_last whole given parts progress was last number same
    (λ left is. let e = found left is in absurd (cc e))
loose_end whole given parts progress was last number same (audit.Law w) found =
    loose_last whole given parts progress was last number same
    (λ left is. let e = found left is in absurd (cc e))
loose_end whole given parts progress was last number same (audit.Lane n) found =
    loose_last whole given parts progress was last number same
    (λ left is. let e = found left is in absurd (cc e))
loose_end whole given parts progress was last number same (audit.State w) found =
    loose_last whole given parts progress was last number same
    (λ left is. let e = found left is in absurd (cc e))

-- what holds of parts and the last one, holds among all
pub loose_among : (given : Given) (all earlier : List Records) (last : Records) (why : PartFault)
    → all ≡ earlier ++ last ∷ [] → IsLooseFor given earlier last why → IsLooseAmong given all why
loose_among given all earlier last (part.Loose number) same loose =
    record { earlier = earlier; last = last; parts_are = same; loose = loose }
loose_among given all earlier last part.NoMemory same loose = tt
