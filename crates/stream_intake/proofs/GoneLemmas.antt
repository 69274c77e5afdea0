-- A stream that goes on from its savepoint judges requests as it did.
use Rattle.std.proofs.Common.{◌≡◌, ◌∙◌, ◌≤◌, ◌<◌, ◌+◌, ◌++◌, ◌↔◌, ◌||◌, ℕ, List, Bool, Result, Ok}
use Rattle.std.proofs.Common.{Err, Some, drop, length, sym, subst, ap, slice_get}
use Rattle.std.specs.Prelude.{IfErr, IfOk, IsTrue, OnOk}
use Rattle.std.proofs.lemmas.List.{drop-append-le}
use Rattle.flow_dag.specs.Masks.{Has}
use Rattle.jobs.specs.Job.{job_view}
use Rattle.jobs.specs.JobView.{JobView}
use Rattle.jobs.specs.declared.job.Job.{Job}
use Rattle.versions.specs.Judged.{judged_within}
use Rattle.versions.specs.declared.in_order.Judged.{Judged}
use Rattle.versions.specs.declared.request.Request.{Request}
use Rattle.flow_model.specs.Planned.{may_become_split, splits_at}
use Rattle.flow_model.specs.Setup.{setup_view}
use Rattle.flow_model.specs.SetupView.{SetupView}
use Rattle.stream_save.specs.StreamText.{StreamSave}
use Rattle.stream_save.specs.declared.fault.StreamSaveFault.{StreamSaveFault}
use Rattle.stream_save.specs.declared.fault.StreamSaveFault.TheVariants as fault
use Rattle.stream_step.specs.Resumed.{IsResumed}
use Rattle.stream_step.specs.declared.stream.Stream.{Stream}
use Rattle.stream_intake.specs.Intake.{IsMaskOfNodes, accepted_after, judged_in}
use Rattle.stream_intake.proofs.IntakeLemmas.{JudgedLater, SplitsWithin, accepted_both}
use Rattle.stream_intake.proofs.MaskLemmas.{mask_of_some, one_mask}

-- ---- answers

pub both_ok : {A E : Type 0} (P Q R : A → Type 0) (r : Result A E) → ((a : A) → P a → Q a → R a)
    → IfOk r P → IfOk r Q → IfOk r R
both_ok P Q R (Ok a) f p q = f a p q
both_ok P Q R (Err e) f p q = tt

pub enough_ok : {A E : Type 0} (P R : A → Type 0) (N : Type 0) (r : Result A E)
    → ((a : A) → P a → N → R a) → IfOk r P → OnOk r N → IfOk r R
enough_ok P R N (Ok a) f p n = f a p n
enough_ok P R N (Err e) f p n = tt

pub map_err : {A E : Type 0} (P Q : E → Type 0) (r : Result A E) → ((e : E) → P e → Q e) → IfErr r P
    → IfErr r Q
map_err P Q (Ok a) f p = tt
map_err P Q (Err e) f p = f e p

-- ---- the mask

-- the mask of a stream's setup holds what it says
abbrev HoldsFor : JobView → List Request → ℕ → Type 0
HoldsFor job requests splits =
    (node : ℕ) → Has splits node ↔ IsTrue (splits_at job.nodes requests node || may_become_split
    (slice_get job.nodes node))

module _ (within : SplitsWithin) (job : Job) (mask : ℕ) (known : List Request) (ordered : Bool)
    (save : StreamSave) (s : Stream) (own : IsMaskOfNodes job.nodes mask)
    (is : IsResumed (job_view job) (judged_within (Some mask) (job_view job) known).accepted ordered
    save (setup_view s.setup)) where
  holds : HoldsFor (job_view job)
      (judged_within (Some mask) (job_view job) known).accepted s.setup.splits
  holds =
      subst (HoldsFor (job_view job) (judged_within (Some mask) (job_view job) known).accepted)
      (sym (ap (λ (v : SetupView). v.splits) is.setup_is))
      (subst (λ (l : List Request). HoldsFor (job_view job) l is.whole.splits) is.requests_are
      (subst (λ (j : JobView). HoldsFor j is.whole.requests is.whole.splits) is.job_is
      is.exact.splits))

  pub gone_mask : IsMaskOfNodes job.nodes s.setup.splits
  gone_mask =
      mask_of_some job.nodes mask s.setup.splits
      (judged_within (Some mask) (job_view job) known).accepted own
      (within mask (job_view job) known) holds

  pub gone_judged : (requests : List Request) → judged_in s requests
      ≡ judged_within (Some mask) (job_view job) requests
  gone_judged requests =
      ap (λ k. judged_within (Some k) (job_view s.setup.job) requests)
      (one_mask job.nodes s.setup.splits mask gone_mask own)
      ∙ ap (λ (j : JobView). judged_within (Some mask) j requests)
      (ap (λ (v : SetupView). v.job) is.setup_is ∙ is.job_is)

-- ---- what the stream tells, if the requests were judged with the job's mask

module _ (within : SplitsWithin) (job own : Job) (mask : ℕ) (known : List Request) (ordered : Bool)
    (save : StreamSave) (done : Judged) (holds : IsMaskOfNodes job.nodes mask)
    (job_is : own ≡ job) (done_is : done ≡ judged_within (Some mask) (job_view own) known) where
  done_within : done ≡ judged_within (Some mask) (job_view job) known
  done_within = done_is ∙ ap (λ (j : Job). judged_within (Some mask) (job_view j) known) job_is

  own_resumed : (s : Stream) → IsResumed (job_view own) done.accepted ordered save
      (setup_view s.setup) → IsResumed (job_view job)
      (judged_within (Some mask) (job_view job) known).accepted ordered save (setup_view s.setup)
  own_resumed s r =
      subst (λ (d : Judged). IsResumed (job_view job) d.accepted ordered save (setup_view s.setup))
      done_within
      (subst (λ (j : Job). IsResumed (job_view j) done.accepted ordered save (setup_view s.setup))
      job_is r)

  pub told_alike : (s : Stream) → IsResumed (job_view own) done.accepted ordered save
      (setup_view s.setup) → done ≡ judged_in s known
  told_alike s r =
      done_within ∙ sym (gone_judged within job mask known ordered save s holds (own_resumed s r)
      known)

  pub told_mask : (s : Stream) → IsResumed (job_view own) done.accepted ordered save
      (setup_view s.setup) → IsMaskOfNodes job.nodes s.setup.splits
  told_mask s r = gone_mask within job mask known ordered save s holds (own_resumed s r)

  pub told_resumed : (s : Stream)
      → IsResumed (job_view own) done.accepted ordered save (setup_view s.setup)
      → IsResumed (job_view job) (judged_in s known).accepted ordered save (setup_view s.setup)
  told_resumed s r =
      subst (λ (d : Judged). IsResumed (job_view job) d.accepted ordered save (setup_view s.setup))
      (told_alike s r)
      (subst (λ (j : Job). IsResumed (job_view j) done.accepted ordered save (setup_view s.setup))
      job_is r)

  pub told_fault : (splits : ℕ) → IsMaskOfNodes job.nodes splits → done
      ≡ judged_within (Some splits) (job_view job) known
  told_fault splits is =
      done_within ∙ ap (λ k. judged_within (Some k) (job_view job) known)
      (one_mask job.nodes mask splits holds is)

-- ---- the requests that are pending

pub gone_pending : JudgedLater → (s : Stream) (n : ℕ) (known more all pending : List Request) → all
    ≡ known ++ more → n ≤ length (judged_in s known).accepted
    → pending ≡ drop n (judged_in s known).accepted → pending
    ++ accepted_after s known (known ++ more) ≡ drop n (judged_in s all).accepted
gone_pending law s n known more all pending all_are le is =
    ap (λ (l : List Request). l ++ accepted_after s known (known ++ more)) is
    ∙ (sym (drop-append-le n (judged_in s known).accepted
    (accepted_after s known (known ++ more)) le)
    ∙ ap (drop n) (sym (accepted_both law s known more) ∙ ap
    (λ (l : List Request). (judged_in s l).accepted) (sym all_are)))

pub gone_fault : (job : JobView) (splits turned : ℕ) (known others : List Request)
    (error : StreamSaveFault) → known ≡ others
    → (length (judged_within (Some splits) job known).accepted < turned)
    × (error ≡ fault.Count (length (judged_within (Some splits) job known).accepted + 1))
    → (length (judged_within (Some splits) job others).accepted < turned)
    × (error ≡ fault.Count (length (judged_within (Some splits) job others).accepted + 1))
gone_fault job splits turned known others error e is =
    subst (λ (l : List Request). (length (judged_within (Some splits) job l).accepted < turned)
    × (error ≡ fault.Count (length (judged_within (Some splits) job l).accepted + 1))) e is
