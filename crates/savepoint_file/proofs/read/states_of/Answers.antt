use Rattle.std.proofs.Common.{◌≡◌, ◌∙◌, ℕ, List, None, Some, ap, arith, get_or, length, map, slice_set, subst, sym, take}
use Rattle.std.proofs.lemmas.List.{length-map}
use Rattle.std.specs.FinMap.{empty, insert}
use Rattle.keyed_state.specs.Counts.{Counts}
use Rattle.jobs.specs.Job.{job_view}
use Rattle.flow_model.specs.Workers.{workers_in}
use Rattle.savepoint.specs.SaveReading.{Placed, counts_at}
use Rattle.savepoint_file.specs.Steps.{there}
use Rattle.savepoint_file.proofs.NamedLemmas.{named-within, numbered}
use Rattle.savepoint_file.proofs.OrderLemmas.{all-before, one-grows}
use Rattle.savepoint_file.proofs.ReadLemmas.{there-none, there-some}
use Rattle.savepoint_file.proofs.read.states_of.Goals as goal
use Rattle.savepoint_file.proofs.read.states_of.Goals.{in-Some+in_ok-set-in-Some, in-None}

-- what is read at a place
at_place : {A : Type 0} (items : List A) (i : ℕ) (x y : A) → x ≡ get_or items i x → x ≡ y → get_or items i y ≡ y
at_place items i x y is same = sym (subst (λ z. z ≡ get_or items i z) same is)

pub set-requires : goal.set-requires
set-requires c =
    let job = job_view c.args.setup.now.job in
    let p = c.in-Some.placed in
    let at = at_place c.args.counts.now c.loop-count.count-index c.count-item.result (Some p) c.count-item.is (cc c.in-Some.is) in
    let within = named-within job c.args.counts.now c.requires.named c.loop-count.count-index p c.loop-count-test.true at in
    let same = ap length c.loop-count.invariant ∙ length-map (workers_in job) (counts_at (there (take c.loop-count.count-index c.args.counts.now))) in
    omega (arith, within, same)

pub loop-count-preserved : goal.loop-count-preserved
loop-count-preserved c =
    let job = job_view c.args.setup.now.job in
    let i = c.loop-count.count-index in
    let counts = c.args.counts.now in
    let done = there (take i counts) in
    elim c.match-count.branch [
      | in-Some+in_ok-set-in-Some w ↦
          let p = w.in-Some.placed in
          let at = at_place counts i c.count-item.result (Some p) c.count-item.is (cc w.in-Some.is) in
          let within = named-within job counts c.requires.named i p c.loop-count-test.true at in
          let before = all-before c.args.first None counts (there counts) c.requires.order i p c.loop-count-test.true at in
          rw w.states-is
          (w.in_ok-set-in-Some.ensures empty
          ∙ (ap (λ (s : List Counts). slice_set s p.worker (insert (get_or s p.worker empty) p.key p.count)) c.loop-count.invariant
          ∙ (one-grows done p 0 p.worker (workers_in job) empty before (numbered job) (omega arith) within
          ∙ ap (λ (l : List Placed). map (counts_at l) (workers_in job)) (sym (there-some counts i p c.loop-count-test.true at)))))
      | in-None w ↦
          let at = at_place counts i c.count-item.result None c.count-item.is (cc w.in-None.is) in
          rw w.states-is (c.loop-count.invariant ∙ ap (λ (l : List Placed). map (counts_at l) (workers_in job)) (sym (there-none counts i c.loop-count-test.true at)))
    ]
