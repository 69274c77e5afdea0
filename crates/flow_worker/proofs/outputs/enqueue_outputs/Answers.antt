use Rattle.std.proofs.Common.{◌≡◌, ◌∙◌, ℕ, ◌+◌, List, [], ◌∷◌, ◌++◌, Option, None, length, reverse, sym, ap, subst, arith}
use Rattle.std.specs.Prelude.{MatchOption}
use Rattle.std.proofs.lemmas.List.{nil_from_length, reverse-append}
use Rattle.jobs.specs.Job.{job_view}
use Rattle.operators.specs.declared.output.Output.{Output}
use Rattle.flow_worker.specs.Endpoints.{LaneOutIs}
use Rattle.flow_worker.specs.Pairs.{EachPair}
use Rattle.flow_worker.proofs.OutputLemmas.{Comes, comes_first, comes_last, comes_room, delivers, drops, place_within}
use Rattle.flow_worker.proofs.Pairs.{pairs_length}
use Rattle.flow_worker.proofs.outputs.enqueue_outputs.Goals as goal

-- as many lanes as before
same_long : (R : LaneOutIs → LaneOutIs → Type 0) (now was : List LaneOutIs) → EachPair R was now → length now ≡ length was
same_long R now was p = pairs_length R was now p

-- what is left, in order
next_first : (old new : List Output) (output : Output) → old ≡ new ++ output ∷ [] → reverse old ≡ output ∷ reverse new
next_first old new output e = ap reverse e ∙ reverse-append new (output ∷ [])

pub loop-output-init : goal.loop-output-init
loop-output-init g c =
    let same : reverse c.last_first-left.result.items ≡ c.args.made.now = c.last_first-left.ensures ∙ (c.into_vec.ensures ∙ c.replace.ensures.value) in
    record {
      comes = λ who is. subst (λ (xs : List Output). EachPair (Comes (job_view c.args.job.now) who c.args.made.now xs) c.args.outs.now c.args.outs.now) (sym same) (comes_first (job_view c.args.job.now) who c.args.made.now c.args.outs.now c.requires.room);
    }

pub push_at-requires-clause-within : goal.push_at-requires-clause-within
push_at-requires-clause-within g c κs up =
    let output = c.in-Some.output in
    let l = place_within (job_view c.args.job.now) c.args.node c.args.job.now.lawful c.requires.who.0 c.args.outs.now c.requires.who.1 output.port output.tuple c.in-Some-place_of.place c.args.edges.now c.requires.edges (sym c.in-Some-place_of.ensures) in
    omega (arith, l, same_long _ c.loop-output.outs c.args.outs.now (c.loop-output.invariant.comes c.requires.who.0 c.requires.who.1))

pub push_at-requires-clause-room : goal.push_at-requires-clause-room
push_at-requires-clause-room g c κs up d =
    let job = job_view c.args.job.now in
    let output = c.in-Some.output in
    let who = c.requires.who.0 in
    let l = place_within job c.args.node c.args.job.now.lawful who c.args.outs.now c.requires.who.1 output.port output.tuple c.in-Some-place_of.place c.args.edges.now c.requires.edges (sym c.in-Some-place_of.ensures) in
    let r = comes_room job who c.args.made.now (reverse c.pop.new.self.items) output c.in-Some-place_of.place d c.args.outs.now c.loop-output.outs (omega (arith, l, same_long _ c.loop-output.outs c.args.outs.now (c.loop-output.invariant.comes c.requires.who.0 c.requires.who.1)))
    (subst (λ (xs : List Output). EachPair (Comes job who c.args.made.now xs) c.args.outs.now c.loop-output.outs) (next_first c.loop-output.left.items c.pop.new.self.items c.in-Some.output c.in-Some.ensures.items) (c.loop-output.invariant.comes who c.requires.who.1)) in
    omega (arith, r)

pub loop-output-preserved-in-Some-place_of : goal.loop-output-preserved-in-Some-place_of
loop-output-preserved-in-Some-place_of g c =
    let job = job_view c.args.job.now in
    let output = c.in-Some.output in
    record {
      comes = λ who is.
          let l = place_within job c.args.node c.args.job.now.lawful who c.args.outs.now is output.port output.tuple c.in-Some-place_of.place c.args.edges.now c.requires.edges (sym c.in-Some-place_of.ensures) in
          subst (λ (xs : List LaneOutIs). EachPair (Comes job who c.args.made.now (reverse c.pop.new.self.items)) c.args.outs.now xs) (sym c.push_at.ensures.set_is)
          (delivers job c.args.node c.args.job.now.lawful who c.args.outs.now is c.args.made.now (reverse c.pop.new.self.items) output c.in-Some-place_of.place c.args.edges.now c.push_at.ensures.at c.push_at.ensures.at c.loop-output.outs c.requires.edges (sym c.in-Some-place_of.ensures)
          (omega (arith, l, same_long _ c.loop-output.outs c.args.outs.now (c.loop-output.invariant.comes c.requires.who.0 c.requires.who.1))) (c.push_at.ensures.at_is c.push_at.ensures.at)
          (subst (λ (xs : List Output). EachPair (Comes job who c.args.made.now xs) c.args.outs.now c.loop-output.outs) (next_first c.loop-output.left.items c.pop.new.self.items c.in-Some.output c.in-Some.ensures.items) (c.loop-output.invariant.comes who is)));
    }

pub loop-output-preserved : goal.loop-output-preserved
loop-output-preserved g c =
    let job = job_view c.args.job.now in
    let output = c.in-Some.output in
    record {
      comes = λ who is.
          drops job c.args.node c.args.job.now.lawful who c.args.outs.now is c.args.made.now (reverse c.pop.new.self.items) output c.args.edges.now c.loop-output.outs c.requires.edges (sym c.place_of.ensures ∙ c.in_default-place_of.is)
          (subst (λ (xs : List Output). EachPair (Comes job who c.args.made.now xs) c.args.outs.now c.loop-output.outs) (next_first c.loop-output.left.items c.pop.new.self.items c.in-Some.output c.in-Some.ensures.items) (c.loop-output.invariant.comes who is));
    }

-- nothing is left, before the pop and after it
none_left : (result : Option Output) (old new : ℕ) → result ≡ None → MatchOption result ((old ≡ 0) × (new ≡ 0)) (λ _. new + 1 ≡ old) → (old ≡ 0) × (new ≡ 0)
none_left result old new e m = subst (λ (o : Option Output). MatchOption o ((old ≡ 0) × (new ≡ 0)) (λ _. new + 1 ≡ old)) e m

pub returns-clause-emptied : goal.returns-clause-emptied
returns-clause-emptied g c =
    let n = none_left c.pop.result _ _ c.in_default.is c.pop.ensures.cases in
    c.from_vec.ensures ∙ nil_from_length c.pop.new.self.items (omega (arith, n.1, c.pop.new.self.ok.0))

pub returns-clause-outs : goal.returns-clause-outs
returns-clause-outs g c who is =
    let job = job_view c.args.job.now in
    let n = none_left c.pop.result _ _ c.in_default.is c.pop.ensures.cases in
    let none : c.loop-output.left.items ≡ [] = nil_from_length c.loop-output.left.items (omega (arith, n.0, c.loop-output.left.ok.0)) in
    comes_last job who c.args.made.now c.args.outs.now c.loop-output.outs
    (subst (λ (xs : List Output). EachPair (Comes job who c.args.made.now xs) c.args.outs.now c.loop-output.outs) (ap reverse none) (c.loop-output.invariant.comes who is))
