use Rattle.std.proofs.Common.{ap, refl, ◌++◌, ◌∷◌, []}
use Rattle.flow_runner.specs.declared.rule.Tally.{Tally}
use Rattle.flow_runner.proofs.Bringing.{in_hand}
use Rattle.flow_runner.proofs.steps.look.Goals as goal

pub put_back-requires-clause-listed : goal.put_back-requires-clause-listed
put_back-requires-clause-listed g c κs within =
    let took = c.in-Some.ensures.some in let same = c.visit.ensures in
    in_hand _ c.args.kept.now.items (c.args.kept.now.items ++ c.visit.new.self ∷ []) _ _ c.in-Some.runner c.visit.new.self refl (ap (λ (h : Tally). h.list) took) same.number same.endpoints c.in-Some.ensures.agrees c.requires.listed

pub put_back-requires-in-Idle-clause-listed : goal.put_back-requires-in-Idle-clause-listed
put_back-requires-in-Idle-clause-listed g c κs within =
    let took = c.in-Some.ensures.some in let same = c.visit.ensures in
    in_hand _ c.args.kept.now.items (c.args.kept.now.items ++ c.visit.new.self ∷ []) _ _ c.in-Some.runner c.visit.new.self refl (ap (λ (h : Tally). h.list) took) same.number same.endpoints c.in-Some.ensures.agrees c.requires.listed

pub returns-in-Done-clause-listed : goal.returns-in-Done-clause-listed
returns-in-Done-clause-listed g c =
    let took = c.in-Some.ensures.some in let same = c.visit.ensures in
    in_hand _ c.args.kept.now.items c.push_reserved.new.self.items _ _ c.in-Some.runner c.visit.new.self c.push_reserved.ensures.items (ap (λ (h : Tally). h.list) took) same.number same.endpoints c.in-Some.ensures.agrees c.requires.listed

pub returns-in-NoMemory-clause-listed : goal.returns-in-NoMemory-clause-listed
returns-in-NoMemory-clause-listed g c =
    let took = c.in-Some.ensures.some in let same = c.visit.ensures in
    in_hand _ c.args.kept.now.items c.push_reserved-in-NoMemory.new.self.items _ _ c.in-Some.runner c.visit.new.self c.push_reserved-in-NoMemory.ensures.items (ap (λ (h : Tally). h.list) took) same.number same.endpoints c.in-Some.ensures.agrees c.requires.listed
