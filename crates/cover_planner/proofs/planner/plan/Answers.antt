use Rattle.std.proofs.Common.{inl, inr}
use Rattle.flow_dag.proofs.MaskLemmas.{Has-below}
use Rattle.cover_planner.proofs.LawLemmas.{HasAllPaths-cover, IsLeast-cover}
use Rattle.cover_planner.proofs.planner.plan.Goals as goal

pub members-requires : goal.members-requires
members-requires c m h = Has-below c.args.dag.now.nodes c.args.asked m c.requires.asked h

pub cover-requires : goal.cover-requires
cover-requires c m h = elim ((c.members.ensures m).0 h) [
  | inl asked ↦ Has-below c.args.dag.now.nodes c.args.asked m c.requires.asked asked
  | inr above ↦ elim above [
    | inl split ↦ Has-below c.args.dag.now.nodes c.args.splits m c.requires.splits split.0
    | inr copy ↦ Has-below c.args.dag.now.nodes c.args.copies m c.requires.copies copy.0
  ]
]

pub returns-clause-plan : goal.returns-clause-plan
returns-clause-plan c = record {
  asks = c.cover.ensures.asked;
  members = rw c.cover.ensures.members c.members.ensures;
  cover = c.cover.ensures.cover;
}

pub returns-clause-paths : goal.returns-clause-paths
returns-clause-paths c = HasAllPaths-cover c.args.dag.now.edges c.cover.result c.cover.ensures.cover

pub returns-clause-least : goal.returns-clause-least
returns-clause-least c = IsLeast-cover c.args.dag.now.edges c.cover.result c.cover.ensures.cover
