use Rattle.std.proofs.Common.{rules, ◌≡◌, ◌∙◌, sym, map, true, false}
use Rattle.std.proofs.lemmas.List.Folds.{list_all-map}
use Rattle.std.specs.List.{list_all}
use Rattle.marker_align.specs.Hands.{is_last}
use Rattle.marker_align.proofs.decision.decide_among.Goals as goal
use Rattle.marker_align.proofs.decision.decide_among.Goals.{in-Some+else-may_turn, in_default, else-is_none-via-then-is_none+else-all_last, else-is_none-via-else-is_none}

pub returns-then-all_last : goal.returns-then-all_last
returns-then-all_last g c =
    let ends : list_all is_last (map g.H.Holder.hand c.args.hands.now) ≡ true = list_all-map is_last g.H.Holder.hand c.args.hands.now ∙ sym c.all_last.ensures ∙ c.if-all_last.true in
    rw ends (search rules)

pub returns : goal.returns
returns g c = elim c.else-is_none.branch [
  | else-is_none-via-then-is_none+else-all_last w ↦
      let ends : list_all is_last (map g.H.Holder.hand c.args.hands.now) ≡ false = list_all-map is_last g.H.Holder.hand c.args.hands.now ∙ sym w.all_last.ensures ∙ w.if-all_last.false in
      rw ends (search rules)
  | else-is_none-via-else-is_none w ↦ search rules
]
