use Rattle.std.proofs.Common.{◌≡◌, ◌∙◌, ◌&&◌, Some, nat_le, refl, sym, ap, false, true, arith}
use Rattle.std.specs.Prelude.{slice_get}
use Rattle.std.proofs.lemmas.Bool.{and_from, and_left, and_right}
use Rattle.std.proofs.lemmas.Bool.Decides.{nat_tests}
use Rattle.std.proofs.lemmas.Option.{slice_get-get_or}
use Rattle.jobs.specs.Nodes.{is_free}
use Rattle.jobs.specs.declared.func.NodeDef.{NodeDef}
use Rattle.flow_model.specs.Planned.{may_become_split}
use Rattle.flow_model.proofs.DueLemmas.{places_more, places_same}
use Rattle.flow_model.proofs.masks.may_become_splits.Goals as goal
use Rattle.flow_model.proofs.masks.may_become_splits.Goals.{then-is_free+then-def-ge2, else-is_free, else-is_free-via-then-is_free+else-def-ge2, else-is_free-via-else-is_free}

pub loop-node-preserved : goal.loop-node-preserved
loop-node-preserved c =
    let nodes = c.args.nodes.now in
    let i = c.loop-node.node in
    let def : NodeDef = c.index-nodes-node.result in
    let at : slice_get nodes i ≡ Some def =
    slice_get-get_or nodes i def c.loop-node-test.true ∙ ap Some (sym c.index-nodes-node.is) in
    elim c.if-is_free.branch [
      | then-is_free+then-def-ge2 w ↦
          let wide : nat_le 2 def.roof ≡ true = let q = w.if-def-ge2.true in grind (arith, nat_tests) in
          let free : is_free def.func ≡ true = sym c.is_free.ensures ∙ w.if-is_free.true in
          rw w.mask-is record {
            has = places_more may_become_split c.loop-node.mask w.with_bit-mask.result i def nodes at
                (and_from (is_free def.func) (nat_le 2 def.roof) free wide)
                w.with_bit-mask.ensures.set w.with_bit-mask.ensures.others c.loop-node.invariant.has;
            below = w.with_bit-mask.ensures.below _ c.loop-node-test.true c.loop-node.invariant.below;
          }
      | else-is_free w ↦
          let off : (is_free def.func && nat_le 2 def.roof) ≡ false = elim w.else-is_free.branch [
            | else-is_free-via-then-is_free+else-def-ge2 x ↦ and_right (is_free def.func) (nat_le 2 def.roof) (let q = x.if-def-ge2.false in grind (arith, nat_tests))
            | else-is_free-via-else-is_free x ↦ and_left (is_free def.func) (nat_le 2 def.roof) (sym c.is_free.ensures ∙ x.if-is_free.false)
          ] in
          rw w.mask-is record {
            has = places_same may_become_split c.loop-node.mask i def nodes at refl off c.loop-node.invariant.has;
            below = c.loop-node.invariant.below;
          }
    ]
