use Rattle.std.proofs.Common.{◌≡◌, ◌∙◌, ◌≤◌, ◌+◌, ◌++◌, ◌∷◌, List, ap, arith, drop, length, slice_get, subst, sym}
use Rattle.std.proofs.lemmas.List.{append-nil, drop_all, drop_more}
use Rattle.jobs.specs.declared.func.Func.{Func}
use Rattle.jobs.specs.declared.func.NodeDef.{NodeDef}
use Rattle.flow_model.specs.SetupView.{SetupView}
use Rattle.flow_model.specs.Serial.{func_of_node}
use Rattle.flow_model.specs.Setup.{setup_view}
use Rattle.serial_order.proofs.TableLemmas.{funcs-more, funcs_from, get-funcs}
use Rattle.serial_order.proofs.table.table_at.Goals as goal

pub loop-node-preserved : goal.loop-node-preserved
loop-node-preserved c =
    let setup : SetupView = setup_view c.args.setup.now in
    let nodes : List NodeDef = c.args.setup.now.job.nodes in
    let items : List NodeDef = c.as_slice-def-items.result.now in
    let node = c.loop-node.node in
    let def : NodeDef = c.def-item.result in
    let listed : drop node items ≡ def ∷ drop (node + 1) items =
    drop_more items node def c.loop-node-test.true ∙ ap (λ (x : NodeDef). x ∷ drop (node + 1) items) (sym c.def-item.is) in
    let here : drop node nodes ≡ def ∷ drop (node + 1) nodes = subst (λ (l : List NodeDef). drop node l ≡ def ∷ drop (node + 1) l) c.as_slice-def-items.ensures listed in
    rw (c.in_ok-push.ensures.ok, c.in_ok-copy_of.ensures, c.func_after.ensures)
    (funcs-more setup c.args.k node nodes c.loop-node.table def here ∙ c.loop-node.invariant)

pub returns : goal.returns
returns c n =
    let setup : SetupView = setup_view c.args.setup.now in
    let nodes : List NodeDef = c.args.setup.now.job.nodes in
    let node = c.loop-node.node in
    let table : List Func = c.loop-node.table in
    let end : length nodes ≤ node = subst (λ (l : List NodeDef). length l ≤ node) c.as_slice-def-items.ensures c.loop-node-test.false in
    let all : table ≡ funcs_from setup c.args.k 0 nodes =
    sym (append-nil table) ∙ (ap (λ (l : List NodeDef). table ++ funcs_from setup c.args.k node l) (sym (drop_all node nodes end)) ∙ c.loop-node.invariant) in
    let place : 0 + n ≡ n = omega arith in
    ap (λ (l : List Func). slice_get l n) all
    ∙ (get-funcs setup c.args.k 0 nodes n ∙ ap (λ m. func_of_node setup c.args.k m (slice_get nodes n)) place)
