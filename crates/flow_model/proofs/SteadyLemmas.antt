-- The worked lanes, item by item.
use Rattle.std.proofs.Common.{◌<◌, ◌≤◌, ℕ, [], ◌∷◌, refl, arith, lit<, lit≤}
use Rattle.std.specs.Prelude.{pos}
use Rattle.flow_model.specs.FourPayments.{passed}
use Rattle.std.proofs.lemmas.List.Elements.{All-cons, All-nil}
use Rattle.std.proofs.lemmas.List.Kept.{AllPairs-cons}
use Rattle.flow_dag.specs.Masks.{Has}
use Rattle.lane_core.specs.Steady.{Agrees, HasComeTo, IsNewAt, IsOldAt, IsSteady}
use Rattle.tuple_trace.specs.declared.tuple.Item.TheVariants as item
use Rattle.tuple_trace.specs.declared.tuple.Visit.{Visit}
use Rattle.flow_model.specs.SteadyLanes.{mark, new_tuple, old_tuple, out_of_filter, stray_tuple}

abbrev visit : ℕ → Visit
visit last = record { node = 1; worker = 0; last = last }

pub steady-in_order : IsSteady out_of_filter (old_tuple ∷ mark ∷ new_tuple ∷ item.Last ∷ [])
steady-in_order = record {
  come =
      All-cons (HasComeTo out_of_filter) old_tuple (mark ∷ new_tuple ∷ item.Last ∷ []) (tt, refl) (
      All-cons (HasComeTo out_of_filter) mark (new_tuple ∷ item.Last ∷ []) tt (
      All-cons (HasComeTo out_of_filter) new_tuple (item.Last ∷ []) (tt, refl) (
      All-cons (HasComeTo out_of_filter) item.Last [] tt (All-nil (HasComeTo out_of_filter)))));
  agree =
      AllPairs-cons Agrees old_tuple (mark ∷ new_tuple ∷ item.Last ∷ [])
      (All-cons (Agrees old_tuple) mark (new_tuple ∷ item.Last ∷ []) (All-cons (λ (v : Visit). Has 2 v.node → v.last < 1) (visit 0) [] (λ _. lit< tt) (All-nil (λ (v : Visit). Has 2 v.node → v.last < 1))) (
      All-cons (Agrees old_tuple) new_tuple (item.Last ∷ []) tt (All-cons (Agrees old_tuple) item.Last [] tt (All-nil (Agrees old_tuple))))) (
      AllPairs-cons Agrees mark (new_tuple ∷ item.Last ∷ [])
      (All-cons (Agrees mark) new_tuple (item.Last ∷ []) (All-cons (λ (v : Visit). Has 2 v.node → 1 ≤ v.last) (visit 1) [] (λ _. lit≤ tt) (All-nil (λ (v : Visit). Has 2 v.node → 1 ≤ v.last))) (
      All-cons (Agrees mark) item.Last [] tt (All-nil (Agrees mark)))) (
      AllPairs-cons Agrees new_tuple (item.Last ∷ []) (All-cons (Agrees new_tuple) item.Last [] tt (All-nil (Agrees new_tuple))) (
      AllPairs-cons Agrees item.Last [] (All-nil (Agrees item.Last)) (λ i j d lt lj. absurd (omega arith)))));
}

pub old-behind : IsSteady out_of_filter (mark ∷ old_tuple ∷ []) → ⊥
old-behind h =
    let new : IsNewAt 1 2 (passed 2 (pos 10000) 0) = h.agree 0 1 mark (lit< tt) (lit< tt) in
    let wrong : 1 ≤ 0 = new 0 (visit 0) (lit< tt) refl in
    absurd (omega (arith, wrong))

pub new-before : IsSteady out_of_filter (new_tuple ∷ mark ∷ []) → ⊥
new-before h =
    let old : IsOldAt 1 2 (passed 3 (pos 5000) 1) = h.agree 0 1 mark (lit< tt) (lit< tt) in
    let wrong : 1 < 1 = old 0 (visit 0) (lit< tt) refl in
    absurd (omega (arith, wrong))

pub stray-nowhere : IsSteady out_of_filter (stray_tuple ∷ []) → ⊥
stray-nowhere h = h.come 0 stray_tuple (lit< tt) 0 refl
