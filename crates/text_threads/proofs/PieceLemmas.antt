-- The records of steps that are cut into pieces.
use Rattle.std.proofs.Common.{◌≡◌, ◌++◌, ◌∙◌, ℕ, List, Option, ap, append_assoc, map, sym}
use Rattle.std.specs.List.{filter_map}
use Rattle.std.proofs.lemmas.List.{map-append}
use Rattle.std.proofs.lemmas.List.Elements.{filter_map-append}
use Rattle.jobs.specs.declared.column.ColumnKind.{ColumnKind}
use Rattle.sink_journal.specs.Alerts.{alert, met, sink_alerts}
use Rattle.sink_journal.specs.declared.journal.Entry.{Entry}

-- what a sink shows for steps in two parts
shown-append : (name : List ℕ) (layout : List (Option ColumnKind)) (first later : List Entry)
    → sink_alerts name layout (first ++ later)
    ≡ sink_alerts name layout first ++ sink_alerts name layout later
shown-append name layout first later =
    ap (map (alert name layout)) (filter_map-append met first later)
    ∙ map-append (alert name layout) (filter_map met first) (filter_map met later)

-- one more piece of what a sink shows
pub shown-step : (name : List ℕ) (layout : List (Option ColumnKind))
    (now new end : List (List (List ℕ))) (whole first later : List Entry)
    → new ≡ now ++ sink_alerts name layout first → whole ≡ first ++ later
    → now ++ sink_alerts name layout whole ≡ end → new ++ sink_alerts name layout later ≡ end
shown-step name layout now new end whole first later pushed cut before =
    let S : List Entry → List (List (List ℕ)) = sink_alerts name layout in
    ap (λ (x : List (List (List ℕ))). x ++ S later) pushed ∙ append_assoc now (S first) (S later)
    ∙ ap (λ (x : List (List (List ℕ))). now ++ x) (sym (shown-append name layout first later))
    ∙ ap (λ (x : List Entry). now ++ S x) (sym cut) ∙ before
