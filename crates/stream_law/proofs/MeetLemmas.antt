-- Which rows a journal doesn't meet, in parts of it and in two journals together.
use Rattle.std.proofs.Common.{◌≡◌, ◌∙◌, ◌≢◌, ◌==◌, ◌++◌, ℕ, List, [], ◌∷◌, refl, sym, subst, ap}
use Rattle.std.proofs.Common.{true, false, Bool, cond, ◌||◌}
use Rattle.std.specs.List.{list_any}
use Rattle.std.proofs.lemmas.Bool.{eqb-true, or_from, or_parts}
use Rattle.std.proofs.lemmas.List.Elements.{filter_map-append}
use Rattle.std.proofs.lemmas.List.Folds.{list_any-append}
use Rattle.sink_journal.specs.Alerts.{met}
use Rattle.sink_journal.specs.declared.journal.Entry.{Entry}
use Rattle.sink_journal.specs.declared.journal.Entry.TheVariants as entry
use Rattle.tuple_trace.specs.declared.tuple.Tuple.{Tuple}
use Rattle.flow_model.specs.Whole.{after_turn, before_turn, is_turn, meets_row, met_tuples}
use Rattle.flow_model.proofs.ElementLemmas.{IsIn, any_in, in_filter_map}
use Rattle.flow_model.proofs.TurnLemmas.{met_is}
use Rattle.savepoint.specs.Parts.{endless}

-- ---- what is met

-- a journal doesn't meet a row of which it has no tuple
pub none_met : (row : ℕ) (journal : List Entry)
    → ((l : ℕ) (t : Tuple) → IsIn (entry.Met l t) journal → t.row ≢ row) → meets_row row journal
    ≡ false
none_met row journal none = go (meets_row row journal) refl
  where
    go : (b : Bool) → meets_row row journal ≡ b → meets_row row journal ≡ false
    go false e = e
    go true e =
        let a = any_in (λ (tuple : Tuple). tuple.row == row) (met_tuples journal) e in
        let m = in_filter_map met a.0 journal a.1 in
        let l = met_is m.0 a.0 m.2 in
        absurd (none l.0 a.0 (subst (λ (x : Entry). IsIn x journal) l.1 m.1)
        (eqb-true a.0.row row a.2))

met_endless : (journal : List Entry) → met_tuples (endless journal) ≡ met_tuples journal
met_endless [] = refl
met_endless (entry.Met l t ∷ more) = ap (λ (ts : List Tuple). t ∷ ts) (met_endless more)
met_endless (entry.Marked l r ∷ more) = met_endless more
met_endless (entry.Turned r ∷ more) = met_endless more
met_endless (entry.Ended l ∷ more) = met_endless more

-- ends are no rows
pub meets_endless : (row : ℕ) (journal : List Entry) → meets_row row (endless journal)
    ≡ meets_row row journal
meets_endless row journal =
    ap (list_any (λ (tuple : Tuple). tuple.row == row)) (met_endless journal)

meets_append : (row : ℕ) (x y : List Entry) → meets_row row (x ++ y) ≡ meets_row row x
    || meets_row row y
meets_append row x y =
    ap (list_any (λ (tuple : Tuple). tuple.row == row)) (filter_map-append met x y)
    ∙ list_any-append (λ (tuple : Tuple). tuple.row == row) (met_tuples x) (met_tuples y)

pub both_unmet : (row : ℕ) (x y : List Entry) → meets_row row x ≡ false → meets_row row y ≡ false
    → meets_row row (endless x ++ y) ≡ false
both_unmet row x y e f = meets_append row (endless x) y
    ∙ or_from (meets_row row (endless x)) (meets_row row y) (meets_endless row x ∙ e) f

-- ---- around a turn

-- a journal has what stands before a turn, perhaps the turn, and what stands after it
halves : (request : ℕ) (journal : List Entry) → (turn : List Entry)
    × (journal ≡ before_turn request journal ++ (turn ++ after_turn request journal))
halves request [] = ([], refl)
halves request (x ∷ more) = go (is_turn request x) (halves request more)
  where
    go : (b : Bool) → ((turn : List Entry)
        × (more ≡ before_turn request more ++ (turn ++ after_turn request more)))
        → (turn : List Entry)
        × (x ∷ more ≡ cond b [] (x ∷ before_turn request more)
        ++ (turn ++ cond b more (after_turn request more)))
    go true both = (x ∷ [], refl)
    go false both = (both.0, ap (λ (l : List Entry). x ∷ l) both.1)

pub unmet_around : (request row : ℕ) (journal : List Entry) → meets_row row journal ≡ false
    → (meets_row row (before_turn request journal) ≡ false)
    × (meets_row row (after_turn request journal) ≡ false)
unmet_around request row journal e =
    let half = halves request journal in
    let before : List Entry = before_turn request journal in
    let after : List Entry = after_turn request journal in
    let all : meets_row row before || meets_row row (half.0 ++ after) ≡ false =
    sym (meets_append row before (half.0 ++ after)) ∙ (sym (ap (meets_row row) half.1) ∙ e) in
    let one = or_parts (meets_row row before) (meets_row row (half.0 ++ after)) all in
    let two = or_parts (meets_row row half.0) (meets_row row after)
    (sym (meets_append row half.0 after) ∙ one.1) in
    (one.0, two.1)
