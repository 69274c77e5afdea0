-- The journal gains what each place notes.
use Rattle.std.proofs.Common.{◌≡◌, ℕ, ◌+◌, ◌<◌, List, [], ◌∷◌, ◌++◌, Bool, cond, set, get_or, take, drop, length, refl, ap, ◌∙◌, append_assoc}
use Rattle.flow_dag.specs.Masks.{has}
use Rattle.marker_align.specs.declared.held.Hand.TheVariants.{Empty}
use Rattle.sink_journal.specs.declared.journal.Entry.{Entry}
use Rattle.sink_journal.specs.declared.journal.Entry.TheVariants.{Marked, Ended}
use Rattle.flow_worker.specs.Endpoints.{LaneInIs}
use Rattle.flow_worker.specs.Steps.{emptied, marked_entries, all_emptied, ended_entries}
use Rattle.flow_worker.proofs.Pairs.{front, rest_same, walk_more}

pub marks_more : (lanes r i : ℕ) (items : List LaneInIs) (d z : LaneInIs) (j k : List Entry) (b : Bool) → i < length items → b ≡ has lanes i →
    k ≡ j ++ cond b (Marked (get_or items i d).number r ∷ []) [] →
    k ++ marked_entries lanes r (i + 1) (drop (i + 1) (set items i z)) ≡ j ++ marked_entries lanes r i (drop i items)
marks_more lanes r i items d z j k b l e h =
    rw (front items i d l, rest_same items i z, h, e) (append_assoc j (cond (has lanes i) (Marked (get_or items i d).number r ∷ []) []) (marked_entries lanes r (i + 1) (drop (i + 1) items)))

pub empties_more : (lanes i : ℕ) (items : List LaneInIs) (d z : LaneInIs) (b : Bool) → i < length items → b ≡ has lanes i →
    z ≡ cond b (record (get_or items i d) { hand = Empty }) (get_or items i d) →
    take i items ++ emptied lanes i (drop i items) ≡ take (i + 1) (set items i z) ++ emptied lanes (i + 1) (drop (i + 1) (set items i z))
empties_more lanes i items d z b l e h =
    walk_more (emptied lanes) (λ i a. cond (has lanes i) (record a { hand = Empty }) a) items i d z (λ a more. refl) l
    (h ∙ ap (λ b. cond b (record (get_or items i d) { hand = Empty }) (get_or items i d)) e)

pub ends_more : (i : ℕ) (items : List LaneInIs) (d z : LaneInIs) (j k : List Entry) → i < length items →
    k ≡ j ++ Ended (get_or items i d).number ∷ [] →
    k ++ ended_entries (drop (i + 1) (set items i z)) ≡ j ++ ended_entries (drop i items)
ends_more i items d z j k l h =
    rw (front items i d l, rest_same items i z, h) (append_assoc j (Ended (get_or items i d).number ∷ []) (ended_entries (drop (i + 1) items)))

pub clears_more : (i : ℕ) (items : List LaneInIs) (d z : LaneInIs) → i < length items → z ≡ record (get_or items i d) { hand = Empty } →
    take i items ++ all_emptied (drop i items) ≡ take (i + 1) (set items i z) ++ all_emptied (drop (i + 1) (set items i z))
clears_more i items d z l h = walk_more (λ i items. all_emptied items) (λ i a. record a { hand = Empty }) items i d z (λ a more. refl) l h
