-- What a worker meets before and after a turn in two journals, the second after the first.
use Rattle.std.proofs.Common.{◌≡◌, ◌∙◌, ◌==◌, ◌++◌, ℕ, List, [], ◌∷◌, inl, inr, refl, ap, true}
use Rattle.std.proofs.Common.{false, Bool, cond}
use Rattle.sink_journal.specs.declared.journal.Entry.{Entry}
use Rattle.sink_journal.specs.declared.journal.Entry.TheVariants as entry
use Rattle.flow_model.specs.Whole.{after_turn, before_turn, meets_row}
use Rattle.flow_model.proofs.ElementLemmas.{IsIn}
use Rattle.flow_model.proofs.TurnLemmas.{rest_has, turn_is}
use Rattle.savepoint.specs.Parts.{endless}
use Rattle.stream_law.proofs.MeetLemmas.{both_unmet, meets_endless, unmet_around}

-- ---- a request that the first journal turns

turned_before : (request : ℕ) (x y : List Entry) → IsIn (entry.Turned request) x
    → before_turn request (endless x ++ y) ≡ endless (before_turn request x)
turned_before request [] y i = absurd i
turned_before request (entry.Met l t ∷ more) y (inl e) = absurd (cc)
turned_before request (entry.Met l t ∷ more) y (inr i) =
    ap (λ (j : List Entry). entry.Met l t ∷ j) (turned_before request more y i)
turned_before request (entry.Marked l r ∷ more) y (inl e) = absurd (cc)
turned_before request (entry.Marked l r ∷ more) y (inr i) =
    ap (λ (j : List Entry). entry.Marked l r ∷ j) (turned_before request more y i)
turned_before request (entry.Ended l ∷ more) y (inl e) = absurd (cc)
turned_before request (entry.Ended l ∷ more) y (inr i) = turned_before request more y i
turned_before request (entry.Turned r ∷ more) y i =
    go (r == request) refl (turned_before request more y)
  where
    go : (b : Bool) → (r == request) ≡ b
        → (IsIn (entry.Turned request) more → before_turn request (endless more ++ y)
        ≡ endless (before_turn request more))
        → cond b [] (entry.Turned r ∷ before_turn request (endless more ++ y))
        ≡ endless (cond b [] (entry.Turned r ∷ before_turn request more))
    go true e later = refl
    go false e later = ap (λ (j : List Entry). entry.Turned r ∷ j)
        (later (rest_has request (entry.Turned r) more e i))

turned_after : (request : ℕ) (x y : List Entry) → IsIn (entry.Turned request) x
    → after_turn request (endless x ++ y) ≡ endless (after_turn request x) ++ y
turned_after request [] y i = absurd i
turned_after request (entry.Met l t ∷ more) y (inl e) = absurd (cc)
turned_after request (entry.Met l t ∷ more) y (inr i) = turned_after request more y i
turned_after request (entry.Marked l r ∷ more) y (inl e) = absurd (cc)
turned_after request (entry.Marked l r ∷ more) y (inr i) = turned_after request more y i
turned_after request (entry.Ended l ∷ more) y (inl e) = absurd (cc)
turned_after request (entry.Ended l ∷ more) y (inr i) = turned_after request more y i
turned_after request (entry.Turned r ∷ more) y i =
    go (r == request) refl (turned_after request more y)
  where
    go : (b : Bool) → (r == request) ≡ b
        → (IsIn (entry.Turned request) more → after_turn request (endless more ++ y)
        ≡ endless (after_turn request more) ++ y)
        → cond b (endless more ++ y) (after_turn request (endless more ++ y))
        ≡ endless (cond b more (after_turn request more)) ++ y
    go true e later = refl
    go false e later = later (rest_has request (entry.Turned r) more e i)

-- a row that the first journal doesn't meet before its turn
pub kept_before : (request row : ℕ) (x y : List Entry) → IsIn (entry.Turned request) x
    → meets_row row (before_turn request x) ≡ false
    → meets_row row (before_turn request (endless x ++ y)) ≡ false
kept_before request row x y i e = ap (meets_row row) (turned_before request x y i)
    ∙ (meets_endless row (before_turn request x) ∙ e)

-- a row that the first journal doesn't meet after its turn, and the second not at all
pub kept_after : (request row : ℕ) (x y : List Entry) → IsIn (entry.Turned request) x
    → meets_row row (after_turn request x) ≡ false → meets_row row y ≡ false
    → meets_row row (after_turn request (endless x ++ y)) ≡ false
kept_after request row x y i e f = ap (meets_row row) (turned_after request x y i)
    ∙ both_unmet row (after_turn request x) y e f

-- ---- a request that the first journal doesn't turn

unturned_after : (request : ℕ) (x y : List Entry) → ¬ IsIn (entry.Turned request) x
    → after_turn request (endless x ++ y) ≡ after_turn request y
unturned_after request [] y none = refl
unturned_after request (entry.Met l t ∷ more) y none =
    unturned_after request more y (λ i. none (inr i))
unturned_after request (entry.Marked l r ∷ more) y none =
    unturned_after request more y (λ i. none (inr i))
unturned_after request (entry.Ended l ∷ more) y none =
    unturned_after request more y (λ i. none (inr i))
unturned_after request (entry.Turned r ∷ more) y none =
    go (r == request) refl (unturned_after request more y (λ i. none (inr i)))
  where
    go : (b : Bool) → (r == request) ≡ b → after_turn request (endless more ++ y)
        ≡ after_turn request y
        → cond b (endless more ++ y) (after_turn request (endless more ++ y)) ≡ after_turn request y
    go true e later = absurd (none (inl (turn_is request (entry.Turned r) e)))
    go false e later = later

-- a row that neither journal meets
pub anew_before : (request row : ℕ) (x y : List Entry) → meets_row row x ≡ false → meets_row row y
    ≡ false → meets_row row (before_turn request (endless x ++ y)) ≡ false
anew_before request row x y e f =
    (unmet_around request row (endless x ++ y) (both_unmet row x y e f)).0

-- a row that the second journal doesn't meet
pub anew_after : (request row : ℕ) (x y : List Entry) → ¬ IsIn (entry.Turned request) x
    → meets_row row y ≡ false → meets_row row (after_turn request (endless x ++ y)) ≡ false
anew_after request row x y none f = ap (meets_row row) (unturned_after request x y none)
    ∙ (unmet_around request row y f).1
