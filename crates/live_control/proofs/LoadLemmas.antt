-- The last of the loads of an inbox.
use Rattle.std.proofs.Common.{◌≡◌, ℕ, suc, ◌≤◌, ◌<◌, List, [], ◌∷◌, ◌++◌, sym, refl, ap, subst, ◌∙◌, arith, length}
use Rattle.std.specs.Prelude.{All}
use Rattle.atomic_table.specs.Table.{Me}
use Rattle.std.proofs.lemmas.List.{length-append}
use Rattle.sink_journal.specs.declared.journal.Feed.{Feed}
use Rattle.sink_journal.specs.declared.journal.Feed.TheVariants.{Issued}
use Rattle.coordinator.specs.Boxes.{LastAtLeast}
use Rattle.coordinator.specs.Live.{AreHeard}
use Rattle.live_control.specs.declared.rule.View.{View}
use Rattle.live_control.specs.Line.{last_from, last_load}
use Rattle.live_control.specs.Rule.{LoadedReleased, met}

pub last_from-push : (n : ℕ) (loads : List ℕ) (m : ℕ) → last_from n (loads ++ m ∷ []) ≡ m
last_from-push n [] m = refl
last_from-push n (load ∷ later) m = last_from-push load later m

-- a load is the last one
pub loads_last : {S : Type 0} (old new : Me S View) (n : ℕ) → LoadedReleased old n new → n ≡ last_load new.0.loads
loads_last {S} old new n loaded = sym (ap (λ (me : Me S View). last_load me.0.loads) loaded.seat ∙ last_from-push 0 old.0.loads n)

pub last_from-le : (n : ℕ) (loads : List ℕ) (m : ℕ) → n ≤ m → All (λ load. load ≤ m) loads → last_from n loads ≤ m
last_from-le n [] m le all = le
last_from-le n (load ∷ later) m le all = last_from-le load later m (all 0 0 (omega arith)) (λ i d within. all (suc i) d (omega (arith, within)))

-- what the inbox loaded last is at most what both load when they meet
pub meets_last : {S : Type 0} (v w : View) (me : Me S View) (slots : List (ℕ × S)) (n last : ℕ) → me ≡ (met v w, slots) → All (λ load. load ≤ n) me.0.loads → last ≡ last_load w.loads → last ≤ n
meets_last {S} v w me slots n last is all same =
    let below : last_load w.loads ≤ n = last_from-le 0 w.loads n (omega arith) (subst (λ (x : Me S View). All (λ load. load ≤ n) x.0.loads) is all) in omega (arith, below, same)

-- a request up to the last load was released
pub last_shows : (n : ℕ) (loads : List ℕ) (r : ℕ) → n < r → r ≤ last_from n loads → LastAtLeast r loads
last_shows n [] r lt le = absurd (omega (arith, lt, le))
last_shows n (load ∷ []) r lt le = ([], load, refl, le)
last_shows n (load ∷ (next ∷ later)) r lt le =
    let more = last_shows n (next ∷ later) r lt le in (load ∷ more.0, more.1, ap (λ l. load ∷ l) more.2, more.3)

-- a feed without an entry issues nothing
pub nothing_heard : (loads : List ℕ) (feeds : List Feed) → feeds ≡ [] → AreHeard loads feeds
nothing_heard loads feeds none before after r n e c =
    let a = ap (λ (l : List Feed). length l) (sym none ∙ e) in
    let b = length-append before (Issued r ∷ after) in
    absurd (omega (arith, a, b))
