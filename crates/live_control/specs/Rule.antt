-- The rule of a line, which holds between any two of its steps, and what each step tells.
use Rattle.std.specs.Prelude.{◌≡◌, ℕ, ◌≤◌, ⊤, true, false, List, [], ◌∷◌, ◌++◌, All}
use mathlib.Core.Option.{some}
use lib.ListN.{get_elem?}
use Rattle.atomic_table.specs.Table.{State, Me}
use Rattle.live_control.specs.declared.rule.View.{View}

-- the view of the first seat, which may do everything
abbrev pub fresh : View
fresh = record { may_tell = true; may_hear = true; told = 0; loads = [] }

-- the teller's part of a view, and the inbox's
abbrev pub teller_side : View → View
teller_side v = record v { may_hear = false; loads = [] }

abbrev pub inbox_side : View → View
inbox_side v = record v { may_tell = false; told = 0 }

-- the teller's view with what the inbox knows, and what is left of the inbox's
abbrev pub met : View → View → View
met v w = record v { may_hear = true; loads = w.loads }

abbrev pub spent : View
spent = record { may_tell = false; may_hear = false; told = 0; loads = [] }

-- no number is below an earlier one
abbrev pub NeverFalls : List ℕ → Type 0
NeverFalls [] = ⊤
NeverFalls (load ∷ later) = All (λ n. load ≤ n) later × NeverFalls later

-- what a seat that may tell knows: it is the only one, and released is what it told
pub record TellerKnows (teller released : ℕ) (seat : ℕ) (v : View) : Type 0 where
  pub alone : seat ≡ teller
  pub told_is : v.told ≡ released

-- what a seat that may hear knows: it is the only one, what it loaded never fell, and released has
-- reached it
pub record InboxKnows (inbox released : ℕ) (seat : ℕ) (v : View) : Type 0 where
  pub alone : seat ≡ inbox
  pub rises : NeverFalls v.loads
  pub loads : All (λ load. load ≤ released) v.loads

-- the rule: the two seats know what they know of the one word
pub record IsLine {S : Type 0} (s : State S View) : Type 0 where
  pub teller : ℕ
  pub inbox : ℕ
  pub released : ℕ
  pub words_are : s.words ≡ released ∷ []
  pub tellers :
      (seat : ℕ) (v : View) → get_elem? s.views seat ≡ some v → v.may_tell ≡ true
      → TellerKnows teller released seat v
  pub inboxes :
      (seat : ℕ) (v : View) → get_elem? s.views seat ≡ some v → v.may_hear ≡ true
      → InboxKnows inbox released seat v

-- the teller stored n in released
abbrev pub StoredReleased : {S : Type 0} → Me S View → ℕ → Me S View → Type 0
StoredReleased old n new = new ≡ (record old.0 { told = n }, old.1)

-- the inbox found n in released, which is what the teller told
pub record LoadedReleased {S : Type 0} (old : Me S View) (n : ℕ) (new : Me S View) : Type 0 where
  pub seat : new ≡ (record old.0 { loads = old.0.loads ++ n ∷ [] }, old.1)
  pub rises : All (λ load. load ≤ n) old.0.loads
  pub told : old.0.may_tell ≡ true → n ≡ old.0.told
