-- How the journal of a worker is restored from its trimmed one and from what its lanes bring.
use Rattle.std.specs.Prelude.{◌≡◌, ℕ, ◌==◌, List, [], ◌∷◌, ◌++◌, Option, Some, None, slice_get}
use Rattle.std.specs.Prelude.{if◌then◌else◌}
use Rattle.sink_journal.specs.declared.journal.Entry.{Entry}
use Rattle.sink_journal.specs.declared.journal.Entry.TheVariants as entry
use Rattle.tuple_trace.specs.declared.row.Row.{Row}
use Rattle.tuple_trace.specs.declared.tuple.Item.{Item}
use Rattle.tuple_trace.specs.declared.tuple.Item.TheVariants as item
use Rattle.flow_model.specs.declared.topology.Lane.{Lane}
use Rattle.flow_model.specs.Begin.{Begin}
use Rattle.flow_model.specs.Lanes.{lanes}
use Rattle.flow_model.specs.SetupView.{SetupView}
use Rattle.audit_laws.specs.declared.audit.AuditEntry.{AuditEntry}
use Rattle.audit_laws.specs.declared.audit.AuditEntry.TheVariants as kept
use Rattle.audit_laws.specs.Delivered.{delivered}
use Rattle.audit_laws.specs.Faults.{AreItems}

-- The entry that takes an item of a lane.
abbrev pub took : ℕ → Item → Entry
took lane (item.Carry tuple) = entry.Met lane tuple
took lane (item.Mark request cover) = entry.Marked lane request
took lane item.Last = entry.Ended lane

-- The entry that takes the first of these items. There is none if there is no item.
abbrev pub took_next : ℕ → List Item → List Entry
took_next lane [] = []
took_next lane (item ∷ items) = took lane item ∷ []

abbrev pub later_items : List Item → List Item
later_items [] = []
later_items (item ∷ items) = items

-- What is left on each lane once the next item of this one is taken.
abbrev pub taken_from : ℕ → (ℕ → List Item) → ℕ → List Item
taken_from lane left n = if lane == n then later_items (left n) else left n

-- Each entry takes the next item of its lane, from what is left on each lane.
abbrev pub restored : (ℕ → List Item) → List AuditEntry → List Entry
restored left [] = []
restored left (kept.Met lane row birth ∷ more) =
    took_next lane (left lane) ++ restored (taken_from lane left) more
restored left (kept.Marked lane request ∷ more) =
    took_next lane (left lane) ++ restored (taken_from lane left) more
restored left (kept.Turned request ∷ more) = entry.Turned request ∷ restored left more
restored left (kept.Ended lane ∷ more) =
    took_next lane (left lane) ++ restored (taken_from lane left) more

abbrev pub items_taken : Option (List Item) → List Item
items_taken None = []
items_taken (Some items) = items

abbrev pub delivered_by :
    Begin → SetupView → List Row → List (List Entry) → Option Lane → List Item
delivered_by begin setup rows journals None = []
delivered_by begin setup rows journals (Some lane) =
    items_taken (delivered begin setup rows journals lane)

-- What each lane brings if the workers have these journals.
abbrev pub delivered_on : Begin → SetupView → List Row → List (List Entry) → ℕ → List Item
delivered_on begin setup rows journals n =
    delivered_by begin setup rows journals (slice_get (lanes setup.job) n)

-- Each lane into the worker brings items if the workers have these journals. They are the lane's
-- entries of the trimmed journal.
abbrev pub LanesAgree :
    Begin → SetupView → List Row → List (List Entry) → ℕ → List AuditEntry → Type 0
LanesAgree begin setup rows journals w journal =
    (n : ℕ) (lane : Lane) → slice_get (lanes setup.job) n ≡ Some lane → lane.receiver ≡ w →
    (items : List Item) × (delivered begin setup rows journals lane ≡ Some items)
    × AreItems n items journal

-- The journal of a worker, restored from the trimmed one and from what its lanes bring.
abbrev pub restored_by :
    Begin → SetupView → List Row → List (List Entry) → List AuditEntry → List Entry
restored_by begin setup rows journals journal =
    restored (delivered_on begin setup rows journals) journal
