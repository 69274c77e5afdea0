-- Why a stream has a fault.
use Rattle.std.proofs.Common.{◌≡◌, ◌⊎◌, ◌-◌, ℕ, List, Option, None, Some, inl, inr, subst}
use Rattle.std.specs.Prelude.{IfNone, IfSome}
use Rattle.input_pieces.specs.Taps.{TapState}
use Rattle.payments.specs.Causes.{Faults}
use Rattle.payments.specs.World.{ShelfState, World}
use Rattle.versions.specs.declared.in_order.Refused.{Refused}
use Rattle.stream_rows.specs.Reader.{fed_of}
use Rattle.stream_turns.specs.Taken.{StreamState, at}
use Rattle.stream_turns.specs.declared.inputs.StreamInputs.{StreamInputs}
use Rattle.fries_words.specs.declared.stream.StreamFiles.{StreamFiles}
use Rattle.stream_call.specs.Opened.{Opens}
use Rattle.stream_call.specs.Ended.{Early, EndsWhole, HasStopped, IsLeftBy}
use Rattle.stream_call.specs.Ended.{IsUnprinted}
use Rattle.stream_call.specs.Ended.{Unprinted, end_lines, stream_leaves, terms_of}
use Rattle.stream_call.specs.declared.fault.StreamFault.{StreamFault}
use Rattle.stream_call.specs.declared.opened.Opened.{Opened}

-- what holds of a value holds of it by another property
pub by-another : {A : Type 0} (o : Option A) (P Q : A → Type 0) → ((x : A) → P x → Q x)
    → IfSome o P → IfSome o Q
by-another None P Q so is = tt
by-another (Some x) P Q so is = so x is

-- where a stream begins that was opened
abbrev pub Begun : Opened → ShelfState → TapState → StreamState
Begun opened shelf tap = at opened.stream shelf.files opened.inputs tap

-- a stream that was opened, and that has a fault
pub stopped-by : (asked : StreamFiles) (old new : World) (before after : TapState)
    (refused : List Refused) (opened : Opened) (shelf : ShelfState) (inputs : StreamInputs)
    (rows : ℕ) (fault : Option StreamFault) (why : StreamFault)
    → Opens asked old.shelf shelf opened
    → IfSome fault (IsLeftBy (terms_of asked opened) (Begun opened shelf before) shelf.faults
    (stream_leaves inputs after new.shelf))
    → IfNone fault (EndsWhole (terms_of asked opened) (Begun opened shelf before)
    (stream_leaves inputs after new.shelf))
    → refused ≡ inputs.refused → rows ≡ fed_of inputs.reader - opened.stream.start.row
    → (fault ≡ Some why) ⊎ (fault ≡ None) × IsUnprinted (end_lines inputs rows) old.out why
    → HasStopped asked old new before after refused why
stopped-by asked old new before after refused opened shelf inputs rows fault why opens left whole
    refused_is rows_is (inl is) =
    let by : IsLeftBy (terms_of asked opened) (Begun opened shelf before) shelf.faults
    (stream_leaves inputs after new.shelf) why =
    subst (λ (o : Option StreamFault). IfSome o (IsLeftBy (terms_of asked opened)
    (Begun opened shelf before) shelf.faults (stream_leaves inputs after new.shelf))) is left in
    Early opened shelf inputs why opens
    (subst (λ (f : Faults). IsLeftBy (terms_of asked opened) (Begun opened shelf before) f
    (stream_leaves inputs after new.shelf) why) opens.faults by) refused_is
stopped-by asked old new before after refused opened shelf inputs rows fault why opens left whole
    refused_is rows_is (inr (is, un)) =
    Unprinted opened shelf inputs why opens
    (subst (λ (o : Option StreamFault). IfNone o (EndsWhole (terms_of asked opened)
    (Begun opened shelf before) (stream_leaves inputs after new.shelf))) is whole) refused_is
    (subst (λ (r : ℕ). IsUnprinted (end_lines inputs r) old.out why) rows_is un)
