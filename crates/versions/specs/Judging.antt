-- Which requests are accepted, and why another isn't.
use Rattle.std.specs.Prelude.{ℕ, pos, ◌+◌, Bool, true, false, not, ◌||◌, ◌&&◌, List, [], ◌∷◌, ◌++◌, length, Option, Some, None, position, slice_get, nat_lt, nat_le, int_lt, ◌==◌, if◌then◌else◌}
use Rattle.std.specs.Option.{option_or}
use Rattle.flow_dag.specs.Masks.{has}
use Rattle.keyed_state.specs.declared.carry.Carry.{Carry}
use Rattle.keyed_state.specs.declared.carry.Carry.TheVariants as carry
use Rattle.jobs.specs.Fits.{fits}
use Rattle.flow_dag.specs.declared.edge.Edge.{Edge}
use Rattle.jobs.specs.Kinds.{is_kind, key_of, kind_of}
use Rattle.jobs.specs.Nodes.{fan_out, is_count, is_fixed, is_free, is_split}
use Rattle.jobs.specs.Ports.{out_count}
use Rattle.jobs.specs.JobView.{JobView}
use Rattle.jobs.specs.declared.func.Func.{Func}
use Rattle.jobs.specs.declared.func.NodeDef.{NodeDef}
use Rattle.versions.specs.Book.{current_version, is_named}
use Rattle.versions.specs.declared.book.Current.{Current}
use Rattle.versions.specs.declared.judging.Code.{Code}
use Rattle.versions.specs.declared.judging.Code.TheVariants as code
use Rattle.versions.specs.declared.request.Change.{Change}
use Rattle.versions.specs.declared.request.Request.{Request}
use Rattle.versions.specs.declared.fault.QFault.{QFault}
use Rattle.versions.specs.declared.fault.QFault.TheVariants as fault

-- ---- one change

-- a source, a replicate or a sink: requests leave it as it is
abbrev pub is_fixed_at : Option NodeDef → Bool
is_fixed_at None = false
is_fixed_at (Some node) = is_fixed node.func

-- there is a node, and it is a count
abbrev pub is_count_at : Option NodeDef → Bool
is_count_at None = false
is_count_at (Some node) = is_count node.func

-- the roof of a node, or 1 if there is no node
abbrev pub roof_at : Option NodeDef → ℕ
roof_at None = 1
roof_at (Some node) = node.roof

-- just one edge leaves the node
abbrev pub leaves_once : List Edge → ℕ → Bool
leaves_once edges node = out_count edges node == 1

-- both count by one column, or neither counts
abbrev pub is_key : Option ℕ → Option ℕ → Bool
is_key None None = true
is_key (Some a) (Some b) = a == b
is_key _ _ = false

-- both functions are of one kind that requests change, and count by the same key
abbrev pub is_like : Func → Func → Bool
is_like current new =
    not (is_fixed current)
    && (is_kind (kind_of current) (kind_of new) && is_key (key_of current) (key_of new))

-- the change was written for another version
abbrev pub is_stale_at : Option Current → ℕ → Bool
is_stale_at None from = false
is_stale_at (Some current) from = not (current.version == from)

-- a new function may follow the current one: it is of its kind and counts by the same key, or both
-- are of free kinds and one edge leaves the node; and its fan-out is at most the node's roof
abbrev pub may_replace : Func → Func → ℕ → Bool → Bool
may_replace current new roof once =
    (is_like current new || (is_free current && is_free new && once)) && nat_le (fan_out new) roof

-- the new function may follow the one that the book has for the node, or the book has none
abbrev pub may_replace_at : Option Current → Func → ℕ → Bool → Bool
may_replace_at None new roof once = true
may_replace_at (Some current) new roof once = may_replace current.func new roof once

-- the carry isn't `keep` at a node that doesn't count, or divides by less than 1
abbrev pub is_bad_carry : Bool → Carry → Bool
is_bad_carry counts carry.Keep = false
is_bad_carry counts carry.Reset = not counts
is_bad_carry counts (carry.Scale by over) = not counts || int_lt over (pos 1)
is_bad_carry counts (carry.DropBelow least) = not counts

-- the change has this fault, with these changes before it in the request
abbrev pub has_fault : Code → List Current → JobView → List Change → Change → Bool
has_fault code.NoNode book job before c = nat_le (length job.nodes) c.node
has_fault code.Fixed book job before c = is_fixed_at (slice_get job.nodes c.node)
has_fault code.NodeTwice book job before c = is_named before c.node
has_fault code.Stale book job before c = is_stale_at (slice_get book c.node) c.from
has_fault code.IllTyped book job before c = not (fits job c.func)
has_fault code.KindOrKey book job before c =
    not (may_replace_at (slice_get book c.node) c.func (roof_at (slice_get job.nodes c.node))
    (leaves_once job.edges c.node))
has_fault code.BadCarry book job before c =
    is_bad_carry (is_count_at (slice_get job.nodes c.node)) c.carry

-- ---- a request

-- the place of the first change with the fault, behind those before it
unfoldable pub first_with : Code → List Current → JobView → List Change → List Change → Option ℕ
first_with code book job before [] = None
first_with code book job before (change ∷ rest) =
    if has_fault code book job before change then Some (length before)
    else first_with code book job (before ++ change ∷ []) rest

-- the first change with the fault, as a fault that names it; changes are counted from 1
abbrev pub named : (ℕ → QFault) → Option ℕ → Option QFault
named f None = None
named f (Some place) = Some (f (place + 1))

-- the version of the node of the change at a place
abbrev pub version_of : List Current → Option Change → ℕ
version_of book None = 0
version_of book (Some change) = current_version (slice_get book change.node)

-- the fault of the first stale change, with the version that is current
abbrev pub stale : List Current → List Change → Option ℕ → Option QFault
stale book changes None = None
stale book changes (Some place) =
    Some (fault.Stale (place + 1) (version_of book (slice_get changes place)))

-- there is no change
abbrev pub is_empty : List Change → Bool
is_empty [] = true
is_empty (change ∷ rest) = false

-- the fault of a request as a whole: it has no change, or is for an earlier row than the latest
-- accepted one
abbrev pub whole_fault : Request → ℕ → Option QFault
whole_fault request last_after =
    if is_empty request.changes then Some fault.Empty
    else if nat_lt request.after last_after then Some (fault.Backwards last_after) else None

-- the first fault that a request has, in the order of the codes
abbrev pub fault_of : List Current → JobView → Request → ℕ → Option QFault
fault_of book job request last_after =
    option_or (named fault.NoNode (first_with code.NoNode book job [] request.changes)) (
    option_or (named fault.Fixed (first_with code.Fixed book job [] request.changes)) (
    option_or (named fault.NodeTwice (first_with code.NodeTwice book job [] request.changes)) (
    option_or (stale book request.changes (first_with code.Stale book job [] request.changes)) (
    option_or (named fault.IllTyped (first_with code.IllTyped book job [] request.changes)) (
    option_or (named fault.KindOrKey (first_with code.KindOrKey book job [] request.changes)) (
    option_or (named fault.BadCarry (first_with code.BadCarry book job [] request.changes)) (
    whole_fault request last_after)))))))

-- ---- a request after the nodes that may be splits are settled

-- the change makes a split of a node that the mask leaves out
abbrev pub is_late_split : ℕ → Change → Bool
is_late_split splits change = is_split change.func && not (has splits change.node)

-- the first change that makes a split of a node that the mask leaves out
abbrev pub late_split : ℕ → List Change → Option QFault
late_split splits changes = named fault.LateSplit (position (is_late_split splits) changes)

-- the first fault that a request has if only the nodes of the mask may be splits; any node may be
-- one if there is no mask
abbrev pub fault_within : Option ℕ → List Current → JobView → Request → ℕ → Option QFault
fault_within None book job request last_after = fault_of book job request last_after
fault_within (Some splits) book job request last_after =
    option_or (fault_of book job request last_after) (late_split splits request.changes)
