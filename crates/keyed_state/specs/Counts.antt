-- Counters by text, and what a change of function makes of them.
use Rattle.std.specs.Prelude.{ℕ, ℤ, pos, ◌+ℤ◌, ◌*ℤ◌, ◌≤ℤ◌, List, map, filter, int_le, unwrap_or}
use Rattle.std.specs.Int.{w64, saturate_signed, int_div_euclid}
use Rattle.std.specs.Coded.{Coded, coded_list, coded_ℕ, coded_ℤ}
use Rattle.std.specs.FinMap.{get, empty, entries, from_entries, code}
use Rattle.keyed_state.specs.declared.carry.Carry.{Carry}
use Rattle.keyed_state.specs.declared.carry.Carry.TheVariants as carry
use Rattle.keyed_state.specs.TextMap.{TextMapOf}

-- a count for each of some texts
abbrev pub Counts : Type 0
Counts = TextMapOf ℤ

-- a code of counts: a struct whose view holds counts needs it, as
-- `Prim.hlevel (codes, counts_code)`
abbrev pub counts_code : Coded Counts
counts_code = code (coded_list coded_ℕ) coded_ℤ

-- a number, cut to the range of 64 bits
abbrev pub clamp : ℤ → ℤ
clamp number = saturate_signed w64 number

-- the count of a text: 0 where it has none
abbrev pub count_of : Counts → List ℕ → ℤ
count_of counts key = unwrap_or (get counts key) (pos 0)

-- the count of a text once `by` is added to it
abbrev pub raised : Counts → List ℕ → ℤ → ℤ
raised counts key by = clamp (count_of counts key +ℤ by)

-- a count times `by`, divided by `over` towards minus infinity
abbrev pub scaled : ℤ → ℤ → ℤ → ℤ
scaled by over count = clamp (int_div_euclid (count *ℤ by) over)

-- each count scaled
abbrev pub scaled_all : ℤ → ℤ → Counts → Counts
scaled_all by over counts = from_entries (map (λ e. (e.0, scaled by over e.1)) (entries counts))

-- the counts that aren't below `least`
abbrev pub from_least : ℤ → Counts → Counts
from_least least counts = from_entries (filter (λ e. int_le least e.1) (entries counts))

-- what a change of function makes of the counters
abbrev pub carried : Carry → Counts → Counts
carried carry.Keep counts = counts
carried carry.Reset counts = empty
carried (carry.Scale by over) counts = scaled_all by over counts
carried (carry.DropBelow least) counts = from_least least counts

-- a change of counters divides by one or more, if it divides
abbrev pub CanCarry : Carry → Type 0
CanCarry (carry.Scale by over) = pos 1 ≤ℤ over
CanCarry _ = Unit {0}
