-- What is put together is read back.
use Rattle.std.proofs.Common.{◌≡◌, ◌∙◌, ◌<◌, ◌+◌, ◌++◌, ℕ, zero, suc, Bool, true, false, cond, List, [], ◌∷◌, Option, Some, None, refl, sym, ap, subst, arith, length}
use Rattle.std.specs.Prelude.{◌==◌, ⊤, filter}
use Rattle.std.specs.List.{concat, flat_map, range_with_len}
use Rattle.csv.specs.Machine.{Read, ends_at_end, field_after, fields_after, is_end, next_record, step}
use Rattle.csv.specs.Reading.{default_config, records, records_from, records_next, strip_bom}
use Rattle.csv.specs.declared.parser.Action.{Action}
use Rattle.csv.specs.declared.parser.Action.TheVariants as act
use Rattle.csv.specs.declared.parser.State.{State}
use Rattle.csv.specs.declared.parser.State.TheVariants as st
use Rattle.csv.proofs.RoundTrip.{read-write}
use Rattle.jobs.specs.JobView.{JobView}
use Rattle.sink_journal.specs.Audit.{audit_header}
use Rattle.sink_journal.specs.Records.{record_text, records_text}
use Rattle.audit_laws.specs.Fits.{csv_records}
use Rattle.audit_stream.specs.Together.{by_group, group_count, record_group, in_group, last_ends, together}
use Rattle.audit_stream.specs.Sorting.{closed_from, closes, group_texts, stop_place, workers_spelled}
use Rattle.audit_stream.proofs.ClosedLemmas.{ends_closed}
use Rattle.audit_stream.proofs.SortLemmas.{texts_by_group}
use Rattle.sink_journal.proofs.CellLemmas.{as_long}
use Rattle.audit_parts.proofs.ReadLemmas.{bare}

-- ---- records have fields

abbrev HasField : List (List ℕ) → Type 0
HasField [] = ⊥
HasField (x ∷ xs) = ⊤

abbrev HaveFields : List (List (List ℕ)) → Type 0
HaveFields [] = ⊤
HaveFields (fields ∷ more) = HasField fields × HaveFields more

-- what is read has a field, if there is one
abbrev HasRead : Option Read → Type 0
HasRead None = ⊤
HasRead (Some r) = HasField r.0

pushed_has : (fields : List (List ℕ)) (field : List ℕ) → HasField (fields ++ field ∷ [])
pushed_has [] field = tt
pushed_has (x ∷ fields) field = tt

by_action : (s : State) (a : Action) (fields : List (List ℕ)) (field rest : List ℕ) (c : ℕ)
    → ((f : List (List ℕ)) (p : List ℕ) → HasRead (next_record default_config s f p rest))
    → HasRead (cond (is_end a) (Some (fields_after a fields field, s, rest)) (next_record default_config s (fields_after a fields field) (field_after a c field) rest))
by_action s act.EndRecord fields field rest c later = pushed_has fields field
by_action s act.EndField fields field rest c later = later (fields ++ field ∷ []) []
by_action s act.Skip fields field rest c later = later fields field
by_action s act.Copy fields field rest c later = later fields (field ++ c ∷ [])

at_end : (b : Bool) (fields : List (List ℕ)) (field : List ℕ) → HasRead (cond b (Some (fields ++ field ∷ [], st.StartRecord, [])) None)
at_end true fields field = pushed_has fields field
at_end false fields field = tt

-- each record that is read has a field
next_has : (text : List ℕ) (s : State) (fields : List (List ℕ)) (field : List ℕ) → HasRead (next_record default_config s fields field text)
unfolding next_record
next_has [] s fields field = at_end (ends_at_end s) fields field
next_has (c ∷ text) s fields field =
    by_action (step default_config s c).0 (step default_config s c).1 fields field text c (next_has text (step default_config s c).0)

rest_has : (more : State → List ℕ → List (List (List ℕ))) (o : Option Read) → HasRead o
    → ((s : State) (text : List ℕ) → HaveFields (more s text)) → HaveFields (records_next more o)
rest_has more None some later = tt
rest_has more (Some r) some later = (some, later r.1 r.2)

from_has : (n : ℕ) (s : State) (text : List ℕ) → HaveFields (records_from default_config n s text)
unfolding records_from
from_has zero s text = tt
from_has (suc n) s text = rest_has (records_from default_config n) (next_record default_config s [] [] text) (next_has text s [] []) (from_has n)

have_filter : (p : List (List ℕ) → Bool) (rows : List (List (List ℕ))) → HaveFields rows → HaveFields (filter p rows)
have_filter p [] h = tt
have_filter p (x ∷ rows) h = go (p x) (have_filter p rows h.1)
  where
    go : (b : Bool) → HaveFields (filter p rows) → HaveFields (cond b (x ∷ filter p rows) (filter p rows))
    go true later = (h.0, later)
    go false later = later

have_both : (a b : List (List (List ℕ))) → HaveFields a → HaveFields b → HaveFields (a ++ b)
have_both [] b h k = k
have_both (x ∷ a) b h k = (h.0, have_both a b h.1 k)

have_each : (f : ℕ → List (List (List ℕ))) → ((g : ℕ) → HaveFields (f g)) → (gs : List ℕ) → HaveFields (flat_map f gs)
have_each f h [] = tt
have_each f h (g ∷ gs) = have_both (f g) (flat_map f gs) (h g) (have_each f h gs)

have_closed : (stop : ℕ) (rows : List (List (List ℕ))) → HaveFields rows → HaveFields (closed_from stop rows)
have_closed zero rows h = h
have_closed (suc stop) [] h = tt
have_closed (suc stop) (x ∷ rows) h = go (closes x) (have_closed stop rows h.1)
  where
    go : (b : Bool) → HaveFields (closed_from stop rows) → HaveFields (cond b (closed_from stop rows) (x ∷ closed_from stop rows))
    go true later = later
    go false later = (h.0, later)

have_groups : (job : JobView) (rows : List (List (List ℕ))) → HaveFields rows → HaveFields (by_group job rows)
have_groups job rows h = have_each (in_group job rows) (λ g. have_filter (λ fields. record_group job fields == g) rows h) (range_with_len 0 (group_count job))

-- ---- reading them back

reads_all : (n : ℕ) (rows : List (List (List ℕ))) → length rows < n → HaveFields rows → records_from default_config n st.StartRecord (records_text rows) ≡ rows
unfolding records_from next_record
reads_all zero rows lt h = absurd (omega arith)
reads_all (suc n) [] lt h = refl
reads_all (suc n) ([] ∷ more) lt h = absurd h.0
reads_all (suc n) ((x ∷ xs) ∷ more) lt h =
    ap (records_next (records_from default_config n)) (read-write (x ∷ xs) (records_text more))
    ∙ ap (λ (l : List (List (List ℕ))). (x ∷ xs) ∷ l) (reads_all n more (omega arith) h.1)

read_back : (rows : List (List (List ℕ))) → HaveFields rows → csv_records (records_text (audit_header ∷ rows)) ≡ audit_header ∷ rows
read_back rows h =
    let all : List (List (List ℕ)) = audit_header ∷ rows in
    ap (records default_config) (bare rows) ∙ reads_all (length (records_text all) + 1) all (omega (arith, as_long all)) (tt, h)

-- ---- what is put together

pub put_back : (job : JobView) (bytes text : List ℕ) (stop : ℕ) (body : List (List (List ℕ))) → csv_records bytes ≡ audit_header ∷ body → stop ≡ stop_place body
    → text ≡ record_text audit_header ++ concat (group_texts (workers_spelled job) (closed_from stop body)) → csv_records text ≡ together job (csv_records bytes)
put_back job bytes text stop body are last made =
    let ends : last_ends body ≡ closed_from stop body = ends_closed body ∙ ap (λ n. closed_from n body) (sym last) in
    let kept : List (List (List ℕ)) = closed_from stop body in
    let all : HaveFields (audit_header ∷ body) = subst HaveFields are (from_has (length (strip_bom bytes) + 1) st.StartRecord (strip_bom bytes)) in
    ap csv_records (made ∙ ap (λ (t : List ℕ). record_text audit_header ++ t) (texts_by_group job kept))
    ∙ (read_back (by_group job kept) (have_groups job kept (have_closed stop body all.1))
    ∙ (ap (λ (l : List (List (List ℕ))). audit_header ∷ by_group job l) (sym ends) ∙ sym (ap (together job) are)))
