-- Records that are read have fields, and what is written of such records is read again.
use Rattle.std.proofs.Common.{◌≡◌, ◌∙◌, ◌<◌, ◌+◌, ◌++◌, ◌∷◌, ℕ, zero, suc, List, [], Bool, true, false, Option, None, Some, refl, ap, arith, cond, length, length-append}
use Rattle.std.specs.Prelude.{All}
use Rattle.std.proofs.lemmas.List.Elements.{All-cons, All-head, All-nil, All-tail}
use Rattle.csv.specs.Machine.{Read, ends_at_end, field_after, fields_after, is_end, next_record, step}
use Rattle.csv.specs.Reading.{default_config, records, records_from, records_next, strip_bom}
use Rattle.csv.specs.Writing.{fields_text, is_blank}
use Rattle.csv.specs.declared.parser.Action.{Action}
use Rattle.csv.specs.declared.parser.Action.TheVariants as act
use Rattle.csv.specs.declared.parser.Config.{Config}
use Rattle.csv.specs.declared.parser.State.{State}
use Rattle.csv.specs.declared.parser.State.TheVariants as st
use Rattle.csv.proofs.RoundTrip.{read-write}
use Rattle.sink_journal.specs.Audit.{audit_header}
use Rattle.sink_journal.specs.Records.{records_text}
use Rattle.sink_journal.proofs.CellLemmas.{as_long}
use Rattle.audit_parts.specs.inner.Fields.{HasField}

-- ---- a record that was read has a field

ended_has : (a : Action) (f : List (List ℕ)) (p : List ℕ) → is_end a ≡ true → HasField (fields_after a f p)
ended_has act.EndRecord f p e = omega (arith, length-append f (p ∷ []))
ended_has act.Skip f p e = absurd (cc e)
ended_has act.Copy f p e = absurd (cc e)
ended_has act.EndField f p e = absurd (cc e)

some_read : (f : List (List ℕ)) (s : State) (xs : List ℕ) (q : Read) → HasField f → Some (f, s, xs) ≡ Some q → HasField q.0
some_read f s xs q has e = let is : (f, s, xs) ≡ q = cc e in rw (← ap (λ (r : Read). r.0) is) has

next_has : (cfg : Config) (s : State) (f : List (List ℕ)) (p xs : List ℕ) (q : Read) → next_record cfg s f p xs ≡ Some q → HasField q.0
unfolding next_record
next_has cfg s f p [] q e = go (ends_at_end s) e
  where
    go : (b : Bool) → cond b (Some (f ++ p ∷ [], st.StartRecord, [])) None ≡ Some q → HasField q.0
    go true k = some_read (f ++ p ∷ []) st.StartRecord [] q (omega (arith, length-append f (p ∷ []))) k
    go false k = absurd (cc k)
next_has cfg s f p (c ∷ rest) q e =
    go (is_end (step cfg s c).1) refl e
    (λ k. next_has cfg (step cfg s c).0 (fields_after (step cfg s c).1 f p) (field_after (step cfg s c).1 c p) rest q k)
  where
    g : List (List ℕ)
    g = fields_after (step cfg s c).1 f p

    later : Option Read
    later = next_record cfg (step cfg s c).0 g (field_after (step cfg s c).1 c p) rest

    go : (b : Bool) → is_end (step cfg s c).1 ≡ b → cond b (Some (g, (step cfg s c).0, rest)) later ≡ Some q → (later ≡ Some q → HasField q.0) → HasField q.0
    go true t k more = some_read g (step cfg s c).0 rest q (ended_has (step cfg s c).1 f p t) k
    go false t k more = more k

from_have : (cfg : Config) (n : ℕ) (s : State) (xs : List ℕ) → All HasField (records_from cfg n s xs)
unfolding records_from
from_have cfg zero s xs = All-nil HasField
from_have cfg (suc n) s xs = go (next_record cfg s [] [] xs) refl (λ t ys. from_have cfg n t ys)
  where
    go : (o : Option Read) → next_record cfg s [] [] xs ≡ o → ((t : State) (ys : List ℕ) → All HasField (records_from cfg n t ys)) → All HasField (records_next (records_from cfg n) o)
    go None e more = All-nil HasField
    go (Some q) e more = All-cons HasField q.0 (records_from cfg n q.1 q.2) (next_has cfg s [] [] xs q e) (more q.1 q.2)

-- the records of a text have fields
pub records_have : (xs : List ℕ) → All HasField (records default_config xs)
records_have xs = from_have default_config (length xs + 1) st.StartRecord xs

-- ---- what is written is read again

reads_all : (n : ℕ) (rows : List (List (List ℕ))) → length rows < n → All HasField rows → records_from default_config n st.StartRecord (records_text rows) ≡ rows
unfolding records_from next_record
reads_all zero rows lt h = absurd (omega arith)
reads_all (suc n) [] lt h = refl
reads_all (suc n) ([] ∷ more) lt h = absurd (omega (arith, All-head HasField [] more h))
reads_all (suc n) ((x ∷ xs) ∷ more) lt h =
    ap (records_next (records_from default_config n)) (read-write (x ∷ xs) (records_text more))
    ∙ ap (λ (l : List (List (List ℕ))). (x ∷ xs) ∷ l) (reads_all n more (omega arith) (All-tail HasField (x ∷ xs) more h))

-- no byte order mark stands at the front of an audit
pub bare : (later : List (List (List ℕ))) → strip_bom (records_text (audit_header ∷ later)) ≡ records_text (audit_header ∷ later)
unfolding strip_bom is_blank fields_text
bare later = refl

-- the header and records with fields are read as they were written
pub reads_back : (later : List (List (List ℕ))) → All HasField later → records default_config (strip_bom (records_text (audit_header ∷ later))) ≡ audit_header ∷ later
reads_back later h =
    let rows : List (List (List ℕ)) = audit_header ∷ later in
    ap (records default_config) (bare later)
    ∙ reads_all (length (records_text rows) + 1) rows (omega (arith, as_long rows)) (All-cons HasField audit_header later (omega arith) h)
