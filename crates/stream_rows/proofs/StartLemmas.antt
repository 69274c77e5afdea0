-- A record whose first cell has no delimiter and no line end: the machine reads past the cell
-- alike, whether it took a quote at its start for one or for a byte of the cell.
use Rattle.std.proofs.Common.{◌≡◌, ◌∙◌, ◌==◌, ◌&&◌, ◌||◌, ◌++◌, ℕ, List, [], ◌∷◌, ◌⊎◌, inl, inr}
use Rattle.std.proofs.Common.{Bool, true, false, not, cond, Option, Some, None, refl, sym, ap}
use Rattle.std.proofs.Common.{subst, append_assoc}
use Rattle.std.proofs.lemmas.Bool.{and_parts, eqb-true}
use Rattle.std.proofs.lemmas.List.{append-nil}
use Rattle.std.proofs.lemmas.List.Folds.{list_all-append}
use Rattle.std.proofs.lemmas.Option.{same_Some}
use Rattle.std.specs.List.{list_all}
use Rattle.csv.specs.Machine.{Read, ends_at_end, ends_with, field_after, fields_after, in_field}
use Rattle.csv.specs.Machine.{is_end, next_record, step}
use Rattle.csv.specs.Reading.{default_config}
use Rattle.csv.specs.declared.parser.Action.{Action}
use Rattle.csv.specs.declared.parser.Action.TheVariants as act
use Rattle.csv.specs.declared.parser.State.{State}
use Rattle.csv.specs.declared.parser.State.TheVariants as st
use Rattle.csv.specs.declared.parser.Terminator.TheVariants as term
use Rattle.input_pieces.specs.Cut.{state_after}
use Rattle.payments.specs.Reading.{first_cell}

-- ---- a record that has begun is read

-- inside a record
abbrev pub Inside : State → Type 0
Inside st.StartField = Unit {0}
Inside st.InField = Unit {0}
Inside st.InQuoted = Unit {0}
Inside st.AfterQuote = Unit {0}
Inside st.StartRecord = ⊥
Inside st.InEscape = ⊥
Inside st.InComment = ⊥
Inside st.AfterCr = ⊥

abbrev StaysInside : State × Action → Type 0
StaysInside to = is_end to.1 ≡ false → Inside to.0

stays_if : (b : Bool) (x y : State × Action) → StaysInside x → StaysInside y
    → StaysInside (cond b x y)
stays_if true x y g h = g
stays_if false x y g h = h

stays_in_field : (c : ℕ) → StaysInside (in_field default_config c)
stays_in_field c =
    stays_if (c == 44) (st.StartField, act.EndField)
    (cond (ends_with term.CRLF c) (cond (c == 13) st.AfterCr st.StartRecord, act.EndRecord)
    (st.InField, act.Copy))
    (λ e. tt)
    (stays_if (ends_with term.CRLF c) (cond (c == 13) st.AfterCr st.StartRecord, act.EndRecord)
    (st.InField, act.Copy) (λ e. absurd (cc e)) (λ e. tt))

stays : (s : State) (c : ℕ) → Inside s → StaysInside (step default_config s c)
stays st.StartField c is =
    stays_if (c == 34) (st.InQuoted, act.Skip) (in_field default_config c) (λ e. tt)
    (stays_in_field c)
stays st.InField c is = stays_in_field c
stays st.InQuoted c is =
    stays_if (c == 34) (st.AfterQuote, act.Skip) (st.InQuoted, act.Copy) (λ e. tt) (λ e. tt)
stays st.AfterQuote c is =
    stays_if (c == 34) (st.InQuoted, act.Copy) (in_field default_config c) (λ e. tt)
    (stays_in_field c)
stays st.StartRecord c is = absurd is
stays st.InEscape c is = absurd is
stays st.InComment c is = absurd is
stays st.AfterCr c is = absurd is

ends_inside : (s : State) → Inside s → ends_at_end s ≡ true
ends_inside st.StartField is = refl
ends_inside st.InField is = refl
ends_inside st.InQuoted is = refl
ends_inside st.AfterQuote is = refl
ends_inside st.StartRecord is = absurd is
ends_inside st.InEscape is = absurd is
ends_inside st.InComment is = absurd is
ends_inside st.AfterCr is = absurd is

pub reads_inside : (s : State) (f : List (List ℕ)) (p xs : List ℕ) → Inside s → (q : Read)
    × (next_record default_config s f p xs ≡ Some q)
unfolding next_record
reads_inside s f p [] is = (
  (f ++ (p ∷ []), st.StartRecord, []),
  ap
      (λ b. cond b (Some (f ++ (p ∷ []), st.StartRecord, [])) None) (ends_inside s is),
)
reads_inside s f p (c ∷ rest) is =
    go (is_end (step default_config s c).1) refl
    (λ e. reads_inside (step default_config s c).0 (fields_after (step default_config s c).1 f p)
    (field_after (step default_config s c).1 c p) rest (stays s c is e))
  where
    to : State × Action
    to = step default_config s c

    g : List (List ℕ)
    g = fields_after to.1 f p

    h : List ℕ
    h = field_after to.1 c p

    go : (b : Bool) → is_end (step default_config s c).1 ≡ b
        → (is_end (step default_config s c).1 ≡ false → (q : Read)
        × (next_record default_config to.0 g h rest ≡ Some q))
        → (q : Read) × (next_record default_config s f p (c ∷ rest) ≡ Some q)
    go true e later = (
      (g, to.0, rest),
      ap (λ b. cond b (Some (g, to.0, rest))
          (next_record default_config to.0 g h rest)) e,
    )
    go false e later =
        let (q, is) = later e in (
          q,
          ap (λ b. cond b (Some (g, to.0, rest)) (next_record default_config to.0 g h rest)) e
              ∙ is,
        )

-- ---- the first cell of a record begins with the bytes at hand

-- what was read of a record, or was read on
read-or : (b : Bool) (r : Read) (o : Option Read) (q : Read) → cond b (Some r) o ≡ Some q
    → ((b ≡ true) × (r ≡ q)) ⊎ (o ≡ Some q)
read-or true r o q e = inl (refl, same_Some r q e)
read-or false r o q e = inr e

at_end : (b : Bool) (r q : Read) → cond b (Some r) None ≡ Some q → r ≡ q
at_end true r q e = same_Some r q e
at_end false r q e = absurd (cc e)

-- fields that begin with this cell still do
begins : (a : Action) (x : List ℕ) (f : List (List ℕ)) (p : List ℕ) → (g : List (List ℕ))
    × (fields_after a (x ∷ f) p ≡ x ∷ g)
begins act.EndField x f p = (f ++ (p ∷ []), refl)
begins act.EndRecord x f p = (f ++ (p ∷ []), refl)
begins act.Skip x f p = (f, refl)
begins act.Copy x f p = (f, refl)

-- a cell that was read is the first
first_read : (s : State) (x : List ℕ) (f : List (List ℕ)) (p xs : List ℕ) (q : Read)
    → next_record default_config s (x ∷ f) p xs ≡ Some q → first_cell q.0 ≡ x
unfolding next_record
first_read s x f p [] q e =
    ap (λ (r : Read). first_cell r.0)
    (sym (at_end (ends_at_end s) (x ∷ (f ++ (p ∷ [])), st.StartRecord, []) q e))
first_read s x f p (c ∷ rest) q e =
    go (begins (step default_config s c).1 x f p)
    (read-or (is_end (step default_config s c).1)
    (fields_after (step default_config s c).1 (x ∷ f) p, (step default_config s c).0, rest)
    (next_record default_config (step default_config s c).0
    (fields_after (step default_config s c).1 (x ∷ f) p)
    (field_after (step default_config s c).1 c p) rest) q e)
    (λ g on. first_read (step default_config s c).0 x g
    (field_after (step default_config s c).1 c p) rest q on)
  where
    to : State × Action
    to = step default_config s c

    go : ((g : List (List ℕ)) × (fields_after to.1 (x ∷ f) p ≡ x ∷ g))
        → ((is_end to.1 ≡ true) × ((fields_after to.1 (x ∷ f) p, to.0, rest) ≡ q))
        ⊎ (next_record default_config to.0 (fields_after to.1 (x ∷ f) p) (field_after to.1 c p) rest
        ≡ Some q)
        → ((g : List (List ℕ)) → next_record default_config to.0 (x ∷ g) (field_after to.1 c p) rest
        ≡ Some q → first_cell q.0 ≡ x) → first_cell q.0 ≡ x
    go (g, begin) (inl (ends, done)) later =
        ap (λ (r : Read). first_cell r.0) (sym done) ∙ ap first_cell begin
    go (g, begin) (inr on) later =
        later g (subst (λ (f : List (List ℕ)). next_record default_config to.0 f
        (field_after to.1 c p) rest ≡ Some q) begin on)

-- the cell at hand begins the first
abbrev Begins : List ℕ → Read → Type 0
Begins p q = (more : List ℕ) × (first_cell q.0 ≡ p ++ more)

first_begins : (s : State) (p xs : List ℕ) (q : Read) → next_record default_config s [] p xs
    ≡ Some q → Begins p q
unfolding next_record
first_begins s p [] q e = (
  [],
  ap (λ (r : Read). first_cell r.0)
      (sym (at_end (ends_at_end s) (p ∷ [], st.StartRecord, []) q e)) ∙ sym (append-nil p),
)
first_begins s p (c ∷ rest) q e =
    go (step default_config s c).1
    (read-or (is_end (step default_config s c).1)
    (fields_after (step default_config s c).1 [] p, (step default_config s c).0, rest)
    (next_record default_config (step default_config s c).0
    (fields_after (step default_config s c).1 [] p)
    (field_after (step default_config s c).1 c p) rest) q e)
    (λ h on. first_begins (step default_config s c).0 h rest q on)
  where
    next : State
    next = (step default_config s c).0

    go : (a : Action) → ((is_end a ≡ true) × ((fields_after a [] p, next, rest) ≡ q))
        ⊎ (next_record default_config next (fields_after a [] p) (field_after a c p) rest ≡ Some q)
        → ((h : List ℕ) → next_record default_config next [] h rest ≡ Some q → Begins h q)
        → Begins p q
    go act.EndRecord (inl (ends, done)) later =
        ([], ap (λ (r : Read). first_cell r.0) (sym done) ∙ sym (append-nil p))
    go act.EndRecord (inr on) later = ([], first_read next p [] [] rest q on ∙ sym (append-nil p))
    go act.EndField (inl (ends, done)) later = absurd (cc ends)
    go act.EndField (inr on) later = ([], first_read next p [] [] rest q on ∙ sym (append-nil p))
    go act.Skip (inl (ends, done)) later = absurd (cc ends)
    go act.Skip (inr on) later = later p on
    go act.Copy (inl (ends, done)) later = absurd (cc ends)
    go act.Copy (inr on) later =
        let (more, is) = later (p ++ (c ∷ [])) on in (c ∷ more, is ∙ append_assoc p (c ∷ []) more)

-- ---- both machines meet

-- no delimiter and no line end
abbrev pub is_plain : ℕ → Bool
is_plain c = not ((c == 44) || ends_with term.CRLF c)

-- a byte that is copied, and others that end a field or a record
abbrev copied : State × Action
copied = (st.InField, act.Copy)

abbrev ended : State × Action
ended = (st.StartField, act.EndField)

abbrev over : ℕ → State × Action
over c = (cond (c == 13) st.AfterCr st.StartRecord, act.EndRecord)

plain_in_field : (c : ℕ) → is_plain c ≡ true → in_field default_config c ≡ copied
plain_in_field c is = go (c == 44) (ends_with term.CRLF c) is
  where
    go : (a b : Bool) → not (a || b) ≡ true → cond a ended (cond b (over c) copied) ≡ copied
    go true b e = absurd (cc e)
    go false true e = absurd (cc e)
    go false false e = refl

-- the last byte at hand is plain if the first cell is
last_plain : (p : List ℕ) (c : ℕ) (q : Read) → Begins (p ++ (c ∷ [])) q
    → list_all is_plain (first_cell q.0) ≡ true → is_plain c ≡ true
last_plain p c q (more, is) plain =
    let all : list_all is_plain (p ++ (c ∷ [])) ≡ true =
    (and_parts (list_all is_plain (p ++ (c ∷ []))) (list_all is_plain more)
    (sym (ap (list_all is_plain) is ∙ list_all-append is_plain (p ++ (c ∷ [])) more) ∙ plain)).0 in
    (and_parts (is_plain c) true (and_parts (list_all is_plain p) (list_all is_plain (c ∷ []))
    (sym (list_all-append is_plain p (c ∷ [])) ∙ all)).1).0

-- in a quoted cell, or behind its last quote
abbrev Quoted : State → Type 0
Quoted st.InQuoted = Unit {0}
Quoted st.AfterQuote = Unit {0}
Quoted st.StartField = ⊥
Quoted st.InField = ⊥
Quoted st.StartRecord = ⊥
Quoted st.InEscape = ⊥
Quoted st.InComment = ⊥
Quoted st.AfterCr = ⊥

-- the machine that takes no quote for one goes on in the field
on_in_field : (c : ℕ) (rest : List ℕ) → is_plain c ≡ true
    → state_after default_config st.InField (c ∷ rest) ≡ st.StartRecord
    → state_after default_config st.InField rest ≡ st.StartRecord
on_in_field c rest plain cut =
    subst (λ (to : State × Action). state_after default_config to.0 rest ≡ st.StartRecord)
    (plain_in_field c plain) cut

plain_quote : (c : ℕ) → (c == 34) ≡ true → is_plain c ≡ true
plain_quote c e = subst (λ c. is_plain c ≡ true) (sym (eqb-true c 34 e)) refl

-- the cut of the one is a cut of the other
abbrev Meets : State → List ℕ → Type 0
Meets s xs =
    state_after default_config st.InField xs ≡ st.StartRecord → state_after default_config s xs
    ≡ st.StartRecord

pub meets : (s : State) (p xs : List ℕ) (q : Read) → Quoted s → next_record default_config s [] p xs
    ≡ Some q → list_all is_plain (first_cell q.0) ≡ true → Meets s xs
unfolding next_record
meets s p [] q quoted read plain cut = absurd (cc cut)
meets st.InQuoted p (c ∷ rest) q quoted read plain cut =
    go (c == 34) refl (λ s h quoted on. meets s h rest q quoted on plain)
  where
    go : (b : Bool) → (c == 34) ≡ b
        → ((s : State) (h : List ℕ) → Quoted s → next_record default_config s [] h rest ≡ Some q
        → Meets s rest) → state_after default_config st.InQuoted (c ∷ rest) ≡ st.StartRecord
    go true e later =
        let on : next_record default_config st.AfterQuote [] p rest ≡ Some q = rw e at read in
        rw e (later st.AfterQuote p tt on (on_in_field c rest (plain_quote c e) cut))
    go false e later =
        let on : next_record default_config st.InQuoted [] (p ++ (c ∷ [])) rest ≡ Some q =
        rw e at read in
        let here : is_plain c ≡ true =
        last_plain p c q (first_begins st.InQuoted (p ++ (c ∷ [])) rest q on) plain in
        rw e (later st.InQuoted (p ++ (c ∷ [])) tt on (on_in_field c rest here cut))
meets st.AfterQuote p (c ∷ rest) q quoted read plain cut =
    go (c == 34) refl (λ s h quoted on. meets s h rest q quoted on plain)
  where
    go : (b : Bool) → (c == 34) ≡ b
        → ((s : State) (h : List ℕ) → Quoted s → next_record default_config s [] h rest ≡ Some q
        → Meets s rest) → state_after default_config st.AfterQuote (c ∷ rest) ≡ st.StartRecord
    go true e later =
        let on : next_record default_config st.InQuoted [] (p ++ (c ∷ [])) rest ≡ Some q =
        rw e at read in
        rw e (later st.InQuoted (p ++ (c ∷ [])) tt on (on_in_field c rest (plain_quote c e) cut))
    go false e later = rw e cut
meets st.StartField p (c ∷ rest) q quoted read plain cut = absurd quoted
meets st.InField p (c ∷ rest) q quoted read plain cut = absurd quoted
meets st.StartRecord p (c ∷ rest) q quoted read plain cut = absurd quoted
meets st.InEscape p (c ∷ rest) q quoted read plain cut = absurd quoted
meets st.InComment p (c ∷ rest) q quoted read plain cut = absurd quoted
meets st.AfterCr p (c ∷ rest) q quoted read plain cut = absurd quoted
