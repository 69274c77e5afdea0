-- What `clap`'s walk over the words after a command finds, for a command with any names, options and flags.
use Rattle.std.proofs.Common.{◌≡◌, ◌∙◌, ◌+◌, ℕ, List, [], ◌∷◌, ◌++◌, Bool, true, false, not, ◌&&◌, ◌||◌, ◌==◌, Option, Some, None, refl, sym, ap, inl, inr, subst, codes, if◌then◌else◌, take, drop, length}
use Rattle.std.proofs.lemmas.Bool.{and_right, cases_Bool, not-true}
use Rattle.std.proofs.lemmas.List.{take-append-drop}
use Rattle.std.specs.List.{fold}
use Rattle.std.specs.Prelude.{⊤, find, option_and_then}
use Rattle.std.specs.Str.{bytes_eq}
use Rattle.clap.specs.Lexer.{long_of, short_of}
use Rattle.clap.specs.Takes.{use_passes}
use Rattle.clap.specs.Walk.{Held, Row, Rule, Text, Walk, arg_by_id, arg_by_index, arg_by_long, has_row, idle, is_multiple, is_pending, most_values, next_position, nothing_held, option, positional_held, rows_after, settled, takes_several, takes_values, used, walk_from, walked, with_default, with_values, without}
use Rattle.clap.specs.declared.builder.value_parser.Reading.TheVariants.{AsWritten}
use Rattle.clap.specs.declared.parser.matches.ValueSource.TheVariants.{CommandLine}
use Rattle.fries_words.specs.Form.{Flag, Form, Parts, ValueOption, at_end, found_after, has_start, is_flag, is_found, is_plain_word, is_option, no_parts, with_extra, with_flag, with_name, with_option, with_start, with_value, with_word}
use Rattle.fries_words.proofs.RowLemmas.{rows, rows-more, same_bytes}

-- ---- words that are no flags

pub record IsPlainWord (word : Text) : Type 0 where
  pub dashes : bytes_eq word (45 ∷ 45 ∷ []) ≡ false
  pub long : long_of word ≡ None
  pub short : short_of word ≡ None

plain_from : (b : ℕ) (rest : Text) → (b == 45) ≡ false → IsPlainWord (b ∷ rest)
plain_from b rest other = record { dashes = rw other refl; long = rw other refl; short = rw other refl }

pub plain_name : (word : Text) → is_plain_word word ≡ true → IsPlainWord word
plain_name [] name = absurd (cc name)
plain_name (b ∷ rest) name = plain_from b rest (not-true (b == 45) name)

-- ---- how a command's rules read its form

-- a use of this rule passes if nothing was used under this name yet
abbrev pub PassesOnce : Rule → List Text → Text → Type 0
PassesOnce rule given id = (rs : List Row) → use_passes false rule given rs ≡ ((not (has_row id rs) || false) && true)

-- a value is used by this rule under this name
abbrev pub IsUsed : Rule → List Text → Text → Text → Type 0
IsUsed rule given id value = (rs : List Row) → used rule given rs ≡ with_values id AsWritten CommandLine (value ∷ []) (without id rs)

-- the rule of a name at a place
pub record IsName (rules : List Rule) (place : ℕ) (id : Text) : Type 0 where
  pub rule : Rule
  pub at : arg_by_index rules place ≡ Some rule
  pub one : is_multiple rule ≡ false
  pub single : takes_several rule ≡ false
  pub last : rule.trailing_var_arg ≡ false
  pub next : next_position rule place ≡ place + 1
  pub by_id : arg_by_id rules rule.id ≡ Some rule
  pub use_of : (value : Text) → IsUsed rule (value ∷ []) id value
  pub passes : (value : Text) → PassesOnce rule (value ∷ []) id

-- the rules of names from a place on
abbrev pub AreNames : List Rule → ℕ → List Text → Type 0
AreNames rules place [] = ⊤
AreNames rules place (id ∷ ids) = IsName rules place id × AreNames rules (place + 1) ids

-- the rule of an option with a value
pub record IsOption (rules : List Rule) (o : ValueOption) : Type 0 where
  pub rule : Rule
  pub dashes : bytes_eq o.word (45 ∷ 45 ∷ []) ≡ false
  pub long : long_of o.word ≡ Some (o.id, None)
  pub dashes_joined : (value : Text) → bytes_eq (o.start ++ value) (45 ∷ 45 ∷ []) ≡ false
  pub joined : (value : Text) → long_of (o.start ++ value) ≡ Some (o.id, Some value)
  pub by_long : arg_by_long rules o.id ≡ Some rule
  pub takes : takes_values rule ≡ true
  pub most : most_values rule ≡ 1
  pub called : bytes_eq rule.id rule.id ≡ true
  pub by_id : arg_by_id rules rule.id ≡ Some rule
  pub use_of : (value : Text) → IsUsed rule (value ∷ []) o.id value
  pub passes : (value : Text) → PassesOnce rule (value ∷ []) o.id

abbrev pub AreOptions : List Rule → List ValueOption → Type 0
AreOptions rules [] = ⊤
AreOptions rules (o ∷ os) = IsOption rules o × AreOptions rules os

-- the rule of a flag
pub record IsFlag (rules : List Rule) (f : Flag) : Type 0 where
  pub rule : Rule
  pub dashes : bytes_eq f.word (45 ∷ 45 ∷ []) ≡ false
  pub long : long_of f.word ≡ Some (f.id, None)
  pub by_long : arg_by_long rules f.id ≡ Some rule
  pub takes : takes_values rule ≡ false
  pub use_of : IsUsed rule [] f.id (codes "true")
  pub passes : PassesOnce rule [] f.id

abbrev pub AreFlags : List Rule → List Flag → Type 0
AreFlags rules [] = ⊤
AreFlags rules (f ∷ fs) = IsFlag rules f × AreFlags rules fs

-- the rules read the form
pub record Reads (rules : List Rule) (form : Form) : Type 0 where
  pub names : AreNames rules 1 (form.names ++ form.extra)
  pub options : AreOptions rules form.options
  pub flags : AreFlags rules form.flags

pub option_found : (rules : List Rule) (p : ValueOption → Bool) (os : List ValueOption) (o : ValueOption) → AreOptions rules os → find p os ≡ Some o → (p o ≡ true) × IsOption rules o
option_found rules p [] o all is = absurd (cc is)
option_found rules p (x ∷ os) o all is =
    elim (cases_Bool (p x)) [
      | inl passes ↦ let same : x ≡ o = cc (rw passes at is) in subst (λ (v : ValueOption). (p v ≡ true) × IsOption rules v) same (passes, all.0)
      | inr fails ↦ option_found rules p os o all.1 (rw fails at is)
    ]

pub flag_found : (rules : List Rule) (p : Flag → Bool) (fs : List Flag) (f : Flag) → AreFlags rules fs → find p fs ≡ Some f → (p f ≡ true) × IsFlag rules f
flag_found rules p [] f all is = absurd (cc is)
flag_found rules p (x ∷ fs) f all is =
    elim (cases_Bool (p x)) [
      | inl passes ↦ let same : x ≡ f = cc (rw passes at is) in subst (λ (v : Flag). (p v ≡ true) × IsFlag rules v) same (passes, all.0)
      | inr fails ↦ flag_found rules p fs f all.1 (rw fails at is)
    ]

-- ---- one word of the walk

-- the walk stands between two words, and waits for this
pub record Stands (w : Walk) : Type 0 where
  pub waiting : w.waiting ≡ idle
  pub trailing : w.is_trailing ≡ false
  pub stopped : w.stopped ≡ None

abbrev pub between : ℕ → Held → Walk
between place held = record { held = held; waiting = idle; position = place; is_trailing = false; stopped = None }

pub walked_name : (rules : List Rule) (w : Walk) (word id : Text) (is : IsName rules w.position id) → Stands w → IsPlainWord word
    → walked rules [] w word ≡ between (next_position is.rule w.position) (record (settled rules w.held) { pending = Some (is.rule.id, word ∷ []) })
unfolding walked
walked_name rules w word id is s p =
    let held : positional_held rules is.rule word w.held ≡ record (settled rules w.held) { pending = Some (is.rule.id, word ∷ []) } =
    rw (and_right (is_pending is.rule w.held.pending) (takes_several is.rule) is.single) refl in
    rw (s.stopped, s.trailing, s.waiting, p.dashes, p.long, p.short, is.at, is.one, is.last, ← held) refl

walked_opens : (rules : List Rule) (w : Walk) (o : ValueOption) (is : IsOption rules o) → Stands w
    → walked rules [] w o.word ≡ record (between w.position (record (settled rules w.held) { pending = Some (is.rule.id, []) })) { waiting = option is.rule.id }
unfolding walked
walked_opens rules w o is s = rw (s.stopped, s.trailing, s.waiting, is.dashes, is.long, is.by_long, is.takes) refl

pub walked_joined : (rules : List Rule) (w : Walk) (o : ValueOption) (value : Text) (is : IsOption rules o) → Stands w
    → walked rules [] w (o.start ++ value) ≡ between w.position (record { rows = used is.rule (value ∷ []) (settled rules w.held).rows; pending = None; skip = w.held.skip })
unfolding walked
walked_joined rules w o value is s = rw (s.stopped, s.trailing, s.waiting, is.dashes_joined value, is.joined value, is.by_long, is.takes) refl

pub walked_flag : (rules : List Rule) (w : Walk) (f : Flag) (is : IsFlag rules f) → Stands w
    → walked rules [] w f.word ≡ between w.position (record { rows = used is.rule [] (settled rules w.held).rows; pending = None; skip = w.held.skip })
unfolding walked
walked_flag rules w f is s = rw (s.stopped, s.trailing, s.waiting, is.dashes, is.long, is.by_long, is.takes) refl

-- the walk waits for the value of an option
pub record Waits (w : Walk) (id : Text) : Type 0 where
  pub waiting : w.waiting ≡ option id
  pub trailing : w.is_trailing ≡ false
  pub stopped : w.stopped ≡ None
  pub pending : w.held.pending ≡ Some (id, [])

pub walked_value : (rules : List Rule) (w : Walk) (o : ValueOption) (word : Text) (is : IsOption rules o) → Waits w is.rule.id → IsPlainWord word
    → walked rules [] w word ≡ between w.position (record w.held { pending = Some (is.rule.id, word ∷ []) })
unfolding walked
walked_value rules w o word is s p = rw (s.stopped, s.trailing, s.waiting, p.dashes, p.long, p.short, is.by_id, s.pending, is.called, is.most) refl

-- ---- the walk beside the parts

-- the walk stands where these parts were found, and no value is waited for
pub record At (rules : List Rule) (w : Walk) (parts : Parts) : Type 0 where
  pub stands : Stands w
  pub names : AreNames rules w.position (parts.names ++ parts.extra)
  pub held : (settled rules w.held).rows ≡ rows parts.found

-- the walk waits for the value of an option, where these parts were found
pub record WaitsAt (rules : List Rule) (w : Walk) (parts : Parts) (id : Text) : Type 0 where
  pub o : ValueOption
  pub called : o.id ≡ id
  pub is : IsOption rules o
  pub waits : Waits w is.rule.id
  pub names : AreNames rules w.position (parts.names ++ parts.extra)
  pub held : w.held.rows ≡ rows parts.found

abbrev pub Follows : List Rule → Walk → Parts → Option Text → Type 0
Follows rules w parts None = At rules w parts
Follows rules w parts (Some id) = WaitsAt rules w parts id

pub chosen : (a b : Bool) (x next : Parts) → (if not a && b then Some x else None) ≡ Some next → (a ≡ false) × (b ≡ true) × (x ≡ next)
chosen true b x next is = absurd (cc is)
chosen false true x next is = (refl, refl, cc is)
chosen false false x next is = absurd (cc is)

settled_use : (rules : List Rule) (rule : Rule) (value : Text) (rs : List Row) (skip : ℕ) → arg_by_id rules rule.id ≡ Some rule
    → (settled rules (record { rows = rs; pending = Some (rule.id, value ∷ []); skip = skip })).rows ≡ used rule (value ∷ []) rs
settled_use rules rule value rs skip by_id = rw by_id refl

-- the parts after a name, where these names are left
abbrev pub after_name : Parts → List Text → List Text → Text → Text → Parts
after_name parts names extra id word = record { names = names; extra = extra; waiting = None; found = parts.found ++ (id, word) ∷ [] }

-- a name, where these are left
step_named : (rules : List Rule) (w : Walk) (parts : Parts) (names extra : List Text) (id word : Text) (next : Parts) → Stands w → IsName rules w.position id → AreNames rules (w.position + 1) (names ++ extra)
    → (settled rules w.held).rows ≡ rows parts.found → (if not (is_found id parts.found) && is_plain_word word then Some (after_name parts names extra id word) else None) ≡ Some next
    → Follows rules (walked rules [] w word) next next.waiting
step_named rules w parts names extra id word next stands is are held made =
    let (none, name, same) = chosen (is_found id parts.found) (is_plain_word word) _ next made in
    let after : Parts = after_name parts names extra id word in
    let now : At rules (between (next_position is.rule w.position) (record (settled rules w.held) { pending = Some (is.rule.id, word ∷ []) })) after = record {
      stands = record { waiting = refl; trailing = refl; stopped = refl };
      names = rw is.next are;
      held = settled_use rules is.rule word (settled rules w.held).rows w.held.skip is.by_id ∙ (is.use_of word (settled rules w.held).rows ∙ rows-more id word parts.found (settled rules w.held).rows held none);
    } in
    subst (λ (p : Parts). Follows rules (walked rules [] w word) p p.waiting) same (rw (walked_name rules w word id is stands (plain_name word name)) now)

-- a name that may be left out
step_extra : (rules : List Rule) (w : Walk) (parts : Parts) (extra : List Text) (word : Text) (next : Parts) → Stands w → AreNames rules w.position extra → (settled rules w.held).rows ≡ rows parts.found
    → with_extra parts extra word ≡ Some next → Follows rules (walked rules [] w word) next next.waiting
step_extra rules w parts [] word next stands are held made = absurd (cc made)
step_extra rules w parts (id ∷ extra) word next stands are held made = step_named rules w parts [] extra id word next stands are.0 are.1 held made

-- any name
step_name : (rules : List Rule) (w : Walk) (parts : Parts) (names : List Text) (word : Text) (next : Parts) → Stands w → AreNames rules w.position (names ++ parts.extra)
    → (settled rules w.held).rows ≡ rows parts.found → with_name parts names word ≡ Some next → Follows rules (walked rules [] w word) next next.waiting
step_name rules w parts [] word next stands are held made = step_extra rules w parts parts.extra word next stands are held made
step_name rules w parts (id ∷ names) word next stands are held made = step_named rules w parts names parts.extra id word next stands are.0 are.1 held made

-- the value of an option, as a word of its own
step_value : (rules : List Rule) (w : Walk) (parts : Parts) (id word : Text) (next : Parts) → WaitsAt rules w parts id → with_value parts id word ≡ Some next
    → Follows rules (walked rules [] w word) next next.waiting
step_value rules w parts id word next at made =
    let (none, name, same) = chosen (is_found id parts.found) (is_plain_word word) _ next made in
    let is = at.is in
    let after : Parts = after_name parts parts.names parts.extra id word in
    let now : At rules (between w.position (record w.held { pending = Some (is.rule.id, word ∷ []) })) after = record {
      stands = record { waiting = refl; trailing = refl; stopped = refl };
      names = at.names;
      held = settled_use rules is.rule word w.held.rows w.held.skip is.by_id ∙ (is.use_of word w.held.rows ∙ rw at.called (rows-more id word parts.found w.held.rows at.held none));
    } in
    subst (λ (p : Parts). Follows rules (walked rules [] w word) p p.waiting) same (rw (walked_value rules w at.o word is at.waits (plain_name word name)) now)

-- an option before its value
step_opens : (rules : List Rule) (w : Walk) (parts : Parts) (o : ValueOption) → At rules w parts → IsOption rules o → Follows rules (walked rules [] w o.word) (record parts { waiting = Some o.id }) (Some o.id)
step_opens rules w parts o at is =
    let now : WaitsAt rules (record (between w.position (record (settled rules w.held) { pending = Some (is.rule.id, []) })) { waiting = option is.rule.id }) (record parts { waiting = Some o.id }) o.id = record {
      o = o;
      called = refl;
      is = is;
      waits = record { waiting = refl; trailing = refl; stopped = refl; pending = refl };
      names = at.names;
      held = at.held;
    } in
    rw (walked_opens rules w o is at.stands) now

-- what is used at once
step_used : (rules : List Rule) (w : Walk) (parts : Parts) (id value word : Text) (next : Parts) (rule : Rule) (given : List Text) → At rules w parts → IsUsed rule given id value
    → walked rules [] w word ≡ between w.position (record { rows = used rule given (settled rules w.held).rows; pending = None; skip = w.held.skip })
    → with_value parts id value ≡ Some next → Follows rules (walked rules [] w word) next next.waiting
step_used rules w parts id value word next rule given at use_of is_walked made =
    let (none, name, same) = chosen (is_found id parts.found) (is_plain_word value) _ next made in
    let after : Parts = after_name parts parts.names parts.extra id value in
    let now : At rules (between w.position (record { rows = used rule given (settled rules w.held).rows; pending = None; skip = w.held.skip })) after = record {
      stands = record { waiting = refl; trailing = refl; stopped = refl };
      names = at.names;
      held = use_of (settled rules w.held).rows ∙ rows-more id value parts.found (settled rules w.held).rows at.held none;
    } in
    subst (λ (p : Parts). Follows rules (walked rules [] w word) p p.waiting) same (rw is_walked now)

-- ---- any word

step_start : (rules : List Rule) (form : Form) (w : Walk) (parts : Parts) (o : Option ValueOption) (word : Text) (next : Parts) → Reads rules form → At rules w parts
    → find (has_start word) form.options ≡ o → with_start parts o word ≡ Some next → Follows rules (walked rules [] w word) next next.waiting
step_start rules form w parts None word next reads at is made = step_name rules w parts parts.names word next at.stands at.names at.held made
step_start rules form w parts (Some o) word next reads at is made =
    let (begins, of) = option_found rules (has_start word) form.options o reads.options is in
    let front : take (length o.start) word ≡ o.start = same_bytes _ _ begins in
    let value = drop (length o.start) word in
    let whole : o.start ++ value ≡ word = ap (λ (t : Text). t ++ value) (sym front) ∙ take-append-drop (length o.start) word in
    step_used rules w parts o.id value word next of.rule (value ∷ []) at (of.use_of value)
    (subst (λ (t : Text). walked rules [] w t ≡ between w.position (record { rows = used of.rule (value ∷ []) (settled rules w.held).rows; pending = None; skip = w.held.skip })) whole (walked_joined rules w o value of at.stands))
    made

step_flag : (rules : List Rule) (form : Form) (w : Walk) (parts : Parts) (f : Option Flag) (word : Text) (next : Parts) → Reads rules form → At rules w parts
    → find (is_flag word) form.flags ≡ f → with_flag form parts f word ≡ Some next → Follows rules (walked rules [] w word) next next.waiting
step_flag rules form w parts None word next reads at is made = step_start rules form w parts (find (has_start word) form.options) word next reads at refl made
step_flag rules form w parts (Some f) word next reads at is made =
    let (same, of) = flag_found rules (is_flag word) form.flags f reads.flags is in
    let whole : f.word ≡ word = sym (same_bytes _ _ same) in
    step_used rules w parts f.id (codes "true") word next of.rule [] at of.use_of
    (subst (λ (t : Text). walked rules [] w t ≡ between w.position (record { rows = used of.rule [] (settled rules w.held).rows; pending = None; skip = w.held.skip })) whole (walked_flag rules w f of at.stands))
    made

step_option : (rules : List Rule) (form : Form) (w : Walk) (parts : Parts) (o : Option ValueOption) (word : Text) (next : Parts) → Reads rules form → At rules w parts
    → find (is_option word) form.options ≡ o → with_option form parts o word ≡ Some next → Follows rules (walked rules [] w word) next next.waiting
step_option rules form w parts None word next reads at is made = step_flag rules form w parts (find (is_flag word) form.flags) word next reads at refl made
step_option rules form w parts (Some o) word next reads at is made =
    let (same, of) = option_found rules (is_option word) form.options o reads.options is in
    let whole : o.word ≡ word = sym (same_bytes _ _ same) in
    let opened : Follows rules (walked rules [] w word) (record parts { waiting = Some o.id }) (Some o.id) =
    subst (λ (t : Text). Follows rules (walked rules [] w t) (record parts { waiting = Some o.id }) (Some o.id)) whole (step_opens rules w parts o at of) in
    let same_parts : record parts { waiting = Some o.id } ≡ next = cc made in
    subst (λ (p : Parts). Follows rules (walked rules [] w word) p p.waiting) same_parts opened

pub step : (rules : List Rule) (form : Form) (w : Walk) (parts : Parts) (waiting : Option Text) (word : Text) (next : Parts) → Reads rules form → Follows rules w parts waiting
    → with_word form parts waiting word ≡ Some next → Follows rules (walked rules [] w word) next next.waiting
step rules form w parts None word next reads at made = step_option rules form w parts (find (is_option word) form.options) word next reads at refl made
step rules form w parts (Some id) word next reads at made = step_value rules w parts id word next at made

-- ---- all words

ended : (rules : List Rule) (w : Walk) (parts : Parts) (names : List Text) (waiting : Option Text) (found : List (Text × Text)) → Follows rules w parts waiting → at_end names waiting parts.found ≡ Some found
    → (settled rules w.held).rows ≡ rows found
ended rules w parts [] None found at is = let same : parts.found ≡ found = cc is in rw (← same) at.held
ended rules w parts [] (Some id) found at is = absurd (cc is)
ended rules w parts (id ∷ names) waiting found at is = absurd (cc is)

pub walks : (rules : List Rule) (form : Form) (words : List Text) (w : Walk) (parts : Parts) (found : List (Text × Text)) → Reads rules form → Follows rules w parts parts.waiting
    → found_after form parts words ≡ Some found → (settled rules (fold (walked rules []) w words).held).rows ≡ rows found
unfolding found_after
walks rules form [] w parts found reads at is = ended rules w parts parts.names parts.waiting found at is
walks rules form (word ∷ words) w parts found reads at is =
    let go : (o : Option Parts) → with_word form parts parts.waiting word ≡ o → option_and_then (λ next. found_after form next words) o ≡ Some found
    → (settled rules (fold (walked rules []) (walked rules [] w word) words).held).rows ≡ rows found
    = λ o. elim o as (λ v. with_word form parts parts.waiting word ≡ v → option_and_then (λ next. found_after form next words) v ≡ Some found
    → (settled rules (fold (walked rules []) (walked rules [] w word) words).held).rows ≡ rows found) [
      | None ↦ λ made none. absurd (cc none)
      | Some next ↦ λ made rest. walks rules form words (walked rules [] w word) next found reads (step rules form w parts parts.waiting word next reads at made) rest
    ] in
    go (with_word form parts parts.waiting word) refl is

-- the walk begins where nothing was found
pub start_at : (rules : List Rule) (form : Form) → Reads rules form → At rules (walk_from nothing_held) (no_parts form)
start_at rules form reads = record {
  stands = record { waiting = refl; trailing = refl; stopped = refl };
  names = reads.names;
  held = refl;
}

-- the rows that clap has at the end of the words are those of what was found, and then the defaults
pub rows_after-found : (rules : List Rule) (form : Form) (words : List Text) (found : List (Text × Text)) → Reads rules form → found_after form (no_parts form) words ≡ Some found
    → rows_after rules [] words ≡ fold with_default (rows found) rules
rows_after-found rules form words found reads is =
    ap (λ (rs : List Row). fold with_default rs rules) (walks rules form words (walk_from nothing_held) (no_parts form) found reads (start_at rules form reads) is)
