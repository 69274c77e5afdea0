-- The rows that `clap` holds, beside the values that were found.
use Rattle.std.proofs.Common.{◌≡◌, ◌∙◌, List, [], ◌∷◌, ◌++◌, Bool, true, false, Some, None, refl, sym, ap, inl, inr, not, ◌||◌, map, rules, subst}
use Rattle.std.proofs.lemmas.Bool.{and_parts, cases_Bool, or_parts, or_right}
use Rattle.std.proofs.lemmas.Slice.Eq.{bytes_eq-Decides}
use Rattle.std.specs.List.{fold, list_all}
use Rattle.std.specs.Prelude.{slice_get}
use Rattle.std.specs.Str.{bytes_eq}
use Rattle.clap.specs.Takes.{is_given}
use Rattle.clap.specs.Walk.{Row, Rule, Text, default_rows, first_of, has_row, reading_by, with_default, with_values, without}
use Rattle.clap.specs.declared.builder.value_parser.Reading.{Reading}
use Rattle.clap.specs.declared.builder.value_parser.Reading.TheVariants.{AsWritten}
use Rattle.clap.specs.declared.parser.matches.ValueSource.{ValueSource}
use Rattle.clap.specs.declared.parser.matches.ValueSource.TheVariants.{CommandLine, DefaultValue}
use Rattle.fries_words.specs.Words.{is_true}
use Rattle.fries_words.specs.Form.{is_found, value_of}
use Rattle.fries_words.proofs.FormLemmas.{map-more}

pub same_bytes : (a b : Text) → bytes_eq a b ≡ true → a ≡ b
same_bytes a b e = search (rules, bytes_eq-Decides)

-- ---- one row for each value

abbrev pub row : Text × Text → Row
row pair = record { id = pair.0; values = pair.1 ∷ []; count = None; source = Some CommandLine; reading = AsWritten }

abbrev pub rows : List (Text × Text) → List Row
rows found = map row found

pub has_row-rows : (id : Text) (found : List (Text × Text)) → has_row id (rows found) ≡ is_found id found
has_row-rows id [] = refl
has_row-rows id (pair ∷ found) = ap (λ (b : Bool). bytes_eq pair.0 id || b) (has_row-rows id found)

pub first_of-rows : (id : Text) (found : List (Text × Text)) → first_of id (rows found) ≡ value_of found id
first_of-rows id [] = refl
first_of-rows id (pair ∷ found) =
    elim (cases_Bool (bytes_eq pair.0 id)) [
      | inl same ↦ rw same refl
      | inr other ↦ rw other (first_of-rows id found)
    ]

-- what was found stays found
pub found_more : (id : Text) (found : List (Text × Text)) (pair : Text × Text) → is_found id found ≡ true → is_found id (found ++ pair ∷ []) ≡ true
found_more id [] pair is = absurd (cc is)
found_more id (x ∷ found) pair is =
    elim (cases_Bool (bytes_eq x.0 id)) [
      | inl same ↦ rw same refl
      | inr other ↦ rw other (found_more id found pair (rw other at is))
    ]

-- the last pair is found
pub found_end : (id : Text) (found : List (Text × Text)) (pair : Text × Text) → bytes_eq pair.0 id ≡ true → is_found id (found ++ pair ∷ []) ≡ true
found_end id [] pair same = rw same refl
found_end id (x ∷ found) pair same = or_right (bytes_eq x.0 id) (is_found id (found ++ pair ∷ [])) (found_end id found pair same)

-- ---- one more row

without-none : (id : Text) (rs : List Row) → has_row id rs ≡ false → without id rs ≡ rs
without-none id [] none = refl
without-none id (r ∷ rs) none =
    let (here, rest) = or_parts (bytes_eq r.id id) (has_row id rs) none in
    rw here (ap (λ (t : List Row). r ∷ t) (without-none id rs rest))

with_values-none : (id : Text) (how : Reading) (s : ValueSource) (vs : List Text) (rs : List Row) → has_row id rs ≡ false
    → with_values id how s vs rs ≡ rs ++ record { id = id; values = vs; count = None; source = Some s; reading = how } ∷ []
with_values-none id how s vs [] none = refl
with_values-none id how s vs (r ∷ rs) none =
    let (here, rest) = or_parts (bytes_eq r.id id) (has_row id rs) none in
    rw here (ap (λ (t : List Row). r ∷ t) (with_values-none id how s vs rs rest))

-- the rows with the first value of a name or an option
pub rows-more : (id value : Text) (found : List (Text × Text)) (rs : List Row) → rs ≡ rows found → is_found id found ≡ false
    → with_values id AsWritten CommandLine (value ∷ []) (without id rs) ≡ rows (found ++ (id, value) ∷ [])
rows-more id value found rs is none =
    let lacks : has_row id (rows found) ≡ false = has_row-rows id found ∙ none in
    rw (is, without-none id (rows found) lacks, with_values-none id AsWritten CommandLine (value ∷ []) (rows found) lacks) (sym (map-more row found (id, value)))

-- ---- defaults

first_of-other : (id : Text) (rs : List Row) (r : Row) → bytes_eq r.id id ≡ false → first_of id (rs ++ r ∷ []) ≡ first_of id rs
first_of-other id [] r other = rw other refl
first_of-other id (x ∷ rs) r other =
    elim (cases_Bool (bytes_eq x.id id)) [
      | inl same ↦ rw same refl
      | inr differs ↦ rw differs (first_of-other id rs r other)
    ]

first_of-none : (id : Text) (rs : List Row) → has_row id rs ≡ false → first_of id rs ≡ None
first_of-none id [] none = refl
first_of-none id (x ∷ rs) none =
    let (here, rest) = or_parts (bytes_eq x.id id) (has_row id rs) none in
    rw here (first_of-none id rs rest)

first_of-end : (id : Text) (rs : List Row) (r : Row) → has_row id rs ≡ false → bytes_eq r.id id ≡ true → first_of id (rs ++ r ∷ []) ≡ slice_get r.values 0
first_of-end id [] r none same = rw same refl
first_of-end id (x ∷ rs) r none same =
    let (here, rest) = or_parts (bytes_eq x.id id) (has_row id rs) none in
    rw here (first_of-end id rs r rest same)

off-not : (b : Bool) → not b ≡ true → b ≡ false
off-not true e = absurd (cc e)
off-not false e = refl

-- there is no default
abbrev pub are_none : List Text → Bool
are_none [] = true
are_none (v ∷ vs) = false

-- the argument has no default, or is another one
abbrev pub is_plain_for : Text → Rule → Bool
is_plain_for id a = are_none a.defaults || not (bytes_eq a.id id)

default_rows-kept : (id aid : Text) (how : Reading) (defaults : List Text) (rs : List Row) → has_row aid rs ≡ false → (are_none defaults || not (bytes_eq aid id)) ≡ true
    → first_of id (default_rows aid how defaults rs) ≡ first_of id rs
default_rows-kept id aid how [] rs none plain = refl
default_rows-kept id aid how (v ∷ vs) rs none plain =
    rw (with_values-none aid how DefaultValue (v ∷ vs) rs none) (first_of-other id rs _ (off-not (bytes_eq aid id) plain))

with_default-kept : (id : Text) (rs : List Row) (a : Rule) → is_plain_for id a ≡ true → first_of id (with_default rs a) ≡ first_of id rs
with_default-kept id rs a plain =
    elim (cases_Bool (has_row a.id rs)) [
      | inl has ↦ rw has refl
      | inr none ↦ rw none (default_rows-kept id a.id (reading_by a) a.defaults rs none plain)
    ]

-- a value stays where the defaults come
pub defaults-kept : (id : Text) (rules : List Rule) (rs : List Row) → list_all (is_plain_for id) rules ≡ true → first_of id (fold with_default rs rules) ≡ first_of id rs
defaults-kept id [] rs plain = refl
defaults-kept id (a ∷ rules) rs plain =
    let (here, later) = and_parts (is_plain_for id a) (list_all (is_plain_for id) rules) plain in
    defaults-kept id rules (with_default rs a) later ∙ with_default-kept id rs a here

-- the argument has no default, or one that isn't `true`
abbrev pub is_off : List Text → Bool
is_off defaults = not (is_true (slice_get defaults 0))

default_rows-off : (id aid : Text) (how : Reading) (defaults : List Text) (rs : List Row) → has_row aid rs ≡ false → is_off defaults ≡ true
    → is_true (first_of id (default_rows aid how defaults rs)) ≡ is_true (first_of id rs)
default_rows-off id aid how [] rs none off = refl
default_rows-off id aid how (v ∷ vs) rs none off =
    elim (cases_Bool (bytes_eq aid id)) [
      | inl same ↦
          let is : aid ≡ id = same_bytes aid id same in
          let lacks : has_row id rs ≡ false = subst (λ (t : Text). has_row t rs ≡ false) is none in
          rw (with_values-none aid how DefaultValue (v ∷ vs) rs none, first_of-end id rs (record { id = aid; values = v ∷ vs; count = None; source = Some DefaultValue; reading = how }) lacks same, first_of-none id rs lacks) (off-not (is_true (Some v)) off)
      | inr other ↦ rw (with_values-none aid how DefaultValue (v ∷ vs) rs none) (ap is_true (first_of-other id rs _ other))
    ]

with_default-off : (id : Text) (rs : List Row) (a : Rule) → is_off a.defaults ≡ true → is_true (first_of id (with_default rs a)) ≡ is_true (first_of id rs)
with_default-off id rs a off =
    elim (cases_Bool (has_row a.id rs)) [
      | inl has ↦ rw has refl
      | inr none ↦ rw none (default_rows-off id a.id (reading_by a) a.defaults rs none off)
    ]

-- a flag isn't set by the defaults
pub defaults-off : (id : Text) (rules : List Rule) (rs : List Row) → list_all (λ a. is_off a.defaults) rules ≡ true
    → is_true (first_of id (fold with_default rs rules)) ≡ is_true (first_of id rs)
defaults-off id [] rs off = refl
defaults-off id (a ∷ rules) rs off =
    let (here, later) = and_parts (is_off a.defaults) (list_all (λ (x : Rule). is_off x.defaults) rules) off in
    defaults-off id rules (with_default rs a) later ∙ with_default-off id rs a here

-- ---- what the words gave

-- a value that was found was given by the words
pub given_rows : (id : Text) (found : List (Text × Text)) → is_found id found ≡ true → is_given id (rows found) ≡ true
given_rows id [] is = absurd (cc is)
given_rows id (pair ∷ found) is =
    elim (cases_Bool (bytes_eq pair.0 id)) [
      | inl same ↦ rw same refl
      | inr other ↦ rw other (given_rows id found (rw other at is))
    ]

given_more : (id : Text) (rs : List Row) (r : Row) → is_given id rs ≡ true → is_given id (rs ++ r ∷ []) ≡ true
given_more id [] r given = absurd (cc given)
given_more id (x ∷ rs) r given =
    elim (cases_Bool (bytes_eq x.id id)) [
      | inl same ↦ rw same (rw same at given)
      | inr other ↦ rw other (given_more id rs r (rw other at given))
    ]

given_default_rows : (id aid : Text) (how : Reading) (defaults : List Text) (rs : List Row) → has_row aid rs ≡ false → is_given id rs ≡ true → is_given id (default_rows aid how defaults rs) ≡ true
given_default_rows id aid how [] rs none given = given
given_default_rows id aid how (v ∷ vs) rs none given = rw (with_values-none aid how DefaultValue (v ∷ vs) rs none) (given_more id rs _ given)

given_default : (id : Text) (rs : List Row) (a : Rule) → is_given id rs ≡ true → is_given id (with_default rs a) ≡ true
given_default id rs a given =
    elim (cases_Bool (has_row a.id rs)) [
      | inl has ↦ rw has given
      | inr none ↦ rw none (given_default_rows id a.id (reading_by a) a.defaults rs none given)
    ]

-- what the words gave stays given where the defaults come
pub given_defaults : (id : Text) (rules : List Rule) (rs : List Row) → is_given id rs ≡ true → is_given id (fold with_default rs rules) ≡ true
given_defaults id [] rs given = given
given_defaults id (a ∷ rules) rs given = given_defaults id rules (with_default rs a) (given_default id rs a given)
