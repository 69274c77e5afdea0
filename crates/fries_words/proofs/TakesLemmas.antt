-- That `clap` refuses no words of a command's form, for a command with any names, options and flags.
use Rattle.std.proofs.Common.{◌≡◌, ◌∙◌, ◌⊎◌, List, [], ◌∷◌, ◌++◌, Bool, true, false, not, ◌&&◌, ◌||◌, Option, Some, None, refl, sym, ap, inl, inr, subst, codes, if◌then◌else◌, take, drop, length}
use Rattle.std.proofs.lemmas.Bool.{and_from, and_parts, and_right, cases_Bool}
use Rattle.std.proofs.lemmas.List.{take-append-drop}
use Rattle.std.specs.List.{fold, list_all, list_any}
use Rattle.std.specs.Prelude.{⊤, find, option_and_then}
use Rattle.std.specs.Str.{bytes_eq}
use Rattle.clap.specs.Simple.{Shape}
use Rattle.clap.specs.Takes.{default_passes, is_given, is_valid, level_passes, positional_passes, settle_passes, turn_passes, use_passes, walk_passes}
use Rattle.clap.specs.Walk.{Held, Row, Rule, Text, Walk, arg_by_id, finished, has_row, is_pending, nothing_held, settled, takes_several, walk_from, walked, with_default}
use Rattle.fries_words.specs.Form.{Flag, Form, Parts, ValueOption, at_end, found_after, has_start, is_flag, is_found, is_plain_word, is_option, no_parts, with_extra, with_flag, with_name, with_option, with_start, with_value, with_word}
use Rattle.fries_words.proofs.RowLemmas.{found_end, found_more, given_defaults, given_rows, has_row-rows, rows, same_bytes}
use Rattle.fries_words.proofs.WalkLemmas.{AreNames, At, Follows, IsFlag, IsName, IsOption, IsPlainWord, Reads, Stands, Waits, WaitsAt, after_name, chosen, flag_found, option_found, plain_name, start_at, step, walked_flag, walked_joined, walked_name, walked_value, walks}

-- ---- one word

-- what is pending may be used, if no value is waited for
abbrev Settles : List Rule → Walk → Option Text → Type 0
Settles rules w None = settle_passes rules false w.held ≡ true
Settles rules w (Some id) = ⊤

-- the word passes, and so does what it leaves
abbrev Passes : Shape → Walk → Text → Option Text → Type 0
Passes s w word waiting = (turn_passes s [] w word ≡ true) × Settles s.rules (walked s.rules [] w word) waiting

unused : (b : Bool) → b ≡ false → ((not b || false) && true) ≡ true
unused b e = rw e refl

lacks : (id : Text) (rs : List Row) (found : List (Text × Text)) → rs ≡ rows found → is_found id found ≡ false → has_row id rs ≡ false
lacks id rs found is none = ap (has_row id) is ∙ (has_row-rows id found ∙ none)

pending_passes : (rules : List Rule) (rule : Rule) (value : Text) (h : Held) → h.pending ≡ Some (rule.id, value ∷ []) → use_passes false rule (value ∷ []) h.rows ≡ true
    → arg_by_id rules rule.id ≡ Some rule → settle_passes rules false h ≡ true
pending_passes rules rule value h pending passes by_id = rw (pending, by_id) passes

turn_name : (s : Shape) (w : Walk) (word id : Text) (is : IsName s.rules w.position id) → s.args_override_self ≡ false → Stands w → IsPlainWord word → settle_passes s.rules false w.held ≡ true
    → turn_passes s [] w word ≡ true
turn_name s w word id is again st p settles =
    let free : positional_passes s.rules false is.rule w.held ≡ true = rw (and_right (is_pending is.rule w.held.pending) (takes_several is.rule) is.single) settles in
    rw (st.stopped, again, st.trailing, st.waiting, p.dashes, p.long, p.short, is.at) free

turn_opens : (s : Shape) (w : Walk) (o : ValueOption) → IsOption s.rules o → s.args_override_self ≡ false → Stands w → settle_passes s.rules false w.held ≡ true → turn_passes s [] w o.word ≡ true
turn_opens s w o is again st settles =
    rw (st.stopped, again, st.trailing, st.waiting, is.dashes, is.long, is.by_long, is.takes) (and_from (settle_passes s.rules false w.held) true settles refl)

turn_joined : (s : Shape) (w : Walk) (o : ValueOption) (value : Text) (is : IsOption s.rules o) → s.args_override_self ≡ false → Stands w → settle_passes s.rules false w.held ≡ true
    → use_passes false is.rule (value ∷ []) (settled s.rules w.held).rows ≡ true → turn_passes s [] w (o.start ++ value) ≡ true
turn_joined s w o value is again st settles passes =
    let both = and_from (settle_passes s.rules false w.held) (use_passes false is.rule (value ∷ []) (settled s.rules w.held).rows) settles passes in
    rw (st.stopped, again, st.trailing, st.waiting, is.dashes_joined value, is.joined value, is.by_long, is.takes) (and_from (settle_passes s.rules false w.held && use_passes false is.rule (value ∷ []) (settled s.rules w.held).rows) true both refl)

turn_flag : (s : Shape) (w : Walk) (f : Flag) (is : IsFlag s.rules f) → s.args_override_self ≡ false → Stands w → settle_passes s.rules false w.held ≡ true
    → use_passes false is.rule [] (settled s.rules w.held).rows ≡ true → turn_passes s [] w f.word ≡ true
turn_flag s w f is again st settles passes =
    let both = and_from (settle_passes s.rules false w.held) (use_passes false is.rule [] (settled s.rules w.held).rows) settles passes in
    rw (st.stopped, again, st.trailing, st.waiting, is.dashes, is.long, is.by_long, is.takes) (and_from (settle_passes s.rules false w.held && use_passes false is.rule [] (settled s.rules w.held).rows) true both refl)

turn_value : (s : Shape) (w : Walk) (word id : Text) → Waits w id → IsPlainWord word → turn_passes s [] w word ≡ true
turn_value s w word id waits p = rw (waits.stopped, waits.trailing, waits.waiting, p.dashes, p.long, p.short) refl

-- ---- any word

passes_named : (s : Shape) (w : Walk) (parts : Parts) (names extra : List Text) (id word : Text) (next : Parts) → s.args_override_self ≡ false → At s.rules w parts → IsName s.rules w.position id
    → Settles s.rules w None → (if not (is_found id parts.found) && is_plain_word word then Some (after_name parts names extra id word) else None) ≡ Some next → Passes s w word next.waiting
passes_named s w parts names extra id word next again at is settles made =
    let (none, name, same) = chosen (is_found id parts.found) (is_plain_word word) _ next made in
    let plain = plain_name word name in
    let rs = (settled s.rules w.held).rows in
    let passes : use_passes false is.rule (word ∷ []) rs ≡ true = is.passes word rs ∙ unused (has_row id rs) (lacks id rs parts.found at.held none) in
    let after : settle_passes s.rules false (walked s.rules [] w word).held ≡ true = rw (walked_name s.rules w word id is at.stands plain) (pending_passes s.rules is.rule word (record (settled s.rules w.held) { pending = Some (is.rule.id, word ∷ []) }) refl passes is.by_id) in
    (turn_name s w word id is again at.stands plain settles, subst (λ (p : Parts). Settles s.rules (walked s.rules [] w word) p.waiting) same after)

passes_extra : (s : Shape) (w : Walk) (parts : Parts) (extra : List Text) (word : Text) (next : Parts) → s.args_override_self ≡ false → At s.rules w parts → AreNames s.rules w.position extra
    → Settles s.rules w None → with_extra parts extra word ≡ Some next → Passes s w word next.waiting
passes_extra s w parts [] word next again at are settles made = absurd (cc made)
passes_extra s w parts (id ∷ extra) word next again at are settles made = passes_named s w parts [] extra id word next again at are.0 settles made

passes_name : (s : Shape) (w : Walk) (parts : Parts) (names : List Text) (word : Text) (next : Parts) → s.args_override_self ≡ false → At s.rules w parts → AreNames s.rules w.position (names ++ parts.extra)
    → Settles s.rules w None → with_name parts names word ≡ Some next → Passes s w word next.waiting
passes_name s w parts [] word next again at are settles made = passes_extra s w parts parts.extra word next again at are settles made
passes_name s w parts (id ∷ names) word next again at are settles made = passes_named s w parts names parts.extra id word next again at are.0 settles made

passes_value : (s : Shape) (w : Walk) (parts : Parts) (id word : Text) (next : Parts) → WaitsAt s.rules w parts id → with_value parts id word ≡ Some next → Passes s w word next.waiting
passes_value s w parts id word next at made =
    let (none, name, same) = chosen (is_found id parts.found) (is_plain_word word) _ next made in
    let is = at.is in
    let plain = plain_name word name in
    let lacking : has_row at.o.id w.held.rows ≡ false = subst (λ (t : Text). has_row t w.held.rows ≡ false) (sym at.called) (lacks id w.held.rows parts.found at.held none) in
    let passes : use_passes false is.rule (word ∷ []) w.held.rows ≡ true = is.passes word w.held.rows ∙ unused (has_row at.o.id w.held.rows) lacking in
    let after : settle_passes s.rules false (walked s.rules [] w word).held ≡ true = rw (walked_value s.rules w at.o word is at.waits plain) (pending_passes s.rules is.rule word (record w.held { pending = Some (is.rule.id, word ∷ []) }) refl passes is.by_id) in
    (turn_value s w word is.rule.id at.waits plain, subst (λ (p : Parts). Settles s.rules (walked s.rules [] w word) p.waiting) same after)

passes_joined : (s : Shape) (w : Walk) (parts : Parts) (o : ValueOption) (value : Text) (next : Parts) → s.args_override_self ≡ false → At s.rules w parts → IsOption s.rules o → Settles s.rules w None
    → with_value parts o.id value ≡ Some next → Passes s w (o.start ++ value) next.waiting
passes_joined s w parts o value next again at is settles made =
    let (none, name, same) = chosen (is_found o.id parts.found) (is_plain_word value) _ next made in
    let rs = (settled s.rules w.held).rows in
    let passes : use_passes false is.rule (value ∷ []) rs ≡ true = is.passes value rs ∙ unused (has_row o.id rs) (lacks o.id rs parts.found at.held none) in
    let after : settle_passes s.rules false (walked s.rules [] w (o.start ++ value)).held ≡ true = rw (walked_joined s.rules w o value is at.stands) refl in
    (turn_joined s w o value is again at.stands settles passes, subst (λ (p : Parts). Settles s.rules (walked s.rules [] w (o.start ++ value)) p.waiting) same after)

passes_start : (s : Shape) (form : Form) (w : Walk) (parts : Parts) (o : Option ValueOption) (word : Text) (next : Parts) → Reads s.rules form → s.args_override_self ≡ false → At s.rules w parts → Settles s.rules w None
    → find (has_start word) form.options ≡ o → with_start parts o word ≡ Some next → Passes s w word next.waiting
passes_start s form w parts None word next reads again at settles is made = passes_name s w parts parts.names word next again at at.names settles made
passes_start s form w parts (Some o) word next reads again at settles is made =
    let (begins, of) = option_found s.rules (has_start word) form.options o reads.options is in
    let front : take (length o.start) word ≡ o.start = same_bytes _ _ begins in
    let value = drop (length o.start) word in
    let whole : o.start ++ value ≡ word = ap (λ (t : Text). t ++ value) (sym front) ∙ take-append-drop (length o.start) word in
    subst (λ (t : Text). Passes s w t next.waiting) whole (passes_joined s w parts o value next again at of settles made)

passes_switch : (s : Shape) (w : Walk) (parts : Parts) (f : Flag) (next : Parts) → s.args_override_self ≡ false → At s.rules w parts → IsFlag s.rules f → Settles s.rules w None
    → with_value parts f.id (codes "true") ≡ Some next → Passes s w f.word next.waiting
passes_switch s w parts f next again at is settles made =
    let (none, name, same) = chosen (is_found f.id parts.found) (is_plain_word (codes "true")) _ next made in
    let rs = (settled s.rules w.held).rows in
    let passes : use_passes false is.rule [] rs ≡ true = is.passes rs ∙ unused (has_row f.id rs) (lacks f.id rs parts.found at.held none) in
    let after : settle_passes s.rules false (walked s.rules [] w f.word).held ≡ true = rw (walked_flag s.rules w f is at.stands) refl in
    (turn_flag s w f is again at.stands settles passes, subst (λ (p : Parts). Settles s.rules (walked s.rules [] w f.word) p.waiting) same after)

passes_flag : (s : Shape) (form : Form) (w : Walk) (parts : Parts) (f : Option Flag) (word : Text) (next : Parts) → Reads s.rules form → s.args_override_self ≡ false → At s.rules w parts → Settles s.rules w None
    → find (is_flag word) form.flags ≡ f → with_flag form parts f word ≡ Some next → Passes s w word next.waiting
passes_flag s form w parts None word next reads again at settles is made = passes_start s form w parts (find (has_start word) form.options) word next reads again at settles refl made
passes_flag s form w parts (Some f) word next reads again at settles is made =
    let (same, of) = flag_found s.rules (is_flag word) form.flags f reads.flags is in
    subst (λ (t : Text). Passes s w t next.waiting) (sym (same_bytes _ _ same)) (passes_switch s w parts f next again at of settles made)

passes_option : (s : Shape) (form : Form) (w : Walk) (parts : Parts) (o : Option ValueOption) (word : Text) (next : Parts) → Reads s.rules form → s.args_override_self ≡ false → At s.rules w parts → Settles s.rules w None
    → find (is_option word) form.options ≡ o → with_option form parts o word ≡ Some next → Passes s w word next.waiting
passes_option s form w parts None word next reads again at settles is made = passes_flag s form w parts (find (is_flag word) form.flags) word next reads again at settles refl made
passes_option s form w parts (Some o) word next reads again at settles is made =
    let (same, of) = option_found s.rules (is_option word) form.options o reads.options is in
    let passes : Passes s w o.word (Some o.id) = (turn_opens s w o of again at.stands settles, tt) in
    let same_parts : record parts { waiting = Some o.id } ≡ next = cc made in
    subst (λ (p : Parts). Passes s w word p.waiting) same_parts (subst (λ (t : Text). Passes s w t (Some o.id)) (sym (same_bytes _ _ same)) passes)

passes_word : (s : Shape) (form : Form) (w : Walk) (parts : Parts) (waiting : Option Text) (word : Text) (next : Parts) → Reads s.rules form → s.args_override_self ≡ false → Follows s.rules w parts waiting
    → Settles s.rules w waiting → with_word form parts waiting word ≡ Some next → Passes s w word next.waiting
passes_word s form w parts None word next reads again at settles made = passes_option s form w parts (find (is_option word) form.options) word next reads again at settles refl made
passes_word s form w parts (Some id) word next reads again at settles made = passes_value s w parts id word next at made

-- ---- all words

-- the words pass, and so does what they leave
abbrev Pass : Shape → Walk → List Text → Type 0
Pass s w words = (walk_passes s [] w words ≡ true) × (settle_passes s.rules false (fold (walked s.rules []) w words).held ≡ true)

end_passes : (s : Shape) (w : Walk) (names : List Text) (waiting : Option Text) (at found : List (Text × Text)) → Settles s.rules w waiting → at_end names waiting at ≡ Some found → Pass s w []
unfolding walk_passes
end_passes s w [] None at found settles is = (refl, settles)
end_passes s w [] (Some id) at found settles is = absurd (cc is)
end_passes s w (id ∷ names) waiting at found settles is = absurd (cc is)

words_pass : (s : Shape) (form : Form) (words : List Text) (w : Walk) (parts : Parts) (found : List (Text × Text)) → Reads s.rules form → s.args_override_self ≡ false → Follows s.rules w parts parts.waiting
    → Settles s.rules w parts.waiting → found_after form parts words ≡ Some found → Pass s w words
unfolding found_after walk_passes
words_pass s form [] w parts found reads again at settles is = end_passes s w parts.names parts.waiting parts.found found settles is
words_pass s form (word ∷ words) w parts found reads again at settles is =
    let go : (o : Option Parts) → with_word form parts parts.waiting word ≡ o → option_and_then (λ next. found_after form next words) o ≡ Some found → Pass s w (word ∷ words)
    = λ o. elim o as (λ v. with_word form parts parts.waiting word ≡ v → option_and_then (λ next. found_after form next words) v ≡ Some found → Pass s w (word ∷ words)) [
      | None ↦ λ made none. absurd (cc none)
      | Some next ↦ λ made rest.
          let (turns, after) = passes_word s form w parts parts.waiting word next reads again at settles made in
          let (later, last) = words_pass s form words (walked s.rules [] w word) next found reads again (step s.rules form w parts parts.waiting word next reads at made) after rest in
          (and_from (turn_passes s [] w word) (walk_passes s [] (walked s.rules [] w word) words) turns later, last)
    ] in
    go (with_word form parts parts.waiting word) refl is

-- ---- every name has a value at the end

abbrev pub has_name : List Text → Text → Bool
has_name names id = list_any (λ name. bytes_eq name id) names

-- the name is still to come, or has a value
abbrev IsDue : Text → Parts → Type 0
IsDue id parts = (has_name parts.names id ≡ true) ⊎ (is_found id parts.found ≡ true)

due_value : (id : Text) (parts : Parts) (key value : Text) (next : Parts) → IsDue id parts → with_value parts key value ≡ Some next → IsDue id next
due_value id parts key value next due made =
    let (none, name, same) = chosen (is_found key parts.found) (is_plain_word value) _ next made in
    subst (IsDue id) same (elim due [
      | inl later ↦ inl later
      | inr found ↦ inr (found_more id parts.found (key, value) found)
    ])

due_extra : (id : Text) (parts : Parts) (extra : List Text) (word : Text) (next : Parts) → is_found id parts.found ≡ true → with_extra parts extra word ≡ Some next → IsDue id next
due_extra id parts [] word next found made = absurd (cc made)
due_extra id parts (key ∷ extra) word next found made =
    let (none, name, same) = chosen (is_found key parts.found) (is_plain_word word) _ next made in
    subst (IsDue id) same (inr (found_more id parts.found (key, word) found))

due_name : (id : Text) (parts : Parts) (names : List Text) (word : Text) (next : Parts) → (has_name names id ≡ true) ⊎ (is_found id parts.found ≡ true) → with_name parts names word ≡ Some next → IsDue id next
due_name id parts [] word next due made =
    elim due [
      | inl none ↦ absurd (cc none)
      | inr found ↦ due_extra id parts parts.extra word next found made
    ]
due_name id parts (key ∷ names) word next due made =
    let (none, name, same) = chosen (is_found key parts.found) (is_plain_word word) _ next made in
    subst (IsDue id) same (elim due [
      | inl here ↦ elim (cases_Bool (bytes_eq key id)) [
        | inl is ↦ inr (found_end id parts.found (key, word) is)
        | inr other ↦ inl (rw other at here)
      ]
      | inr found ↦ inr (found_more id parts.found (key, word) found)
    ])

due_start : (id : Text) (parts : Parts) (o : Option ValueOption) (word : Text) (next : Parts) → IsDue id parts → with_start parts o word ≡ Some next → IsDue id next
due_start id parts None word next due made = due_name id parts parts.names word next due made
due_start id parts (Some o) word next due made = due_value id parts o.id (drop (length o.start) word) next due made

due_flag : (id : Text) (form : Form) (parts : Parts) (f : Option Flag) (word : Text) (next : Parts) → IsDue id parts → with_flag form parts f word ≡ Some next → IsDue id next
due_flag id form parts None word next due made = due_start id parts (find (has_start word) form.options) word next due made
due_flag id form parts (Some f) word next due made = due_value id parts f.id (codes "true") next due made

due_option : (id : Text) (form : Form) (parts : Parts) (o : Option ValueOption) (word : Text) (next : Parts) → IsDue id parts → with_option form parts o word ≡ Some next → IsDue id next
due_option id form parts None word next due made = due_flag id form parts (find (is_flag word) form.flags) word next due made
due_option id form parts (Some o) word next due made = let same : record parts { waiting = Some o.id } ≡ next = cc made in subst (IsDue id) same due

due_word : (id : Text) (form : Form) (parts : Parts) (waiting : Option Text) (word : Text) (next : Parts) → IsDue id parts → with_word form parts waiting word ≡ Some next → IsDue id next
due_word id form parts None word next due made = due_option id form parts (find (is_option word) form.options) word next due made
due_word id form parts (Some key) word next due made = due_value id parts key word next due made

due_end : (id : Text) (names : List Text) (waiting : Option Text) (at found : List (Text × Text)) → (has_name names id ≡ true) ⊎ (is_found id at ≡ true) → at_end names waiting at ≡ Some found → is_found id found ≡ true
due_end id [] None at found due is =
    let same : at ≡ found = cc is in
    subst (λ (f : List (Text × Text)). is_found id f ≡ true) same (elim due [
      | inl none ↦ absurd (cc none)
      | inr has ↦ has
    ])
due_end id [] (Some key) at found due is = absurd (cc is)
due_end id (name ∷ names) waiting at found due is = absurd (cc is)

due_found : (id : Text) (form : Form) (words : List Text) (parts : Parts) (found : List (Text × Text)) → IsDue id parts → found_after form parts words ≡ Some found → is_found id found ≡ true
unfolding found_after
due_found id form [] parts found due is = due_end id parts.names parts.waiting parts.found found due is
due_found id form (word ∷ words) parts found due is =
    let go : (o : Option Parts) → with_word form parts parts.waiting word ≡ o → option_and_then (λ next. found_after form next words) o ≡ Some found → is_found id found ≡ true
    = λ o. elim o as (λ v. with_word form parts parts.waiting word ≡ v → option_and_then (λ next. found_after form next words) v ≡ Some found → is_found id found ≡ true) [
      | None ↦ λ made none. absurd (cc none)
      | Some next ↦ λ made rest. due_found id form words next found (due_word id form parts parts.waiting word next due made) rest
    ] in
    go (with_word form parts parts.waiting word) refl is

-- ---- the whole level

-- the argument is a name of the form, if it is required
abbrev pub is_named : List Text → Rule → Bool
is_named names a = not a.required || has_name names a.id

-- the argument is given, if it is required
abbrev is_answered : List Row → Rule → Bool
is_answered rs a = not a.required || is_given a.id rs

answered : (named given needed : Bool) → (not needed || named) ≡ true → (named ≡ true → given ≡ true) → (not needed || given) ≡ true
answered named given true is gives = gives is
answered named given false is gives = refl

all_answered : (names : List Text) (rs : List Row) (rules : List Rule) → ((id : Text) → has_name names id ≡ true → is_given id rs ≡ true) → list_all (is_named names) rules ≡ true → list_all (is_answered rs) rules ≡ true
all_answered names rs [] gives named = refl
all_answered names rs (a ∷ rules) gives named =
    let (here, later) = and_parts (is_named names a) (list_all (is_named names) rules) named in
    and_from (is_answered rs a) (list_all (is_answered rs) rules) (answered (has_name names a.id) (is_given a.id rs) a.required here (gives a.id))
    (all_answered names rs rules gives later)

-- what `clap` asks of a command beyond its words
pub record IsEasy (s : Shape) (form : Form) : Type 0 where
  pub again : s.args_override_self ≡ false
  pub help : s.arg_required_else_help ≡ false
  pub below : s.subcommand_required ≡ false
  pub negates : s.subcommand_negates_reqs ≡ false
  pub free : list_all (λ (a : Rule). a.is_free) s.rules ≡ true
  pub defaults : list_all default_passes s.rules ≡ true
  pub named : list_all (is_named form.names) s.rules ≡ true

-- a command takes each full form
pub level_takes : (s : Shape) (form : Form) (words : List Text) (found : List (Text × Text)) → Reads s.rules form → IsEasy s form → found_after form (no_parts form) words ≡ Some found
    → level_passes s [] nothing_held words false ≡ true
level_takes s form words found reads easy is =
    let start = start_at s.rules form reads in
    let (walk, settle) = words_pass s form words (walk_from nothing_held) (no_parts form) found reads easy.again start refl is in
    let held = walks s.rules form words (walk_from nothing_held) (no_parts form) found reads start is in
    let given : (id : Text) → has_name form.names id ≡ true → is_given id (fold with_default (rows found) s.rules) ≡ true =
    λ id has. given_defaults id s.rules (rows found) (given_rows id found (due_found id form words (no_parts form) found (inl has) is)) in
    let all = all_answered form.names (fold with_default (rows found) s.rules) s.rules given easy.named in
    let valid : is_valid s (fold with_default (rows found) s.rules) false ≡ true =
    rw (easy.help, easy.below, easy.negates) (and_from (list_all (λ (a : Rule). a.is_free) s.rules) (list_all (is_answered (fold with_default (rows found) s.rules)) s.rules) easy.free all) in
    let end : Held = (fold (walked s.rules []) (walk_from nothing_held) words).held in
    let ends : is_valid s (fold with_default (settled s.rules end).rows s.rules) false ≡ true =
    subst (λ (rs : List Row). is_valid s (fold with_default rs s.rules) false ≡ true) (sym held) valid in
    let settles : settle_passes s.rules s.args_override_self end ≡ true = rw easy.again settle in
    and_from (walk_passes s [] (walk_from nothing_held) words) (settle_passes s.rules s.args_override_self end && (list_all default_passes s.rules && is_valid s (finished s.rules end) false)) walk
    (and_from (settle_passes s.rules s.args_override_self end) (list_all default_passes s.rules && is_valid s (finished s.rules end) false) settles
    (and_from (list_all default_passes s.rules) (is_valid s (finished s.rules end) false) easy.defaults ends))
