-- How `clap` reads each command.
use Rattle.std.proofs.Common.{Bor, ◌≡◌, ◌≢◌, ◌≤◌, ◌-◌, ap₂, drop, take, get_or, length, ◌∙◌, ◌⊎◌}
use Rattle.std.proofs.Common.{List, [], ◌∷◌, ◌++◌, Bool, true, false, Option, Some, None, refl, sym}
use Rattle.std.proofs.Common.{ap, subst, inl, inr, codes, is_some, option_map, if◌then◌else◌}
use Rattle.std.proofs.lemmas.Bool.{false≢true}
use Rattle.std.proofs.lemmas.Option.{same_Some}
use Rattle.std.proofs.lemmas.List.{append-nil}
use Rattle.std.proofs.Common.{append_assoc}
use Rattle.std.specs.List.{fold, list_all}
use Rattle.std.specs.Prelude.{◌||◌, option_and_then, unwrap_or, IfSome, slice_get}
use Rattle.std.specs.Str.{bytes_eq}
use Rattle.clap.specs.Simple.{App, built, entered, names_of, subcommand_of}
use Rattle.clap.specs.Walk.{Names, Row, Rule, Text, Walk, first_of, nothing_held, rows_after}
use Rattle.clap.specs.Walk.{rows_of, stop_after, walk_from, walked, with_default}
use Rattle.clap.specs.Words.{first_value}
use Rattle.clap.specs.declared.parser.matches.Found.{Found}
use Rattle.clap.proofs.WalkLemmas.{first_value-rows}
use Rattle.clap.proofs.OnLiterals.{clap_on_literals}
use Rattle.fries_words.specs.Apps.{program_app}
use Rattle.fries_words.specs.Words.{Values, asked_after, asked_with, engine_in, engine_of, form_of}
use Rattle.fries_words.specs.Words.{is_true, value_named, size_in, topic_of}
use Rattle.fries_words.specs.Form.{Form, found_in_words, value_of}
use Rattle.fries_words.specs.Stream.{SavingAsked, StreamAsked, clash_in, is_written, goes_on_from}
use Rattle.fries_words.specs.Stream.{saving_of, saving_over, stream_after, stream_over}
use Rattle.fries_words.specs.Stream.{stream_with}
use Rattle.fries_words.specs.declared.command.EngineSize.{EngineSize}
use Rattle.fries_words.specs.declared.stream.TheConstants.{MAX_EVERY, USUAL_EVERY}
use Rattle.tuple_trace.specs.declared.limits.TheConstants.{MAX_CAPACITY, MAX_THREADS}
use Rattle.tuple_trace.specs.declared.limits.TheConstants.{USUAL_CAPACITY}
use Rattle.fries_words.specs.Views.{texts}
use Rattle.fries_words.specs.declared.topic.Topic.{Topic}
use Rattle.fries_words.specs.declared.topic.Topic.TheVariants as topic
use Rattle.fries_words.proofs.FormLemmas.{no_text, texts-behind, texts-split}
use Rattle.fries_words.proofs.RowLemmas.{defaults-kept, defaults-off, first_of-rows, is_off}
use Rattle.fries_words.proofs.RowLemmas.{is_plain_for, rows, same_bytes}
use Rattle.fries_words.proofs.WalkLemmas.{rows_after-found}
use Rattle.fries_words.proofs.TopicRules.{reads, rules_of, word_of}

-- a walk that stopped takes the words that are left
stopped_walk : (c : List Rule) (names : Names) (w : Walk) (p : Text × List Text) (ws : List Text)
    → w.stopped ≡ Some p
    → (fold (walked c names) w ws).stopped ≡ Some (p.0, p.1 ++ ws)
unfolding walked
stopped_walk c names w p [] e = rw (append-nil p.1) e
stopped_walk c names w p (x ∷ ws) e =
    rw e (rw append_assoc at (stopped_walk c names
    (record w { stopped = Some (p.0, p.1 ++ x ∷ []) }) (p.0, p.1 ++ x ∷ []) ws refl))

abbrev pub top_rules : List Rule
top_rules = (built program_app).top.rules

abbrev pub top_names : Names
top_names = names_of (built program_app)

stops_at : (word : Text) (ws : List Text)
    → (walked top_rules top_names (walk_from nothing_held) word).stopped ≡ Some (word, [])
    → stop_after top_rules top_names (word ∷ ws) ≡ Some (word, ws)
stops_at word ws stops =
    stopped_walk top_rules top_names (walked top_rules top_names (walk_from nothing_held) word)
    (word, []) ws stops

-- the walk over the program's words stops at a command
pub stops : (about : Topic) (ws : List Text) → about ≢ topic.Program
    → stop_after top_rules top_names (word_of about ∷ ws) ≡ Some (word_of about, ws)
unfolding clap_on_literals
stops topic.Program ws other = absurd (other refl)
stops topic.First ws other = stops_at (codes "first") ws refl
stops topic.Check ws other = stops_at (codes "check") ws refl
stops topic.Plan ws other = stops_at (codes "plan") ws refl
stops topic.Run ws other = stops_at (codes "run") ws refl
stops topic.Make ws other = stops_at (codes "make") ws refl
stops topic.Save ws other = stops_at (codes "save") ws refl
stops topic.Resume ws other = stops_at (codes "resume") ws refl
stops topic.Live ws other = stops_at (codes "live") ws refl
stops topic.Verify ws other = stops_at (codes "verify") ws refl
stops topic.Stream ws other = stops_at (codes "stream") ws refl

-- the words after a command go to it
pub enters : (about : Topic) (ws : List Text) → about ≢ topic.Program
    → subcommand_of program_app (word_of about ∷ ws)
    ≡ Some (word_of about, rows_after (rules_of about) [] ws)
unfolding clap_on_literals
enters topic.Program ws other = absurd (other refl)
enters topic.First ws other = ap (entered (built program_app)) (stops topic.First ws other)
enters topic.Check ws other = ap (entered (built program_app)) (stops topic.Check ws other)
enters topic.Plan ws other = ap (entered (built program_app)) (stops topic.Plan ws other)
enters topic.Run ws other = ap (entered (built program_app)) (stops topic.Run ws other)
enters topic.Make ws other = ap (entered (built program_app)) (stops topic.Make ws other)
enters topic.Save ws other = ap (entered (built program_app)) (stops topic.Save ws other)
enters topic.Resume ws other = ap (entered (built program_app)) (stops topic.Resume ws other)
enters topic.Live ws other = ap (entered (built program_app)) (stops topic.Live ws other)
enters topic.Verify ws other = ap (entered (built program_app)) (stops topic.Verify ws other)
enters topic.Stream ws other = ap (entered (built program_app)) (stops topic.Stream ws other)

-- ---- the values

-- values agree on a command's names and options, and on which flags are there
pub record Agree (about : Topic) (v w : Values) : Type 0 where
  pub same : (id : Text) → list_all (is_plain_for id) (rules_of about) ≡ true → v id ≡ w id
  pub flag : (id : Text) → is_true (v id) ≡ is_true (w id)

-- what is asked is the same by values that agree
asked_alike : (about : Topic) (v w : Values)
    → ((id : Text) → list_all (is_plain_for id) (rules_of about) ≡ true → v id ≡ w id)
    → ((id : Text) → is_true (v id) ≡ is_true (w id))
    → asked_with about v ≡ asked_with about w
asked_alike topic.Program v w same flag = refl
asked_alike topic.First v w same flag =
    rw (
      same (codes "payments") refl,
      same (codes "alerts") refl,
      same (codes "min") refl,
      same
          (codes "after") refl,
      same (codes "min2") refl,
    ) refl
asked_alike topic.Check v w same flag = rw (same (codes "job") refl) refl
asked_alike topic.Plan v w same flag =
    rw (same (codes "job") refl, same (codes "requests") refl, flag (codes "ordered")) refl
asked_alike topic.Run v w same flag =
    rw (
      same (codes "job") refl,
      same (codes "requests") refl,
      same (codes "payments") refl,
      same
          (codes "alerts") refl,
      same (codes "audit") refl,
      same (codes "threads") refl,
      same
          (codes "capacity") refl,
      flag (codes "ordered"),
      flag (codes "exact"),
    ) refl
asked_alike topic.Make v w same flag =
    rw (
      same (codes "job") refl,
      same (codes "seed") refl,
      same (codes "rows") refl,
      same
          (codes "threads") refl,
      flag (codes "ordered"),
    ) refl
asked_alike topic.Save v w same flag =
    rw (
      same (codes "job") refl,
      same (codes "requests") refl,
      same (codes "payments") refl,
      same
          (codes "alerts") refl,
      same (codes "audit") refl,
      same (codes "save") refl,
      same
          (codes "rows") refl,
      same (codes "threads") refl,
      same (codes "capacity") refl,
      flag (codes "exact"),
    ) refl
asked_alike topic.Resume v w same flag =
    rw (
      same (codes "job") refl,
      same (codes "requests") refl,
      same (codes "payments") refl,
      same
          (codes "save") refl,
      same (codes "alerts") refl,
      same (codes "audit") refl,
      same
          (codes "threads") refl,
      same (codes "capacity") refl,
      flag (codes "exact"),
    ) refl
asked_alike topic.Live v w same flag =
    rw (
      same (codes "job") refl,
      same (codes "requests") refl,
      same (codes "payments") refl,
      same
          (codes "alerts") refl,
      same (codes "audit") refl,
      same (codes "threads") refl,
      same
          (codes "capacity") refl,
      flag (codes "exact"),
    ) refl
asked_alike topic.Verify v w same flag =
    rw (
      same (codes "job") refl,
      same (codes "requests") refl,
      flag (codes "ordered"),
      same
          (codes "payments") refl,
      same (codes "audit") refl,
      same (codes "alerts") refl,
      flag (codes "live"),
      flag (codes "stream"),
      same (codes "save") refl,
    ) refl
asked_alike topic.Stream v w same flag = refl

asked_same : (about : Topic) (v w : Values) → Agree about v w → asked_with about v
    ≡ asked_with about w
asked_same about v w agree = asked_alike about v w agree.same agree.flag

written_same : (save : Option Text) (v w : Values) → v (codes "alerts") ≡ w (codes "alerts")
    → v (codes "audit") ≡ w (codes "audit") → is_written save v ≡ is_written save w
written_same None v w alerts audit = refl
written_same (Some save) v w alerts audit =
    ap₂ (λ (a b : Option Text). bytes_eq (unwrap_or a []) save || bytes_eq (unwrap_or b []) save)
    alerts audit

saving_same : (save : Option Text) (v w : Values) → v (codes "every") ≡ w (codes "every")
    → v (codes "from") ≡ w (codes "from") → is_true (v (codes "resume"))
    ≡ is_true (w (codes "resume")) → saving_of save v ≡ saving_of save w
saving_same None v w every from resume =
    ap (λ (b : Bool). if b then None else Some None)
    (ap₂ (λ (a b : Bool). a || b) (ap is_some every)
    (ap₂ (λ (a b : Bool). a || b) (ap is_some from) resume))
saving_same (Some file) v w every from resume =
    ap (option_map Some) (ap₂ (saving_over file) (ap (size_in USUAL_EVERY MAX_EVERY) every)
    (ap₂ goes_on_from resume from))

over_same : (v w : Values) (size : Option EngineSize) (saving : Option (Option SavingAsked))
    → Agree topic.Stream v w → stream_over v size saving ≡ stream_over w size saving
over_same v w None saving agree = refl
over_same v w (Some size) None agree = refl
over_same v w (Some size) (Some saving) agree =
    rw (
      agree.same (codes "job") refl,
      agree.same (codes "requests") refl,
      agree.same
          (codes "alerts") refl,
      agree.same (codes "audit") refl,
      agree.flag
          (codes "ordered"),
      agree.flag (codes "exact"),
      agree.flag (codes "progress"),
    ) refl

-- and so is what is asked of a stream
stream_same : (v w : Values) → Agree topic.Stream v w → stream_with v ≡ stream_with w
stream_same v w agree =
    let alerts = agree.same (codes "alerts") refl in
    let audit = agree.same (codes "audit") refl in
    let save = agree.same (codes "save") refl in
    let apart : bytes_eq (value_named v (codes "alerts")) (value_named v (codes "audit"))
    ≡ bytes_eq (value_named w (codes "alerts")) (value_named w (codes "audit")) =
    ap₂ (λ (a b : Option Text). bytes_eq (unwrap_or a []) (unwrap_or b [])) alerts audit in
    let written : is_written (v (codes "save")) v ≡ is_written (w (codes "save")) w =
    ap (λ (o : Option Text). is_written o v) save
    ∙ written_same (w (codes "save")) v w alerts audit in
    let clash : clash_in v ≡ clash_in w = ap₂ (λ (a b : Bool). a || b) apart written in
    let engine : engine_in v ≡ engine_in w =
    ap₂ (λ (a b : Option Text). engine_of (size_in 1 MAX_THREADS a)
    (size_in USUAL_CAPACITY MAX_CAPACITY b)) (agree.same (codes "threads") refl)
    (agree.same (codes "capacity") refl) in
    let saving : saving_of (v (codes "save")) v ≡ saving_of (w (codes "save")) w =
    ap (λ (o : Option Text). saving_of o v) save
    ∙ saving_same (w (codes "save")) v w (agree.same (codes "every") refl)
    (agree.same (codes "from") refl) (agree.flag (codes "resume")) in
    ap₂ (λ (b : Bool) (r : Option StreamAsked). if b then None else r) clash
    (ap₂ (stream_over v) engine saving
    ∙ over_same v w (engine_in w) (saving_of (w (codes "save")) w) agree)

no_flag_is_on : (about : Topic) → list_all (λ (a : Rule). is_off a.defaults) (rules_of about) ≡ true
no_flag_is_on topic.Program = refl
no_flag_is_on topic.First = refl
no_flag_is_on topic.Check = refl
no_flag_is_on topic.Plan = refl
no_flag_is_on topic.Run = refl
no_flag_is_on topic.Make = refl
no_flag_is_on topic.Save = refl
no_flag_is_on topic.Resume = refl
no_flag_is_on topic.Live = refl
no_flag_is_on topic.Verify = refl
no_flag_is_on topic.Stream = refl

found_topic : (b : Bool) (about other : Topic) (rest : Option Topic)
    → (if b then Some other else rest) ≡ Some about → ((b ≡ true) × (other ≡ about))
    ⊎ (rest ≡ Some about)
found_topic true about other rest is = inl (refl, cc is)
found_topic false about other rest is = inr is

-- the word names the command
abbrev Names_it : Text → Topic → Type 0
Names_it word about = (word ≡ word_of about) × (about ≢ topic.Program)

named : (word : Text) (about other : Topic) → other ≢ topic.Program → bytes_eq word (word_of other)
    ≡ true → other ≡ about → Names_it word about
named word about other real same is =
    subst (Names_it word) is (same_bytes word (word_of other) same, real)

pub word_is : (word : Text) (about : Topic) → topic_of word ≡ Some about → Names_it word about
word_is word about is =
    elim (found_topic (bytes_eq word (codes "first")) about topic.First _ is) [
      | inl p ↦ named word about topic.First (λ e. absurd (cc e)) p.0 p.1
      | inr is ↦ elim (found_topic (bytes_eq word (codes "check")) about topic.Check _ is) [
        | inl p ↦ named word about topic.Check (λ e. absurd (cc e)) p.0 p.1
        | inr is ↦ elim (found_topic (bytes_eq word (codes "plan")) about topic.Plan _ is) [
          | inl p ↦ named word about topic.Plan (λ e. absurd (cc e)) p.0 p.1
          | inr is ↦ elim (found_topic (bytes_eq word (codes "run")) about topic.Run _ is) [
            | inl p ↦ named word about topic.Run (λ e. absurd (cc e)) p.0 p.1
            | inr is ↦ elim (found_topic (bytes_eq word (codes "make")) about topic.Make _ is) [
              | inl p ↦ named word about topic.Make (λ e. absurd (cc e)) p.0 p.1
              | inr is ↦ elim (found_topic (bytes_eq word (codes "save")) about topic.Save _ is) [
                | inl p ↦ named word about topic.Save (λ e. absurd (cc e)) p.0 p.1
                | inr is ↦ elim (found_topic (bytes_eq word (codes "resume")) about topic.Resume _
                    is) [
                      | inl p ↦ named word about topic.Resume (λ e. absurd (cc e)) p.0 p.1
                      | inr is ↦ elim (found_topic (bytes_eq word (codes "live")) about topic.Live _
                          is) [
                            | inl p ↦ named word about topic.Live (λ e. absurd (cc e)) p.0 p.1
                            | inr is ↦ elim (found_topic (bytes_eq word (codes "verify")) about
                                topic.Verify
                                _ is) [
                                  | inl p ↦ named word about topic.Verify
                                      (λ e. absurd (cc e)) p.0 p.1
                                  | inr is ↦ elim (found_topic (bytes_eq word (codes "stream"))
                                      about
                                      topic.Stream _ is) [
                                        | inl p ↦ named word about topic.Stream
                                            (λ e. absurd (cc e)) p.0 p.1
                                        | inr is ↦ absurd (cc is)
                                      ]
                                ]
                          ]
                    ]
              ]
            ]
          ]
        ]
      ]
    ]

-- ---- what clap read is what was found

same_rows : (rows : List Row) (found : Found) (subs : Option (Text × List Row)) (word : Text) → subs
    ≡ Some (word, rows) → option_map (λ p. p.1) subs ≡ Some (rows_of found) → rows_of found ≡ rows
same_rows rows found subs word e h =
    same_Some _ _ (sym h ∙ ap (option_map (λ (p : Text × List Row). p.1)) e)

read_found : (about : Topic) (ws : List Text) (pairs : List (Text × Text)) (f : Found)
    (subs : Option (Text × List Row)) → about ≢ topic.Program → found_in_words (form_of about) ws
    ≡ Some pairs
    → subs ≡ subcommand_of program_app (word_of about ∷ ws) → option_map (λ p. p.1) subs
    ≡ Some (rows_of f)
    → Agree about (first_value f) (value_of pairs)
read_found about ws pairs f subs real found given is =
    let same =
    same_rows (rows_after (rules_of about) [] ws) f subs (word_of about)
    (given ∙ enters about ws real) is in
    let rows_are : rows_of f ≡ fold with_default (rows pairs) (rules_of about) =
    same ∙ rows_after-found (rules_of about) (form_of about) ws pairs
    (reads about real) found in
    let at : (id : Text) → first_value f id
    ≡ first_of id (fold with_default (rows pairs) (rules_of about)) =
    λ id. first_value-rows f id ∙ ap (first_of id) rows_are in
    record {
      same = λ id plain. at id ∙ (defaults-kept id (rules_of about) (rows pairs) plain
          ∙ first_of-rows id pairs);
      flag = λ id. ap is_true (at id)
          ∙ (defaults-off id (rules_of about) (rows pairs) (no_flag_is_on about)
          ∙ ap is_true (first_of-rows id pairs));
    }

-- the first word names the command
pub topic_first : (words : List (Bor Text)) (word : Text) (rest : List Text) (about : Topic)
    → texts words ≡ word ∷ rest → IfSome (slice_get (texts words) 0)
    (λ word. topic_of word ≡ Some about) → topic_of word ≡ Some about
topic_first words word rest about split is = rw split at is

-- what is asked by values, if it is the same by values that agree
module _ {A : Type 0} (about : Topic) (asked : Values → Option A)
    (asked-same : (v w : Values) → Agree about v w → asked v ≡ asked w) where
  found_or : (ws : List Text) (o : Option (List (Text × Text))) (f : Found)
      (subs : Option (Text × List Row)) → about ≢ topic.Program → found_in_words (form_of about) ws ≡ o
      → is_some o ≡ true
      → subs ≡ subcommand_of program_app (word_of about ∷ ws) → option_map (λ p. p.1) subs
      ≡ Some (rows_of f)
      → asked (first_value f) ≡ option_and_then (λ pairs. asked (value_of pairs)) o
  found_or ws None f subs real found some given is = absurd (false≢true some)
  found_or ws (Some pairs) f subs real found some given is =
      asked-same (first_value f) (value_of pairs)
      (read_found about ws pairs f subs real found given is)

  -- what clap's values ask for is what the words ask for
  read_words : (word : Text) (ws : List Text) (f : Found) (subs : Option (Text × List Row))
      → topic_of word ≡ Some about → is_some (found_in_words (form_of about) ws) ≡ true
      → subs ≡ subcommand_of program_app (word ∷ ws) → option_map (λ p. p.1) subs ≡ Some (rows_of f)
      → asked (first_value f) ≡ option_and_then (λ pairs. asked (value_of pairs))
      (found_in_words (form_of about) ws)
  read_words word ws f subs is some given rows_are =
      let (same, real) = word_is word about is in
      found_or ws (found_in_words (form_of about) ws) f subs real refl some (rw same at given) rows_are

  -- what clap's values ask for is what the words behind the first ask for
  behind_first : (words : List (Bor Text)) (form : Form) (app : App) (f : Found)
      (subs : Option (Text × List Row)) → 1 ≤ length words
      → IfSome (slice_get (texts words) 0) (λ word. topic_of word ≡ Some about) → form
      ≡ form_of about → is_some (found_in_words form (texts (take (length words - 1) (drop 1 words))))
      ≡ true
      → app ≡ program_app → subs ≡ subcommand_of app (texts words) → option_map (λ p. p.1) subs
      ≡ Some (rows_of f)
      → asked (first_value f) ≡ option_and_then (λ pairs. asked (value_of pairs))
      (found_in_words (form_of about) (drop 1 (texts words)))
  behind_first words form app f subs some named form_is found app_is given rows_are =
      let split = texts-split words some in
      read_words (get_or words 0 no_text).now (drop 1 (texts words)) f subs
      (topic_first words _ (drop 1 (texts words)) about split named)
      (ap is_some (ap₂ found_in_words (sym form_is) (sym (texts-behind words))) ∙ found)
      (given ∙ (ap (λ (a : App). subcommand_of a (texts words)) app_is
      ∙ ap (subcommand_of program_app) split))
      rows_are

-- what the words behind the first ask of a command that ends
pub asked_words : (about : Topic) (words : List (Bor Text)) (form : Form) (app : App) (f : Found)
    (subs : Option (Text × List Row)) → 1 ≤ length words
    → IfSome (slice_get (texts words) 0) (λ word. topic_of word ≡ Some about) → form ≡ form_of about
    → is_some (found_in_words form (texts (take (length words - 1) (drop 1 words)))) ≡ true
    → app ≡ program_app → subs ≡ subcommand_of app (texts words) → option_map (λ p. p.1) subs
    ≡ Some (rows_of f)
    → asked_with about (first_value f) ≡ asked_after about (drop 1 (texts words))
asked_words about = behind_first about (asked_with about) (asked_same about)

-- and of a stream
pub stream_words : (words : List (Bor Text)) (form : Form) (app : App) (f : Found)
    (subs : Option (Text × List Row)) → 1 ≤ length words
    → IfSome (slice_get (texts words) 0) (λ word. topic_of word ≡ Some topic.Stream) → form
    ≡ form_of topic.Stream → is_some (found_in_words form
    (texts (take (length words - 1) (drop 1 words)))) ≡ true
    → app ≡ program_app → subs ≡ subcommand_of app (texts words) → option_map (λ p. p.1) subs
    ≡ Some (rows_of f)
    → stream_with (first_value f) ≡ stream_after (drop 1 (texts words))
stream_words = behind_first topic.Stream stream_with stream_same
