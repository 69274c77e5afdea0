-- A byte order mark at the start of a text that is cut between records.
use Rattle.std.proofs.Common.{◌≡◌, ◌∙◌, ◌+◌, suc, arith, ◌==◌, ◌&&◌, ◌++◌, ℕ, List, [], ◌∷◌, Bool}
use Rattle.std.proofs.Common.{true, false, Some, None, refl, sym, ap, subst, length, nat_eq}
use Rattle.std.proofs.Common.{if◌then◌else◌}
use Rattle.std.proofs.lemmas.Bool.{eqb-true}
use Rattle.std.specs.Cmp.Lexicographic.{bytes_decides, pointwise}
use Rattle.std.specs.List.{list_all}
use Rattle.std.specs.Prelude.{codes}
use Rattle.csv.specs.Machine.{in_field, next_record, start_record, step}
use Rattle.csv.specs.Reading.{default_config, is_bom, records, records_from, records_next}
use Rattle.csv.specs.Reading.{strip_bom}
use Rattle.csv.specs.declared.parser.Action.{Action}
use Rattle.csv.specs.declared.parser.State.{State}
use Rattle.csv.specs.declared.parser.State.TheVariants as st
use Rattle.input_pieces.specs.Cut.{IsCut, state_after}
use Rattle.jobs.specs.JobView.{JobView}
use Rattle.payments.specs.declared.read.PFault.TheVariants as fault
use Rattle.payments.specs.Reading.{first_cell, given_names, header_of}
use Rattle.stream_rows.specs.Rows.{only_fault, rows_under_header, sound_rows, stream_rows}
use Rattle.stream_rows.proofs.StartLemmas.{is_plain, meets, reads_inside}

-- ---- the mark is within a text that is cut

pub strip_bom-other : (a : ℕ) (xs : List ℕ) → (a == 239) ≡ false → strip_bom (a ∷ xs) ≡ a ∷ xs
unfolding strip_bom
strip_bom-other a [] e = refl
strip_bom-other a (b ∷ []) e = refl
strip_bom-other a (b ∷ c ∷ rest) e = rw e refl

neither : (p q : Bool) → (p && false && q) ≡ false
neither true q = refl
neither false q = refl

strip_second : (a b : ℕ) (xs : List ℕ) → (b == 187) ≡ false → strip_bom (a ∷ b ∷ xs) ≡ a ∷ b ∷ xs
unfolding strip_bom
strip_second a b [] e = refl
strip_second a b (c ∷ rest) e = rw (e, neither (a == 239) (c == 191)) refl

strip_three : (marked : Bool) (all rest more : List ℕ)
    → (if marked then rest ++ more else all ++ more) ≡ (if marked then rest else all) ++ more
strip_three true all rest more = refl
strip_three false all rest more = refl

strip_long : (a b c : ℕ) (rest more : List ℕ) → strip_bom ((a ∷ b ∷ c ∷ rest) ++ more)
    ≡ strip_bom (a ∷ b ∷ c ∷ rest) ++ more
unfolding strip_bom
strip_long a b c rest more = strip_three (is_bom a b c) (a ∷ b ∷ c ∷ rest) rest more

-- no text that is cut ends in a mark
pub strip_bom-append : (a : ℕ) (text more : List ℕ) → IsCut default_config (a ∷ text)
    → strip_bom ((a ∷ text) ++ more) ≡ strip_bom (a ∷ text) ++ more
strip_bom-append a [] more cut = go (a == 239) refl
  where
    go : (b : Bool) → (a == 239) ≡ b → strip_bom (a ∷ more) ≡ strip_bom (a ∷ []) ++ more
    go true e =
        let cut2 : st.InField ≡ st.StartRecord =
        subst (λ n. IsCut default_config (n ∷ [])) (eqb-true a 239 e) cut in absurd (cc cut2)
    go false e = strip_bom-other a more e ∙ sym (ap (λ l. l ++ more) (strip_bom-other a [] e))
strip_bom-append a (b ∷ []) more cut = go (a == 239) (b == 187) refl refl
  where
    go : (p q : Bool) → (a == 239) ≡ p → (b == 187) ≡ q → strip_bom (a ∷ b ∷ more)
        ≡ strip_bom (a ∷ b ∷ []) ++ more
    go true true e f =
        let cut1 : IsCut default_config (239 ∷ b ∷ []) =
        subst (λ n. IsCut default_config (n ∷ b ∷ [])) (eqb-true a 239 e) cut in
        let cut2 : st.InField ≡ st.StartRecord =
        subst (λ n. IsCut default_config (239 ∷ n ∷ [])) (eqb-true b 187 f) cut1 in
        absurd (cc cut2)
    go true false e f = strip_second a b more f ∙ sym (ap (λ l. l ++ more) (strip_second a b [] f))
    go false q e f =
        strip_bom-other a (b ∷ more) e ∙ sym (ap (λ l. l ++ more) (strip_bom-other a (b ∷ []) e))
strip_bom-append a (b ∷ c ∷ rest) more cut = strip_long a b c rest more

-- ---- without its mark the text is cut as well, if a header comes first

-- the first cell of a header is "source"
header_plain : (job : JobView) (cells : List (List ℕ))
    → pointwise (pointwise nat_eq) cells (header_of job) ≡ true
    → list_all is_plain (first_cell cells) ≡ true
header_plain job [] same = absurd (cc same)
header_plain job (cell ∷ cells) same =
    let this : pointwise nat_eq cell (codes "source") ≡ true =
    go (pointwise nat_eq cell (codes "source"))
    (pointwise (pointwise nat_eq) cells (given_names job.columns)) same in
    let is : cell ≡ codes "source" = (bytes_decides cell (codes "source")).0 this in
    subst (λ text. list_all is_plain text ≡ true) (sym is) refl
  where
    go : (a b : Bool) → (a && b) ≡ true → a ≡ true
    go true b e = refl
    go false b e = e

pub header_right : (job : JobView) (skipped : ℕ) (header : List (List ℕ))
    (later : List (List (List ℕ))) → (rows_under_header job skipped (header ∷ later)).fault ≡ None
    → pointwise (pointwise nat_eq) header (header_of job) ≡ true
header_right job skipped header later sound =
    go (pointwise (pointwise nat_eq) header (header_of job)) refl
  where
    go : (b : Bool) → pointwise (pointwise nat_eq) header (header_of job) ≡ b
        → pointwise (pointwise nat_eq) header (header_of job) ≡ true
    go true e = e
    go false e =
        let wrong : Some fault.Header ≡ None =
        subst (λ b. (if b then sound_rows job (skipped + 1) later else only_fault
        fault.Header).fault ≡ None) e sound in
        absurd (cc wrong)

-- behind a line's end both machines stand alike
behind_end : (rest : List ℕ) → state_after default_config st.AfterCr rest ≡ st.StartRecord
    → state_after default_config st.StartRecord rest ≡ st.StartRecord
behind_end [] cut = refl
behind_end (c ∷ rest) cut = go (c == 10) refl
  where
    go : (b : Bool) → (c == 10) ≡ b → state_after default_config st.StartRecord (c ∷ rest)
        ≡ st.StartRecord
    go true e =
        let on : state_after default_config st.StartRecord rest ≡ st.StartRecord =
        subst (λ n. state_after default_config st.AfterCr (n ∷ rest) ≡ st.StartRecord)
        (eqb-true c 10 e) cut in
        subst (λ n. state_after default_config st.StartRecord (n ∷ rest) ≡ st.StartRecord)
        (sym (eqb-true c 10 e)) on
    go false e =
        let same : step default_config st.AfterCr c ≡ start_record default_config c = rw e refl in
        subst (λ (to : State × Action). state_after default_config to.0 rest ≡ st.StartRecord) same
        cut

-- a text that begins with no quote
no_quote : (c : ℕ) (rest : List ℕ) → (c == 34) ≡ false
    → state_after default_config st.InField (c ∷ rest) ≡ st.StartRecord
    → state_after default_config st.StartRecord (c ∷ rest) ≡ st.StartRecord
no_quote c rest e cut = go (c == 13) (c == 10) refl refl
  where
    go : (r l : Bool) → (c == 13) ≡ r → (c == 10) ≡ l
        → state_after default_config st.StartRecord (c ∷ rest) ≡ st.StartRecord
    go true l er el =
        let is : c ≡ 13 = eqb-true c 13 er in
        let cut2 : state_after default_config st.AfterCr rest ≡ st.StartRecord =
        subst (λ n. state_after default_config st.InField (n ∷ rest) ≡ st.StartRecord) is cut in
        subst (λ n. state_after default_config st.StartRecord (n ∷ rest) ≡ st.StartRecord) (sym is)
        (behind_end rest cut2)
    go false true er el =
        let is : c ≡ 10 = eqb-true c 10 el in
        let cut2 : state_after default_config st.StartRecord rest ≡ st.StartRecord =
        subst (λ n. state_after default_config st.InField (n ∷ rest) ≡ st.StartRecord) is cut in
        subst (λ n. state_after default_config st.StartRecord (n ∷ rest) ≡ st.StartRecord)
        (sym is) cut2
    go false false er el =
        let same : step default_config st.StartRecord c ≡ in_field default_config c =
        rw (er, el, e) refl in
        subst (λ (to : State × Action). state_after default_config to.0 rest ≡ st.StartRecord)
        (sym same) cut

-- a text whose first byte is a quote
first_quote : (job : JobView) (skipped : ℕ) (rest : List ℕ)
    → (rows_under_header job skipped (records default_config (34 ∷ rest))).fault ≡ None
    → state_after default_config st.InField (34 ∷ rest) ≡ st.StartRecord
    → state_after default_config st.StartRecord (34 ∷ rest) ≡ st.StartRecord
unfolding records_from next_record
first_quote job skipped rest sound cut =
    let (q, is) = reads_inside st.InQuoted [] [] rest tt in
    let later = records_from default_config (length (34 ∷ rest)) q.1 q.2 in
    let next : next_record default_config st.StartRecord [] [] (34 ∷ rest) ≡ Some q = is in
    let fuel : length (34 ∷ rest) + 1 ≡ suc (length (34 ∷ rest)) = omega arith in
    let all : records default_config (34 ∷ rest) ≡ q.0 ∷ later =
    ap (λ n. records_from default_config n st.StartRecord (34 ∷ rest)) fuel
    ∙ ap (records_next (records_from default_config (length (34 ∷ rest)))) next in
    let right =
    header_right job skipped q.0 later
    (subst (λ (r : List (List (List ℕ))). (rows_under_header job skipped r).fault ≡ None) all
    sound) in
    meets st.InQuoted [] rest q tt is (header_plain job q.0 right) cut

behind_mark : (job : JobView) (skipped : ℕ) (text : List ℕ)
    → (rows_under_header job skipped (records default_config text)).fault ≡ None
    → state_after default_config st.InField text ≡ st.StartRecord → IsCut default_config text
behind_mark job skipped [] sound cut = refl
behind_mark job skipped (c ∷ rest) sound cut = go (c == 34) refl
  where
    go : (b : Bool) → (c == 34) ≡ b → IsCut default_config (c ∷ rest)
    go true e =
        let is : c ≡ 34 = eqb-true c 34 e in
        subst (λ n. IsCut default_config (n ∷ rest)) (sym is)
        (first_quote job skipped rest (subst (λ n.
        (rows_under_header job skipped (records default_config (n ∷ rest))).fault ≡ None) is
        sound) (subst (λ n. state_after default_config st.InField (n ∷ rest) ≡ st.StartRecord)
        is cut))
    go false e = no_quote c rest e cut

-- the three bytes of a mark
mark : (p q r : Bool) → (p && q && r) ≡ true → (p ≡ true) × (q ≡ true) × (r ≡ true)
mark true true true e = (refl, refl, refl)
mark false q r e = absurd (cc e)
mark true false r e = absurd (cc e)
mark true true false e = absurd (cc e)

-- a text that is cut, and has no other first record than a header, is cut without its mark
pub IsCut-strip_bom : (job : JobView) (skipped : ℕ) (text : List ℕ)
    → (stream_rows job skipped text).fault ≡ None → IsCut default_config text
    → IsCut default_config (strip_bom text)
unfolding strip_bom
IsCut-strip_bom job skipped [] sound cut = cut
IsCut-strip_bom job skipped (a ∷ []) sound cut = cut
IsCut-strip_bom job skipped (a ∷ b ∷ []) sound cut = cut
IsCut-strip_bom job skipped (a ∷ b ∷ c ∷ rest) sound cut = go (is_bom a b c) refl
  where
    go : (m : Bool) → is_bom a b c ≡ m
        → IsCut default_config (if is_bom a b c then rest else a ∷ b ∷ c ∷ rest)
    go true e =
        let (ea, eb, ec) = mark (a == 239) (b == 187) (c == 191) e in
        let sound2 : (rows_under_header job skipped (records default_config rest)).fault ≡ None =
        subst (λ m. (rows_under_header job skipped
        (records default_config (if m then rest else a ∷ b ∷ c ∷ rest))).fault ≡ None) e
        sound in
        let cut1 : IsCut default_config (239 ∷ b ∷ c ∷ rest) =
        subst (λ n. IsCut default_config (n ∷ b ∷ c ∷ rest)) (eqb-true a 239 ea) cut in
        let cut2 : IsCut default_config (239 ∷ 187 ∷ c ∷ rest) =
        subst (λ n. IsCut default_config (239 ∷ n ∷ c ∷ rest)) (eqb-true b 187 eb) cut1 in
        let cut3 : state_after default_config st.InField rest ≡ st.StartRecord =
        subst (λ n. IsCut default_config (239 ∷ 187 ∷ n ∷ rest)) (eqb-true c 191 ec) cut2 in
        subst (λ m. IsCut default_config (if m then rest else a ∷ b ∷ c ∷ rest)) (sym e)
        (behind_mark job skipped rest sound2 cut3)
    go false e =
        subst (λ m. IsCut default_config (if m then rest else a ∷ b ∷ c ∷ rest)) (sym e) cut
