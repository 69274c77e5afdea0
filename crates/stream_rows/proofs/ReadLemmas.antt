-- The rows of a stream that is read piece by piece.
use Rattle.std.proofs.Common.{◌≡◌, ◌∙◌, ◌+◌, ◌++◌, ◌||◌, ◌<◌, ◌==◌, not, ℕ, Result, List, [], ◌∷◌}
use Rattle.std.proofs.Common.{Bool, true, false, None, refl, sym, ap, subst, arith, length, nat_eq}
use Rattle.std.proofs.Common.{if◌then◌else◌}
use Rattle.std.proofs.Math.Dec.{eqb-suc-zero}
use Rattle.std.proofs.lemmas.List.{length-append}
use Rattle.std.proofs.lemmas.List.Elements.{All-nil}
use Rattle.std.specs.Cmp.Lexicographic.{pointwise}
use Rattle.std.specs.Prelude.{All, IfOk}
use Rattle.csv.specs.Machine.{next_record}
use Rattle.csv.specs.Reading.{default_config, records, records_from, strip_bom}
use Rattle.input_pieces.proofs.CutLemmas.{records_both}
use Rattle.input_pieces.proofs.ScanLemmas.{state_after-append}
use Rattle.input_pieces.specs.Cut.{IsCut, state_after}
use Rattle.csv.specs.declared.parser.State.TheVariants as st
use Rattle.jobs.specs.JobView.{JobView}
use Rattle.jobs.specs.Limits.{HasShortTexts}
use Rattle.jobs.specs.Nodes.{AreFromSources, IsSourceOf}
use Rattle.tuple_trace.specs.FeedRows.{AreRowsAfter}
use Rattle.tuple_trace.specs.declared.row.Row.{Row}
use Rattle.payments.specs.Reading.{header_of}
use Rattle.payments.specs.declared.read.PFault.TheVariants as fault
use Rattle.stream_rows.specs.Reader.{HasRead, IsReadTo, has_items, rows_at, text_of}
use Rattle.stream_rows.specs.Rows.{and_then, no_rows, only_fault, rows_under_header, sound_rows}
use Rattle.stream_rows.specs.Rows.{stream_rows}
use Rattle.stream_rows.specs.declared.reader.RowReader.{RowReader}
use Rattle.stream_rows.specs.declared.sound.SoundRows.{SoundRows}
use Rattle.stream_rows.proofs.MarkLemmas.{IsCut-strip_bom, header_right, strip_bom-append}
use Rattle.stream_rows.proofs.MarkLemmas.{strip_bom-other}
use Rattle.stream_rows.proofs.SoundLemmas.{sound_rows-append}
use Rattle.stream_rows.proofs.NumberLemmas.{AreFromSources-sound_rows, AreRowsAfter-sound_rows}
use Rattle.stream_rows.proofs.NumberLemmas.{HaveShortTexts-sound_rows}

-- ---- records

-- the rows of records that come after others
read_on : (job : JobView) (skipped : ℕ) (has : Bool) (fed : ℕ) (xs ys : List (List (List ℕ))) → has
    ≡ has_items xs → fed ≡ skipped + length (rows_under_header job skipped xs).rows
    → (rows_under_header job skipped xs).fault ≡ None
    → rows_under_header job skipped (xs ++ ys)
    ≡ and_then (rows_under_header job skipped xs).rows (rows_at job has fed ys)
read_on job skipped has fed [] ys header count sound =
    let none : has ≡ false = header in
    let same : fed ≡ skipped = omega (arith, count) in
    sym (ap (λ b. and_then [] (if b then sound_rows job (fed + 1) ys else rows_under_header job fed
    ys)) none ∙ ap (λ n. and_then [] (rows_under_header job n ys)) same)
read_on job skipped has fed (first ∷ later) ys header count sound =
    let right = header_right job skipped first later sound in
    let here : (zs : List (List (List ℕ))) → rows_under_header job skipped (first ∷ zs)
    ≡ sound_rows job (skipped + 1) zs =
    λ zs. ap (λ b. if b then sound_rows job (skipped + 1) zs else only_fault fault.Header)
    right in
    let rows = (sound_rows job (skipped + 1) later).rows in
    let clean : (sound_rows job (skipped + 1) later).fault ≡ None =
    subst (λ (r : SoundRows). r.fault ≡ None) (here later) sound in
    let many : fed ≡ skipped + length rows =
    count ∙ ap (λ (r : SoundRows). skipped + length r.rows) (here later) in
    let number : skipped + 1 + length rows ≡ fed + 1 = omega (arith, many) in
    let at : rows_at job has fed ys ≡ sound_rows job (fed + 1) ys =
    ap (λ b. if b then sound_rows job (fed + 1) ys else rows_under_header job fed ys) header in
    here (later ++ ys)
    ∙ sound_rows-append job (skipped + 1) later ys clean
    ∙ ap (λ n. and_then rows (sound_rows job n ys)) number
    ∙ ap (and_then rows) (sym at)
    ∙ ap (λ (r : SoundRows). and_then r.rows (rows_at job has fed ys)) (sym (here later))

-- all rows of these records are numbered on, enter by sources and have short texts
pub AreRowsAfter-rows_at : (job : JobView) (has : Bool) (fed : ℕ) (records : List (List (List ℕ)))
    → AreRowsAfter fed (rows_at job has fed records).rows
AreRowsAfter-rows_at job true fed records = AreRowsAfter-sound_rows job fed records
AreRowsAfter-rows_at job false fed [] = λ i row at. absurd (cc at)
AreRowsAfter-rows_at job false fed (header ∷ later) =
    go (pointwise (pointwise nat_eq) header (header_of job))
  where
    go : (b : Bool) → AreRowsAfter fed (if b then sound_rows job (fed + 1) later else only_fault
        fault.Header).rows
    go true = AreRowsAfter-sound_rows job fed later
    go false = λ i row at. absurd (cc at)

All-rows_at : (P : Row → Type 0) (job : JobView) (has : Bool) (fed : ℕ)
    (records : List (List (List ℕ)))
    → ((row : ℕ) (some : List (List (List ℕ))) → All P (sound_rows job row some).rows)
    → All P (rows_at job has fed records).rows
All-rows_at P job true fed records each = each (fed + 1) records
All-rows_at P job false fed [] each = All-nil P
All-rows_at P job false fed (header ∷ later) each =
    go (pointwise (pointwise nat_eq) header (header_of job))
  where
    go : (b : Bool) → All P (if b then sound_rows job (fed + 1) later else only_fault
        fault.Header).rows
    go true = each (fed + 1) later
    go false = All-nil P

pub AreFromSources-rows_at : (job : JobView) (has : Bool) (fed : ℕ) (records : List (List (List ℕ)))
    → AreFromSources job (rows_at job has fed records).rows
AreFromSources-rows_at job has fed records =
    All-rows_at (λ (r : Row). IsSourceOf job r.source) job has fed records
    (AreFromSources-sound_rows job)

pub HaveShortTexts-rows_at : (job : JobView) (has : Bool) (fed : ℕ) (records : List (List (List ℕ)))
    → All (λ (r : Row). HasShortTexts r.tuple) (rows_at job has fed records).rows
HaveShortTexts-rows_at job has fed records =
    All-rows_at (λ (r : Row). HasShortTexts r.tuple) job has fed records
    (HaveShortTexts-sound_rows job)

-- ---- text

pub records-nil : records default_config (strip_bom []) ≡ []
unfolding records_from next_record strip_bom
records-nil = refl

-- the records of a text and a piece more are those of the text, followed by those of the piece
records_more : (job : JobView) (skipped : ℕ) (begun : Bool) (before piece : List ℕ) → begun
    ≡ has_items before → (stream_rows job skipped before).fault ≡ None → IsCut default_config before
    → records default_config (strip_bom (before ++ piece))
    ≡ records default_config (strip_bom before) ++ records default_config (text_of begun piece)
records_more job skipped begun [] piece is sound cut =
    let new : begun ≡ false = is in
    let text : text_of begun piece ≡ strip_bom piece =
    ap (λ b. if b then piece else strip_bom piece) new in
    ap (records default_config) (sym text)
    ∙ sym (ap (λ (l : List (List (List ℕ))). l ++ records default_config (text_of begun piece))
    records-nil)
records_more job skipped begun (c ∷ rest) piece is sound cut =
    let text : text_of begun piece ≡ piece = ap (λ b. if b then piece else strip_bom piece) is in
    ap (records default_config) (strip_bom-append c rest piece cut)
    ∙ records_both default_config (strip_bom (c ∷ rest)) piece
    (IsCut-strip_bom job skipped (c ∷ rest) sound cut)
    ∙ ap (λ t. records default_config (strip_bom (c ∷ rest)) ++ records default_config t) (sym text)

-- the rows of a text and a piece more are those of the text, followed by those of the piece
pub stream_rows-append : (job : JobView) (skipped : ℕ) (reader : RowReader) (before piece : List ℕ)
    → IsReadTo job skipped reader before → IsCut default_config before
    → stream_rows job skipped (before ++ piece)
    ≡ and_then (stream_rows job skipped before).rows
    (rows_at job reader.has_header reader.fed
    (records default_config (text_of reader.begun piece)))
stream_rows-append job skipped reader before piece is cut =
    ap (rows_under_header job skipped)
    (records_more job skipped reader.begun before piece is.begun is.sound cut)
    ∙ read_on job skipped reader.has_header reader.fed (records default_config (strip_bom before))
    (records default_config (text_of reader.begun piece)) is.header is.fed is.sound

there : {A : Type 0} (xs : List A) → 0 < length xs → has_items xs ≡ true
there [] some = absurd (omega (arith, some))
there (x ∷ xs) some = refl

-- the same of a text that has its header
pub rows_go_on : (job : JobView) (skipped : ℕ) (before piece : List ℕ) → IsCut default_config before
    → (stream_rows job skipped before).fault ≡ None
    → 0 < length (records default_config (strip_bom before))
    → stream_rows job skipped (before ++ piece)
    ≡ and_then (stream_rows job skipped before).rows
    (sound_rows job (skipped + length (stream_rows job skipped before).rows + 1)
    (records default_config piece))
rows_go_on job skipped [] piece cut sound some =
    absurd (omega (arith, some, ap (λ (l : List (List (List ℕ))). length l) records-nil))
rows_go_on job skipped (c ∷ rest) piece cut sound some =
    let has : has_items (records default_config (strip_bom (c ∷ rest))) ≡ true =
    there (records default_config (strip_bom (c ∷ rest))) some in
    ap (rows_under_header job skipped)
    (records_more job skipped true (c ∷ rest) piece refl sound cut)
    ∙ read_on job skipped true (skipped + length (stream_rows job skipped (c ∷ rest)).rows)
    (records default_config (strip_bom (c ∷ rest))) (records default_config piece)
    (sym has) refl sound

-- two texts that are cut
pub IsCut-append : (before piece : List ℕ) → IsCut default_config before
    → IsCut default_config piece → IsCut default_config (before ++ piece)
IsCut-append before piece cut end =
    state_after-append default_config st.StartRecord before piece
    ∙ ap (λ s. state_after default_config s piece) cut ∙ end

-- a line feed is no record
records-blank : records default_config (10 ∷ []) ≡ []
unfolding records_from next_record
records-blank = refl

-- nor in front of a text
pub records-behind : (text : List ℕ) → records default_config (strip_bom (10 ∷ text))
    ≡ records default_config text
records-behind text =
    ap (records default_config) (strip_bom-other 10 text refl)
    ∙ records_both default_config (10 ∷ []) text refl
    ∙ ap (λ (l : List (List (List ℕ))). l ++ records default_config text) records-blank

-- ---- the reader

-- there is something in two lists if there is in the one or in the other
some-append : {A : Type 0} (xs ys : List A) → has_items (xs ++ ys) ≡ (has_items xs || has_items ys)
some-append [] ys = refl
some-append (x ∷ xs) ys = refl

-- how far a reader is after a piece without a fault
pub IsReadTo-append : (job : JobView) (skipped : ℕ) (reader next : RowReader)
    (before piece : List ℕ) (sound : SoundRows) → IsReadTo job skipped reader before
    → IsCut default_config before
    → sound ≡ rows_at job reader.has_header reader.fed
    (records default_config (text_of reader.begun piece))
    → next.begun ≡ (reader.begun || has_items piece)
    → next.has_header ≡ (reader.has_header || has_items
    (records default_config (text_of reader.begun piece)))
    → next.fed ≡ reader.fed + length sound.rows
    → sound.fault ≡ None → IsReadTo job skipped next (before ++ piece)
IsReadTo-append job skipped reader next before piece sound is cut read begun header fed clean =
    let old = (stream_rows job skipped before).rows in
    let new = records default_config (text_of reader.begun piece) in
    let whole : stream_rows job skipped (before ++ piece) ≡ and_then old sound =
    stream_rows-append job skipped reader before piece is cut ∙ ap (and_then old) (sym read) in
    record {
      begun = begun ∙ ap (λ b. b || has_items piece) is.begun ∙ sym (some-append before piece);
      header =
          header
          ∙ ap (λ b. b || has_items new) is.header
          ∙ sym (some-append (records default_config (strip_bom before)) new)
          ∙ sym (ap (λ (l : List (List (List ℕ))). has_items l)
          (records_more job skipped reader.begun before piece is.begun is.sound cut));
      fed = omega (
        arith,
        fed,
        is.fed,
        length-append old sound.rows,
        ap
            (λ (r : SoundRows). length r.rows) whole,
      );
      sound = ap (λ (r : SoundRows). r.fault) whole ∙ clean;
    }

-- nothing was read
pub IsReadTo-first : (job : JobView) (skipped : ℕ) (reader : RowReader) → reader.begun ≡ false
    → reader.has_header ≡ false → reader.fed ≡ skipped → IsReadTo job skipped reader []
IsReadTo-first job skipped reader begun header fed =
    let none : stream_rows job skipped [] ≡ no_rows =
    ap (rows_under_header job skipped) records-nil in
    record {
      begun = begun;
      header = header ∙ sym (ap (λ (l : List (List (List ℕ))). has_items l) records-nil);
      fed = omega (arith, fed, ap (λ (r : SoundRows). length r.rows) none);
      sound = ap (λ (r : SoundRows). r.fault) none;
    }

-- ---- what was read

-- a piece is read behind a line feed
pub HasRead-behind : {E : Type 0} (job : JobView) (old new : RowReader) (read : Result SoundRows E)
    (text piece : List ℕ) → old.begun ≡ true → text ≡ 10 ∷ piece
    → IfOk read (λ s. HasRead job old new (records default_config (strip_bom text)) s)
    → IfOk read (λ s. HasRead job old new (records default_config (text_of old.begun piece)) s)
HasRead-behind job old new read text piece begun is has =
    let same : records default_config (strip_bom text)
    ≡ records default_config (text_of old.begun piece) =
    ap (λ t. records default_config (strip_bom t)) is
    ∙ records-behind piece
    ∙ sym (ap (λ b. records default_config (if b then piece else strip_bom piece)) begun) in
    subst (λ (all : List (List (List ℕ))). IfOk read (λ s. HasRead job old new all s)) same has

-- whether a piece has bytes
pub has_items-length : (xs : List ℕ) → not (length xs == 0) ≡ has_items xs
has_items-length [] = refl
has_items-length (x ∷ xs) = ap not (eqb-suc-zero (length xs))

-- the rows of a piece that is read behind a line feed
pub sound_rows-behind : {E : Type 0} (job : JobView) (row : ℕ) (read : Result SoundRows E)
    (all : List (List (List ℕ))) (text piece : List ℕ)
    → all ≡ records default_config (strip_bom text) → text ≡ 10 ∷ piece
    → IfOk read (λ s. s ≡ sound_rows job row all)
    → IfOk read (λ s. s ≡ sound_rows job row (records default_config piece))
sound_rows-behind job row read all text piece of is has =
    let same : all ≡ records default_config piece =
    of ∙ ap (λ t. records default_config (strip_bom t)) is ∙ records-behind piece in
    subst (λ (all : List (List (List ℕ))). IfOk read (λ s. s ≡ sound_rows job row all)) same has
