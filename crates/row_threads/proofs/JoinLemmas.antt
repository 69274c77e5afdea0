-- The rows of all shares are those of the whole text.
use Rattle.std.proofs.Common.{◌≡◌, ◌∙◌, ◌+◌, ◌*◌, ◌<◌, ◌≤◌, ◌++◌, ◌&&◌, ℕ, suc, Bool, true, false}
use Rattle.std.proofs.Common.{List, [], ◌∷◌, Option, None, Some, Result, Ok, Err, All, refl, sym}
use Rattle.std.proofs.Common.{is_none, ap, append_assoc, arith, if◌then◌else◌, length, map, nat_eq, slice_get}
use Rattle.std.proofs.Common.{slice_index_or, subst, true≢false}
use Rattle.std.proofs.lemmas.Bool.{and_parts}
use Rattle.std.proofs.Math.Dec.{eqb-suc-zero}
use Rattle.std.proofs.lemmas.List.{append-nil, length-append}
use Rattle.std.proofs.lemmas.List.Elements.{All-head, All-tail}
use Rattle.std.proofs.lemmas.Result.{IfOk-weaker}
use Rattle.std.specs.Borrow.{Bor}
use Rattle.std.specs.Cmp.Lexicographic.{pointwise}
use Rattle.std.specs.List.{concat, flat_map, list_all}
use Rattle.std.specs.Prelude.{IfOk}
use Rattle.csv.specs.Reading.{default_config, records, strip_bom}
use Rattle.input_pieces.specs.Cut.{IsCut}
use Rattle.jobs.specs.JobView.{JobView}
use Rattle.jobs.specs.Weights.{weight}
use Rattle.payments.specs.Reading.{header_of, rows_of, work_max}
use Rattle.payments.specs.declared.read.PFault.{PFault}
use Rattle.payments.specs.declared.read.PFault.TheVariants as fault
use Rattle.stream_rows.proofs.NumberLemmas.{stream_row-numbered}
use Rattle.stream_rows.proofs.ReadLemmas.{IsCut-append, rows_go_on}
use Rattle.stream_rows.proofs.SoundLemmas.{these}
use Rattle.stream_rows.specs.Rows.{and_then, followed_by, numbered, only_fault, rows_under_header}
use Rattle.stream_rows.specs.Rows.{sound_rows, stream_row, stream_rows}
use Rattle.stream_rows.specs.declared.sound.SoundRows.{SoundRows}
use Rattle.tuple_trace.specs.declared.items.NoMemory.{NoMemory}
use Rattle.tuple_trace.specs.declared.row.Row.{Row}
use Rattle.row_threads.proofs.FileLemmas.{file_rows}
use Rattle.row_threads.specs.inner.Joined.{first_of, is_sound, numbered_from, rows_in}
use Rattle.row_threads.specs.inner.Shares.{AreReads, AreShares, share_rows}

-- ---- rows with other numbers

length-numbered : (number : ℕ) (rows : List Row) → length (numbered_from number rows) ≡ length rows
length-numbered number [] = refl
length-numbered number (row ∷ rows) = omega (arith, length-numbered (number + 1) rows)

pub numbered-append : (number : ℕ) (xs ys : List Row) → numbered_from number (xs ++ ys)
    ≡ numbered_from number xs ++ numbered_from (number + length xs) ys
numbered-append number [] ys =
    let same : number ≡ number + 0 = omega arith in ap (λ n. numbered_from n ys) same
numbered-append number (x ∷ xs) ys =
    let same : number + 1 + length xs ≡ number + length (x ∷ xs) = omega arith in
    ap (λ (l : List Row). numbered number x ∷ l) (numbered-append (number + 1) xs ys
    ∙ ap (λ n. numbered_from (number + 1) xs ++ numbered_from n ys) same)

-- records without a fault have the same rows with other numbers
sound_rows-numbered : (job : JobView) (row to : ℕ) (records : List (List (List ℕ)))
    → (sound_rows job row records).fault ≡ None
    → sound_rows job to records ≡ these (numbered_from to (sound_rows job row records).rows) None
unfolding sound_rows
sound_rows-numbered job row to [] sound = refl
sound_rows-numbered job row to (first ∷ later) sound =
    go (stream_row job row first) refl (sound_rows-numbered job (row + 1) (to + 1) later) sound
  where
    rest : SoundRows
    rest = sound_rows job (row + 1) later

    go : (read : Result Row PFault) → stream_row job row first ≡ read
        → (rest.fault ≡ None
        → sound_rows job (to + 1) later ≡ these (numbered_from (to + 1) rest.rows) None)
        → (followed_by read rest).fault ≡ None
        → followed_by (stream_row job to first) (sound_rows job (to + 1) later)
        ≡ these (numbered_from to (followed_by read rest).rows) None
    go (Err fault) is on sound = absurd (cc sound)
    go (Ok made) is on sound =
        ap (λ (r : Result Row PFault). followed_by r (sound_rows job (to + 1) later))
        (stream_row-numbered job row to first made is)
        ∙ ap (followed_by (Ok (numbered to made))) (on sound)

-- the rows of a file are numbered from 1
header-numbered : (job : JobView) (records : List (List (List ℕ)))
    → (rows_under_header job 0 records).fault ≡ None
    → rows_under_header job 0 records
    ≡ these (numbered_from 1 (rows_under_header job 0 records).rows) None
header-numbered job [] sound = refl
header-numbered job (header ∷ later) sound =
    go (pointwise (pointwise nat_eq) header (header_of job)) sound
  where
    here : Bool → SoundRows
    here b = if b then sound_rows job 1 later else only_fault fault.Header

    go : (b : Bool) → (here b).fault ≡ None
        → here b ≡ these (numbered_from 1 (here b).rows) None
    go true sound = sound_rows-numbered job 1 1 later sound
    go false sound = absurd (cc sound)

-- ---- one share more

none-is : (o : Option PFault) → is_none o ≡ true → o ≡ None
none-is None is = refl
none-is (Some fault) is = absurd (true≢false (sym is))

-- a text with rows has a header
some_records : (job : JobView) (records : List (List (List ℕ))) (rows : List Row)
    → rows_under_header job 0 records ≡ these rows None → 0 < length rows → 0 < length records
some_records job [] rows is some =
    absurd (omega (arith, some, ap (λ (r : SoundRows). length r.rows) is))
some_records job (header ∷ later) rows is some = omega arith

one_more : (job : JobView) (before : List ℕ) (rows : List Row) (share : List ℕ)
    (read : Result SoundRows NoMemory) → IsCut default_config before
    → stream_rows job 0 before ≡ these rows None → 0 < length rows
    → IfOk read (λ sound. sound ≡ sound_rows job 1 (records default_config share))
    → is_sound read ≡ true
    → stream_rows job 0 (before ++ share)
    ≡ these (rows ++ numbered_from (length rows + 1) (rows_in read)) None
one_more job before rows share (Err e) cut is some found ok = absurd (true≢false (sym ok))
one_more job before rows share (Ok sound) cut is some found ok =
    let later = records default_config share in
    let clean : (sound_rows job 1 later).fault ≡ None =
    ap (λ (r : SoundRows). r.fault) (sym found) ∙ none-is sound.fault ok in
    let on =
    rows_go_on job 0 before share cut (ap (λ (r : SoundRows). r.fault) is)
    (some_records job (records default_config (strip_bom before)) rows is some) in
    let number : 0 + length rows + 1 ≡ length rows + 1 = omega arith in
    on
    ∙ ap (λ (r : SoundRows). and_then r.rows (sound_rows job (0 + length r.rows + 1) later)) is
    ∙ ap (λ n. and_then rows (sound_rows job n later)) number
    ∙ ap (and_then rows) (sound_rows-numbered job 1 (length rows + 1) later clean)
    ∙ ap (λ (r : SoundRows). these (rows ++ numbered_from (length rows + 1) r.rows) None)
    (sym found)

-- ---- all shares

-- what reads of shares behind the header found
abbrev AreLater : JobView → List (List ℕ) → List (Result SoundRows NoMemory) → Type 0
AreLater job [] [] = Unit {0}
AreLater job [] (read ∷ reads) = ⊥
AreLater job (share ∷ shares) [] = ⊥
AreLater job (share ∷ shares) (read ∷ reads) =
    IfOk read (λ sound. sound ≡ sound_rows job 1 (records default_config share))
    × AreLater job shares reads

go_on : (job : JobView) (before : List ℕ) (rows : List Row) (cut : List (List ℕ)) (last : List ℕ)
    (reads : List (Result SoundRows NoMemory)) → IsCut default_config before
    → stream_rows job 0 before ≡ these rows None → 0 < length rows
    → All (IsCut default_config) cut → AreLater job (cut ++ last ∷ []) reads
    → list_all is_sound reads ≡ true
    → stream_rows job 0 (before ++ (concat cut ++ last))
    ≡ these (rows ++ numbered_from (length rows + 1) (flat_map rows_in reads)) None
go_on job before rows [] last [] ends is some all are ok = absurd are
go_on job before rows [] last (read ∷ []) ends is some all are ok =
    one_more job before rows last read ends is some are.0 (and_parts (is_sound read) true ok).0
    ∙ ap (λ (l : List Row). these (rows ++ numbered_from (length rows + 1) l) None)
    (sym (append-nil (rows_in read)))
go_on job before rows [] last (read ∷ next ∷ reads) ends is some all are ok = absurd are.1
go_on job before rows (share ∷ cut) last [] ends is some all are ok = absurd are
go_on job before rows (share ∷ cut) last (read ∷ reads) ends is some all are ok =
    let oks = and_parts (is_sound read) (list_all is_sound reads) ok in
    let own = numbered_from (length rows + 1) (rows_in read) in
    let more = rows ++ own in
    let whole = flat_map rows_in reads in
    let here = one_more job before rows share read ends is some are.0 oks.0 in
    let many : length more ≡ length rows + length (rows_in read) =
    length-append rows own ∙ ap (λ n. length rows + n)
    (length-numbered (length rows + 1) (rows_in read)) in
    let this = All-head (IsCut default_config) share cut all in
    let on =
    go_on job (before ++ share) more cut last reads (IsCut-append before share ends this) here
    (omega (arith, some, many)) (All-tail (IsCut default_config) share cut all) are.1 oks.1 in
    let text : before ++ ((share ++ concat cut) ++ last)
    ≡ (before ++ share) ++ (concat cut ++ last) =
    ap (λ (l : List ℕ). before ++ l) (append_assoc share (concat cut) last)
    ∙ sym (append_assoc before share (concat cut ++ last)) in
    let number : length more + 1 ≡ length rows + 1 + length (rows_in read) =
    omega (arith, many) in
    ap (stream_rows job 0) text
    ∙ on
    ∙ ap (λ (l : List Row). these l None)
    (append_assoc rows own (numbered_from (length more + 1) whole)
    ∙ ap (λ n. rows ++ (own ++ numbered_from n whole)) number
    ∙ ap (λ (l : List Row). rows ++ l)
    (sym (numbered-append (length rows + 1) (rows_in read) whole)))

start : (job : JobView) (first : List ℕ) (read : Result SoundRows NoMemory)
    → IfOk read (λ sound. sound ≡ stream_rows job 0 first) → is_sound read ≡ true
    → stream_rows job 0 first ≡ these (numbered_from 1 (rows_in read)) None
start job first (Err e) found ok = absurd (true≢false (sym ok))
start job first (Ok sound) found ok =
    let clean : (stream_rows job 0 first).fault ≡ None =
    ap (λ (r : SoundRows). r.fault) (sym found) ∙ none-is sound.fault ok in
    header-numbered job (records default_config (strip_bom first)) clean
    ∙ ap (λ (r : SoundRows). these (numbered_from 1 r.rows) None) (sym found)

parts : (job : JobView) (first : List ℕ) (more before : List (List ℕ)) (last : List ℕ)
    (read : Result SoundRows NoMemory) (reads : List (Result SoundRows NoMemory))
    → first ∷ more ≡ before ++ last ∷ [] → All (IsCut default_config) before
    → IfOk read (λ sound. sound ≡ stream_rows job 0 first) → AreLater job more reads
    → list_all is_sound (read ∷ reads) ≡ true → 0 < length (rows_in read)
    → stream_rows job 0 (concat before ++ last)
    ≡ these (numbered_from 1 (flat_map rows_in (read ∷ reads))) None
parts job first more [] last read [] is all found later ok some =
    let same : first ≡ last = cc is in
    ap (stream_rows job 0) (sym same) ∙ start job first read found (and_parts (is_sound read) true ok).0
    ∙ ap (λ (l : List Row). these (numbered_from 1 l) None) (sym (append-nil (rows_in read)))
parts job first more [] last read (next ∷ reads) is all found later ok some =
    let none : more ≡ [] = cc is in
    absurd (subst (λ (m : List (List ℕ)). AreLater job m (next ∷ reads)) none later)
parts job first more (share ∷ cut) last read reads is all found later ok some =
    let same : first ≡ share = cc is in
    let rest : more ≡ cut ++ last ∷ [] = cc is in
    let oks = and_parts (is_sound read) (list_all is_sound reads) ok in
    let own = numbered_from 1 (rows_in read) in
    let whole = flat_map rows_in reads in
    let many : length own ≡ length (rows_in read) = length-numbered 1 (rows_in read) in
    let here : stream_rows job 0 share ≡ these own None =
    ap (stream_rows job 0) (sym same) ∙ start job first read found oks.0 in
    let on =
    go_on job share own cut last reads (All-head (IsCut default_config) share cut all) here
    (omega (arith, some, many)) (All-tail (IsCut default_config) share cut all)
    (subst (λ (m : List (List ℕ)). AreLater job m reads) rest later) oks.1 in
    let number : length own + 1 ≡ 1 + length (rows_in read) = omega (arith, many) in
    ap (stream_rows job 0) (append_assoc share (concat cut) last)
    ∙ on
    ∙ ap (λ (l : List Row). these l None)
    (ap (λ n. own ++ numbered_from n whole) number
    ∙ sym (numbered-append 1 (rows_in read) whole))

-- ---- what the reads found

abbrev Each : JobView → List (Bor (List ℕ)) → List (Result SoundRows NoMemory) → Type 0
Each job texts reads = (place : ℕ) (other : Result SoundRows NoMemory) → place < length texts
    → IfOk (slice_index_or reads place other) (λ sound. (text : Bor (List ℕ))
    → slice_get texts place ≡ Some text
    → sound ≡ sound_rows job 1 (records default_config text.now))

later_reads : (job : JobView) (texts : List (Bor (List ℕ)))
    (reads : List (Result SoundRows NoMemory)) → length reads ≡ length texts → Each job texts reads
    → AreLater job (map (λ text. text.now) texts) reads
later_reads job [] [] many each = tt
later_reads job [] (read ∷ reads) many each = absurd (omega (arith, many))
later_reads job (text ∷ texts) [] many each = absurd (omega (arith, many))
later_reads job (text ∷ texts) (read ∷ reads) many each = (
  IfOk-weaker read _ _ (λ sound found. found text refl) (each 0 read (omega arith)),
  later_reads job texts reads (omega (arith, many))
      (λ place other below. each (suc place) other (omega (arith, below))),
)

-- the place of a later share
later_rows : (job : JobView) (place : ℕ) (text : List ℕ)
    → share_rows job (suc place) text ≡ sound_rows job 1 (records default_config text)
later_rows job place text =
    ap (λ b. if b then stream_rows job 0 text else sound_rows job 1 (records default_config text))
    (eqb-suc-zero place)

shares_whole : (job : JobView) (text : List ℕ) (texts : List (Bor (List ℕ)))
    (reads : List (Result SoundRows NoMemory)) → AreShares text (map (λ share. share.now) texts)
    → length reads ≡ length texts
    → ((place : ℕ) (other : Result SoundRows NoMemory) → place < length texts
    → IfOk (slice_index_or reads place other) (λ sound. (share : Bor (List ℕ))
    → slice_get texts place ≡ Some share → sound ≡ share_rows job place share.now))
    → list_all is_sound reads ≡ true → 0 < length (first_of reads)
    → stream_rows job 0 text ≡ these (numbered_from 1 (flat_map rows_in reads)) None
shares_whole job text [] reads shares many each ok some =
    absurd (omega (
      arith,
      ap
          (λ (l : List (List ℕ)). length l) shares.all,
      length-append shares.before (shares.last ∷ []),
    ))
shares_whole job text (share ∷ texts) [] shares many each ok some = absurd (omega (arith, some))
shares_whole job text (share ∷ texts) (read ∷ reads) shares many each ok some =
    let found : IfOk read (λ sound. sound ≡ stream_rows job 0 share.now) =
    IfOk-weaker read _ _ (λ sound all. all share refl) (each 0 read (omega arith)) in
    let later =
    later_reads job texts reads (omega (arith, many))
    (λ place other below. IfOk-weaker (slice_index_or reads place other) _ _
    (λ sound all own at. all own at ∙ later_rows job place own.now)
    (each (suc place) other (omega (arith, below)))) in
    ap (stream_rows job 0) (sym shares.whole)
    ∙ parts job share.now (map (λ share. share.now) texts) shares.before shares.last read reads
    shares.all shares.cut found later ok some

-- the rows of the reads of all shares are those of the whole text
reads_whole : (job : JobView) (text : List ℕ) (reads : List (Result SoundRows NoMemory))
    → AreReads job text reads → list_all is_sound reads ≡ true → 0 < length (first_of reads)
    → stream_rows job 0 text ≡ these (numbered_from 1 (flat_map rows_in reads)) None
reads_whole job text reads are ok some =
    shares_whole job text are.texts reads are.shares are.len are.each ok some

-- ---- loops

abbrev Reads : Type 0
Reads = List (Result SoundRows NoMemory)

-- the rows of one read more are appended
pub all_pushed : (rows new more goal : List Row) (items rest : Reads)
    (read : Result SoundRows NoMemory) → items ≡ read ∷ rest → more ≡ rows_in read
    → new ≡ rows ++ numbered_from (length rows + 1) more
    → rows ++ numbered_from (length rows + 1) (flat_map rows_in items) ≡ goal
    → new ++ numbered_from (length new + 1) (flat_map rows_in rest) ≡ goal
all_pushed rows new more goal items rest read are found is whole =
    let own = numbered_from (length rows + 1) more in
    let others = flat_map rows_in rest in
    let many : length new + 1 ≡ length rows + 1 + length more =
    omega (
      arith,
      ap (λ (l : List Row). length l) is,
      length-append rows own,
      length-numbered
          (length rows + 1) more,
    ) in
    ap (λ (l : List Row). l ++ numbered_from (length new + 1) others) is
    ∙ ap (λ n. (rows ++ own) ++ numbered_from n others) many
    ∙ append_assoc rows own (numbered_from (length rows + 1 + length more) others)
    ∙ ap (λ (l : List Row). rows ++ l) (sym (numbered-append (length rows + 1) more others))
    ∙ ap (λ (l : List Row). rows ++ numbered_from (length rows + 1) (l ++ others)) found
    ∙ ap (λ (l : Reads). rows ++ numbered_from (length rows + 1) (flat_map rows_in l)) (sym are)
    ∙ whole

-- one read more is sound
pub one_sound : (items rest all : Reads) (read : Result SoundRows NoMemory)
    → items ≡ read ∷ rest → is_sound read ≡ true
    → list_all is_sound items ≡ list_all is_sound all
    → list_all is_sound rest ≡ list_all is_sound all
one_sound items rest all read are ok sound =
    sym (ap (λ b. b && list_all is_sound rest) ok)
    ∙ ap (λ (l : Reads). list_all is_sound l) (sym are) ∙ sound

-- the rows of all reads are some, if the first has some
some_rows : (reads : Reads) (rows : List Row) → rows ≡ numbered_from 1 (flat_map rows_in reads)
    → 0 < length (first_of reads) → 0 < length rows
some_rows [] rows is some = absurd (omega (arith, some))
some_rows (read ∷ reads) rows is some =
    omega (
      arith,
      some,
      ap (λ (l : List Row). length l) is,
      length-numbered 1 (rows_in read ++ flat_map rows_in reads),
      length-append (rows_in read) (flat_map rows_in reads),
    )

-- what reads of all shares found is what one thread reads
pub file_of : (job : JobView) (text : List ℕ) (reads : Reads) (rows : List Row)
    → AreReads job text reads → list_all is_sound reads ≡ true
    → rows ≡ numbered_from 1 (flat_map rows_in reads) → 0 < length (first_of reads)
    → length rows * weight job ≤ work_max → rows_of job text ≡ Ok rows
file_of job text reads rows are ok is some light =
    file_rows job (records default_config (strip_bom text)) rows
    (reads_whole job text reads are ok some ∙ ap (λ (l : List Row). these l None) (sym is))
    (some_rows reads rows is some) light
