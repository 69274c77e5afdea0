-- The rows of a text that are left to run, as the text grows.
use Rattle.std.proofs.Common.{◌≡◌, ◌∙◌, ◌+◌, ◌-◌, ◌≤◌, ◌++◌, ℕ, List, [], ◌∷◌, ap}
use Rattle.std.proofs.Common.{arith, drop, length, subst, suc, sym, zero}
use Rattle.std.proofs.Math.ListN.{drop_of_length-le}
use Rattle.std.proofs.Math.Seq.{drop-append-add, drop-append_seam}
use Rattle.jobs.specs.JobView.{JobView}
use Rattle.tuple_trace.specs.declared.row.Row.{Row}
use Rattle.stream_rows.specs.Reader.{IsReadTo, fed_of}
use Rattle.stream_rows.specs.Rows.{and_then, stream_rows}
use Rattle.stream_rows.specs.declared.reader.RowReader.{RowReader}
use Rattle.stream_rows.specs.declared.sound.SoundRows.{SoundRows}
use Rattle.stream_turns.specs.Taken.{rows_to_run}

-- what comes after more items than the first list has
drop-past : {X : Type 0} (n : ℕ) (xs ys : List X) → length xs ≤ n
    → drop n (xs ++ ys) ≡ drop (n - length xs) ys
drop-past n xs ys le =
    let same : length xs + (n - length xs) ≡ n = omega (arith, le) in
    subst (λ (k : ℕ). drop k (xs ++ ys) ≡ drop (n - length xs) ys) same
    (drop-append-add xs ys (n - length xs))

-- what comes after some items, and then after those of the first list too
drop-both : {X : Type 0} (n : ℕ) (xs ys : List X)
    → drop n (xs ++ ys) ≡ drop n xs ++ drop (n + length (drop n xs)) (xs ++ ys)
drop-both {X = X} zero xs ys =
    let same : length xs ≡ 0 + length xs = omega arith in
    ap (λ (l : List X). xs ++ l)
    (sym (drop-append_seam xs ys) ∙ ap (λ (k : ℕ). drop k (xs ++ ys)) same)
drop-both (suc n) [] ys =
    let same : suc n ≡ suc n + 0 = omega arith in
    ap (λ (k : ℕ). drop k ys) same
drop-both (suc n) (x ∷ xs) ys =
    let same : suc (n + length (drop n xs)) ≡ suc n + length (drop n xs) = omega arith in
    drop-both n xs ys
    ∙ ap (λ (k : ℕ). drop n xs ++ drop k (x ∷ (xs ++ ys))) same

-- nothing is left to run of a text whose rows were run
pub none-left : (job : JobView) (skipped : ℕ) (text : List ℕ) (reader : RowReader) (last : ℕ)
    → IsReadTo job skipped reader text → fed_of reader ≤ last
    → rows_to_run job skipped text last ≡ []
none-left job skipped text reader last read le =
    drop_of_length-le (stream_rows job skipped text).rows (omega (arith, read.fed, le))

-- what is left of a text with one more piece is left of the piece
pub left-piece : (job : JobView) (skipped : ℕ) (text piece : List ℕ) (reader : RowReader)
    (last : ℕ) (sound : SoundRows) → IsReadTo job skipped reader text → fed_of reader ≤ last
    → stream_rows job skipped (text ++ piece)
    ≡ and_then (stream_rows job skipped text).rows sound
    → drop (last - fed_of reader) sound.rows ≡ rows_to_run job skipped (text ++ piece) last
left-piece job skipped text piece reader last sound read le is =
    let rows = (stream_rows job skipped text).rows in
    let count : last - skipped - length rows ≡ last - fed_of reader =
    omega (arith, read.fed, le) in
    sym
    (ap (λ (s : SoundRows). drop (last - skipped) s.rows) is
    ∙ drop-past (last - skipped) rows sound.rows (omega (arith, read.fed, le))
    ∙ ap (λ (k : ℕ). drop k sound.rows) count)

-- what is left of a longer text: what is left of the shorter one, and then what is left after that
pub left-both : (job : JobView) (skipped : ℕ) (text more : List ℕ) (last next : ℕ)
    (rows : List Row) → skipped ≤ last
    → (stream_rows job skipped (text ++ more)).rows ≡ (stream_rows job skipped text).rows ++ rows
    → next ≡ last + length (rows_to_run job skipped text last)
    → rows_to_run job skipped (text ++ more) last
    ≡ rows_to_run job skipped text last ++ rows_to_run job skipped (text ++ more) next
left-both job skipped text more last next rows within is next_is =
    let first = (stream_rows job skipped text).rows in
    let done = rows_to_run job skipped text last in
    let count : last - skipped + length done ≡ next - skipped = omega (arith, within, next_is) in
    ap (drop (last - skipped)) is
    ∙ drop-both (last - skipped) first rows
    ∙ ap (λ (k : ℕ). done ++ drop k (first ++ rows)) count
    ∙ ap (λ (l : List Row). done ++ drop (next - skipped) l) (sym is)
