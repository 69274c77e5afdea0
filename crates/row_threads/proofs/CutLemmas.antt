-- A text that is cut into shares, and what is read of its first.
use Rattle.std.proofs.Common.{◌≡◌, ◌∙◌, ◌++◌, ℕ, List, [], ◌∷◌, All, Result, sym, ap, map}
use Rattle.std.proofs.Common.{append_assoc, subst}
use Rattle.std.proofs.lemmas.List.{append-nil, map-append}
use Rattle.std.proofs.lemmas.List.Elements.{All-append, All-cons, All-nil}
use Rattle.std.proofs.lemmas.Result.{IfOk-weaker}
use Rattle.std.specs.Borrow.{Bor}
use Rattle.std.specs.List.{concat}
use Rattle.std.specs.Prelude.{IfOk}
use Rattle.csv.specs.Reading.{default_config}
use Rattle.input_pieces.specs.Cut.{IsCut}
use Rattle.jobs.specs.JobView.{JobView}
use Rattle.stream_rows.specs.Rows.{and_then, no_rows, rows_under_header, stream_rows}
use Rattle.stream_rows.specs.declared.sound.SoundRows.{SoundRows}
use Rattle.stream_rows.proofs.ReadLemmas.{records-nil}

-- the rows of a text, read behind nothing
pub first_read : {E : Type 0} (job : JobView) (text : List ℕ) (read : Result SoundRows E)
    → IfOk read (λ sound. stream_rows job 0 text ≡ and_then (stream_rows job 0 []).rows sound)
    → IfOk read (λ sound. sound ≡ stream_rows job 0 text)
first_read job text read is =
    let none : stream_rows job 0 [] ≡ no_rows = ap (rows_under_header job 0) records-nil in
    IfOk-weaker read _ _
    (λ sound same. sym (same ∙ ap (λ (r : SoundRows). and_then r.rows sound) none)) is

-- ---- one share more

abbrev pub texts_of : List (Bor (List ℕ)) → List (List ℕ)
texts_of shares = map (λ share. share.now) shares

pub texts_more : (shares new : List (Bor (List ℕ))) (share : Bor (List ℕ))
    → new ≡ shares ++ share ∷ [] → texts_of new ≡ texts_of shares ++ share.now ∷ []
texts_more shares new share is =
    ap texts_of is ∙ map-append (λ (share : Bor (List ℕ)). share.now) shares (share ∷ [])

pub cut_more : (shares new : List (Bor (List ℕ))) (share : Bor (List ℕ))
    → new ≡ shares ++ share ∷ [] → All (IsCut default_config) (texts_of shares)
    → IsCut default_config share.now → All (IsCut default_config) (texts_of new)
cut_more shares new share is all cut =
    subst (λ (l : List (List ℕ)). All (IsCut default_config) l)
    (sym (texts_more shares new share is))
    (All-append (IsCut default_config) (texts_of shares) (share.now ∷ []) all
    (All-cons (IsCut default_config) share.now [] cut (All-nil (IsCut default_config))))

concat-last : (texts : List (List ℕ)) (text : List ℕ)
    → concat (texts ++ text ∷ []) ≡ concat texts ++ text
concat-last [] text = append-nil text
concat-last (first ∷ later) text =
    ap (λ (l : List ℕ). first ++ l) (concat-last later text)
    ∙ sym (append_assoc first (concat later) text)

pub join_more : (shares new : List (Bor (List ℕ))) (share : Bor (List ℕ))
    (text old rest : List ℕ) → new ≡ shares ++ share ∷ []
    → concat (texts_of shares) ++ old ≡ text → share.now ++ rest ≡ old
    → concat (texts_of new) ++ rest ≡ text
join_more shares new share text old rest is whole cut =
    ap (λ (l : List (List ℕ)). concat l ++ rest) (texts_more shares new share is)
    ∙ ap (λ (l : List ℕ). l ++ rest) (concat-last (texts_of shares) share.now)
    ∙ append_assoc (concat (texts_of shares)) share.now rest
    ∙ ap (λ (l : List ℕ). concat (texts_of shares) ++ l) cut ∙ whole
