-- The texts of shares, put together.
use Rattle.std.proofs.Common.{◌≡◌, ◌++◌, ◌∷◌, ◌∙◌, ◌+◌, ◌*◌, ◌/◌, ◌%◌, ◌<◌, ◌≤◌, [], ℕ, List, ap}
use Rattle.std.proofs.Common.{append-nil, arith, drop, length, refl, slice_index_or, suc, sym, take}
use Rattle.std.proofs.Common.{true, true≢false, ⊎_elim}
use Prim.Native.Nat.{zero}
use Rattle.std.specs.Prelude.{Result, Ok, Err, IfOk, OnOk, min}
use Rattle.std.specs.Fork.{slice_chunk}
use Rattle.std.proofs.Math.Nat.{add-mul, one-mul, suc-mul, zero-mul}
use Rattle.std.proofs.Math.Numerals.{add-one}
use Rattle.std.proofs.lemmas.Bool.{cases_lt}
use Rattle.std.proofs.lemmas.Nat.{div-add-mod', mod_below}
use Rattle.std.proofs.lemmas.Grind.{flat_map-append}
use Rattle.std.proofs.lemmas.List.{take_all, take-take, take_more, drop-take, take-append-drop}
use Rattle.tuple_trace.specs.declared.items.NoMemory.{NoMemory}
use Rattle.sink_journal.specs.Records.{record_text, records_text}
use Rattle.text_threads.specs.inner.Pieces.{piece_records, pieces_records}
use Rattle.text_threads.specs.inner.Shares.{are_made, is_made, joined, made}
use Rattle.text_threads.specs.declared.piece.Piece.{Piece}

-- the text of pieces
abbrev pub text_of : List Piece → List ℕ
text_of pieces = records_text (pieces_records pieces)

-- pieces in two parts
text-append : (xs ys : List Piece) → text_of (xs ++ ys) ≡ text_of xs ++ text_of ys
text-append xs ys =
    ap (λ rs. records_text rs) (flat_map-append piece_records xs ys)
    ∙ flat_map-append record_text (pieces_records xs) (pieces_records ys)

-- what is known of a text that was made
of-made : (r : Result (List ℕ) NoMemory) (text : List ℕ) → is_made r ≡ true
    → IfOk r (λ t. t ≡ text) → made r ≡ text
of-made (Ok t) text ok is = is
of-made (Err e) text ok is = absurd (true≢false (sym ok))

-- each of the texts that were all made was made
each-made : (rs : List (Result (List ℕ) NoMemory)) (n : ℕ) (d : Result (List ℕ) NoMemory)
    → are_made rs ≡ true → n < length rs → is_made (slice_index_or rs n d) ≡ true
each-made [] n d all below = absurd (omega arith)
each-made (Ok t ∷ rs) zero d all below = refl
each-made (Ok t ∷ rs) (suc n) d all below = each-made rs n d all (omega arith)
each-made (Err e ∷ rs) n d all below = absurd (true≢false (sym all))

-- so many chunks hold the whole
holds-all : (count len size : ℕ) → 0 < size → count ≡ len / size + min 1 (len % size)
    → len ≤ count * size
holds-all count len size p is =
    let q = len / size in
    let r = len % size in
    let a : q * size + r ≡ len = div-add-mod' len size in
    let b : r < size = mod_below len size p in
    ⊎_elim
    (λ h.
    let e : count ≡ q + 1 = omega arith in
    let w = ap (λ (n : ℕ). n * size) e ∙ add-mul q 1 size in
    let o = one-mul size in
    omega arith)
    (λ h.
    let e : count ≡ q = omega arith in
    let w = ap (λ (n : ℕ). n * size) e in
    omega arith)
    (cases_lt 0 r)

module _ (size : ℕ) (xs : List Piece) (rs : List (Result (List ℕ) NoMemory))
    (d : Result (List ℕ) NoMemory)
    (each : (n : ℕ) → n < length rs
    → made (slice_index_or rs n d) ≡ text_of (slice_chunk xs size n)) where
  -- the text of one more chunk
  one-more : (n : ℕ) → text_of (take (n * size + size) xs)
      ≡ text_of (take (n * size) xs) ++ text_of (slice_chunk xs size n)
  one-more n =
      let ys = take (n * size + size) xs in
      let front : take (n * size) ys ≡ take (n * size) xs =
      take-take (n * size) (n * size + size) xs (omega arith) in
      ap text_of (sym (take-append-drop (n * size) ys))
      ∙ text-append (take (n * size) ys) (drop (n * size) ys)
      ∙ ap (λ (t : List Piece). text_of t ++ text_of (drop (n * size) ys)) front
      ∙ ap (λ (t : List Piece). text_of (take (n * size) xs) ++ text_of t)
      (drop-take (n * size) size xs)

  -- one more of the texts
  next-text : (n : ℕ) → n < length rs
      → joined (take (n + 1) rs) ≡ joined (take n rs) ++ text_of (slice_chunk xs size n)
  next-text n below =
      ap joined (take_more rs n d below)
      ∙ flat_map-append made (take n rs) (slice_index_or rs n d ∷ [])
      ∙ ap (λ (t : List ℕ). joined (take n rs) ++ t)
      (append-nil (made (slice_index_or rs n d)) ∙ each n below)

  so_far : (n : ℕ) → n ≤ length rs → joined (take n rs) ≡ text_of (take (n * size) xs)
  so_far zero within = ap (λ (k : ℕ). text_of (take k xs)) (sym (zero-mul size))
  so_far (suc n) within =
      ap (λ (k : ℕ). joined (take k rs)) (sym (add-one n)) ∙ next-text n (omega arith)
      ∙ ap (λ (t : List ℕ). t ++ text_of (slice_chunk xs size n)) (so_far n (omega arith))
      ∙ sym (one-more n) ∙ ap (λ (k : ℕ). text_of (take k xs)) (sym (suc-mul n size))

  -- the texts of all chunks, one after another, are the text of all pieces
  chunks : 0 < size → length rs ≡ length xs / size + min 1 (length xs % size)
      → joined rs ≡ text_of xs
  chunks p e =
      ap joined (sym (take_all (length rs) rs (omega arith))) ∙ so_far (length rs) (omega arith)
      ∙ ap text_of (take_all (length rs * size) xs (holds-all (length rs) (length xs) size p e))

-- the texts of all shares, one after another, are the text of all pieces, if each of them was made
pub shares-text : (size : ℕ) (xs : List Piece) (rs : List (Result (List ℕ) NoMemory))
    (d : Result (List ℕ) NoMemory) → 0 < size
    → length rs ≡ length xs / size + min 1 (length xs % size) → are_made rs ≡ true
    → ((n : ℕ) → n < length rs
    → IfOk (slice_index_or rs n d) (λ t. t ≡ text_of (slice_chunk xs size n)))
    → joined rs ≡ text_of xs
shares-text size xs rs d p e all each =
    chunks size xs rs d
    (λ n below.
    of-made (slice_index_or rs n d) (text_of (slice_chunk xs size n)) (each-made rs n d all below)
    (each n below)) p e

-- what follows of a text from two facts of the call that made it
pub both-ok : {P : Type 0} {Q W : List ℕ → Type 0} (r : Result (List ℕ) NoMemory) → OnOk r P
    → IfOk r Q → (P → (text : List ℕ) → Q text → W text) → IfOk r W
both-ok (Ok text) p q f = f p text q
both-ok (Err e) p q f = tt
