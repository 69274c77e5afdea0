-- Files that grow in their places, piece by piece.
use Rattle.std.proofs.Common.{◌≡◌, ◌<◌, ◌≤◌, ℕ, List, [], ◌∷◌, ◌++◌, Option, None, Some, refl, ◌∙◌, ap, take, length, arith, append_assoc}
use Rattle.std.proofs.lemmas.Grind.{common_steps}
use Rattle.std.specs.FinMap as map
use Rattle.payments.specs.Files.{Files, bytes_of, with_more}
use Rattle.payments.specs.Growing.{with_text}
use Rattle.payments.proofs.FileLemmas.{with_more-with_bytes}

-- two pieces at the end of a file are one
with_more-with_more : (old : Option Files) (name done piece : List ℕ) → with_more (with_more old name done) name piece ≡ with_more old name (done ++ piece)
with_more-with_more None name done piece = refl
with_more-with_more (Some m) name done piece =
    with_more-with_bytes (Some m) _ name (bytes_of m name ++ done) piece refl
    ∙ ap (λ bytes. Some (map.insert m name bytes)) (append_assoc (bytes_of m name) done piece)

-- a text that has a byte
with_text-some : (old : Option Files) (name text : List ℕ) → 0 < length text → with_more old name text ≡ with_text old name text
with_text-some old name [] some = absurd (omega (arith, some))
with_text-some old name (byte ∷ bytes) some = refl

-- one more piece of a text
with_text-more : (old : Option Files) (name done piece : List ℕ) → 0 < length piece → with_more (with_text old name done) name piece ≡ with_text old name (done ++ piece)
with_text-more old name [] piece some = with_text-some old name piece some
with_text-more old name (byte ∷ bytes) piece some = with_more-with_more old name (byte ∷ bytes) piece

-- the file has grown by the front of the rest
pub text_grown : (old now new : Option Files) (name done rest : List ℕ) (n : ℕ) → now ≡ with_text old name done → new ≡ with_more now name (take n rest) → 0 < n → n ≤ length rest → new ≡ with_text old name (done ++ take n rest)
text_grown old now new name done rest n was is some most =
    let has : 0 < length (take n rest) = grind (arith, common_steps) in
    is ∙ ap (λ files. with_more files name (take n rest)) was ∙ with_text-more old name done (take n rest) has
