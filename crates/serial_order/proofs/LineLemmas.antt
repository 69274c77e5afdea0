-- The counts of a line, one after the other.
use Rattle.std.proofs.Common.{◌≡◌, ◌∙◌, ◌<◌, ◌≤◌, ◌+◌, ◌-◌, ◌++◌, ℕ, zero, suc, List, [], ◌∷◌, append_assoc, sym, ap, arith}
use Rattle.std.specs.Prelude.{codes}
use Rattle.std.specs.List.{flat_map, range_with_len}
use Rattle.std.proofs.lemmas.Grind.{flat_map-append}
use Rattle.std.proofs.lemmas.List.{append-nil}
use Rattle.serial_order.specs.Serials.{count_words, serial_line}

pub range-next : (first count last : ℕ) → last ≡ first + count → range_with_len first (count + 1) ≡ range_with_len first count ++ last ∷ []
range-next first zero last e = let f : first ≡ last = omega arith in ap (λ n. n ∷ []) f
range-next first (suc count) last e =
    let more : suc count + 1 ≡ suc (count + 1) = omega arith in
    ap (range_with_len first) more ∙ ap (λ (l : List ℕ). first ∷ l) (range-next (first + 1) count last (omega arith))

-- the counts of all k are those of the earlier ones and the last
pub counts-all : (serial : List ℕ) (requests : ℕ) → flat_map (count_words serial) (range_with_len 0 (requests + 1))
    ≡ flat_map (count_words serial) (range_with_len 0 requests) ++ count_words serial requests
counts-all serial requests =
    ap (flat_map (count_words serial)) (range-next 0 requests requests (omega arith))
    ∙ (flat_map-append (count_words serial) (range_with_len 0 requests) (requests ∷ [])
    ∙ ap (λ (l : List ℕ). flat_map (count_words serial) (range_with_len 0 requests) ++ l) (append-nil (count_words serial requests)))

-- one count more
pub counts-more : (serial text : List ℕ) (k requests : ℕ) → k < requests
    → (text ++ count_words serial k) ++ flat_map (count_words serial) (range_with_len (k + 1) (requests - (k + 1))) ≡ text ++ flat_map (count_words serial) (range_with_len k (requests - k))
counts-more serial text k requests lt =
    let e : suc (requests - (k + 1)) ≡ requests - k = omega arith in
    append_assoc text (count_words serial k) (flat_map (count_words serial) (range_with_len (k + 1) (requests - (k + 1))))
    ∙ ap (λ n. text ++ flat_map (count_words serial) (range_with_len k n)) e

-- after the last count and the end of the line
pub line-end : (serial old text : List ℕ) (k requests : ℕ) → requests ≤ k
    → text ++ flat_map (count_words serial) (range_with_len k (requests - k)) ≡ (old ++ codes "serial") ++ flat_map (count_words serial) (range_with_len 0 requests)
    → (text ++ count_words serial requests) ++ codes "\n" ≡ old ++ serial_line requests serial
line-end serial old text k requests le h =
    let none : requests - k ≡ 0 = omega arith in
    let before : List ℕ = flat_map (count_words serial) (range_with_len 0 requests) in
    let last : List ℕ = count_words serial requests in
    let word : List ℕ = codes "serial" in
    let all : text ≡ (old ++ word) ++ before =
    sym (append-nil text) ∙ (ap (λ n. text ++ flat_map (count_words serial) (range_with_len k n)) (sym none) ∙ h) in
    ap (λ (l : List ℕ). (l ++ last) ++ codes "\n") all
    ∙ (ap (λ (l : List ℕ). l ++ codes "\n") (append_assoc (old ++ word) before last)
    ∙ (append_assoc (old ++ word) (before ++ last) (codes "\n")
    ∙ (append_assoc old word ((before ++ last) ++ codes "\n")
    ∙ ap (λ (l : List ℕ). old ++ (word ++ (l ++ codes "\n"))) (sym (counts-all serial requests)))))
