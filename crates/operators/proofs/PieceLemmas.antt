-- Where texts are cut.
use Rattle.std.proofs.Common.{◌≡◌, ◌∙◌, ℕ, ◌+◌, ◌-◌, ◌<◌, ◌==◌, suc, sym, ap, refl, List, [], ◌∷◌, ◌++◌, length, map, take, drop, cond, Bool, true, false, Some, None, nat_lt, arith, append_assoc, append-nil}
use Rattle.std.proofs.lemmas.Bool.Decides.{nat_tests}
use Rattle.std.specs.List.{enumerate_from, position, position_or_len}
use Rattle.operators.specs.Pieces.{pieces, pieces_from}

-- the first place of the byte, or the length
abbrev first : ℕ → List ℕ → ℕ
first by text = position_or_len (λ b. b == by) text

abbrev cut_at : ℕ → List ℕ → List ℕ → ℕ → Bool → List (List ℕ)
cut_at by begun text n found = cond found ((begun ++ take n text) ∷ pieces by (drop (n + 1) text)) ((begun ++ text) ∷ [])

lt_some : (n : ℕ) → nat_lt 0 (suc n) ≡ true
lt_some n = grind (arith, nat_tests)

lt_both : (n m : ℕ) → nat_lt n m ≡ nat_lt (1 + n) (suc m)
lt_both n m = grind (arith, nat_tests)

cut_later : (by : ℕ) (begun : List ℕ) (byte : ℕ) (rest : List ℕ) (n : ℕ) (b : Bool) → cut_at by (begun ++ byte ∷ []) rest n b ≡ cut_at by begun (byte ∷ rest) (1 + n) b
cut_later by begun byte rest n true = ap (λ x. x ∷ pieces by (drop (n + 1) rest)) (append_assoc begun (byte ∷ []) (take n rest)) ∙ (let two : 1 + n + 1 ≡ suc (n + 1) = omega arith in let one : 1 + n ≡ suc n = omega arith in rw (two, one) refl)
cut_later by begun byte rest n false = ap (λ x. x ∷ []) (append_assoc begun (byte ∷ []) rest)

pub pieces_from-first : (by : ℕ) (begun text : List ℕ) → pieces_from by begun text ≡ cut_at by begun text (first by text) (nat_lt (first by text) (length text))
pieces_from-first by begun [] = ap (λ x. x ∷ []) (sym (append-nil begun))
pieces_from-first by begun (byte ∷ rest) = go (byte == by) refl (pieces_from-first by (begun ++ byte ∷ []) rest)
  where
    go : (b : Bool) → (byte == by) ≡ b → pieces_from by (begun ++ byte ∷ []) rest ≡ cut_at by (begun ++ byte ∷ []) rest (first by rest) (nat_lt (first by rest) (length rest)) → pieces_from by begun (byte ∷ rest) ≡ cut_at by begun (byte ∷ rest) (first by (byte ∷ rest)) (nat_lt (first by (byte ∷ rest)) (length (byte ∷ rest)))
    go true is later = rw is (ap (λ x. x ∷ pieces by rest) (sym (append-nil begun)) ∙ ap (cut_at by begun (byte ∷ rest) 0) (sym (lt_some (length rest))))
    go false is later = rw is (later ∙ cut_later by begun byte rest (first by rest) (nat_lt (first by rest) (length rest)) ∙ ap (cut_at by begun (byte ∷ rest) (1 + first by rest)) (lt_both (first by rest) (length rest)))

-- a text is cut at the first place of the byte
pub pieces-at : (by : ℕ) (text : List ℕ) (at : ℕ) → position (λ b. b == by) text ≡ Some at → pieces by text ≡ take at text ∷ pieces by (drop (at + 1) text)
pieces-at by text at found = go (nat_lt (first by text) (length text)) refl
  where
    go : (b : Bool) → nat_lt (first by text) (length text) ≡ b → pieces by text ≡ take at text ∷ pieces by (drop (at + 1) text)
    go true is =
        let here : Some (first by text) ≡ Some at = rw is at found in
        let same : first by text ≡ at = cc in
        pieces_from-first by [] text ∙ rw (is, same) refl
    go false is = let nowhere : None ≡ Some at = rw is at found in cc

-- and is one piece where the byte isn't in it
pub pieces-whole : (by : ℕ) (text : List ℕ) → position (λ b. b == by) text ≡ None → pieces by text ≡ text ∷ []
pieces-whole by text none = go (nat_lt (first by text) (length text)) refl
  where
    go : (b : Bool) → nat_lt (first by text) (length text) ≡ b → pieces by text ≡ text ∷ []
    go true is = let somewhere : Some (first by text) ≡ None = rw is at none in cc
    go false is = pieces_from-first by [] text ∙ rw is refl

-- one piece more, of those that are left
pub numbered-next : {A : Type 0} (f : ℕ × List ℕ → A) (out : List A) (n most : ℕ) (piece : List ℕ) (rest : List (List ℕ)) → n < most → (out ++ f (n, piece) ∷ []) ++ map f (enumerate_from (n + 1) (take (most - (n + 1)) rest)) ≡ out ++ map f (enumerate_from n (take (most - n) (piece ∷ rest)))
numbered-next f out n most piece rest below =
    let one : most - n ≡ suc (most - (n + 1)) = omega arith in
    rw one (append_assoc out (f (n, piece) ∷ []) (map f (enumerate_from (n + 1) (take (most - (n + 1)) rest))))
