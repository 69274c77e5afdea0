-- Births are told by their text.
use Rattle.std.proofs.Common.{◌≡◌, ◌∙◌, ◌<◌, ◌^◌, ◌++◌, ℕ, List, [], ◌∷◌, refl, sym, ap, ap₂, subst, arith, length, decimal}
use Rattle.std.specs.Char.{digit_value}
use Rattle.std.specs.Str.Parse.{AllDigits}
use Rattle.std.proofs.lemmas.Fmt.{decimal_injective, decimal_is_IsNumeral, decimal_nonempty}
use Rattle.std.proofs.lemmas.List.{length-append}
use Rattle.sink_journal.specs.Audit.{dotted}

-- no byte is a point
abbrev pub Dotless : List ℕ → Type 0
Dotless [] = Unit {0}
Dotless (c ∷ cs) = (c ≡ 46 → ⊥) × Dotless cs

dotless_digits : (cs : List ℕ) → AllDigits 10 cs → Dotless cs
dotless_digits [] h = tt
dotless_digits (c ∷ cs) h = ((λ e. let p : digit_value 46 < 10 = subst (λ x. digit_value x < 10) e h.0 in absurd (omega arith)), dotless_digits cs h.1)

pub dotless : (n : ℕ) → n < 2 ^ 64 → Dotless (decimal n)
dotless n lt = dotless_digits (decimal n) (decimal_is_IsNumeral n lt).0.1

cut : (xs ys a b : List ℕ) → Dotless xs → Dotless ys → xs ++ 46 ∷ a ≡ ys ++ 46 ∷ b → (xs ≡ ys) × (a ≡ b)
cut [] [] a b p q e = (refl, cc)
cut [] (y ∷ ys) a b p q e = let h : y ≡ 46 = cc in absurd (q.0 h)
cut (x ∷ xs) [] a b p q e = let h : x ≡ 46 = cc in absurd (p.0 h)
cut (x ∷ xs) (y ∷ ys) a b p q e =
    let h : x ≡ y = cc in
    let t : xs ++ 46 ∷ a ≡ ys ++ 46 ∷ b = cc in
    let r = cut xs ys a b p.1 q.1 t in
    (ap₂ (λ (z : ℕ) (zs : List ℕ). z ∷ zs) h r.0, r.1)

uncut : (xs ys b : List ℕ) → Dotless xs → xs ≡ ys ++ 46 ∷ b → ⊥
uncut [] [] b p e = absurd (cc)
uncut [] (y ∷ ys) b p e = absurd (cc)
uncut (x ∷ xs) [] b p e = let h : x ≡ 46 = cc in p.0 h
uncut (x ∷ xs) (y ∷ ys) b p e = let t : xs ≡ ys ++ 46 ∷ b = cc in uncut xs ys b p.1 t

-- births in range
abbrev pub AreSmall : List ℕ → Type 0
AreSmall [] = Unit {0}
AreSmall (n ∷ ns) = (n < 2 ^ 64) × AreSmall ns

never_empty : (n : ℕ) (rest : List ℕ) → n < 2 ^ 64 → [] ≡ decimal n ++ rest → ⊥
never_empty n rest lt e =
    let some : 0 < length (decimal n) = decimal_nonempty n lt in
    let long : 0 ≡ length (decimal n ++ rest) = ap length e in
    absurd (omega (arith, length-append (decimal n) rest))

never_empty_alone : (n : ℕ) → n < 2 ^ 64 → [] ≡ decimal n → ⊥
never_empty_alone n lt e =
    let some : 0 < length (decimal n) = decimal_nonempty n lt in
    let long : 0 ≡ length (decimal n) = ap length e in
    absurd (omega arith)

births-more : (x y : ℕ) (a : List ℕ) → dotted (x ∷ y ∷ a) ≡ decimal x ++ 46 ∷ dotted (y ∷ a)
births-more x y a = refl

pub same_births : (a b : List ℕ) → AreSmall a → AreSmall b → dotted a ≡ dotted b → a ≡ b
same_births [] [] p q e = refl
same_births [] (y ∷ []) p q e = absurd (never_empty_alone y q.0 e)
same_births [] (y ∷ z ∷ b) p q e = absurd (never_empty y (46 ∷ dotted (z ∷ b)) q.0 (e ∙ births-more y z b))
same_births (x ∷ []) [] p q e = absurd (never_empty_alone x p.0 (sym e))
same_births (x ∷ []) (y ∷ []) p q e = ap (λ (n : ℕ). n ∷ []) (decimal_injective x y p.0 q.0 e)
same_births (x ∷ []) (y ∷ z ∷ b) p q e = absurd (uncut (decimal x) (decimal y) (dotted (z ∷ b)) (dotless x p.0) (e ∙ births-more y z b))
same_births (x ∷ w ∷ a) [] p q e = absurd (never_empty x (46 ∷ dotted (w ∷ a)) p.0 (sym e ∙ births-more x w a))
same_births (x ∷ w ∷ a) (y ∷ []) p q e = absurd (uncut (decimal y) (decimal x) (dotted (w ∷ a)) (dotless y q.0) (sym e ∙ births-more x w a))
same_births (x ∷ w ∷ a) (y ∷ z ∷ b) p q e =
    let r = cut (decimal x) (decimal y) (dotted (w ∷ a)) (dotted (z ∷ b)) (dotless x p.0) (dotless y q.0) (sym (births-more x w a) ∙ (e ∙ births-more y z b)) in
    ap₂ (λ (n : ℕ) (ns : List ℕ). n ∷ ns) (decimal_injective x y p.0 q.0 r.0) (same_births (w ∷ a) (z ∷ b) p.1 q.1 r.1)
