-- What a scan of bytes says of the bytes before them too.
use Rattle.std.proofs.Common.{◌≡◌, ◌∙◌, ◌<◌, ◌≤◌, ◌+◌, ◌++◌, ℕ, List, [], ◌∷◌, Option, Some, None, Bool, true, false, cond, refl, sym, ap, subst, arith, get_or, length, take, drop}
use Rattle.std.proofs.lemmas.Bool.{or_from, or_parts}
use Rattle.std.proofs.Math.Seq.{drop-append-add, take-append-add}
use Rattle.std.proofs.lemmas.List.{drop-append-le, drop_all, drop_at, length-append, length-take-le, take-append-drop, take-append-le, take_all, take_more}
use Rattle.csv.specs.Machine.{step}
use Rattle.csv.specs.declared.parser.Config.{Config}
use Rattle.csv.specs.declared.parser.State.{State}
use Rattle.csv.specs.declared.parser.State.TheVariants as st
use Rattle.input_pieces.specs.Cut.{IsCut, IsLastCut, IsUncut, has_cut, is_start, state_after}

pub start_is : (s : State) → is_start s ≡ true → s ≡ st.StartRecord
start_is st.StartRecord e = refl
start_is st.StartField e = cc
start_is st.InField e = cc
start_is st.InQuoted e = cc
start_is st.AfterQuote e = cc
start_is st.InEscape e = cc
start_is st.InComment e = cc
start_is st.AfterCr e = cc

pub state_after-append : (cfg : Config) (s : State) (xs ys : List ℕ) → state_after cfg s (xs ++ ys) ≡ state_after cfg (state_after cfg s xs) ys
state_after-append cfg s [] ys = refl
state_after-append cfg s (c ∷ xs) ys = state_after-append cfg (step cfg s c).0 xs ys

pub uncut-append : (cfg : Config) (s : State) (xs ys : List ℕ) → has_cut cfg s xs ≡ false → has_cut cfg (state_after cfg s xs) ys ≡ false → has_cut cfg s (xs ++ ys) ≡ false
uncut-append cfg s [] ys p q = q
uncut-append cfg s (c ∷ xs) ys p q =
    let parts : (is_start (step cfg s c).0 ≡ false) × (has_cut cfg (step cfg s c).0 xs ≡ false) = or_parts (is_start (step cfg s c).0) (has_cut cfg (step cfg s c).0 xs) p in
    or_from (is_start (step cfg s c).0) (has_cut cfg (step cfg s c).0 (xs ++ ys)) parts.0 (uncut-append cfg (step cfg s c).0 xs ys parts.1 q)

-- behind a cut the machine stands as if the text began there
pub behind_cut : (cfg : Config) (s : State) (n : ℕ) (xs : List ℕ) → state_after cfg s (take n xs) ≡ st.StartRecord → state_after cfg s xs ≡ state_after cfg st.StartRecord (drop n xs)
behind_cut cfg s n xs e =
    ap (state_after cfg s) (sym (take-append-drop n xs))
    ∙ state_after-append cfg s (take n xs) (drop n xs)
    ∙ ap (λ (t : State). state_after cfg t (drop n xs)) e

-- ---- one byte more

pub cut_here : (cfg : Config) (s : State) (xs : List ℕ) (b n : ℕ) → n ≡ length xs + 1 → is_start (state_after cfg s (xs ++ b ∷ [])) ≡ true → IsLastCut cfg s (xs ++ b ∷ []) (Some n)
cut_here cfg s xs b n e start =
    let all : length (xs ++ b ∷ []) ≤ n = omega (arith, length-append xs (b ∷ [])) in (
      omega arith,
      omega (arith, length-append xs (b ∷ [])),
      ap (state_after cfg s) (take_all n (xs ++ b ∷ []) all) ∙ start_is (state_after cfg s (xs ++ b ∷ [])) start,
      ap (has_cut cfg st.StartRecord) (drop_all n (xs ++ b ∷ []) all),
    )

pub cut_before : (cfg : Config) (s : State) (xs : List ℕ) (b : ℕ) (cut : Option ℕ) → IsLastCut cfg s xs cut → is_start (state_after cfg s (xs ++ b ∷ [])) ≡ false → IsLastCut cfg s (xs ++ b ∷ []) cut
cut_before cfg s xs b None p e =
    let here : is_start (step cfg (state_after cfg s xs) b).0 ≡ false = ap is_start (sym (state_after-append cfg s xs (b ∷ []))) ∙ e in
    uncut-append cfg s xs (b ∷ []) p (or_from (is_start (step cfg (state_after cfg s xs) b).0) false here refl)
cut_before cfg s xs b (Some n) p e =
    let behind : state_after cfg s xs ≡ state_after cfg st.StartRecord (drop n xs) = behind_cut cfg s n xs p.2 in
    let here : is_start (step cfg (state_after cfg st.StartRecord (drop n xs)) b).0 ≡ false =
    ap (λ (t : State). is_start (step cfg t b).0) (sym behind) ∙ ap is_start (sym (state_after-append cfg s xs (b ∷ []))) ∙ e in (
      p.0,
      omega (arith, p.1, length-append xs (b ∷ [])),
      ap (state_after cfg s) (take-append-le n xs (b ∷ []) p.1) ∙ p.2,
      ap (has_cut cfg st.StartRecord) (drop-append-le n xs (b ∷ []) p.1)
          ∙ uncut-append cfg st.StartRecord (drop n xs) (b ∷ []) p.3
          (or_from (is_start (step cfg (state_after cfg st.StartRecord (drop n xs)) b).0) false here refl),
    )

-- ---- a loop over bytes

pub scan_place : (cfg : Config) (s before after : State) (xs : List ℕ) (i : ℕ) → i < length xs → before ≡ state_after cfg s (take i xs) → after ≡ (step cfg before (get_or xs i 0)).0
    → after ≡ state_after cfg s (take (i + 1) xs)
scan_place cfg s before after xs i h e f =
    f ∙ ap (λ (t : State). (step cfg t (get_or xs i 0)).0) e
    ∙ sym (state_after-append cfg s (take i xs) (get_or xs i 0 ∷ []))
    ∙ ap (state_after cfg s) (sym (take_more xs i 0 h))

pub scan_here : (cfg : Config) (s after : State) (xs : List ℕ) (i : ℕ) → i < length xs → after ≡ state_after cfg s (take (i + 1) xs) → is_start after ≡ true → IsLastCut cfg s (take (i + 1) xs) (Some (i + 1))
scan_here cfg s after xs i h e start =
    let more : take (i + 1) xs ≡ take i xs ++ get_or xs i 0 ∷ [] = take_more xs i 0 h in
    let P : List ℕ → Type 0 = λ l. IsLastCut cfg s l (Some (i + 1)) in
    subst P (sym more)
    (cut_here cfg s (take i xs) (get_or xs i 0) (i + 1) (omega (arith, length-take-le i xs (omega arith)))
    (ap (λ l. is_start (state_after cfg s l)) (sym more) ∙ ap is_start (sym e) ∙ start))

pub scan_past : (cfg : Config) (s after : State) (xs : List ℕ) (i : ℕ) (cut : Option ℕ) → i < length xs → after ≡ state_after cfg s (take (i + 1) xs) → is_start after ≡ false → IsLastCut cfg s (take i xs) cut
    → IsLastCut cfg s (take (i + 1) xs) cut
scan_past cfg s after xs i cut h e start p =
    let more : take (i + 1) xs ≡ take i xs ++ get_or xs i 0 ∷ [] = take_more xs i 0 h in
    let P : List ℕ → Type 0 = λ l. IsLastCut cfg s l cut in
    subst P (sym more)
    (cut_before cfg s (take i xs) (get_or xs i 0) cut p
    (ap (λ l. is_start (state_after cfg s l)) (sym more) ∙ ap is_start (sym e) ∙ start))

pub scan_more : (cfg : Config) (s after : State) (xs : List ℕ) (i : ℕ) (cut now : Option ℕ) → i < length xs → after ≡ state_after cfg s (take (i + 1) xs)
    → now ≡ cond (is_start after) (Some (i + 1)) cut → IsLastCut cfg s (take i xs) cut → IsLastCut cfg s (take (i + 1) xs) now
scan_more cfg s after xs i cut now h e is p = go (is_start after) refl
  where
    P : Option ℕ → Type 0
    P = λ o. IsLastCut cfg s (take (i + 1) xs) o

    go : (b : Bool) → is_start after ≡ b → IsLastCut cfg s (take (i + 1) xs) now
    go true t = subst P (sym (is ∙ ap (λ (b : Bool). cond b (Some (i + 1)) cut) t)) (scan_here cfg s after xs i h e t)
    go false t = subst P (sym (is ∙ ap (λ (b : Bool). cond b (Some (i + 1)) cut) t)) (scan_past cfg s after xs i cut h e t p)

-- ---- what is kept, and what came behind it

-- with no cut in both there is none in their join
pub still_uncut : (cfg : Config) (kept read : List ℕ) → IsUncut cfg kept → has_cut cfg (state_after cfg st.StartRecord kept) read ≡ false → IsUncut cfg (kept ++ read)
still_uncut cfg kept read p q = uncut-append cfg st.StartRecord kept read p q

pub joined_cut : (cfg : Config) (kept read : List ℕ) (n : ℕ) → IsLastCut cfg (state_after cfg st.StartRecord kept) read (Some n)
    → IsCut cfg (take (length kept + n) (kept ++ read)) × IsUncut cfg (drop (length kept + n) (kept ++ read))
joined_cut cfg kept read n p = (
  ap (state_after cfg st.StartRecord) (take-append-add kept read n) ∙ state_after-append cfg st.StartRecord kept (take n read) ∙ p.2,
  ap (has_cut cfg st.StartRecord) (drop-append-add kept read n) ∙ p.3,
)

-- the bytes behind a place where the text was as long
pub grown_is : (kept read grown : List ℕ) (from : ℕ) → from ≡ length kept → kept ++ read ≡ grown → grown ≡ kept ++ drop from grown
grown_is kept read grown from e f =
    let back : drop from grown ≡ read = ap (drop from) (sym f) ∙ drop_at kept read from (sym e) in
    sym f ∙ ap (λ l. kept ++ l) (sym back)

pub came_place : (cfg : Config) (s t : State) (kept bytes grown : List ℕ) → s ≡ state_after cfg st.StartRecord kept → grown ≡ kept ++ bytes → t ≡ state_after cfg s bytes
    → t ≡ state_after cfg st.StartRecord grown
came_place cfg s t kept bytes grown before is after =
    after ∙ ap (λ (u : State). state_after cfg u bytes) before ∙ sym (state_after-append cfg st.StartRecord kept bytes) ∙ ap (state_after cfg st.StartRecord) (sym is)

pub came_uncut : (cfg : Config) (s : State) (kept bytes grown : List ℕ) → s ≡ state_after cfg st.StartRecord kept → grown ≡ kept ++ bytes → IsUncut cfg kept → has_cut cfg s bytes ≡ false
    → IsUncut cfg grown
came_uncut cfg s kept bytes grown before is p q =
    ap (has_cut cfg st.StartRecord) is
    ∙ still_uncut cfg kept bytes p (ap (λ (u : State). has_cut cfg u bytes) (sym before) ∙ q)

pub came_cut : (cfg : Config) (s : State) (kept bytes grown : List ℕ) (n : ℕ) → s ≡ state_after cfg st.StartRecord kept → grown ≡ kept ++ bytes → IsLastCut cfg s bytes (Some n)
    → IsCut cfg (take (length kept + n) grown) × IsUncut cfg (drop (length kept + n) grown)
came_cut cfg s kept bytes grown n before is p =
    let P : State → Type 0 = λ u. IsLastCut cfg u bytes (Some n) in
    let Q : List ℕ → Type 0 = λ l. IsCut cfg (take (length kept + n) l) × IsUncut cfg (drop (length kept + n) l) in
    subst Q (sym is) (joined_cut cfg kept bytes n (subst P before p))

pub came_cut_at : (cfg : Config) (s : State) (kept bytes grown : List ℕ) (from n : ℕ) → from ≡ length kept → s ≡ state_after cfg st.StartRecord kept → grown ≡ kept ++ bytes → IsLastCut cfg s bytes (Some n)
    → IsCut cfg (take (from + n) grown) × IsUncut cfg (drop (from + n) grown)
came_cut_at cfg s kept bytes grown from n e before is p =
    let P : ℕ → Type 0 = λ k. IsCut cfg (take (k + n) grown) × IsUncut cfg (drop (k + n) grown) in
    subst P (sym e) (came_cut cfg s kept bytes grown n before is p)
