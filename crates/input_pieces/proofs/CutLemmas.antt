-- The records of a text in two pieces, the first of which ends between records.
use Rattle.std.proofs.Common.{◌≡◌, ◌∙◌, ◌<◌, ◌≤◌, ◌+◌, ◌++◌, ◌==◌, ◌&&◌, ℕ, zero, suc, List, [], ◌∷◌, ◌⊎◌, inl, inr, refl, sym, subst, ap, arith, true, false, Bool, cond, length, Some, None, Option}
use Rattle.std.proofs.lemmas.Option.{same_Some}
use Rattle.std.proofs.lemmas.List.{length-append}
use Rattle.csv.specs.Machine.{Read, after_end, carriage_return, ends_at_end, ends_with, field_after, fields_after, in_field, is_byte, is_end, line_feed, next_record, start_field, start_record, step}
use Rattle.csv.specs.Reading.{records, records_from, records_next}
use Rattle.csv.specs.declared.parser.Action.{Action}
use Rattle.csv.specs.declared.parser.Action.TheVariants as act
use Rattle.csv.specs.declared.parser.Config.{Config}
use Rattle.csv.specs.declared.parser.State.{State}
use Rattle.csv.specs.declared.parser.State.TheVariants as st
use Rattle.csv.specs.declared.parser.Terminator.{Terminator}
use Rattle.csv.specs.declared.parser.Terminator.TheVariants as term
use Rattle.input_pieces.specs.Cut.{IsCut, state_after}

-- no field is at hand where a record may begin
abbrev Fresh : State → List (List ℕ) → List ℕ → Type 0
Fresh st.StartRecord f p = (f ≡ []) × (p ≡ [])
Fresh st.AfterCr f p = (f ≡ []) × (p ≡ [])
Fresh st.InComment f p = (f ≡ []) × (p ≡ [])
Fresh st.StartField f p = Unit {0}
Fresh st.InField f p = Unit {0}
Fresh st.InQuoted f p = Unit {0}
Fresh st.AfterQuote f p = Unit {0}
Fresh st.InEscape f p = Unit {0}

-- a state after a record
abbrev Rested : State → Type 0
Rested st.StartRecord = Unit {0}
Rested st.AfterCr = Unit {0}
Rested st.InComment = ⊥
Rested st.StartField = ⊥
Rested st.InField = ⊥
Rested st.InQuoted = ⊥
Rested st.AfterQuote = ⊥
Rested st.InEscape = ⊥

fresh_rested : (s : State) → Rested s → Fresh s [] []
fresh_rested st.StartRecord r = (refl, refl)
fresh_rested st.AfterCr r = (refl, refl)
fresh_rested st.InComment r = absurd r
fresh_rested st.StartField r = tt
fresh_rested st.InField r = tt
fresh_rested st.InQuoted r = tt
fresh_rested st.AfterQuote r = tt
fresh_rested st.InEscape r = tt

rested_not_at_end : (s : State) → Rested s → ends_at_end s ≡ false
rested_not_at_end st.StartRecord r = refl
rested_not_at_end st.AfterCr r = refl
rested_not_at_end st.InComment r = absurd r
rested_not_at_end st.StartField r = absurd r
rested_not_at_end st.InField r = absurd r
rested_not_at_end st.InQuoted r = absurd r
rested_not_at_end st.AfterQuote r = absurd r
rested_not_at_end st.InEscape r = absurd r

rested_after : (t : Terminator) (c : ℕ) → Rested (after_end t c)
rested_after term.CRLF c = go (c == carriage_return)
  where
    go : (b : Bool) → Rested (cond b st.AfterCr st.StartRecord)
    go true = tt
    go false = tt
rested_after (term.Any t) c = tt

-- ---- one byte

-- after it no field is at hand where a record may begin, and after a record one may begin
abbrev Good : State → ℕ → List (List ℕ) → List ℕ → State × Action → Type 0
Good s c f p to = (Fresh s f p → is_end to.1 ≡ false → Fresh to.0 (fields_after to.1 f p) (field_after to.1 c p)) × (is_end to.1 ≡ true → Rested to.0)

good_if : (s : State) (c : ℕ) (f : List (List ℕ)) (p : List ℕ) (b : Bool) (x y : State × Action) → Good s c f p x → Good s c f p y → Good s c f p (cond b x y)
good_if s c f p true x y g h = g
good_if s c f p false x y g h = h

good_in_field : (cfg : Config) (s : State) (c : ℕ) (f : List (List ℕ)) (p : List ℕ) → Good s c f p (in_field cfg c)
good_in_field cfg s c f p =
    good_if s c f p (c == cfg.delimiter) (st.StartField, act.EndField) (cond (ends_with cfg.terminator c) (after_end cfg.terminator c, act.EndRecord) (st.InField, act.Copy))
    (λ h e. tt, λ e. absurd (cc))
    (good_if s c f p (ends_with cfg.terminator c) (after_end cfg.terminator c, act.EndRecord) (st.InField, act.Copy)
    (λ h e. absurd (cc), λ e. rested_after cfg.terminator c)
    (λ h e. tt, λ e. absurd (cc)))

good_start_field : (cfg : Config) (s : State) (c : ℕ) (f : List (List ℕ)) (p : List ℕ) → Good s c f p (start_field cfg c)
good_start_field cfg s c f p = good_if s c f p (cfg.quoting && (c == cfg.quote)) (st.InQuoted, act.Skip) (in_field cfg c) (λ h e. tt, λ e. absurd (cc)) (good_in_field cfg s c f p)

good_start_record : (cfg : Config) (s : State) (c : ℕ) (f : List (List ℕ)) (p : List ℕ) → (Fresh s f p → (f ≡ []) × (p ≡ [])) → Good s c f p (start_record cfg c)
good_start_record cfg s c f p none =
    good_if s c f p (ends_with cfg.terminator c) (st.StartRecord, act.Skip) (cond (is_byte cfg.comment c) (st.InComment, act.Skip) (start_field cfg c))
    (λ h e. none h, λ e. absurd (cc))
    (good_if s c f p (is_byte cfg.comment c) (st.InComment, act.Skip) (start_field cfg c) (λ h e. none h, λ e. absurd (cc)) (good_start_field cfg s c f p))

good_step : (cfg : Config) (s : State) (c : ℕ) (f : List (List ℕ)) (p : List ℕ) → Good s c f p (step cfg s c)
good_step cfg st.StartRecord c f p = good_start_record cfg st.StartRecord c f p (λ h. h)
good_step cfg st.StartField c f p = good_start_field cfg st.StartField c f p
good_step cfg st.InField c f p = good_in_field cfg st.InField c f p
good_step cfg st.InQuoted c f p =
    good_if st.InQuoted c f p (cfg.quoting && (c == cfg.quote)) (st.AfterQuote, act.Skip) (cond (cfg.quoting && is_byte cfg.escape c) (st.InEscape, act.Skip) (st.InQuoted, act.Copy))
    (λ h e. tt, λ e. absurd (cc))
    (good_if st.InQuoted c f p (cfg.quoting && is_byte cfg.escape c) (st.InEscape, act.Skip) (st.InQuoted, act.Copy) (λ h e. tt, λ e. absurd (cc)) (λ h e. tt, λ e. absurd (cc)))
good_step cfg st.InEscape c f p = (λ h e. tt, λ e. absurd (cc))
good_step cfg st.AfterQuote c f p =
    good_if st.AfterQuote c f p (cfg.quoting && cfg.double_quote && (c == cfg.quote)) (st.InQuoted, act.Copy) (in_field cfg c) (λ h e. tt, λ e. absurd (cc)) (good_in_field cfg st.AfterQuote c f p)
good_step cfg st.InComment c f p =
    good_if st.InComment c f p (c == line_feed) (st.StartRecord, act.Skip) (st.InComment, act.Skip) (λ h e. h, λ e. absurd (cc)) (λ h e. h, λ e. absurd (cc))
good_step cfg st.AfterCr c f p =
    good_if st.AfterCr c f p (c == line_feed) (st.StartRecord, act.Skip) (start_record cfg c) (λ h e. h, λ e. absurd (cc)) (good_start_record cfg st.AfterCr c f p (λ h. h))

-- ---- one record

-- a record of both pieces is one of the first, or the first has none
abbrev Splits : Config → State → List (List ℕ) → List ℕ → List ℕ → List ℕ → Type 0
Splits cfg s f p xs ys =
    ((q : Read) × (next_record cfg s f p xs ≡ Some q) × (next_record cfg s f p (xs ++ ys) ≡ Some (q.0, q.1, q.2 ++ ys)) × (state_after cfg q.1 q.2 ≡ st.StartRecord) × Rested q.1 × (length q.2 < length xs))
    ⊎ ((next_record cfg s f p xs ≡ None) × (next_record cfg s f p (xs ++ ys) ≡ next_record cfg st.StartRecord [] [] ys))

at_start : (cfg : Config) (s : State) (f : List (List ℕ)) (p ys : List ℕ) → s ≡ st.StartRecord → Fresh s f p → (next_record cfg s f p [] ≡ None) × (next_record cfg s f p ys ≡ next_record cfg st.StartRecord [] [] ys)
unfolding next_record
at_start cfg st.StartRecord f p ys e fresh = (refl, ap (λ g. next_record cfg st.StartRecord g p ys) fresh.0 ∙ ap (λ g. next_record cfg st.StartRecord [] g ys) fresh.1)
at_start cfg st.AfterCr f p ys e fresh = absurd (cc)
at_start cfg st.InComment f p ys e fresh = absurd (cc)
at_start cfg st.StartField f p ys e fresh = absurd (cc)
at_start cfg st.InField f p ys e fresh = absurd (cc)
at_start cfg st.InQuoted f p ys e fresh = absurd (cc)
at_start cfg st.AfterQuote f p ys e fresh = absurd (cc)
at_start cfg st.InEscape f p ys e fresh = absurd (cc)

splits : (cfg : Config) (s : State) (f : List (List ℕ)) (p xs ys : List ℕ) → Fresh s f p → state_after cfg s xs ≡ st.StartRecord → Splits cfg s f p xs ys
unfolding next_record
splits cfg s f p [] ys fresh e = inr (at_start cfg s f p ys e fresh)
splits cfg s f p (c ∷ rest) ys fresh e =
    go (is_end (step cfg s c).1) refl
    (λ t. splits cfg (step cfg s c).0 (fields_after (step cfg s c).1 f p) (field_after (step cfg s c).1 c p) rest ys ((good_step cfg s c f p).0 fresh t) e)
  where
    to : State × Action
    to = step cfg s c

    g : List (List ℕ)
    g = fields_after to.1 f p

    h : List ℕ
    h = field_after to.1 c p

    further : next_record cfg s f p (c ∷ rest) ≡ next_record cfg to.0 g h rest → next_record cfg s f p (c ∷ (rest ++ ys)) ≡ next_record cfg to.0 g h (rest ++ ys)
        → Splits cfg to.0 g h rest ys → Splits cfg s f p (c ∷ rest) ys
    further here there (inl (q, a, b, k, r, lt)) = inl (q, here ∙ a, there ∙ b, k, r, omega arith)
    further here there (inr (a, b)) = inr (here ∙ a, there ∙ b)

    go : (b : Bool) → is_end (step cfg s c).1 ≡ b → (is_end (step cfg s c).1 ≡ false → Splits cfg to.0 g h rest ys) → Splits cfg s f p (c ∷ rest) ys
    go true t later =
        inl (
          (g, to.0, rest),
          ap (λ b. cond b (Some (g, to.0, rest)) (next_record cfg to.0 g h rest)) t,
          ap (λ b. cond b (Some (g, to.0, rest ++ ys)) (next_record cfg to.0 g h (rest ++ ys))) t,
          e,
          (good_step cfg s c f p).1 t,
          omega arith,
        )
    go false t later =
        further
        (ap (λ b. cond b (Some (g, to.0, rest)) (next_record cfg to.0 g h rest)) t)
        (ap (λ b. cond b (Some (g, to.0, rest ++ ys)) (next_record cfg to.0 g h (rest ++ ys))) t)
        (later t)

-- a record leaves less of the text, at a state after a record
read_on : (cfg : Config) (s : State) (f : List (List ℕ)) (p : List ℕ) (c : ℕ) (rest : List ℕ) (q : Read) → next_record cfg s f p (c ∷ rest) ≡ Some q → (length q.2 ≤ length rest) × Rested q.1
unfolding next_record
read_on cfg s f p c [] q e = go (is_end (step cfg s c).1) refl
  where
    to : State × Action
    to = step cfg s c

    g : List (List ℕ)
    g = fields_after to.1 f p

    h : List ℕ
    h = field_after to.1 c p

    at_end : (b : Bool) → ends_at_end to.0 ≡ b → next_record cfg to.0 g h [] ≡ Some q → (length q.2 ≤ 0) × Rested q.1
    at_end true u k =
        let is : (g ++ (h ∷ []), st.StartRecord, []) ≡ q = same_Some (g ++ (h ∷ []), st.StartRecord, []) q (sym (ap (λ b. cond b (Some (g ++ (h ∷ []), st.StartRecord, [])) None) u) ∙ k) in
        subst (λ (q : Read). (length q.2 ≤ 0) × Rested q.1) is (omega arith, tt)
    at_end false u k = (let n : None ≡ Some q = sym (ap (λ b. cond b (Some (g ++ (h ∷ []), st.StartRecord, [])) None) u) ∙ k in absurd (cc))

    go : (b : Bool) → is_end (step cfg s c).1 ≡ b → (length q.2 ≤ 0) × Rested q.1
    go true t =
        let is : (g, to.0, []) ≡ q = same_Some (g, to.0, []) q (sym (ap (λ b. cond b (Some (g, to.0, [])) (next_record cfg to.0 g h [])) t) ∙ e) in
        subst (λ (q : Read). (length q.2 ≤ 0) × Rested q.1) is (omega arith, (good_step cfg s c f p).1 t)
    go false t = at_end (ends_at_end to.0) refl (sym (ap (λ b. cond b (Some (g, to.0, [])) (next_record cfg to.0 g h [])) t) ∙ e)
read_on cfg s f p c (d ∷ more) q e =
    go (is_end (step cfg s c).1) refl
    (λ k. read_on cfg (step cfg s c).0 (fields_after (step cfg s c).1 f p) (field_after (step cfg s c).1 c p) d more q k)
  where
    to : State × Action
    to = step cfg s c

    g : List (List ℕ)
    g = fields_after to.1 f p

    h : List ℕ
    h = field_after to.1 c p

    rest : List ℕ
    rest = d ∷ more

    go : (b : Bool) → is_end (step cfg s c).1 ≡ b → (next_record cfg to.0 g h rest ≡ Some q → (length q.2 ≤ length more) × Rested q.1) → (length q.2 ≤ suc (length more)) × Rested q.1
    go true t later =
        let is : (g, to.0, rest) ≡ q = same_Some (g, to.0, rest) q (sym (ap (λ b. cond b (Some (g, to.0, rest)) (next_record cfg to.0 g h rest)) t) ∙ e) in
        subst (λ (q : Read). (length q.2 ≤ suc (length more)) × Rested q.1) is (omega arith, (good_step cfg s c f p).1 t)
    go false t later =
        let k : next_record cfg to.0 g h rest ≡ Some q = sym (ap (λ b. cond b (Some (g, to.0, rest)) (next_record cfg to.0 g h rest)) t) ∙ e in
        let r : (length q.2 ≤ length more) × Rested q.1 = later k in
        (omega (arith, r.0), r.1)

-- ---- all records

fuel : (cfg : Config) (n m : ℕ) (s : State) (ys : List ℕ) → Rested s → length ys < n → length ys < m → records_from cfg n s ys ≡ records_from cfg m s ys
unfolding records_from next_record
fuel cfg zero m s ys r a b = absurd (omega arith)
fuel cfg (suc n) zero s ys r a b = absurd (omega arith)
fuel cfg (suc n) (suc m) s [] r a b =
    let none : next_record cfg s [] [] [] ≡ None = ap (λ b. cond b (Some ([] ++ ([] ∷ []), st.StartRecord, [])) None) (rested_not_at_end s r) in
    ap (records_next (records_from cfg n)) none ∙ sym (ap (records_next (records_from cfg m)) none)
fuel cfg (suc n) (suc m) s (c ∷ ys) r a b =
    go (next_record cfg s [] [] (c ∷ ys)) refl (λ q k. fuel cfg n m q.1 q.2 k.1 (omega (arith, k.0)) (omega (arith, k.0)))
  where
    go : (o : Option Read) → next_record cfg s [] [] (c ∷ ys) ≡ o → ((q : Read) → (length q.2 ≤ length ys) × Rested q.1 → records_from cfg n q.1 q.2 ≡ records_from cfg m q.1 q.2)
        → records_next (records_from cfg n) (next_record cfg s [] [] (c ∷ ys)) ≡ records_next (records_from cfg m) (next_record cfg s [] [] (c ∷ ys))
    go None e more = ap (records_next (records_from cfg n)) e ∙ sym (ap (records_next (records_from cfg m)) e)
    go (Some q) e more =
        let later : records_from cfg n q.1 q.2 ≡ records_from cfg m q.1 q.2 = more q (read_on cfg s [] [] c ys q e) in
        ap (records_next (records_from cfg n)) e ∙ (ap (λ (l : List (List (List ℕ))). q.0 ∷ l) later ∙ sym (ap (records_next (records_from cfg m)) e))

both : (cfg : Config) (n k m : ℕ) (s : State) (xs ys : List ℕ) → Rested s → state_after cfg s xs ≡ st.StartRecord → length xs + length ys < n → length xs < k → length ys < m
    → records_from cfg n s (xs ++ ys) ≡ records_from cfg k s xs ++ records_from cfg m st.StartRecord ys
unfolding records_from
both cfg zero k m s xs ys r e a b c = absurd (omega arith)
both cfg (suc n) zero m s xs ys r e a b c = absurd (omega arith)
both cfg (suc n) (suc k) m s xs ys r e a b c =
    go (splits cfg s [] [] xs ys (fresh_rested s r) e)
    (λ q f rested lt. both cfg n k m q.1 q.2 ys rested f (omega (arith, a, lt)) (omega (arith, b, lt)) c)
  where
    go : Splits cfg s [] [] xs ys
        → ((q : Read) → state_after cfg q.1 q.2 ≡ st.StartRecord → Rested q.1 → length q.2 < length xs → records_from cfg n q.1 (q.2 ++ ys) ≡ records_from cfg k q.1 q.2 ++ records_from cfg m st.StartRecord ys)
        → records_next (records_from cfg n) (next_record cfg s [] [] (xs ++ ys)) ≡ records_next (records_from cfg k) (next_record cfg s [] [] xs) ++ records_from cfg m st.StartRecord ys
    go (inl (q, x, y, f, rested, lt)) more =
        let later : records_from cfg n q.1 (q.2 ++ ys) ≡ records_from cfg k q.1 q.2 ++ records_from cfg m st.StartRecord ys = more q f rested lt in
        ap (records_next (records_from cfg n)) y
        ∙ (ap (λ (l : List (List (List ℕ))). q.0 ∷ l) later
        ∙ sym (ap (λ o. records_next (records_from cfg k) o ++ records_from cfg m st.StartRecord ys) x))
    go (inr (x, y)) more =
        ap (records_next (records_from cfg n)) y
        ∙ (fuel cfg (suc n) m st.StartRecord ys tt (omega arith) c
        ∙ sym (ap (λ o. records_next (records_from cfg k) o ++ records_from cfg m st.StartRecord ys) x))

pub records_both : (cfg : Config) (xs ys : List ℕ) → IsCut cfg xs → records cfg (xs ++ ys) ≡ records cfg xs ++ records cfg ys
records_both cfg xs ys cut =
    both cfg (length (xs ++ ys) + 1) (length xs + 1) (length ys + 1) st.StartRecord xs ys tt cut (omega (arith, length-append xs ys)) (omega arith) (omega arith)
