-- Lines without a quote: the machine stands at a record's start behind each.
use Rattle.std.proofs.Common.{◌≡◌, ◌∙◌, ◌<◌, ◌≤◌, ◌+◌, ◌==◌, ℕ, zero, suc, ◌-◌, List, ◌∷◌, [], Some, Bool, true, false, cond, refl, sym, subst, ap, arith, get_or, length, take, drop}
use Rattle.std.proofs.Math.Seq.{take-add}
use Rattle.std.proofs.lemmas.List.{drop_all, get_or-take, length-drop, length-take-le, take_all, take_more}
use Rattle.std.proofs.lemmas.Bool.{eqb-true}
use Rattle.csv.specs.Machine.{after_end, carriage_return, ends_with, in_field, line_feed, start_field, start_record, step}
use Rattle.csv.specs.Reading.{default_config}
use Rattle.csv.specs.declared.parser.Action.{Action}
use Rattle.csv.specs.declared.parser.Action.TheVariants as act
use Rattle.csv.specs.declared.parser.State.{State}
use Rattle.csv.specs.declared.parser.State.TheVariants as st
use Rattle.memchr.specs.Find.{Nowhere, Passes, is_byte}
use Rattle.input_pieces.specs.Cut.{IsLastCut, has_cut, is_start, state_after}
use Rattle.input_pieces.proofs.ScanLemmas.{state_after-append}

-- states outside of quotes, escapes and comments
abbrev IsPlain : State → Type 0
IsPlain st.StartRecord = Unit {0}
IsPlain st.StartField = Unit {0}
IsPlain st.InField = Unit {0}
IsPlain st.InQuoted = ⊥
IsPlain st.AfterQuote = Unit {0}
IsPlain st.InEscape = ⊥
IsPlain st.InComment = ⊥
IsPlain st.AfterCr = Unit {0}

pub plain_start : (s : State) → is_start s ≡ true → IsPlain s
plain_start st.StartRecord e = tt
plain_start st.StartField e = tt
plain_start st.InField e = tt
plain_start st.InQuoted e = cc
plain_start st.AfterQuote e = tt
plain_start st.InEscape e = cc
plain_start st.InComment e = cc
plain_start st.AfterCr e = tt

plain_if : (b : Bool) (x y : State × Action) → IsPlain x.0 → IsPlain y.0 → IsPlain (cond b x y).0
plain_if true x y g h = g
plain_if false x y g h = h

plain_in_field : (c : ℕ) → IsPlain (in_field default_config c).0
plain_in_field c =
    plain_if (c == default_config.delimiter) (st.StartField, act.EndField) (cond (ends_with default_config.terminator c) (after_end default_config.terminator c, act.EndRecord) (st.InField, act.Copy))
    tt
    (plain_if (ends_with default_config.terminator c) (after_end default_config.terminator c, act.EndRecord) (st.InField, act.Copy) (ended (c == carriage_return)) tt)
  where
    ended : (b : Bool) → IsPlain (cond b st.AfterCr st.StartRecord)
    ended true = tt
    ended false = tt

plain_start_field : (c : ℕ) → (c == default_config.quote) ≡ false → IsPlain (start_field default_config c).0
plain_start_field c e = subst (λ (b : Bool). IsPlain (cond b (st.InQuoted, act.Skip) (in_field default_config c)).0) (sym e) (plain_in_field c)

plain_start_record : (c : ℕ) → (c == default_config.quote) ≡ false → IsPlain (start_record default_config c).0
plain_start_record c e = plain_if (ends_with default_config.terminator c) (st.StartRecord, act.Skip) (start_field default_config c) tt (plain_start_field c e)

plain_step : (s : State) (c : ℕ) → IsPlain s → (c == default_config.quote) ≡ false → IsPlain (step default_config s c).0
plain_step st.StartRecord c p e = plain_start_record c e
plain_step st.StartField c p e = plain_start_field c e
plain_step st.InField c p e = plain_in_field c
plain_step st.InQuoted c p e = absurd p
plain_step st.AfterQuote c p e = subst (λ (b : Bool). IsPlain (cond b (st.InQuoted, act.Copy) (in_field default_config c)).0) (sym e) (plain_in_field c)
plain_step st.InEscape c p e = absurd p
plain_step st.InComment c p e = absurd p
plain_step st.AfterCr c p e = plain_if (c == line_feed) (st.StartRecord, act.Skip) (start_record default_config c) tt (plain_start_record c e)

fed_step : (s : State) → IsPlain s → (step default_config s line_feed).0 ≡ st.StartRecord
fed_step st.StartRecord p = refl
fed_step st.StartField p = refl
fed_step st.InField p = refl
fed_step st.InQuoted p = absurd p
fed_step st.AfterQuote p = refl
fed_step st.InEscape p = absurd p
fed_step st.InComment p = absurd p
fed_step st.AfterCr p = refl

-- the state after one byte more
one_more : (s : State) (xs : List ℕ) (i : ℕ) → i < length xs → state_after default_config s (take (i + 1) xs) ≡ (step default_config (state_after default_config s (take i xs)) (get_or xs i 0)).0
one_more s xs i lt = ap (state_after default_config s) (take_more xs i 0 lt) ∙ state_after-append default_config s (take i xs) (get_or xs i 0 ∷ [])

not_quote : (c : ℕ) → ¬ ((c == default_config.quote) ≡ true) → (c == default_config.quote) ≡ false
not_quote c none = go (c == default_config.quote) none
  where
    go : (b : Bool) → ¬ (b ≡ true) → b ≡ false
    go true none = absurd (none refl)
    go false none = refl

plain_upto : (s : State) (xs : List ℕ) (n : ℕ) → IsPlain s → n ≤ length xs → Nowhere (Passes (is_byte default_config.quote) xs) 0 n → IsPlain (state_after default_config s (take n xs))
plain_upto s xs zero p le none = p
plain_upto s xs (suc i) p le none =
    let before : IsPlain (state_after default_config s (take i xs)) = plain_upto s xs i p (omega (arith, le)) (λ k low high. none k low (omega (arith, high))) in
    let here : (get_or xs i 0 == default_config.quote) ≡ false = not_quote (get_or xs i 0) (none i (omega arith) (omega arith)) in
    let next : i + 1 ≡ suc i = omega arith in
    subst (λ (n : ℕ). IsPlain (state_after default_config s (take n xs))) next
    (subst IsPlain (sym (one_more s xs i (omega (arith, le)))) (plain_step (state_after default_config s (take i xs)) (get_or xs i 0) before here))

-- behind a line feed before the first quote a record may begin
pub after_line : (s : State) (xs : List ℕ) (plain end : ℕ) → IsPlain s → plain ≤ length xs → Nowhere (Passes (is_byte default_config.quote) xs) 0 plain → end < plain → Passes (is_byte line_feed) (take plain xs) end
    → state_after default_config s (take (end + 1) xs) ≡ st.StartRecord
after_line s xs plain end p le none lt feed =
    let before : IsPlain (state_after default_config s (take end xs)) = plain_upto s xs end p (omega (arith, le, lt)) (λ k low high. none k low (omega (arith, high, lt))) in
    let is : get_or xs end 0 ≡ line_feed = sym (get_or-take plain xs end 0 lt) ∙ eqb-true (get_or (take plain xs) end 0) line_feed feed in
    one_more s xs end (omega (arith, le, lt))
    ∙ ap (λ (c : ℕ). (step default_config (state_after default_config s (take end xs)) c).0) is
    ∙ fed_step (state_after default_config s (take end xs)) before

-- whole lines that were passed over are the last cut of what was looked at
skipped_cut : (s : State) (xs : List ℕ) (n : ℕ) → 0 < n → n ≤ length xs → state_after default_config s (take n xs) ≡ st.StartRecord → IsLastCut default_config s (take n xs) (Some n)
skipped_cut s xs n pos le at =
    let long : length (take n xs) ≡ n = length-take-le n xs le in
    let all : length (take n xs) ≤ n = omega (arith, long) in (
      pos,
      omega (arith, long),
      ap (state_after default_config s) (take_all n (take n xs) all) ∙ at,
      ap (has_cut default_config st.StartRecord) (drop_all n (take n xs) all),
    )

-- a scan that passes over whole lines of the rest ends at a cut
pub passed_over : (s t : State) (xs rest : List ℕ) (i n : ℕ) → rest ≡ drop i xs → i ≤ length xs → n ≤ length rest → 0 < n → t ≡ state_after default_config s (take i xs) → state_after default_config t (take n rest) ≡ st.StartRecord
    → (st.StartRecord ≡ state_after default_config s (take (i + n) xs)) × IsLastCut default_config s (take (i + n) xs) (Some (i + n))
passed_over s t xs rest i n is low high pos before at =
    let there : state_after default_config s (take (i + n) xs) ≡ st.StartRecord =
    ap (state_after default_config s) (take-add i n xs)
    ∙ state_after-append default_config s (take i xs) (take n (drop i xs))
    ∙ ap (λ (u : State). state_after default_config u (take n (drop i xs))) (sym before)
    ∙ ap (λ l. state_after default_config t (take n l)) (sym is)
    ∙ at in
    let long : length rest ≡ length xs - i = ap length is ∙ length-drop i xs in
    (sym there, skipped_cut s xs (i + n) (omega (arith, pos)) (omega (arith, low, high, long)) there)
