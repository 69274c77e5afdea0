-- Waits, as they are read one after the other.
use Rattle.std.proofs.Common.{◌≡◌, ◌∙◌, ◌<◌, ◌≤◌, ◌+◌, ◌-◌, ◌++◌, ℕ, suc, List, [], ◌∷◌, None, Some, Ok, Err, refl, sym, ap, arith, drop, get_or, length, if◌then◌else◌, codes}
use Rattle.std.proofs.lemmas.Bool.{le-leb}
use Rattle.std.proofs.lemmas.List.{append-nil, drop_more}
use Rattle.savepoint.specs.SaveReading.{is_exactly, one_spelled}
use Rattle.savepoint.specs.declared.fault.SaveFault.TheVariants as fault
use Rattle.savepoint_file.specs.Steps.{with_those_after}
use Rattle.savepoint_file.proofs.ReadLemmas.{after-more}
use Rattle.stream_save.specs.StreamReading.{AreWaits, misplaced, wait_read, waits_read}
use Rattle.stream_save.specs.Steps.{wait_numbers}

-- ---- the cells of a wait

pub no_wait : (number : ℕ) (cells : List (List ℕ)) → (length cells ≡ 3 → ⊥) → wait_read number cells ≡ None
no_wait number [] n = refl
no_wait number (a ∷ []) n = refl
no_wait number (a ∷ b ∷ []) n = refl
no_wait number (a ∷ b ∷ c ∷ []) n = absurd (n refl)
no_wait number (a ∷ b ∷ c ∷ d ∷ more) n = refl

pub three_cells : (number : ℕ) (cells : List (List ℕ)) → length cells ≡ 3 → wait_read number cells ≡ (if is_exactly (codes "wait") (get_or cells 0 []) then wait_numbers number cells else None)
three_cells number [] n = absurd (omega (arith, n))
three_cells number (a ∷ []) n = absurd (omega (arith, n))
three_cells number (a ∷ b ∷ []) n = absurd (omega (arith, n))
three_cells number (a ∷ b ∷ c ∷ []) n = refl
three_cells number (a ∷ b ∷ c ∷ d ∷ more) n = absurd (omega (arith, n))

-- ---- one record after the other

less-suc : (turned done : ℕ) → done < turned → turned - done ≡ suc (turned - (done + 1))
less-suc turned done lt = omega (arith, lt)

pub waits-more : (turned done : ℕ) (waits : List ℕ) (row : ℕ) (cells : List (List ℕ)) (old new : List (List (List ℕ)))
    → done < turned → old ≡ cells ∷ new → wait_read (done + 1) cells ≡ Some row
    → with_those_after (waits ++ row ∷ []) (waits_read (turned - (done + 1)) ((done + 1) + 1) new) ≡ with_those_after waits (waits_read (turned - done) (done + 1) old)
waits-more turned done waits row cells old new lt is made =
    let left : ℕ = turned - (done + 1) in
    sym (after-more waits row (waits_read left ((done + 1) + 1) new))
    ∙ (ap (λ o. with_those_after waits (one_spelled (done + 1) o (waits_read left ((done + 1) + 1) new))) (sym made)
    ∙ (ap (λ rs. with_those_after waits (waits_read (suc left) (done + 1) rs)) (sym is)
    ∙ ap (λ k. with_those_after waits (waits_read k (done + 1) old)) (sym (less-suc turned done lt))))

pub rest-more : (turned done : ℕ) (cells : List (List ℕ)) (old new : List (List (List ℕ))) → done < turned → old ≡ cells ∷ new → drop (turned - (done + 1)) new ≡ drop (turned - done) old
rest-more turned done cells old new lt is =
    ap (λ rs. drop (suc (turned - (done + 1))) rs) (sym is) ∙ ap (λ k. drop k old) (sym (less-suc turned done lt))

pub waits-missing : (turned done : ℕ) (waits : List ℕ) (old : List (List (List ℕ))) → done < turned → old ≡ [] → with_those_after waits (waits_read (turned - done) (done + 1) old) ≡ Err (fault.Shape (done + 1))
waits-missing turned done waits old lt is =
    ap (λ k. with_those_after waits (waits_read k (done + 1) old)) (less-suc turned done lt)
    ∙ ap (λ rs. with_those_after waits (waits_read (suc (turned - (done + 1))) (done + 1) rs)) is

pub waits-fault : (turned done : ℕ) (waits : List ℕ) (cells : List (List ℕ)) (old new : List (List (List ℕ))) → done < turned → old ≡ cells ∷ new → wait_read (done + 1) cells ≡ None
    → with_those_after waits (waits_read (turned - done) (done + 1) old) ≡ Err (fault.Shape (done + 1))
waits-fault turned done waits cells old new lt is none =
    let left : ℕ = turned - (done + 1) in
    ap (λ k. with_those_after waits (waits_read k (done + 1) old)) (less-suc turned done lt)
    ∙ (ap (λ rs. with_those_after waits (waits_read (suc left) (done + 1) rs)) is
    ∙ ap (λ o. with_those_after waits (one_spelled (done + 1) o (waits_read left ((done + 1) + 1) new))) none)

none-left : (turned done : ℕ) → turned ≤ done → turned - done ≡ 0
none-left turned done le = omega (arith, le)

pub waits-end : (turned done : ℕ) (waits : List ℕ) (old : List (List (List ℕ))) → turned ≤ done → with_those_after waits (waits_read (turned - done) (done + 1) old) ≡ Ok waits
waits-end turned done waits old le = ap (λ k. with_those_after waits (waits_read k (done + 1) old)) (none-left turned done le) ∙ ap Ok (append-nil waits)

pub rest-end : (turned done : ℕ) (old : List (List (List ℕ))) → turned ≤ done → drop (turned - done) old ≡ old
rest-end turned done old le = ap (λ k. drop k old) (none-left turned done le)

-- ---- the order of waits

in_order : (row number before wait : ℕ) (later : List ℕ) → before ≤ wait → wait ≤ row → misplaced row number before (wait ∷ later) ≡ misplaced row (number + 1) wait later
in_order row number before wait later above below = rw (le-leb before wait above, le-leb wait row below) refl

pub order-more : (row before wait i : ℕ) (waits : List ℕ) → i < length waits → get_or waits i wait ≡ wait → before ≤ wait → wait ≤ row
    → misplaced row ((i + 1) + 1) wait (drop (i + 1) waits) ≡ misplaced row (i + 1) before (drop i waits)
order-more row before wait i waits lt at above below =
    sym (ap (misplaced row (i + 1) before) (drop_more waits i wait lt ∙ ap (λ z. z ∷ drop (i + 1) waits) at) ∙ in_order row (i + 1) before wait (drop (i + 1) waits) above below)

pub waits-in-order : (row number before : ℕ) (waits : List ℕ) → AreWaits row before waits → misplaced row number before waits ≡ None
waits-in-order row number before [] are = refl
waits-in-order row number before (wait ∷ later) are = in_order row number before wait later are.0 are.1 ∙ waits-in-order row (number + 1) wait later are.2
