-- Bytes that are read or copied into a part of a room.
use Rattle.std.proofs.Common.{◌≡◌, ◌∙◌, ◌<◌, ◌≤◌, ◌+◌, ◌-◌, ◌++◌, ℕ, Bool, true, false, cond, max, List, [], Option, Some, None, Result, Ok, Err, IfOk, OnErr, sym, ap, subst, arith, drop, length, min, take}
use Rattle.std.proofs.lemmas.List.{drop-drop, drop-take, drop_all, drop_at, length-drop, length-take, take-append-drop, take-append-le, take-take, take_all, take_at}
use Rattle.std.specs.Io.KnownBytes.{Consumes, IsAtEnd, Keeps, ReadConsumes}
use Rattle.input_pieces.specs.declared.tap.TapFailed.{TapFailed}

-- the room has the first of the bytes that were left, and the others are left then
pub given_and_left : (bytes left room old : List ℕ) (taken most n : ℕ) → left ≡ drop taken bytes → n ≡ min (length (take most left)) (length old)
    → room ≡ take n (take most left) ++ drop n old → drop taken bytes ≡ take n room ++ drop (taken + n) bytes
given_and_left bytes left room old taken most n is count copied =
    let short : n ≤ most = omega (arith, length-take most left) in
    let within : length (take n left) ≡ n = omega (arith, length-take n left, length-take most left) in
    let front : take n room ≡ take n left =
    ap (take n) (copied ∙ ap (λ l. l ++ drop n old) (take-take n most left short)) ∙ take_at (take n left) (drop n old) n within in
    sym (take-append-drop n (drop taken bytes))
    ∙ ap (λ l. l ++ drop n (drop taken bytes)) (ap (take n) (sym is) ∙ sym front)
    ∙ ap (λ l. take n room ++ l) (drop-drop n taken bytes)

pub given_count : (bytes left : List ℕ) (taken most m n room : ℕ) → left ≡ drop taken bytes → m ≡ min (max most 1) (length bytes - taken) → n ≡ min (length (take m left)) room
    → n ≡ min (max most 1) (min room (length (drop taken bytes)))
given_count bytes left taken most m n room is e f =
    omega (arith, e, f, length-take m left, ap length is, length-drop taken bytes)

-- nothing was given, though there was room, so nothing is left
pub nothing_left : (bytes : List ℕ) (taken most n room : ℕ) → n ≡ min (max most 1) (min room (length (drop taken bytes))) → n ≡ 0 → 0 < room → drop (taken + n) bytes ≡ []
nothing_left bytes taken most n room count zero some =
    drop_all (taken + n) bytes (omega (arith, count, zero, some, length-drop taken bytes))

-- what was read into a part of the room stands behind the front
pub read_in_place : (left still : Option (List ℕ)) (r : Result ℕ TapFailed) (front part rest : List ℕ) (at : ℕ) → length front ≡ at → IfOk r (λ n. n ≤ length part)
    → ReadConsumes left still r part → IfOk r (λ n. Consumes left still (take n (drop at (front ++ (part ++ rest)))))
read_in_place left still (Ok n) front part rest at long fits read =
    let P : List ℕ → Type 0 = Consumes left still in
    subst P (sym (ap (take n) (drop_at front (part ++ rest) at long) ∙ take-append-le n part rest fits)) read.0
read_in_place left still (Err e) front part rest at long fits read = tt

pub end_of_read : (left still : Option (List ℕ)) (r : Result ℕ TapFailed) (part : List ℕ) → 0 < length part → ReadConsumes left still r part → IfOk r (λ n. n ≡ 0 → IsAtEnd still)
end_of_read left still (Ok n) part some read = λ none. read.1 none some
end_of_read left still (Err e) part some read = tt

pub kept_by_read : (left still : Option (List ℕ)) (r : Result ℕ TapFailed) (part : List ℕ) → ReadConsumes left still r part → OnErr r (Keeps left still)
kept_by_read left still (Ok n) part read = tt
kept_by_read left still (Err e) part read = read

-- a text that was made longer begins with what it was
pub extend_keeps : (b : Bool) (text more items : List ℕ) (from : ℕ) → items ≡ cond b (text ++ more) text → from ≡ length text → take from items ≡ text
extend_keeps true text more items from is long = ap (take from) is ∙ take_at text more from (sym long)
extend_keeps false text more items from is long = ap (take from) is ∙ take_all from text (omega arith)

-- a text grew by what was read behind it
pub read_behind_text : (text room grown : List ℕ) (from n : ℕ) → take from room ≡ text → grown ≡ take (from + n) room → text ++ take n (drop from room) ≡ grown
read_behind_text text room grown from n front is =
    ap (λ l. l ++ take n (drop from room)) (sym front ∙ sym (take-take from (from + n) room (omega arith)))
    ∙ ap (λ l. take from (take (from + n) room) ++ l) (sym (drop-take from n room))
    ∙ take-append-drop from (take (from + n) room)
    ∙ sym is

-- a read behind one that kept the bytes
pub read_after_kept : (a b c : Option (List ℕ)) (n : ℕ) (room : List ℕ) → Keeps a b → Consumes b c (take n room) × (n ≡ 0 → 0 < length room → IsAtEnd c)
    → Consumes a c (take n room) × (n ≡ 0 → 0 < length room → IsAtEnd c)
read_after_kept None b c n room p q = (tt, q.1)
read_after_kept (Some x) None c n room p q = absurd p
read_after_kept (Some x) (Some y) None n room p q = absurd q.0
read_after_kept (Some x) (Some y) (Some z) n room p q = (sym p ∙ q.0, q.1)
