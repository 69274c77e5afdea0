-- The records that a text has left: the length of the text is fuel enough for them, and a read takes the first.
use Rattle.std.specs.Prelude.{IfErr, IfOk, IsErrAnd, IsTrue, MatchBool, MatchResult, OnOk, is_none}
use Rattle.std.proofs.Common.{Bor, Result, Ok, Err, ◌≡◌, ◌<◌, ◌+◌, ℕ, zero, suc, List, [], ◌∷◌, ◌++◌, length, ◌||◌, Option, Some, None, Bool, true, false, if◌then◌else◌, refl, sym, ap, ◌∙◌, ◌⊎◌, inl, inr, arith, add-one}
use Rattle.csv.specs.Machine.{Read, next_record, step, is_end, ends_at_end}
use Rattle.csv.specs.Reading.{ReadRecord, Ready, Reached, ReadsOn, default_config, error_kind, has_failed, reader_trim, records_from, records_next, source_of, stops_reader, took_first}
use Rattle.csv.specs.declared.error.Error.{Error}
use Rattle.csv.specs.declared.parser.Config.{Config}
use Rattle.csv.specs.declared.parser.State.{State}
use Rattle.csv.specs.declared.parser.State.TheVariants as st
use Rattle.csv.specs.declared.reader.Reader.{Reader}
use Rattle.csv.specs.declared.reader.Trim.TheVariants as trim
use Rattle.csv.proofs.ReadFacts.{rows-end, rows-more}
use Rattle.payments.specs.Records.{AreUnread, Plain, records_of, unread_of}

end-read : (b : Bool) (v r : Read) → (if b then Some v else None) ≡ Some r → v ≡ r
end-read true v r e = cc
end-read false v r e = cc

byte-read : (b : Bool) (v r : Read) (o : Option Read) → (if b then Some v else o) ≡ Some r → (v ≡ r) ⊎ (o ≡ Some r)
byte-read true v r o e = inl (cc)
byte-read false v r o e = inr e

-- a read takes a byte, or was at the end of the text
next_record-shorter : (cfg : Config) (s : State) (f : List (List ℕ)) (p xs : List ℕ) (r : Read) → next_record cfg s f p xs ≡ Some r
    → (length r.2 < length xs) ⊎ ((xs ≡ []) × (r.1 ≡ st.StartRecord) × (r.2 ≡ []))
unfolding next_record
next_record-shorter cfg s f p [] r e =
    let v : (f ++ (p ∷ []), st.StartRecord, []) ≡ r = end-read (ends_at_end s) _ r e in
    inr (refl, sym (ap (λ (t : Read). t.1) v), sym (ap (λ (t : Read). t.2) v))
next_record-shorter cfg s f p (c ∷ rest) r e =
    elim (byte-read (is_end (step cfg s c).1) _ r _ e) [
      | inl done ↦
          let same : rest ≡ r.2 = ap (λ (t : Read). t.2) done in
          inl (rw (← same) (omega arith))
      | inr on ↦ elim (next_record-shorter cfg (step cfg s c).0 _ _ rest r on) [
        | inl less ↦ inl (omega arith)
        | inr ends ↦ inl (rw ends.2 (omega arith))
      ]
    ]

records_from-end : (cfg : Config) (m : ℕ) → records_from cfg m st.StartRecord [] ≡ []
unfolding records_from next_record
records_from-end cfg zero = refl
records_from-end cfg (suc m) = refl

-- any two numbers above the length give the same records
records_from-fuel : (cfg : Config) (m n : ℕ) (s : State) (xs : List ℕ) → length xs < m → length xs < n → records_from cfg m s xs ≡ records_from cfg n s xs
unfolding records_from
records_from-fuel cfg zero n s xs a b = absurd (omega arith)
records_from-fuel cfg (suc m) zero s xs a b = absurd (omega arith)
records_from-fuel cfg (suc m) (suc n) s xs a b =
    let go : (o : Option Read) → next_record cfg s [] [] xs ≡ o → records_next (records_from cfg m) o ≡ records_next (records_from cfg n) o
    = λ o. elim o as (λ v. next_record cfg s [] [] xs ≡ v → records_next (records_from cfg m) v ≡ records_next (records_from cfg n) v) [
      | None ↦ λ e. refl
      | Some r ↦ λ e. ap (λ (t : List (List (List ℕ))). r.0 ∷ t) (elim (next_record-shorter cfg s [] [] xs r e) [
        | inl less ↦ records_from-fuel cfg m n r.1 r.2 (omega arith) (omega arith)
        | inr ends ↦ rw (ends.1, ends.2) (records_from-end cfg m ∙ sym (records_from-end cfg n))
      ])
    ] in
    go _ refl

-- what a read gives, and then the records after it
records_of-some : (s : State) (xs : List ℕ) (r : Read) → next_record default_config s [] [] xs ≡ Some r
    → records_of s (Some xs) ≡ r.0 ∷ records_of r.1 (Some r.2)
unfolding records_from
records_of-some s xs r e =
    let cfg = default_config in
    let tail : records_from cfg (length xs) r.1 r.2 ≡ records_from cfg (length r.2 + 1) r.1 r.2 = elim (next_record-shorter cfg s [] [] xs r e) [
      | inl less ↦ records_from-fuel cfg (length xs) (length r.2 + 1) r.1 r.2 less (omega arith)
      | inr ends ↦ rw (ends.1, ends.2) (records_from-end cfg (length xs) ∙ sym (records_from-end cfg (length {A = ℕ} [] + 1)))
    ] in
    rw (add-one, e) (ap (λ (t : List (List (List ℕ))). r.0 ∷ t) tail)

-- no read, no records
records_of-none : (s : State) (xs : List ℕ) → next_record default_config s [] [] xs ≡ None → records_of s (Some xs) ≡ []
unfolding records_from
records_of-none s xs e = rw (add-one, e) refl

after_read : (s s2 : State) (y z : List ℕ) (f : List (List ℕ)) (p : Read) → next_record default_config s [] [] y ≡ Some p → f ≡ p.0 → p.1 ≡ s2 → p.2 ≡ z
    → records_of s (Some y) ≡ f ∷ records_of s2 (Some z)
after_read s s2 y z f p e same state rest = rw (same, ← state, ← rest) (records_of-some s y p e)

-- a reader of bytes that tell what is left
abbrev Text : Type 0
Text = Reader (Bor (List ℕ))

told : (b : Bool) (xs ys : List ℕ) → (y : List ℕ) × ((if b then Some xs else Some ys) ≡ Some y)
told true xs ys = (xs, refl)
told false xs ys = (ys, refl)

-- the bytes that are left are known unless the reader has failed
known : (a : Text) → has_failed a ≡ false → (y : List ℕ) × (source_of (λ s. Some s.now) a ≡ Some y)
known a good = rw good (told _ _ _)

ready-cases : {H : Type 0} (first : Bool) (headers : Option H) → IsTrue (first || is_none headers) → (first ≡ true) ⊎ (headers ≡ None)
ready-cases true headers is = inl refl
ready-cases false None is = inr refl
ready-cases false (Some h) is = absurd (cc is)

or-true : (b : Bool) → IsTrue (b || true)
or-true true = refl
or-true false = refl

plain-Ready : (a : Text) → Plain a → Ready a
plain-Ready a plain = elim (ready-cases _ _ plain.ready) [
  | inl first ↦ inl first
  | inr none ↦ inr (inr (plain.headless, none))
]

Ready-plain : (a : Text) → a.has_headers ≡ false → Ready a → IsTrue (a.first || is_none a.headers)
Ready-plain a headless (inl first) = rw first refl
Ready-plain a headless (inr (inl names)) = absurd (cc (names.0, headless))
Ready-plain a headless (inr (inr none)) = rw none.1 (or-true a.first)

failed-none : (a : Text) → has_failed a ≡ true → unread_of a ≡ []
failed-none a failed = rw failed refl

read-found : (a b : Text) (f : List (List ℕ)) → Plain a → has_failed a ≡ false → ReadRecord (λ s. Some s.now) a b true f → unread_of a ≡ f ∷ unread_of b
unfolding Reached
read-found a b f plain good r =
    let (y, source) = known a good in
    let (z, at, reached) = rows-more (λ (s : Bor (List ℕ)). Some s.now) a b f default_config a.state y y [] plain.config source (refl, refl) r in
    let (p, e, same, ends) = reached in
    rw (source, at) (after_read a.state b.state y z f p e same ends.0 ends.1)

read-none : (a b : Text) (f : List (List ℕ)) → Plain a → has_failed a ≡ false → ReadRecord (λ s. Some s.now) a b false f → unread_of a ≡ []
read-none a b f plain good r =
    let (y, source) = known a good in
    rw source (records_of-none a.state y (rows-end (λ (s : Bor (List ℕ)). Some s.now) a b f default_config y plain.config source r))

found-or-none : (a b : Text) (f : List (List ℕ)) (found : Bool) → Plain a → has_failed a ≡ false → ReadRecord (λ s. Some s.now) a b found f
    → MatchBool found (unread_of a ≡ f ∷ unread_of b) (unread_of a ≡ [])
found-or-none a b f true plain good r = read-found a b f plain good r
found-or-none a b f false plain good r = read-none a b f plain good r

-- what the next read gives
pub unread_of-next : (a b : Text) (f : List (List ℕ)) (read : Result Bool Error) → AreUnread a → (has_failed a ≡ true → read ≡ Ok false)
    → IfOk read (λ found. (reader_trim a ≡ trim.None) → Ready a → ReadRecord (λ s. Some s.now) a b found f)
    → IfOk read (λ found. MatchBool found (unread_of a ≡ f ∷ unread_of b) (unread_of a ≡ []))
unread_of-next a b f (Err e) plain failed reads = tt
unread_of-next a b f (Ok found) plain failed reads =
    let go : (bad : Bool) → has_failed a ≡ bad → MatchBool found (unread_of a ≡ f ∷ unread_of b) (unread_of a ≡ [])
    = λ bad. elim bad as (λ bad. has_failed a ≡ bad → MatchBool found (unread_of a ≡ f ∷ unread_of b) (unread_of a ≡ [])) [
      | true ↦ λ is. let none : found ≡ false = cc (failed is) in rw none (failed-none a is)
      | false ↦ λ is. found-or-none a b f found (plain is) is (reads (plain is).trim (plain-Ready a (plain is)))
    ] in
    go (has_failed a) refl

-- what a read leaves
pub AreUnread-read : (a b : Text) (f : List (List ℕ)) (read : Result Bool Error) → AreUnread a → (has_failed a ≡ true → read ≡ Ok false)
    → IfOk read (λ found. (reader_trim a ≡ trim.None) → Ready a → ReadRecord (λ s. Some s.now) a b found f)
    → (reader_trim a ≡ trim.None → OnOk read (took_first b ≡ true))
    → OnOk read (has_failed b ≡ has_failed a)
    → IfErr read (λ e. has_failed b ≡ stops_reader (error_kind e))
    → IfErr read (λ e. stops_reader (error_kind e) ≡ false → ReadsOn a b)
    → AreUnread b
AreUnread-read a b f (Ok found) plain failed reads ready goes fails goes_on good =
    let was = plain (sym goes ∙ good) in
    let r = reads was.trim (plain-Ready a was) in
    record { config = r.2 ∙ was.config; trim = r.3 ∙ was.trim; headless = r.4 ∙ was.headless; ready = rw (ready was.trim) refl }
AreUnread-read a b f (Err e) plain failed reads ready goes fails goes_on good =
    let go : (bad : Bool) → has_failed a ≡ bad → Plain b
    = λ bad. elim bad as (λ bad. has_failed a ≡ bad → Plain b) [
      | true ↦ λ is. absurd (cc (failed is))
      | false ↦ λ is.
          let was = plain is in
          let on = goes_on (sym fails ∙ good) in
          let headless = on.3 ∙ was.headless in
          record { config = on.0 ∙ was.config; trim = on.1 ∙ was.trim; headless = headless; ready = Ready-plain b headless (on.4 (plain-Ready a was)).0 }
    ] in
    go (has_failed a) refl

-- a call that only changes the error
pub IfOk-map_err : {E F : Type 0} (read : Result Bool E) (made : Result Bool F) (P : Bool → Type 0) (post : E → F → Type 0)
    → MatchResult read (λ x. made ≡ Ok x) (λ e. IsErrAnd made (post e)) → IfOk read P → IfOk made P
IfOk-map_err (Ok x) made P post is here = rw is here
IfOk-map_err (Err e) (Ok x) P post is here = absurd is
IfOk-map_err (Err e) (Err e2) P post is here = tt
