-- Records are cut at each border, and nowhere else.
use Rattle.std.proofs.Common.{◌≡◌, ◌++◌, ◌∷◌, [], List, Bool, true, false, refl, subst, if◌then◌else◌}
use Rattle.std.specs.Prelude.{All}
use Rattle.std.proofs.lemmas.List.Elements.{All-cons, All-head, All-nil, All-tail, All-weaker}
use Rattle.audit_parts.specs.Cut.{HasNoBorder, HaveBorders, before_parts, cut_parts, is_border}
use Rattle.audit_parts.proofs.CutLemmas.{BeginsBy, Fields, cut_begins}

-- ---- no border inside a part

-- the same, record by record
abbrev AreJoined : List Fields → Type 0
AreJoined [] = Unit {0}
AreJoined (x ∷ []) = Unit {0}
AreJoined (x ∷ y ∷ left) = (is_border x y ≡ false) × AreJoined (y ∷ left)

none_between : (before after : List Fields) (x y : Fields) → AreJoined (before ++ x ∷ y ∷ after) → is_border x y ≡ false
none_between [] after x y joined = joined.0
none_between (z ∷ []) after x y joined = joined.1.0
none_between (z ∷ w ∷ before) after x y joined = none_between (w ∷ before) after x y joined.1

none_in : (part : List Fields) → AreJoined part → HasNoBorder part
none_in part joined before after x y is = none_between before after x y (subst AreJoined is joined)

before_joined : (x : Fields) (parts : List (List Fields)) → All AreJoined parts → All AreJoined (before_parts x parts)
before_joined x [] all = All-cons AreJoined (x ∷ []) [] tt all
before_joined x ([] ∷ parts) all = All-cons AreJoined (x ∷ []) parts tt (All-tail AreJoined [] parts all)
before_joined x ((y ∷ part) ∷ parts) all = go (is_border x y) refl
  where
    go : (b : Bool) → is_border x y ≡ b → All AreJoined (if b then (x ∷ []) ∷ (y ∷ part) ∷ parts else (x ∷ y ∷ part) ∷ parts)
    go true e = All-cons AreJoined (x ∷ []) ((y ∷ part) ∷ parts) tt all
    go false e =
        All-cons AreJoined (x ∷ y ∷ part) parts (e, All-head AreJoined (y ∷ part) parts all) (All-tail AreJoined (y ∷ part) parts all)

cut_joined : (records : List Fields) → All AreJoined (cut_parts records)
cut_joined [] = All-nil AreJoined
cut_joined (x ∷ records) = before_joined x (cut_parts records) (cut_joined records)

pub cut_inside : (records : List Fields) → All HasNoBorder (cut_parts records)
cut_inside records = All-weaker AreJoined HasNoBorder none_in (cut_parts records) (cut_joined records)

-- ---- a border between parts

-- the last record of the first part and the first record of the second
abbrev IsParted : List Fields → List Fields → Type 0
IsParted first second = (before after : List Fields) (x y : Fields) → first ≡ before ++ x ∷ [] → second ≡ y ∷ after → is_border x y ≡ true

-- the same of all neighbours, part by part
abbrev AreParted : List (List Fields) → Type 0
AreParted [] = Unit {0}
AreParted (part ∷ []) = Unit {0}
AreParted (part ∷ next ∷ parts) = IsParted part next × AreParted (next ∷ parts)

not_none : (before : List Fields) (x : Fields) → [] ≡ before ++ x ∷ [] → ⊥
not_none [] x e = cc e
not_none (y ∷ before) x e = cc e

one_parted : (x y : Fields) (part : List Fields) → is_border x y ≡ true → IsParted (x ∷ []) (y ∷ part)
one_parted x y part border [] after u v first second =
    let same : x ≡ u = cc first in
    let next : y ≡ v = cc second in
    rw (← same, ← next) border
one_parted x y part border (w ∷ before) after u v first second =
    let none : [] ≡ before ++ u ∷ [] = cc first in
    absurd (not_none before u none)

more_parted : (x y : Fields) (part next : List Fields) → IsParted (y ∷ part) next → IsParted (x ∷ y ∷ part) next
more_parted x y part next parted [] after u v first second =
    let none : y ∷ part ≡ [] = cc first in
    absurd (cc none)
more_parted x y part next parted (w ∷ before) after u v first second =
    let left : y ∷ part ≡ before ++ u ∷ [] = cc first in
    parted before after u v left second

joined_parted : (x y : Fields) (part : List Fields) (parts : List (List Fields)) → AreParted ((y ∷ part) ∷ parts) → AreParted ((x ∷ y ∷ part) ∷ parts)
joined_parted x y part [] all = tt
joined_parted x y part (next ∷ parts) all = (more_parted x y part next all.0, all.1)

before_parted : (x y : Fields) (parts : List (List Fields)) → BeginsBy y parts → AreParted parts → AreParted (before_parts x parts)
before_parted x y [] begins all = tt
before_parted x y ([] ∷ parts) begins all = absurd begins
before_parted x y ((z ∷ part) ∷ parts) begins all = go (is_border x z) refl
  where
    go : (b : Bool) → is_border x z ≡ b → AreParted (if b then (x ∷ []) ∷ (z ∷ part) ∷ parts else (x ∷ z ∷ part) ∷ parts)
    go true e = (one_parted x z part e, all)
    go false e = joined_parted x z part parts all

cut_parted : (records : List Fields) → AreParted (cut_parts records)
cut_parted [] = tt
cut_parted (x ∷ []) = tt
cut_parted (x ∷ y ∷ records) = before_parted x y (cut_parts (y ∷ records)) (cut_begins y records) (cut_parted (y ∷ records))

parted_at : (earlier later : List (List Fields)) (first second : List Fields) → AreParted (earlier ++ first ∷ second ∷ later) → IsParted first second
parted_at [] later first second all = all.0
parted_at (part ∷ []) later first second all = all.1.0
parted_at (part ∷ next ∷ earlier) later first second all = parted_at (next ∷ earlier) later first second all.1

pub cut_between : (records : List Fields) → HaveBorders (cut_parts records)
cut_between records earlier later before after x y is =
    parted_at earlier later (before ++ x ∷ []) (y ∷ after) (subst AreParted is (cut_parted records)) before after x y refl refl
