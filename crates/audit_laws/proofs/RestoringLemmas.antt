-- A journal is restored where the lanes agree with it.
use Rattle.std.proofs.Common.{◌≡◌, ◌∙◌, ◌==◌, ◌++◌, ℕ, List, [], ◌∷◌, inl, inr, refl, sym, ap, ap₂, subst, true, false, Bool, cond, map, filter}
use Rattle.std.proofs.lemmas.Bool.{eq-eqb, eqb-true}
use Rattle.sink_journal.specs.declared.journal.Entry.{Entry}
use Rattle.tuple_trace.specs.declared.tuple.Item.{Item}
use Rattle.tuple_trace.specs.declared.tuple.Item.TheVariants as item
use Rattle.flow_model.specs.SetupView.{SetupView}
use Rattle.flow_model.specs.Replay.{came_in, marker, shown}
use Rattle.flow_model.proofs.ElementLemmas.{IsIn}
use Rattle.audit_laws.specs.declared.audit.AuditEntry.{AuditEntry}
use Rattle.audit_laws.specs.declared.audit.AuditEntry.TheVariants as kept
use Rattle.audit_laws.specs.Faults.{AreItems, comes_by, seen}
use Rattle.audit_laws.specs.Restoring.{later_items, restored, taken_from, took, took_next}
use Rattle.audit_laws.specs.Trimmed.{trim, trimmed}

-- the entries that take something take it from one of these lanes
abbrev pub ComeBy : List ℕ → List AuditEntry → Type 0
ComeBy lanes [] = Unit {0}
ComeBy lanes (kept.Met l row birth ∷ more) = IsIn l lanes × ComeBy lanes more
ComeBy lanes (kept.Marked l r ∷ more) = IsIn l lanes × ComeBy lanes more
ComeBy lanes (kept.Turned r ∷ more) = ComeBy lanes more
ComeBy lanes (kept.Ended l ∷ more) = IsIn l lanes × ComeBy lanes more

-- a marker on a lane is that of its request
abbrev pub IsRightMark : SetupView → Item → Type 0
IsRightMark setup (item.Carry t) = Unit {0}
IsRightMark setup (item.Mark r c) = marker setup r ≡ item.Mark r c ∷ []
IsRightMark setup item.Last = Unit {0}

abbrev pub AreRightMarks : SetupView → List ℕ → (ℕ → List Item) → Type 0
AreRightMarks setup lanes left = (n : ℕ) (x : Item) → IsIn n lanes → IsIn x (left n) → IsRightMark setup x

abbrev pub AllAgree : List ℕ → (ℕ → List Item) → List AuditEntry → Type 0
AllAgree lanes left journal = (n : ℕ) → IsIn n lanes → AreItems n (left n) journal

-- what was restored is the journal that is sought
abbrev pub IsSought : SetupView → List ℕ → (ℕ → List Item) → List AuditEntry → List Entry → Type 0
IsSought setup lanes left journal found = (trimmed found ≡ journal) × ((n : ℕ) → IsIn n lanes → shown setup n found ≡ left n)

trim_took : (n : ℕ) (x : Item) → trim (took n x) ≡ seen n x
trim_took n (item.Carry t) = refl
trim_took n (item.Mark r c) = refl
trim_took n item.Last = refl

came_took : (setup : SetupView) (l n : ℕ) (x : Item) → IsRightMark setup x → came_in setup n (took l x) ≡ cond (l == n) (x ∷ []) []
came_took setup l n (item.Carry t) h = refl
came_took setup l n (item.Mark r c) h = ap (λ (m : List Item). cond (l == n) m []) h
came_took setup l n item.Last h = refl

-- an entry that takes from a lane
abbrev Takes : ℕ → AuditEntry → Type 0
Takes l k = (n : ℕ) → comes_by n k ≡ (l == n)

-- the next item of the lane is the entry's
next_item : (l : ℕ) (k : AuditEntry) (items : List Item) (more : List AuditEntry) → Takes l k → AreItems l items (k ∷ more)
    → (x : Item) × (xs : List Item) × (items ≡ x ∷ xs) × (seen l x ≡ k) × AreItems l xs more
next_item l k items more takes h = go items (h ∙ ap (λ (b : Bool). cond b (k ∷ filter (comes_by l) more) (filter (comes_by l) more)) (takes l ∙ eq-eqb l l refl))
  where
    go : (items : List Item) → map (seen l) items ≡ k ∷ filter (comes_by l) more → (x : Item) × (xs : List Item) × (items ≡ x ∷ xs) × (seen l x ≡ k) × AreItems l xs more
    go [] e = absurd (cc)
    go (x ∷ xs) e = (x, xs, refl, cc, cc)

later_in : (x : Item) (items : List Item) → IsIn x (later_items items) → IsIn x items
later_in x [] i = absurd i
later_in x (y ∷ items) i = inr i

step : (setup : SetupView) (lanes : List ℕ) (left : ℕ → List Item) (l : ℕ) (k : AuditEntry) (more : List AuditEntry) → IsIn l lanes → Takes l k → AllAgree lanes left (k ∷ more)
    → AreRightMarks setup lanes left
    → (AllAgree lanes (taken_from l left) more → AreRightMarks setup lanes (taken_from l left) → IsSought setup lanes (taken_from l left) more (restored (taken_from l left) more))
    → IsSought setup lanes left (k ∷ more) (took_next l (left l) ++ restored (taken_from l left) more)
step setup lanes left l k more here takes agree marks later = go (next_item l k (left l) more takes (agree l here))
  where
    agree_later : (n : ℕ) → IsIn n lanes → (xs : List Item) → later_items (left l) ≡ xs → AreItems l xs more → AreItems n (taken_from l left n) more
    agree_later n i xs e is = by_lane (l == n) refl
      where
        by_lane : (b : Bool) → (l == n) ≡ b → AreItems n (cond b (later_items (left n)) (left n)) more
        by_lane true same =
            subst (λ v. AreItems v (later_items (left v)) more) (eqb-true l n same) (subst (λ ys. AreItems l ys more) (sym e) is)
        by_lane false differ = agree n i ∙ ap (λ (b : Bool). cond b (k ∷ filter (comes_by n) more) (filter (comes_by n) more)) (takes n ∙ differ)

    marks_later : AreRightMarks setup lanes (taken_from l left)
    marks_later n x i j = by_lane (l == n) j
      where
        by_lane : (b : Bool) → IsIn x (cond b (later_items (left n)) (left n)) → IsRightMark setup x
        by_lane true j = marks n x i (later_in x (left n) j)
        by_lane false j = marks n x i j

    go : ((x : Item) × (xs : List Item) × (left l ≡ x ∷ xs) × (seen l x ≡ k) × AreItems l xs more)
        → IsSought setup lanes left (k ∷ more) (took_next l (left l) ++ restored (taken_from l left) more)
    go (x, xs, e, is, rest) =
        let r = later (λ n i. agree_later n i xs (ap later_items e) rest) marks_later in
        let right : IsRightMark setup x = marks l x here (subst (λ (ys : List Item). IsIn x ys) (sym e) (inl refl)) in
        let found : took_next l (left l) ++ restored (taken_from l left) more ≡ took l x ∷ restored (taken_from l left) more =
        ap (λ (ys : List Item). took_next l ys ++ restored (taken_from l left) more) e in
        subst (IsSought setup lanes left (k ∷ more)) (sym found) (
          ap₂ (λ (y : AuditEntry) (ys : List AuditEntry). y ∷ ys) (trim_took l x ∙ is) r.0,
          λ n i. ap₂ (λ (a b : List Item). a ++ b) (came_took setup l n x right) (r.1 n i) ∙ shows n (l == n) refl,
        )
      where
        shows : (n : ℕ) (b : Bool) → (l == n) ≡ b → cond b (x ∷ []) [] ++ cond b (later_items (left n)) (left n) ≡ left n
        shows n true same = subst (λ v. x ∷ later_items (left v) ≡ left v) (eqb-true l n same) (ap (λ (ys : List Item). x ∷ later_items ys) e ∙ sym e)
        shows n false differ = refl

pub restored_sought : (setup : SetupView) (lanes : List ℕ) (left : ℕ → List Item) (journal : List AuditEntry) → ComeBy lanes journal → AllAgree lanes left journal → AreRightMarks setup lanes left
    → IsSought setup lanes left journal (restored left journal)
restored_sought setup lanes left [] come agree marks = (refl, λ n i. empty_of n (left n) (agree n i))
  where
    empty_of : (n : ℕ) (items : List Item) → map (seen n) items ≡ [] → [] ≡ items
    empty_of n [] e = refl
    empty_of n (x ∷ xs) e = absurd (cc)
restored_sought setup lanes left (kept.Met l row birth ∷ more) come agree marks =
    step setup lanes left l (kept.Met l row birth) more come.0 (λ n. refl) agree marks (restored_sought setup lanes (taken_from l left) more come.1)
restored_sought setup lanes left (kept.Marked l r ∷ more) come agree marks =
    step setup lanes left l (kept.Marked l r) more come.0 (λ n. refl) agree marks (restored_sought setup lanes (taken_from l left) more come.1)
restored_sought setup lanes left (kept.Turned r ∷ more) come agree marks =
    let s = restored_sought setup lanes left more come agree marks in
    (ap (λ (ys : List AuditEntry). kept.Turned r ∷ ys) s.0, s.1)
restored_sought setup lanes left (kept.Ended l ∷ more) come agree marks =
    step setup lanes left l (kept.Ended l) more come.0 (λ n. refl) agree marks (restored_sought setup lanes (taken_from l left) more come.1)
