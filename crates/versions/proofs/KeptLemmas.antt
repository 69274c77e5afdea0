-- What accepted requests keep of a job.
use Rattle.std.proofs.Common.{get_or, ◌≡◌, ◌≤◌, ◌+◌, ℕ, Bool, true, false, List, [], ◌∷◌, ◌⊎◌, inl, inr, ◌==◌, length, Option, Some, None, refl, sym, ap, subst, ◌∙◌, arith}
use Rattle.std.specs.Option.{option_or}
use Rattle.std.specs.Prelude.{option_map, All, IsTrue, nat_le, nat_lt, not, ◌&&◌, ◌||◌, slice_get, slice_set, if◌then◌else◌}
use Rattle.std.proofs.lemmas.Bool.{and_from, and_parts, cases_eq, eqb-true, not-true, or_cases, or_left, or_right}
use Rattle.std.proofs.lemmas.Bool.Decides.{nat_tests}
use Rattle.std.proofs.lemmas.List.{length-map}
use Rattle.std.proofs.lemmas.Option.{same_Some, slice_get-get_or, slice_get-map, slice_get_within}
use Rattle.std.proofs.lemmas.List.Elements.{All-cons, All-head, All-tail}
use Rattle.jobs.proofs.KindLemmas.{one_kind}
use Rattle.jobs.specs.Kinds.{are_free, is_kind, key_of, kind_of, row_of}
use Rattle.jobs.specs.Nodes.{fan_out, is_fixed, is_free}
use Rattle.jobs.specs.JobView.{JobView}
use Rattle.jobs.specs.declared.func.Func.{Func}
use Rattle.jobs.specs.declared.kind.Kind.{Kind}
use Rattle.jobs.specs.declared.func.NodeDef.{NodeDef}
use Rattle.versions.specs.declared.book.Current.{Current}
use Rattle.versions.specs.declared.judging.Code.{Code}
use Rattle.versions.specs.declared.judging.Code.TheVariants as code
use Rattle.versions.specs.declared.fault.QFault.{QFault}
use Rattle.versions.specs.declared.fault.QFault.TheVariants as fault
use Rattle.versions.specs.declared.request.Change.{Change}
use Rattle.versions.specs.declared.request.Request.{Request}
use Rattle.versions.specs.Book.{accepted, current_version, first_book, with_change}
use Rattle.versions.specs.Judged.{AreAccepted, accepting, by_fault, judged_from, refusing}
use Rattle.versions.specs.Judging.{fault_of, first_with, is_empty, is_key, is_like, leaves_once, may_replace, may_replace_at, named, roof_at, stale, whole_fault}
use Rattle.versions.specs.Kept.{AreInOrder, KeepKinds, KeepsKind}
use Rattle.versions.proofs.BookLemmas.{long_still, other_place}
use Rattle.versions.proofs.FirstLemmas.{named-none}
use Rattle.versions.proofs.YoungLemmas.{none_each, same_place}

-- the function is the one that the job gives the node, or may replace it there
abbrev pub MayStand : JobView → ℕ → NodeDef → Func → Type 0
MayStand job n node f = (f ≡ node.func) ⊎ (may_replace node.func f node.roof (leaves_once job.edges n) ≡ true)

-- so it is with each function of the book
pub record IsKept (job : JobView) (book : List Current) : Type 0 where
  pub long : length book ≡ length job.nodes
  pub stands : (n : ℕ) (current : Current) (node : NodeDef) → slice_get book n ≡ Some current → slice_get job.nodes n ≡ Some node → MayStand job n node current.func

same_key : (a b : Option ℕ) → is_key a b ≡ true → a ≡ b
same_key None None e = refl
same_key (Some a) (Some b) e = ap Some (eqb-true a b e)
same_key _ _ e = absurd (cc)

-- two functions of one kind have one row and one key, and requests change their kind
pub record AreLike (a b : Func) : Type 0 where
  pub kind : kind_of a ≡ kind_of b
  pub key : key_of a ≡ key_of b
  pub fixed : is_fixed a ≡ false

pub are_like : (a b : Func) → is_like a b ≡ true → AreLike a b
are_like a b e =
    let p = and_parts (not (is_fixed a)) (is_kind (kind_of a) (kind_of b) && is_key (key_of a) (key_of b)) e in
    let q = and_parts (is_kind (kind_of a) (kind_of b)) (is_key (key_of a) (key_of b)) p.1 in
    record { kind = one_kind (kind_of a) (kind_of b) q.0; key = same_key (key_of a) (key_of b) q.1; fixed = not-true (is_fixed a) p.0 }

like_on : (a b c : Func) → is_like a b ≡ true → is_like b c ≡ true → is_like a c ≡ true
like_on a b c ab bc =
    let x = are_like a b ab in
    let q : (is_kind (kind_of b) (kind_of c) && is_key (key_of b) (key_of c)) ≡ true = (and_parts (not (is_fixed b)) (is_kind (kind_of b) (kind_of c) && is_key (key_of b) (key_of c)) bc).1 in
    rw (x.fixed, x.kind, x.key) q

like_free : (a b : Func) → is_like a b ≡ true → is_free a ≡ is_free b
like_free a b ab = ap (λ (k : Kind). are_free (row_of k).followers) (are_like a b ab).kind

-- what may replace a function that may replace another may replace that
replaces : (a b c : Func) (roof : ℕ) (once : Bool) → may_replace a b roof once ≡ true → may_replace b c roof once ≡ true → may_replace a c roof once ≡ true
replaces a b c roof once ab bc =
    let p = and_parts (is_like a b || (is_free a && is_free b && once)) (nat_le (fan_out b) roof) ab in
    let q = and_parts (is_like b c || (is_free b && is_free c && once)) (nat_le (fan_out c) roof) bc in
    and_from (is_like a c || (is_free a && is_free c && once)) (nat_le (fan_out c) roof)
    (kinds (or_cases (is_like a b) (is_free a && is_free b && once) p.0) (or_cases (is_like b c) (is_free b && is_free c && once) q.0)) q.1
  where
    free : is_free a ≡ true → is_free c ≡ true → once ≡ true → (is_like a c || (is_free a && is_free c && once)) ≡ true
    free fa fc o = or_right (is_like a c) (is_free a && is_free c && once) (and_from (is_free a && is_free c) once (and_from (is_free a) (is_free c) fa fc) o)

    kinds : (is_like a b ≡ true) ⊎ ((is_free a && is_free b && once) ≡ true) → (is_like b c ≡ true) ⊎ ((is_free b && is_free c && once) ≡ true)
        → (is_like a c || (is_free a && is_free c && once)) ≡ true
    kinds (inl x) (inl y) = or_left (is_like a c) (is_free a && is_free c && once) (like_on a b c x y)
    kinds (inl x) (inr y) =
        let u = and_parts (is_free b && is_free c) once y in
        let v = and_parts (is_free b) (is_free c) u.0 in
        free (like_free a b x ∙ v.0) v.1 u.1
    kinds (inr x) (inl y) =
        let u = and_parts (is_free a && is_free b) once x in
        let v = and_parts (is_free a) (is_free b) u.0 in
        free v.0 (sym (like_free b c y) ∙ v.1) u.1
    kinds (inr x) (inr y) =
        let u = and_parts (is_free a && is_free b) once x in
        let v = and_parts (is_free a) (is_free b) u.0 in
        let s = and_parts (is_free b && is_free c) once y in
        let t = and_parts (is_free b) (is_free c) s.0 in
        free v.0 t.1 u.1

-- a function that may stand at the node, and one that may replace it
stands_after : (job : JobView) (n : ℕ) (node : NodeDef) (current f : Func) → MayStand job n node current → may_replace current f node.roof (leaves_once job.edges n) ≡ true
    → may_replace node.func f node.roof (leaves_once job.edges n) ≡ true
stands_after job n node current f (inl same) may = subst (λ (g : Func). may_replace g f node.roof (leaves_once job.edges n) ≡ true) same may
stands_after job n node current f (inr kept) may = replaces node.func current f node.roof (leaves_once job.edges n) kept may

not_not : (b : Bool) → not b ≡ false → b ≡ true
not_not true e = refl
not_not false e = absurd (cc)

-- where the first of eight faults is none, so are the last three
last_three : (a b c d e f g h : Option QFault) → option_or a (option_or b (option_or c (option_or d (option_or e (option_or f (option_or g h)))))) ≡ None
    → (f ≡ None) × (g ≡ None) × (h ≡ None)
last_three None None None None None None None h none = (refl, refl, none)
last_three _ _ _ _ _ _ _ h none = absurd (cc)

-- a request without a fault changes no kinds, carries no counts badly, and has none of the faults of a whole request
pub free_parts : (book : List Current) (job : JobView) (request : Request) (last : ℕ) → fault_of book job request last ≡ None
    → (first_with code.KindOrKey book job [] request.changes ≡ None) × (first_with code.BadCarry book job [] request.changes ≡ None)
    × (whole_fault request last ≡ None)
free_parts book job request last free =
    let fault_with : (ℕ → QFault) → Code → Option QFault = λ f k. named f (first_with k book job [] request.changes) in
    let parts = last_three (fault_with fault.NoNode code.NoNode) (fault_with fault.Fixed code.Fixed) (fault_with fault.NodeTwice code.NodeTwice)
    (stale book request.changes (first_with code.Stale book job [] request.changes)) (fault_with fault.IllTyped code.IllTyped)
    (fault_with fault.KindOrKey code.KindOrKey) (fault_with fault.BadCarry code.BadCarry) (whole_fault request last) free in (
      named-none fault.KindOrKey (first_with code.KindOrKey book job [] request.changes) parts.0,
      named-none fault.BadCarry (first_with code.BadCarry book job [] request.changes) parts.1,
      parts.2,
    )

-- a request without a fault keeps the kinds of the functions that a book has
free-kept : (book : List Current) (job : JobView) (request : Request) (last : ℕ) → IsKept job book → fault_of book job request last ≡ None → All (KeepsKind job) request.changes
free-kept book job request last kept free =
    let none = (free_parts book job request last free).0 in
    λ i d lt node there.
    let change : Change = get_or request.changes i d in
    let may = not_not (may_replace_at (slice_get book change.node) change.func (roof_at (slice_get job.nodes change.node)) (leaves_once job.edges change.node))
    (none_each code.KindOrKey book job [] request.changes none i change (slice_get-get_or request.changes i d lt)) in
    by_entry change node there (slice_get book change.node) refl may
  where
    by_entry : (change : Change) (node : NodeDef) → slice_get job.nodes change.node ≡ Some node → (entry : Option Current) → slice_get book change.node ≡ entry
        → may_replace_at (slice_get book change.node) change.func (roof_at (slice_get job.nodes change.node)) (leaves_once job.edges change.node) ≡ true
        → IsTrue (may_replace node.func change.func node.roof (leaves_once job.edges change.node))
    by_entry change node there None is may =
        let inside = slice_get_within job.nodes change.node node there in
        let here : slice_get book change.node ≡ Some (get_or book change.node (record { version = 0; func = change.func })) =
        slice_get-get_or book change.node _ (omega (arith, inside, kept.long)) in
        absurd (cc)
    by_entry change node there (Some current) is may =
        let stands = kept.stands change.node current node is there in
        let once : Bool = leaves_once job.edges change.node in
        let moved : may_replace_at (Some current) change.func (roof_at (Some node)) once ≡ true =
        subst (λ (n : Option NodeDef). may_replace_at (Some current) change.func (roof_at n) once ≡ true) there (
        subst (λ (c : Option Current). may_replace_at c change.func (roof_at (slice_get job.nodes change.node)) once ≡ true) is may) in
        stands_after job change.node node current.func change.func stands moved

-- the book after changes that keep the kinds keeps them too
kept_after : (job : JobView) (book : List Current) (changes : List Change) → IsKept job book → All (KeepsKind job) changes → IsKept job (accepted book changes)
unfolding accepted
kept_after job book [] kept all = kept
kept_after job book (change ∷ rest) kept all =
    kept_after job (with_change book change.node change.func) rest (record { long = long_still book change.node _ ∙ kept.long; stands = stands }) (All-tail (KeepsKind job) change rest all)
  where
    entry : Current
    entry = record { version = current_version (slice_get book change.node) + 1; func = change.func }

    stands : (n : ℕ) (current : Current) (node : NodeDef) → slice_get (with_change book change.node change.func) n ≡ Some current → slice_get job.nodes n ≡ Some node → MayStand job n node current.func
    stands n current node at there =
        let lt = slice_get_within job.nodes n node there in
        elim (cases_eq change.node n) [
          | inl same ↦
              let here : slice_get (slice_set book change.node entry) change.node ≡ Some entry = same_place book change.node entry (omega (arith, lt, same, kept.long)) in
              let is : entry ≡ current = same_Some entry current (sym here ∙ (rw same refl ∙ at)) in
              let may : IsTrue (may_replace node.func change.func node.roof (leaves_once job.edges change.node)) = All-head (KeepsKind job) change rest all node (rw same there) in
              let here' : may_replace node.func change.func node.roof (leaves_once job.edges n) ≡ true =
              subst (λ k. may_replace node.func change.func node.roof (leaves_once job.edges k) ≡ true) same may in
              inr (rw (← is) here')
          | inr ne ↦ kept.stands n current node (sym (other_place book change.node n entry ne) ∙ at) there
        ]

kept_at_first : (job : JobView) → IsKept job (first_book job.nodes)
kept_at_first job = record { long = length-map job.nodes (λ (d : NodeDef). record { version = 0; func = d.func }); stands = stands }
  where
    stands : (n : ℕ) (current : Current) (node : NodeDef) → slice_get (first_book job.nodes) n ≡ Some current → slice_get job.nodes n ≡ Some node → MayStand job n node current.func
    stands n current node at there =
        let made : slice_get (first_book job.nodes) n ≡ Some (record { version = 0; func = node.func }) = slice_get-map (λ (d : NodeDef). record { version = 0; func = d.func }) job.nodes n ∙ ap (option_map (λ (d : NodeDef). record { version = 0; func = d.func })) there in
        let is = same_Some (record { version = 0; func = node.func }) current (sym made ∙ at) in
        inl (rw (← is) refl)

judged-kept : (job : JobView) (book : List Current) (last place : ℕ) (requests : List Request) → IsKept job book → (judged_from None job book last place requests).refused ≡ [] → KeepKinds job requests
unfolding judged_from
judged-kept job book last place [] kept e = λ k d lt. absurd (omega arith)
judged-kept job book last place (r ∷ rest) kept e = go (fault_of book job r last) refl e (λ later. judged-kept job (accepted book r.changes) r.after (place + 1) rest later)
  where
    go : (o : Option QFault) → fault_of book job r last ≡ o
        → (by_fault o (λ fault. refusing place fault (judged_from None job book last (place + 1) rest)) (accepting r (judged_from None job (accepted book r.changes) r.after (place + 1) rest))).refused ≡ []
        → (IsKept job (accepted book r.changes) → (judged_from None job (accepted book r.changes) r.after (place + 1) rest).refused ≡ [] → KeepKinds job rest)
        → KeepKinds job (r ∷ rest)
    go None is f later =
        let all = free-kept book job r last kept is in
        All-cons (λ (request : Request). All (KeepsKind job) request.changes) r rest all (later (kept_after job book r.changes kept all) f)
    go (Some q) is f later = absurd (cc)

pub accepted-kept : (job : JobView) (requests : List Request) → AreAccepted job requests → KeepKinds job requests
accepted-kept job requests e = judged-kept job (first_book job.nodes) 0 1 requests (kept_at_first job) e

not_below : (a b : ℕ) → nat_lt a b ≡ false → b ≤ a
not_below a b e = grind (arith, nat_tests)

-- a request without a fault waits for no earlier row than the one before it
free-after : (book : List Current) (job : JobView) (request : Request) (last : ℕ) → fault_of book job request last ≡ None → last ≤ request.after
free-after book job request last free =
    let whole = (free_parts book job request last free).2 in
    go (is_empty request.changes) refl (nat_lt request.after last) refl whole
  where
    go : (a : Bool) → is_empty request.changes ≡ a → (b : Bool) → nat_lt request.after last ≡ b
        → (if a then Some fault.Empty else if b then Some (fault.Backwards last) else None) ≡ None → last ≤ request.after
    go true none b is e = absurd (cc)
    go false some true is e = absurd (cc)
    go false some false is e = not_below request.after last is

judged-order : (job : JobView) (book : List Current) (last place : ℕ) (requests : List Request) → (judged_from None job book last place requests).refused ≡ [] → AreInOrder last requests
unfolding judged_from
judged-order job book last place [] e = tt
judged-order job book last place (r ∷ rest) e = go (fault_of book job r last) refl e (judged-order job (accepted book r.changes) r.after (place + 1) rest)
  where
    go : (o : Option QFault) → fault_of book job r last ≡ o
        → (by_fault o (λ fault. refusing place fault (judged_from None job book last (place + 1) rest)) (accepting r (judged_from None job (accepted book r.changes) r.after (place + 1) rest))).refused ≡ []
        → ((judged_from None job (accepted book r.changes) r.after (place + 1) rest).refused ≡ [] → AreInOrder r.after rest)
        → AreInOrder last (r ∷ rest)
    go None is f later = (free-after book job r last is, later f)
    go (Some q) is f later = absurd (cc)

pub accepted-order : (job : JobView) (requests : List Request) → AreAccepted job requests → AreInOrder 0 requests
accepted-order job requests e = judged-order job (first_book job.nodes) 0 1 requests e
