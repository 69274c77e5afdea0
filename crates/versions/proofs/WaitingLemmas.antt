-- Requests with the same changes are accepted if they wait for rows in their order.
use Rattle.std.proofs.Common.{◌≡◌, ◌∙◌, ◌+◌, ◌≤◌, ℕ, List, [], ◌∷◌, Bool, true, false, Option, Some, None, cond, nat_lt, refl, sym, subst, ap, arith}
use Rattle.std.specs.Option.{option_or}
use Rattle.std.proofs.lemmas.Bool.Decides.{nat_tests}
use Rattle.jobs.specs.JobView.{JobView}
use Rattle.versions.specs.Book.{accepted}
use Rattle.versions.specs.Judged.{accepting, by_fault, judged_from, refusing}
use Rattle.versions.specs.Judging.{fault_of, first_with, is_empty, named, stale, whole_fault}
use Rattle.versions.specs.Kept.{AreInOrder}
use Rattle.versions.specs.Waiting.{changes_of}
use Rattle.versions.specs.declared.book.Current.{Current}
use Rattle.versions.specs.declared.fault.QFault.{QFault}
use Rattle.versions.specs.declared.fault.QFault.TheVariants as fault
use Rattle.versions.specs.declared.judging.Code.TheVariants as code
use Rattle.versions.specs.declared.request.Change.{Change}
use Rattle.versions.specs.declared.request.Request.{Request}

or_swap : (x y z : Option QFault) → option_or x y ≡ None → (y ≡ None → z ≡ None) → option_or x z ≡ None
or_swap None y z e f = f e
or_swap (Some q) y z e f = absurd (cc)

-- the first of these faults, and else this one
abbrev all_or : List (Option QFault) → Option QFault → Option QFault
all_or [] y = y
all_or (x ∷ xs) y = option_or x (all_or xs y)

all_swap : (xs : List (Option QFault)) (y z : Option QFault) → all_or xs y ≡ None → (y ≡ None → z ≡ None) → all_or xs z ≡ None
all_swap [] y z e f = f e
all_swap (x ∷ xs) y z e f = or_swap x (all_or xs y) (all_or xs z) e (λ e. all_swap xs y z e f)

-- the faults of changes
abbrev change_faults : List Current → JobView → List Change → List (Option QFault)
change_faults book job changes =
    named fault.NoNode (first_with code.NoNode book job [] changes) ∷ named fault.Fixed (first_with code.Fixed book job [] changes)
    ∷ named fault.NodeTwice (first_with code.NodeTwice book job [] changes) ∷ stale book changes (first_with code.Stale book job [] changes)
    ∷ named fault.IllTyped (first_with code.IllTyped book job [] changes) ∷ named fault.KindOrKey (first_with code.KindOrKey book job [] changes)
    ∷ named fault.BadCarry (first_with code.BadCarry book job [] changes) ∷ []

pub not_below : (a b : ℕ) → b ≤ a → nat_lt a b ≡ false
not_below a b le = grind (arith, nat_tests)

whole_free : (q r : Request) (last later : ℕ) → r.changes ≡ q.changes → later ≤ r.after → whole_fault q last ≡ None → whole_fault r later ≡ None
whole_free q r last later same le free =
    ap (λ (cs : List Change). cond (is_empty cs) (Some fault.Empty) (cond (nat_lt r.after later) (Some (fault.Backwards later)) None)) same
    ∙ go (is_empty q.changes) (nat_lt q.after last) free
  where
    go : (a b : Bool) → cond a (Some fault.Empty) (cond b (Some (fault.Backwards last)) None) ≡ None → cond a (Some fault.Empty) (cond (nat_lt r.after later) (Some (fault.Backwards later)) None) ≡ None
    go true b e = absurd (cc)
    go false b e = ap (λ t. cond t (Some (fault.Backwards later)) None) (not_below r.after later le)

fault_free : (book : List Current) (job : JobView) (q r : Request) (last later : ℕ) → r.changes ≡ q.changes → later ≤ r.after → fault_of book job q last ≡ None → fault_of book job r later ≡ None
fault_free book job q r last later same le free =
    ap (λ (cs : List Change). all_or (change_faults book job cs) (whole_fault r later)) same
    ∙ all_swap (change_faults book job q.changes) (whole_fault q last) (whole_fault r later) free (whole_free q r last later same le)

pub head_same : (x y : List Change) (xs ys : List (List Change)) → x ∷ xs ≡ y ∷ ys → x ≡ y
head_same x y xs ys e = cc

pub tail_same : (x y : List Change) (xs ys : List (List Change)) → x ∷ xs ≡ y ∷ ys → xs ≡ ys
tail_same x y xs ys e = cc

pub accepted_like : (job : JobView) (book : List Current) (last later place : ℕ) (qs rs : List Request) → changes_of rs ≡ changes_of qs → (judged_from None job book last place qs).refused ≡ [] → AreInOrder later rs
    → (judged_from None job book later place rs).refused ≡ []
unfolding judged_from
accepted_like job book last later place [] [] same e o = refl
accepted_like job book last later place [] (r ∷ rs) same e o = absurd (cc)
accepted_like job book last later place (q ∷ qs) [] same e o = absurd (cc)
accepted_like job book last later place (q ∷ qs) (r ∷ rs) same e o =
    let head : r.changes ≡ q.changes = head_same r.changes q.changes (changes_of rs) (changes_of qs) same in
    let tail : changes_of rs ≡ changes_of qs = tail_same r.changes q.changes (changes_of rs) (changes_of qs) same in
    go (fault_of book job q last) refl e head tail (accepted_like job (accepted book q.changes) q.after r.after (place + 1) qs rs)
  where
    here : (o : Option QFault) → o ≡ None → (judged_from None job (accepted book r.changes) r.after (place + 1) rs).refused ≡ []
        → (by_fault o (λ fault. refusing place fault (judged_from None job book later (place + 1) rs)) (accepting r (judged_from None job (accepted book r.changes) r.after (place + 1) rs))).refused ≡ []
    here None is h = h
    here (Some f) is h = absurd (cc)

    go : (f : Option QFault) → fault_of book job q last ≡ f
        → (by_fault f (λ fault. refusing place fault (judged_from None job book last (place + 1) qs)) (accepting q (judged_from None job (accepted book q.changes) q.after (place + 1) qs))).refused ≡ []
        → r.changes ≡ q.changes → changes_of rs ≡ changes_of qs
        → (changes_of rs ≡ changes_of qs → (judged_from None job (accepted book q.changes) q.after (place + 1) qs).refused ≡ [] → AreInOrder r.after rs → (judged_from None job (accepted book q.changes) r.after (place + 1) rs).refused ≡ [])
        → (by_fault (fault_of book job r later) (λ fault. refusing place fault (judged_from None job book later (place + 1) rs)) (accepting r (judged_from None job (accepted book r.changes) r.after (place + 1) rs))).refused ≡ []
    go None is f head tail rec =
        here (fault_of book job r later) (fault_free book job q r last later head o.0 is)
        (subst (λ cs. (judged_from None job (accepted book cs) r.after (place + 1) rs).refused ≡ []) (sym head) (rec tail f o.1))
    go (Some q) is f head tail rec = absurd (cc)
