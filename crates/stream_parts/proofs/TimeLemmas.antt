-- Requests that a stream issues in time.
use Rattle.std.proofs.Common.{◌≡◌, ◌∙◌, ◌⊎◌, ◌+◌, ◌<◌, ◌≤◌, ◌++◌, ◌&&◌, ◌||◌, ℕ, All, Bool, List, []}
use Rattle.std.proofs.Common.{◌∷◌, None, Option, Some, ap, append_assoc, arith, false, if◌then◌else◌}
use Rattle.std.proofs.Common.{inl, inr, length, map, max, min, nat_le, not, refl, subst, sym, true}
use Rattle.std.proofs.Math.Nat.{max-eq_left}
use Rattle.std.proofs.Math.Seq.{drop-append_seam, take-append_seam}
use Rattle.std.proofs.lemmas.Bool.Decides.{nat_tests}
use Rattle.std.proofs.lemmas.List.{append-nil, map-append}
use Rattle.std.proofs.lemmas.List.Elements.{All-append, All-cons, All-head, All-nil, All-tail}
use Rattle.std.proofs.lemmas.List.Elements.{All-drop, All-take}
use Rattle.std.specs.List.{list_any}
use Rattle.std.specs.Prelude.{IfSome, is_some}
use Rattle.jobs.specs.Job.{job_view}
use Rattle.versions.specs.declared.request.Request.{Request}
use Rattle.stream_step.specs.Pending.{due_by, first_wait, is_due_by, is_held, left_by, lifted}
use Rattle.stream_step.specs.declared.stream.Stream.{Stream}
use Rattle.stream_step.proofs.PendingLemmas.{KeepOrder, due_then_left, order_back}
use Rattle.stream_run.specs.Parts.{IssuesUpTo, KeepsAsked}
use Rattle.stream_parts.specs.InTime.{IssuesFirst, NoneAsksBefore}

-- the request asks for a row up to this one; for this one or a later one; for a later one
abbrev IsBy : ℕ → Request → Type 0
IsBy row request = request.after ≤ row

abbrev IsFrom : ℕ → Request → Type 0
IsFrom row request = row ≤ request.after

abbrev IsAfter : ℕ → Request → Type 0
IsAfter row request = row < request.after

abbrev AreBy : ℕ → List Request → Type 0
AreBy row xs = All (λ (request : Request). request.after ≤ row) xs

abbrev AreFrom : ℕ → List Request → Type 0
AreFrom row xs = All (λ (request : Request). row ≤ request.after) xs

abbrev pub AreAfter : ℕ → List Request → Type 0
AreAfter row xs = All (λ (request : Request). row < request.after) xs

due-all : (last : ℕ) (xs : List Request) → AreBy last (due_by last xs)
due-all last [] = All-nil (IsBy last)
due-all last (x ∷ xs) = go (is_due_by last x) refl (due-all last xs)
  where
    go : (b : Bool) → is_due_by last x ≡ b → AreBy last (due_by last xs)
        → AreBy last (if b then x ∷ due_by last xs else due_by last xs)
    go true e more =
        let le : x.after ≤ last = grind (arith, nat_tests) in
        All-cons (IsBy last) x (due_by last xs) le more
    go false e more = more

left-all : (last : ℕ) (xs : List Request) → AreAfter last (left_by last xs)
left-all last [] = All-nil (IsAfter last)
left-all last (x ∷ xs) = go (is_due_by last x) refl (left-all last xs)
  where
    go : (b : Bool) → is_due_by last x ≡ b → AreAfter last (left_by last xs)
        → AreAfter last (if not b then x ∷ left_by last xs else left_by last xs)
    go true e more = more
    go false e more =
        let lt : last < x.after = grind (arith, nat_tests) in
        All-cons (IsAfter last) x (left_by last xs) lt more

from-after : (row : ℕ) (xs : List Request) → AreAfter row xs → AreFrom row xs
from-after row xs all k d lt = (let here = all k d lt in omega (arith, here))

by-later : (low high : ℕ) (xs : List Request) → low ≤ high → AreBy low xs → AreBy high xs
by-later low high xs le all k d lt = (let here = all k d lt in omega (arith, le, here))

front : (row : ℕ) (xs ys : List Request) → AreFrom row (xs ++ ys) → AreFrom row xs
front row xs ys all =
    subst (AreFrom row) (take-append_seam xs ys)
    (All-take (λ (request : Request). row ≤ request.after) (length xs) (xs ++ ys) all)

back : (row : ℕ) (xs ys : List Request) → AreFrom row (xs ++ ys) → AreFrom row ys
back row xs ys all =
    subst (AreFrom row) (drop-append_seam xs ys)
    (All-drop (λ (request : Request). row ≤ request.after) (length xs) (xs ++ ys) all)

-- requests that ask for a later row anyhow
lifted-late : (low high : ℕ) (xs : List Request) → low ≤ high → AreFrom high xs
    → map (lifted high) xs ≡ map (lifted low) xs
lifted-late low high [] le all = refl
lifted-late low high (x ∷ xs) le all =
    let here : high ≤ x.after = All-head (IsFrom high) x xs all in
    let lower : low ≤ x.after = omega (arith, le, here) in
    let same : max x.after high ≡ max x.after low = max-eq_left here ∙ sym (max-eq_left lower) in
    ap (λ n. (record x { after = n }) ∷ map (lifted high) xs) same
    ∙ ap (λ (l : List Request). (record x { after = max x.after low }) ∷ l)
    (lifted-late low high xs le (All-tail (IsFrom high) x xs all))

-- ---- one part

-- no request is pending that asks for a row up to this one
none-due : (row : ℕ) (xs : List Request) → list_any (is_due_by row) xs ≡ false → AreAfter row xs
none-due row [] e = All-nil (IsAfter row)
none-due row (x ∷ xs) e = go (is_due_by row x) refl e (none-due row xs)
  where
    go : (b : Bool) → is_due_by row x ≡ b → (b || list_any (is_due_by row) xs) ≡ false
        → (list_any (is_due_by row) xs ≡ false → AreAfter row xs) → AreAfter row (x ∷ xs)
    go true is f more = absurd (cc f)
    go false is f more =
        let lt : row < x.after = grind (arith, nat_tests) in
        All-cons (IsAfter row) x xs lt (more f)

pub after-undue : (exact : Option ℕ) (row : ℕ) (xs : List Request)
    → (is_some exact && list_any (is_due_by row) xs) ≡ false
    → IfSome exact (λ base. AreAfter row xs)
after-undue None row xs e = tt
after-undue (Some base) row xs e = none-due row xs e

-- what holds anyhow holds for the value of an option
pub some-all : (o : Option ℕ) {P : Type 0} → P → IfSome o (λ base. P)
some-all None is = tt
some-all (Some base) is = is

wait-within : (fed last : ℕ) (xs : List Request) → first_wait fed last xs ≤ last
wait-within fed last [] = omega arith
wait-within fed last (x ∷ xs) = go (is_due_by fed x) (λ n. wait-within fed n xs)
  where
    go : (b : Bool) → ((n : ℕ) → first_wait fed n xs ≤ n)
        → first_wait fed (if b then last else min last x.after) xs ≤ last
    go true more = more last
    go false more =
        let low : first_wait fed (min last x.after) xs ≤ min last x.after =
        more (min last x.after) in
        omega (arith, low)

-- of requests that ask for later rows, none asks for one before the first
wait-first : (fed last : ℕ) (xs : List Request) → AreAfter fed xs
    → AreFrom (first_wait fed last xs) xs
wait-first fed last [] all = All-nil (IsFrom last)
wait-first fed last (x ∷ xs) all =
    go (is_due_by fed x) refl (λ n. wait-first fed n xs (All-tail (IsAfter fed) x xs all))
  where
    go : (b : Bool) → is_due_by fed x ≡ b → ((n : ℕ) → AreFrom (first_wait fed n xs) xs)
        → AreFrom (first_wait fed (if b then last else min last x.after) xs) (x ∷ xs)
    go true e more =
        let here : fed < x.after = All-head (IsAfter fed) x xs all in
        let low : x.after ≤ fed = grind (arith, nat_tests) in
        absurd (omega (arith, here, low))
    go false e more =
        let low : first_wait fed (min last x.after) xs ≤ min last x.after =
        wait-within fed (min last x.after) xs in
        let here : first_wait fed (min last x.after) xs ≤ x.after = omega (arith, low) in
        All-cons (IsFrom (first_wait fed (min last x.after) xs)) x xs here
        (more (min last x.after))

-- the row up to which a part goes, as its last row before and how many come
pub wait-at : (exact : Option ℕ) (fed count end wait : ℕ) → fed + count ≡ end
    → IfSome exact (λ base. end ≡ wait) → IfSome exact (λ base. fed + count ≡ wait)
wait-at None fed count end wait same is = tt
wait-at (Some base) fed count end wait same is = same ∙ is

pub issues-none : (a : Stream) (last : ℕ) → IssuesFirst a last a
issues-none a last = record {
  now = [];
  pending_are = refl;
  issued = sym (append-nil a.setup.judged.accepted);
  due = All-nil (IsBy last);
}

-- what a part issues are the first pending requests
pub issues-one : KeepOrder → (a b : Stream) (last : ℕ) → a.start.row ≤ last → IssuesUpTo a last b
    → IssuesFirst a last b
issues-one law a b last le is =
    go (is_held a.exact a.start.row last) is.issued is.left
  where
    parted : due_by last a.pending ++ left_by last a.pending ≡ a.pending
    parted =
        due_then_left a.start.row last 0 a.pending le
        (order_back 0 a.setup.judged.accepted (map (lifted a.start.row) a.pending)
        (law (job_view a.setup.job)
        (a.setup.judged.accepted ++ map (lifted a.start.row) a.pending) a.accepted))

    go : (held : Bool) → b.setup.judged.accepted ≡ a.setup.judged.accepted
        ++ map (lifted a.start.row) (if held then [] else due_by last a.pending)
        → b.pending ≡ (if held then a.pending else left_by last a.pending)
        → IssuesFirst a last b
    go true issued left =
        record { now = []; pending_are = sym left; issued = issued; due = All-nil (IsBy last) }
    go false issued left = record {
      now = due_by last a.pending;
      pending_are = sym parted ∙ ap (λ l. due_by last a.pending ++ l) (sym left);
      issued = issued;
      due = due-all last a.pending;
    }

-- a part that has no row leaves no request that asks for no later row
pub left-undue : (a b : Stream) (row : ℕ) → row ≡ a.start.row → IssuesUpTo a row b
    → AreAfter a.start.row b.pending
left-undue a b row e is =
    subst (λ k. AreAfter k b.pending) e
    (subst (AreAfter row) (sym same) (left-all row a.pending))
  where
    unheld : (exact : Option ℕ) → is_held exact a.start.row row ≡ false
    unheld None = refl
    unheld (Some base) =
        let le : nat_le row a.start.row ≡ true = grind (arith, nat_tests) in ap not le

    same : b.pending ≡ left_by row a.pending
    same = is.left
        ∙ ap (λ held. if held then a.pending else left_by row a.pending) (unheld a.exact)

-- no pending request asks for a row before the last one of a part
pub left-one : (a b : Stream) (count last most : ℕ) → a.start.row + count ≡ last
    → IssuesUpTo a last b → IfSome a.exact (λ base. AreAfter a.start.row a.pending)
    → IfSome a.exact (λ base. a.start.row + count ≡ first_wait a.start.row most a.pending)
    → NoneAsksBefore last b
left-one a b count last most same is after wait = go a.exact is.left after wait
  where
    later : AreFrom last (left_by last a.pending)
    later = from-after last (left_by last a.pending) (left-all last a.pending)

    go : (exact : Option ℕ) → b.pending
        ≡ (if is_held exact a.start.row last then a.pending else left_by last a.pending)
        → IfSome exact (λ base. AreAfter a.start.row a.pending)
        → IfSome exact (λ base. a.start.row + count ≡ first_wait a.start.row most a.pending)
        → NoneAsksBefore last b
    go None left after wait = subst (AreFrom last) (sym left) later
    go (Some base) left after wait = either (not (nat_le last a.start.row)) left
      where
        either : (held : Bool)
            → b.pending ≡ (if held then a.pending else left_by last a.pending)
            → NoneAsksBefore last b
        either true left =
            subst (AreFrom last) (sym left)
            (subst (λ k. AreFrom k a.pending) (sym wait ∙ same)
            (wait-first a.start.row most a.pending after))
        either false left = subst (AreFrom last) (sym left) later

-- what waits for a later row does so after requests were issued and no row was run
pub undue-kept : (a b : Stream) → KeepsAsked a b → b.start.row ≡ a.start.row
    → IfSome a.exact (λ base. AreAfter a.start.row b.pending)
    → IfSome b.exact (λ base. AreAfter b.start.row b.pending)
undue-kept a b kept row undue =
    subst (λ o. IfSome o (λ base. AreAfter b.start.row b.pending)) (sym kept.exact_is)
    (subst (λ k. IfSome a.exact (λ base. AreAfter k b.pending)) (sym row) undue)

-- ---- part after part

-- no row was run since, or no pending request asks for a row before the last one
abbrev pub IsInStep : Stream → Stream → Type 0
IsInStep a b = (b.start.row ≡ a.start.row) ⊎ NoneAsksBefore b.start.row b

-- a stream is still in step after it has issued some of its requests, and no row was run
pub still-in-step : (a b c : Stream) (last : ℕ) → IsInStep a b → IssuesFirst b last c
    → c.start.row ≡ b.start.row → IsInStep a c
still-in-step a b c last (inl same) more row = inl (row ∙ same)
still-in-step a b c last (inr from) more row =
    inr (subst (λ k. AreFrom k c.pending) (sym row)
    (back b.start.row more.now c.pending (subst (AreFrom b.start.row) more.pending_are from)))

pub issues-then : (a b c : Stream) (mid last : ℕ) → a.start.row ≤ b.start.row → mid ≤ last
    → IsInStep a b → IssuesFirst a mid b → IssuesFirst b last c → IssuesFirst a last c
issues-then a b c mid last begun le step one two = record {
  now = one.now ++ two.now;
  pending_are =
      one.pending_are
      ∙ (ap (λ l. one.now ++ l) two.pending_are
      ∙ sym (append_assoc one.now two.now c.pending));
  issued =
      two.issued
      ∙ (ap (λ l. b.setup.judged.accepted ++ l) (lifts step)
      ∙ (ap (λ l. l ++ map (lifted a.start.row) two.now) one.issued
      ∙ (append_assoc a.setup.judged.accepted (map (lifted a.start.row) one.now)
      (map (lifted a.start.row) two.now)
      ∙ ap (λ l. a.setup.judged.accepted ++ l)
      (sym (map-append (lifted a.start.row) one.now two.now)))));
  due =
      All-append (λ (request : Request). request.after ≤ last) one.now two.now
      (by-later mid last one.now le one.due) two.due;
}
  where
    lifts : IsInStep a b
        → map (lifted b.start.row) two.now ≡ map (lifted a.start.row) two.now
    lifts (inl same) = ap (λ k. map (lifted k) two.now) same
    lifts (inr from) =
        lifted-late a.start.row b.start.row two.now begun
        (front b.start.row two.now c.pending
        (subst (AreFrom b.start.row) two.pending_are from))
