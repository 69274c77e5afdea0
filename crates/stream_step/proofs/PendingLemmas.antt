-- Requests that wait for a later part.
use Rattle.std.proofs.Common.{◌≡◌, ◌∙◌, ◌⊎◌, inl, inr, if◌then◌else◌, ◌≤◌, ◌<◌, ◌++◌}
use Rattle.std.proofs.Common.{◌||◌, ℕ, List, [], ◌∷◌, All, Bool, true, false, filter, length, map}
use Rattle.std.proofs.Common.{max, nat_le, None, Option, Some, not, refl, sym, subst, ap, arith}
use Rattle.std.proofs.Common.{append_assoc}
use Rattle.std.specs.List.{list_all, list_any}
use Rattle.std.proofs.Math.Nat.{le-max_left, le-max_right, max-eq_left, max-le}
use Rattle.std.proofs.lemmas.Bool.{and_parts, and_from, le-leb}
use Rattle.std.proofs.lemmas.List.{append-nil, map-append}
use Rattle.std.proofs.lemmas.List.Elements.{All-cons, All-nil}
use Rattle.jobs.specs.JobView.{JobView}
use Rattle.tuple_trace.specs.declared.row.Row.{Row}
use Rattle.versions.specs.Judged.{AreAccepted, judged, judged_within}
use Rattle.versions.specs.Kept.{AreInOrder}
use Rattle.versions.specs.Waiting.{changes_of}
use Rattle.versions.specs.declared.in_order.Refused.{Refused}
use Rattle.versions.specs.declared.request.Change.{Change}
use Rattle.versions.specs.declared.request.Request.{Request}
use Rattle.versions.proofs.YoungLemmas.{not_above}
use Rattle.flow_model.specs.Planned.{is_made_split, makes_split}
use Rattle.flow_model.specs.Requests.{afters}
use Rattle.flow_model.proofs.FreshLemmas.{order_weaker}
use Rattle.stream_law.specs.Later.{IsJudgedPrefix}
use Rattle.stream_step.specs.Parts.{IsBetweenRows, due_in}
use Rattle.stream_step.specs.Pending.{AreAsked, SplitWithin, due_by, is_due_by, is_held, issued_by}
use Rattle.stream_step.specs.Pending.{kept_by, left_by, lifted}
use Rattle.stream_step.specs.declared.stream.Stream.{Stream}
use Rattle.savepoint.proofs.OrderLemmas.{le_of}
use Rattle.savepoint.proofs.CutLemmas.{or_weaker}

-- what the laws of judging say
abbrev pub KeepOrder : Type 0
KeepOrder =
    (job : JobView) (requests : List Request) → AreAccepted job requests → AreInOrder 0 requests

abbrev pub MayWait : Type 0
MayWait =
    (job : JobView) (requests others : List Request) → AreAccepted job requests → changes_of others
    ≡ changes_of requests → AreInOrder 0 others → AreAccepted job others

abbrev pub JudgedLater : Type 0
JudgedLater =
    (splits : Option ℕ) (job : JobView) (earlier later : List Request)
    → IsJudgedPrefix (judged_within splits job earlier)
    (judged_within splits job (earlier ++ later))

-- ---- lifted requests

max_first : (a : ℕ) → max a 0 ≡ a
max_first a = (let h : 0 ≤ a = omega arith in max-eq_left h)

later_wins : (a fed last : ℕ) → fed ≤ last → max (max a fed) last ≡ max a last
later_wins a fed last le = omega arith

pub lifted_first : (xs : List Request) → map (lifted 0) xs ≡ xs
lifted_first [] = refl
lifted_first (x ∷ xs) =
    ap (λ n. (record x { after = n }) ∷ map (lifted 0) xs) (max_first x.after)
    ∙ ap (λ (l : List Request). x ∷ l) (lifted_first xs)

lifted_twice : (fed last : ℕ) (xs : List Request) → fed ≤ last
    → map (lifted last) (map (lifted fed) xs) ≡ map (lifted last) xs
lifted_twice fed last [] le = refl
lifted_twice fed last (x ∷ xs) le =
    let same : max (max x.after fed) last ≡ max x.after last = later_wins x.after fed last le in
    ap (λ n. (record x { after = n }) ∷ map (lifted last) (map (lifted fed) xs)) same
    ∙ ap (λ (l : List Request). (record x { after = max x.after last }) ∷ l)
    (lifted_twice fed last xs le)

pub changes_lifted : (fed : ℕ) (xs : List Request) → changes_of (map (lifted fed) xs)
    ≡ changes_of xs
changes_lifted fed [] = refl
changes_lifted fed (x ∷ xs) = ap (λ (l : List (List Change)). x.changes ∷ l) (changes_lifted fed xs)

pub changes_append : (xs ys : List Request) → changes_of (xs ++ ys) ≡ changes_of xs ++ changes_of ys
changes_append xs ys = map-append (λ (r : Request). r.changes) xs ys

pub lifted_wait : (fed : ℕ) (xs : List Request)
    → All (λ after. fed ≤ after) (afters (map (lifted fed) xs))
lifted_wait fed [] = All-nil (λ after. fed ≤ after)
lifted_wait fed (x ∷ xs) =
    All-cons (λ after. fed ≤ after) (max x.after fed) (afters (map (lifted fed) xs))
    (le-max_right x.after fed) (lifted_wait fed xs)

-- ---- requests that wait for no later row than this

abbrev pub are_fed : ℕ → List Request → Bool
are_fed fed xs = list_all (λ (request : Request). nat_le request.after fed) xs

pub fed_due : (fed : ℕ) (xs : List Request) → are_fed fed xs ≡ true
    → All (λ after. after ≤ fed) (afters xs)
fed_due fed [] e = All-nil (λ after. after ≤ fed)
fed_due fed (x ∷ xs) e =
    let both = and_parts (nat_le x.after fed) (are_fed fed xs) e in
    All-cons (λ after. after ≤ fed) x.after (afters xs) (le_of x.after fed both.0)
    (fed_due fed xs both.1)

pub fed_later : (fed last : ℕ) (xs : List Request) → fed ≤ last → are_fed fed xs ≡ true
    → are_fed last xs ≡ true
fed_later fed last [] le e = refl
fed_later fed last (x ∷ xs) le e =
    let both = and_parts (nat_le x.after fed) (are_fed fed xs) e in
    let here : x.after ≤ fed = le_of x.after fed both.0 in
    and_from (nat_le x.after last) (are_fed last xs) (le-leb x.after last (omega arith))
    (fed_later fed last xs le both.1)

fed_both : (fed : ℕ) (xs ys : List Request) → are_fed fed xs ≡ true → are_fed fed ys ≡ true
    → are_fed fed (xs ++ ys) ≡ true
fed_both fed [] ys e f = f
fed_both fed (x ∷ xs) ys e f =
    let both = and_parts (nat_le x.after fed) (are_fed fed xs) e in
    and_from (nat_le x.after fed) (are_fed fed (xs ++ ys)) both.0 (fed_both fed xs ys both.1 f)

due_fed : (fed last : ℕ) (xs : List Request) → fed ≤ last
    → are_fed last (map (lifted fed) (due_by last xs)) ≡ true
due_fed fed last [] le = refl
due_fed fed last (x ∷ xs) le = go (is_due_by last x) refl (due_fed fed last xs le)
  where
    go : (b : Bool) → is_due_by last x ≡ b → are_fed last (map (lifted fed) (due_by last xs)) ≡ true
        → are_fed last (map (lifted fed) (if b then x ∷ due_by last xs else due_by last xs)) ≡ true
    go true e f =
        let here : x.after ≤ last = le_of x.after last e in
        and_from (nat_le (max x.after fed) last) (are_fed last (map (lifted fed) (due_by last xs)))
        (le-leb (max x.after fed) last (max-le here le)) f
    go false e f = f

-- after a part, all its requests wait for no later row than its last
pub part_fed : (fed last : ℕ) (taken xs : List Request) → fed ≤ last → are_fed fed taken ≡ true
    → are_fed last (taken ++ map (lifted fed) (due_by last xs)) ≡ true
part_fed fed last taken xs le e =
    fed_both last taken (map (lifted fed) (due_by last xs)) (fed_later fed last taken le e)
    (due_fed fed last xs le)

-- ---- their order

pub order_back : (low : ℕ) (xs ys : List Request) → AreInOrder low (xs ++ ys) → AreInOrder low ys
order_back low [] ys o = o
order_back low (x ∷ xs) ys o = order_weaker low x.after ys o.0 (order_back x.after xs ys o.1)

pub order_lifted : (fed low high : ℕ) (xs : List Request) → high ≤ max low fed → AreInOrder low xs
    → AreInOrder high (map (lifted fed) xs)
order_lifted fed low high [] le o = tt
order_lifted fed low high (x ∷ xs) le o =
    let h : low ≤ x.after = o.0 in
    let k : low ≤ max x.after fed = omega (arith, le-max_left x.after fed) in
    let m : max low fed ≤ max x.after fed = max-le k (le-max_right x.after fed) in
    (omega arith, order_lifted fed x.after (max x.after fed) xs (omega arith) o.1)

pub order_both : (low fed : ℕ) (xs ys : List Request) → low ≤ fed → AreInOrder low xs
    → are_fed fed xs ≡ true → AreInOrder fed ys → AreInOrder low (xs ++ ys)
order_both low fed [] ys le o e p = order_weaker low fed ys le p
order_both low fed (x ∷ xs) ys le o e p =
    let both = and_parts (nat_le x.after fed) (are_fed fed xs) e in
    (o.0, order_both x.after fed xs ys (le_of x.after fed both.0) o.1 both.1 p)

-- ---- a list that is parted

none_due : (fed last low : ℕ) (xs : List Request) → last < low → fed ≤ last
    → AreInOrder low (map (lifted fed) xs) → (due_by last xs ≡ []) × (left_by last xs ≡ xs)
none_due fed last low [] lt le o = (refl, refl)
none_due fed last low (x ∷ xs) lt le o =
    let h : low ≤ max x.after fed = o.0 in
    let later = none_due fed last (max x.after fed) xs (omega arith) le o.1 in
    go (is_due_by last x) refl h later
  where
    go : (b : Bool) → is_due_by last x ≡ b → low ≤ max x.after fed → (due_by last xs ≡ [])
        × (left_by last xs ≡ xs)
        → ((if b then x ∷ due_by last xs else due_by last xs) ≡ [])
        × ((if not b then x ∷ left_by last xs else left_by last xs) ≡ x ∷ xs)
    go true e h later =
        (let k : max x.after fed ≤ last = max-le (le_of x.after last e) le in absurd (omega arith))
    go false e h later = (later.0, ap (λ (l : List Request). x ∷ l) later.1)

pub due_then_left : (fed last low : ℕ) (xs : List Request) → fed ≤ last
    → AreInOrder low (map (lifted fed) xs) → due_by last xs ++ left_by last xs ≡ xs
due_then_left fed last low [] le o = refl
due_then_left fed last low (x ∷ xs) le o =
    go (is_due_by last x) refl (due_then_left fed last (max x.after fed) xs le o.1)
  where
    go : (b : Bool) → is_due_by last x ≡ b → due_by last xs ++ left_by last xs ≡ xs
        → (if b then x ∷ due_by last xs else due_by last xs)
        ++ (if not b then x ∷ left_by last xs else left_by last xs) ≡ x ∷ xs
    go true e f = ap (λ (l : List Request). x ∷ l) f
    go false e f =
        let k : last < x.after = not_above x.after last e in
        let none =
        none_due fed last (max x.after fed) xs
        (omega (arith, le-max_left x.after fed)) le o.1 in
        ap (λ (l : List Request). l ++ (x ∷ left_by last xs)) none.0
        ∙ ap (λ (l : List Request). x ∷ l) none.1

left_lifted : (fed last : ℕ) (xs : List Request) → fed ≤ last → map (lifted last) (left_by last xs)
    ≡ map (lifted fed) (left_by last xs)
left_lifted fed last [] le = refl
left_lifted fed last (x ∷ xs) le = go (is_due_by last x) refl (left_lifted fed last xs le)
  where
    go : (b : Bool) → is_due_by last x ≡ b → map (lifted last) (left_by last xs)
        ≡ map (lifted fed) (left_by last xs)
        → map (lifted last) (if not b then x ∷ left_by last xs else left_by last xs)
        ≡ map (lifted fed) (if not b then x ∷ left_by last xs else left_by last xs)
    go true e f = f
    go false e f =
        let k : last < x.after = not_above x.after last e in
        let a : last ≤ x.after = omega arith in
        let b : fed ≤ x.after = omega arith in
        let same : max x.after last ≡ max x.after fed = max-eq_left a ∙ sym (max-eq_left b) in
        ap (λ n. (record x { after = n }) ∷ map (lifted last) (left_by last xs)) same
        ∙ ap (λ (l : List Request). (record x { after = max x.after fed }) ∷ l) f

-- after a part, the requests that are left are still accepted after those of the setup
pub part_accepted : KeepOrder → (job : JobView) (fed last : ℕ) (taken xs : List Request)
    → fed ≤ last → AreAccepted job (taken ++ map (lifted fed) xs)
    → AreAccepted job ((taken ++ map (lifted fed) (due_by last xs)) ++ map (lifted last)
    (left_by last xs))
part_accepted law job fed last taken xs le is =
    let order : AreInOrder 0 (map (lifted fed) xs) =
    order_back 0 taken (map (lifted fed) xs) (law job (taken ++ map (lifted fed) xs) is) in
    let due : List Request = due_by last xs in
    let left : List Request = left_by last xs in
    let same : (taken ++ map (lifted fed) due) ++ map (lifted last) left ≡ taken
    ++ map (lifted fed) xs =
    ap (λ (l : List Request). (taken ++ map (lifted fed) due) ++ l) (left_lifted fed last xs le)
    ∙ (append_assoc taken (map (lifted fed) due) (map (lifted fed) left)
    ∙ ap (λ (l : List Request). taken ++ l)
    (sym (map-append (lifted fed) due left)
    ∙ ap (map (lifted fed)) (due_then_left fed last 0 xs le order))) in
    subst (AreAccepted job) (sym same) is

nil_front : (xs ys : List Refused) → xs ++ ys ≡ [] → xs ≡ []
nil_front [] ys e = refl
nil_front (x ∷ xs) ys e = absurd (cc)

-- the requests of a part are accepted after those of the setup
pub due_accepted : KeepOrder → JudgedLater
    → (job : JobView) (fed last : ℕ) (taken xs : List Request) → fed ≤ last
    → AreAccepted job (taken ++ map (lifted fed) xs)
    → AreAccepted job (taken ++ map (lifted fed) (due_by last xs))
due_accepted law later job fed last taken xs le is =
    let front : List Request = taken ++ map (lifted fed) (due_by last xs) in
    let prefix = later None job front (map (lifted last) (left_by last xs)) in
    nil_front (judged job front).refused prefix.refused
    (sym prefix.refused_is ∙ part_accepted law job fed last taken xs le is)

-- ---- as they were asked

-- requests that come later are accepted after those of the setup and the pending ones
pub more_accepted : KeepOrder → MayWait
    → (job : JobView) (fed : ℕ) (taken pending all later : List Request)
    → AreAsked job taken pending all → AreAccepted job (all ++ later)
    → AreAccepted job taken → are_fed fed taken ≡ true
    → AreAccepted job (taken ++ map (lifted fed) (pending ++ later))
more_accepted keeps may job fed taken pending all later asked is own fed_is =
    let as_asked : all ++ later ≡ asked.earlier ++ (pending ++ later) =
    ap (λ (l : List Request). l ++ later) asked.all_are
    ∙ append_assoc asked.earlier pending later in
    let is_asked : AreAccepted job (asked.earlier ++ (pending ++ later)) =
    subst (AreAccepted job) as_asked is in
    let order : AreInOrder 0 (pending ++ later) =
    order_back 0 asked.earlier (pending ++ later)
    (keeps job (asked.earlier ++ (pending ++ later)) is_asked) in
    let same : changes_of (taken ++ map (lifted fed) (pending ++ later))
    ≡ changes_of (asked.earlier ++ (pending ++ later)) =
    changes_append taken (map (lifted fed) (pending ++ later))
    ∙ (ap (λ (l : List (List Change)). changes_of taken ++ l)
    (changes_lifted fed (pending ++ later))
    ∙ (ap (λ (l : List (List Change)). l ++ changes_of (pending ++ later)) (sym asked.same)
    ∙ sym (changes_append asked.earlier (pending ++ later)))) in
    may job (asked.earlier ++ (pending ++ later))
    (taken ++ map (lifted fed) (pending ++ later)) is_asked same
    (order_both 0 fed taken (map (lifted fed) (pending ++ later)) (omega arith)
    (keeps job taken own) fed_is (order_lifted fed 0 fed (pending ++ later) (le-max_right 0 fed)
    order))

pub part_asked : KeepOrder → (job : JobView) (fed last : ℕ) (taken xs all : List Request)
    → fed ≤ last → AreAccepted job (taken ++ map (lifted fed) xs) → AreAsked job taken xs all
    → AreAsked job (taken ++ map (lifted fed) (due_by last xs)) (left_by last xs) all
part_asked law job fed last taken xs all le is asked =
    let order : AreInOrder 0 (map (lifted fed) xs) =
    order_back 0 taken (map (lifted fed) xs) (law job (taken ++ map (lifted fed) xs) is) in
    record {
      earlier = asked.earlier ++ due_by last xs;
      all_are =
          asked.all_are ∙ (ap (λ (l : List Request). asked.earlier ++ l)
          (sym (due_then_left fed last 0 xs le order))
          ∙ sym (append_assoc asked.earlier (due_by last xs) (left_by last xs)));
      same =
          changes_append asked.earlier (due_by last xs)
          ∙ (ap (λ (l : List (List Change)). l ++ changes_of (due_by last xs)) asked.same
          ∙ (ap (λ (l : List (List Change)). changes_of taken ++ l)
          (sym (changes_lifted fed (due_by last xs)))
          ∙ sym (changes_append taken (map (lifted fed) (due_by last xs)))));
      accepted = asked.accepted;
    }

-- ---- the splits that they make

made_lifted : (fed : ℕ) (xs : List Request) (node : ℕ) → is_made_split (map (lifted fed) xs) node
    ≡ is_made_split xs node
made_lifted fed [] node = refl
made_lifted fed (x ∷ xs) node =
    ap (λ b. list_any (makes_split node) x.changes || b) (made_lifted fed xs node)

pub or_right : (a b : Bool) → b ≡ true → (a || b) ≡ true
or_right true b e = refl
or_right false b e = e

made_some : (p : Request → Bool) (xs : List Request) (node : ℕ) → is_made_split (filter p xs) node
    ≡ true → is_made_split xs node ≡ true
made_some p [] node e = e
made_some p (x ∷ xs) node e = go (p x) e (made_some p xs node)
  where
    go : (b : Bool) → is_made_split (if b then x ∷ filter p xs else filter p xs) node ≡ true
        → (is_made_split (filter p xs) node ≡ true → is_made_split xs node ≡ true)
        → (list_any (makes_split node) x.changes || is_made_split xs node) ≡ true
    go true e f =
        or_weaker (list_any (makes_split node) x.changes) (is_made_split (filter p xs) node)
        (is_made_split xs node) f e
    go false e f = or_right (list_any (makes_split node) x.changes) (is_made_split xs node) (f e)

pub within_some : (mask fed : ℕ) (p : Request → Bool) (xs : List Request) → SplitWithin mask xs
    → SplitWithin mask (map (lifted fed) (filter p xs))
within_some mask fed p xs is node made =
    is node (made_some p xs node (sym (made_lifted fed (filter p xs) node) ∙ made))

pub within_left : (mask : ℕ) (p : Request → Bool) (xs : List Request) → SplitWithin mask xs
    → SplitWithin mask (filter p xs)
within_left mask p xs is node made = is node (made_some p xs node made)

pub within_lifted : (mask fed : ℕ) (xs : List Request) → SplitWithin mask xs
    → SplitWithin mask (map (lifted fed) xs)
within_lifted mask fed xs is node made = is node (sym (made_lifted fed xs node) ∙ made)

made_either : (xs ys : List Request) (node : ℕ) → is_made_split (xs ++ ys) node ≡ true
    → (is_made_split xs node ≡ true) ⊎ (is_made_split ys node ≡ true)
made_either [] ys node e = inr e
made_either (x ∷ xs) ys node e =
    go (list_any (makes_split node) x.changes) e (made_either xs ys node)
  where
    go : (b : Bool) → (b || is_made_split (xs ++ ys) node) ≡ true
        → (is_made_split (xs ++ ys) node ≡ true → (is_made_split xs node ≡ true)
        ⊎ (is_made_split ys node ≡ true))
        → ((b || is_made_split xs node) ≡ true) ⊎ (is_made_split ys node ≡ true)
    go true e f = inl refl
    go false e f = f e

pub within_both : (mask : ℕ) (xs ys : List Request) → SplitWithin mask xs → SplitWithin mask ys
    → SplitWithin mask (xs ++ ys)
within_both mask xs ys is more node made =
    elim (made_either xs ys node made) [ inl a ↦ is node a | inr b ↦ more node b ]

-- later requests, as they were asked
pub asked_more : (job : JobView) (taken pending later both all : List Request) → both ≡ pending
    ++ later → AreAsked job taken pending all → AreAccepted job (all ++ later)
    → AreAsked job taken both (all ++ later)
asked_more job taken pending later both all is asked accepted = record {
  earlier = asked.earlier;
  all_are =
      ap (λ (l : List Request). l ++ later) asked.all_are
      ∙ (append_assoc asked.earlier pending later
      ∙ ap (λ (l : List Request). asked.earlier ++ l) (sym is));
  same = asked.same;
  accepted = accepted;
}

-- ---- a part of a stream that may be exact

-- the requests of a part wait for no later row than its last
pub issued_fed : (exact : Option ℕ) (fed last : ℕ) (taken xs : List Request) → fed ≤ last
    → are_fed fed taken ≡ true
    → are_fed last (taken ++ map (lifted fed) (issued_by exact fed last xs)) ≡ true
issued_fed exact fed last taken xs le e = go (is_held exact fed last)
  where
    go : (held : Bool)
        → are_fed last (taken ++ map (lifted fed) (if held then [] else due_by last xs)) ≡ true
    go true = fed_both last taken [] (fed_later fed last taken le e) refl
    go false = part_fed fed last taken xs le e

-- the requests of a part are accepted after those of the setup
pub issued_accepted : KeepOrder → JudgedLater
    → (job : JobView) (exact : Option ℕ) (fed last : ℕ) (taken xs : List Request) → fed ≤ last
    → AreAccepted job taken → AreAccepted job (taken ++ map (lifted fed) xs)
    → AreAccepted job (taken ++ map (lifted fed) (issued_by exact fed last xs))
issued_accepted law later job exact fed last taken xs le own is = go (is_held exact fed last)
  where
    go : (held : Bool)
        → AreAccepted job (taken ++ map (lifted fed) (if held then [] else due_by last xs))
    go true = subst (AreAccepted job) (sym (append-nil taken)) own
    go false = due_accepted law later job fed last taken xs le is

-- pending requests may wait for a later row
waiting_accepted : KeepOrder → MayWait
    → (job : JobView) (fed last : ℕ) (taken xs : List Request) → fed ≤ last
    → AreAccepted job taken → are_fed fed taken ≡ true
    → AreAccepted job (taken ++ map (lifted fed) xs)
    → AreAccepted job (taken ++ map (lifted last) xs)
waiting_accepted keeps may job fed last taken xs le own fed_is is =
    let order : AreInOrder 0 (map (lifted fed) xs) =
    order_back 0 taken (map (lifted fed) xs) (keeps job (taken ++ map (lifted fed) xs) is) in
    let later : AreInOrder last (map (lifted last) xs) =
    subst (AreInOrder last) (lifted_twice fed last xs le)
    (order_lifted last 0 last (map (lifted fed) xs) (le-max_right 0 last) order) in
    let same : changes_of (taken ++ map (lifted last) xs)
    ≡ changes_of (taken ++ map (lifted fed) xs) =
    changes_append taken (map (lifted last) xs)
    ∙ (ap (λ (l : List (List Change)). changes_of taken ++ l)
    (changes_lifted last xs ∙ sym (changes_lifted fed xs))
    ∙ sym (changes_append taken (map (lifted fed) xs))) in
    may job (taken ++ map (lifted fed) xs) (taken ++ map (lifted last) xs) is same
    (order_both 0 last taken (map (lifted last) xs) (omega arith) (keeps job taken own)
    (fed_later fed last taken le fed_is) later)

-- after a part, the requests that it leaves are still accepted after those of the setup
pub kept_accepted : KeepOrder → MayWait
    → (job : JobView) (exact : Option ℕ) (fed last : ℕ) (taken xs : List Request) → fed ≤ last
    → AreAccepted job taken → are_fed fed taken ≡ true
    → AreAccepted job (taken ++ map (lifted fed) xs)
    → AreAccepted job ((taken ++ map (lifted fed) (issued_by exact fed last xs))
    ++ map (lifted last) (kept_by exact fed last xs))
kept_accepted keeps may job exact fed last taken xs le own fed_is is =
    go (is_held exact fed last)
  where
    go : (held : Bool)
        → AreAccepted job ((taken ++ map (lifted fed) (if held then [] else due_by last xs))
        ++ map (lifted last) (if held then xs else left_by last xs))
    go true =
        subst (λ (l : List Request). AreAccepted job (l ++ map (lifted last) xs))
        (sym (append-nil taken))
        (waiting_accepted keeps may job fed last taken xs le own fed_is is)
    go false = part_accepted keeps job fed last taken xs le is

pub issued_asked : KeepOrder
    → (job : JobView) (exact : Option ℕ) (fed last : ℕ) (taken xs all : List Request)
    → fed ≤ last → AreAccepted job (taken ++ map (lifted fed) xs) → AreAsked job taken xs all
    → AreAsked job (taken ++ map (lifted fed) (issued_by exact fed last xs))
    (kept_by exact fed last xs) all
issued_asked law job exact fed last taken xs all le is asked = go (is_held exact fed last)
  where
    go : (held : Bool)
        → AreAsked job (taken ++ map (lifted fed) (if held then [] else due_by last xs))
        (if held then xs else left_by last xs) all
    go true = subst (λ (l : List Request). AreAsked job l xs all) (sym (append-nil taken)) asked
    go false = part_asked law job fed last taken xs all le is asked

pub issued_within : (mask : ℕ) (exact : Option ℕ) (fed last : ℕ) (xs : List Request)
    → SplitWithin mask xs → SplitWithin mask (map (lifted fed) (issued_by exact fed last xs))
issued_within mask exact fed last xs is = go (is_held exact fed last)
  where
    go : (held : Bool)
        → SplitWithin mask (map (lifted fed) (if held then [] else due_by last xs))
    go true = λ node made. absurd (cc)
    go false = within_some mask fed (is_due_by last) xs is

pub kept_within : (mask : ℕ) (exact : Option ℕ) (fed last : ℕ) (xs : List Request)
    → SplitWithin mask xs → SplitWithin mask (kept_by exact fed last xs)
kept_within mask exact fed last xs is = go (is_held exact fed last)
  where
    go : (held : Bool) → SplitWithin mask (if held then xs else left_by last xs)
    go true = is
    go false = within_left mask (λ request. not (is_due_by last request)) xs is

-- a part of an exact stream has no row, or it issues no request
pub between_rows : (stream : Stream) (base last : ℕ) (rows : List Row) → stream.exact ≡ Some base
    → length rows ≡ last → stream.start.row ≤ last
    → IsBetweenRows stream.start.row
    (map (lifted stream.start.row) (due_in stream last)) rows
between_rows stream base last rows is many le =
    subst (λ (e : Option ℕ). IsBetweenRows stream.start.row
    (map (lifted stream.start.row) (issued_by e stream.start.row last stream.pending)) rows)
    (sym is) (go (nat_le last stream.start.row) refl)
  where
    go : (b : Bool) → nat_le last stream.start.row ≡ b
        → IsBetweenRows stream.start.row (map (lifted stream.start.row)
        (if not b then [] else due_by last stream.pending)) rows
    go true e =
        let low : last ≤ stream.start.row = le_of last stream.start.row e in
        inl (omega (arith, many, le, low))
    go false e = inr refl
