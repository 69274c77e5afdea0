-- Requests that were issued before a stream goes on from its savepoint.
use Rattle.std.proofs.Common.{◌≡◌, ◌∙◌, ◌≤◌, ◌++◌, ℕ, List, [], ◌∷◌, true, drop, length, map}
use Rattle.std.proofs.Common.{nat_le, take, refl, sym, subst, ap, arith}
use Rattle.std.proofs.Math.Nat.{le-max_right}
use Rattle.std.proofs.lemmas.List.{length-take-le, take-append-drop}
use Rattle.std.proofs.lemmas.Bool.{and_from, le-leb}
use Rattle.std.specs.List.{list_any}
use Rattle.jobs.specs.JobView.{JobView}
use Rattle.versions.specs.Judged.{AreAccepted}
use Rattle.versions.specs.Kept.{AreInOrder}
use Rattle.versions.specs.Waiting.{changes_of}
use Rattle.versions.specs.declared.request.Change.{Change}
use Rattle.versions.specs.declared.request.Request.{Request}
use Rattle.flow_model.specs.Planned.{is_made_split, makes_split}
use Rattle.flow_model.specs.Waiting.{with_afters}
use Rattle.flow_model.proofs.WaitingLemmas.{changes-with_afters, length_waiting}
use Rattle.stream_save.specs.StreamReading.{AreWaits}
use Rattle.stream_step.specs.Pending.{AreAsked, lifted}
use Rattle.stream_step.proofs.PendingLemmas.{KeepOrder, MayWait, are_fed, changes_append}
use Rattle.stream_step.proofs.PendingLemmas.{changes_lifted, or_right, order_back, order_both}
use Rattle.stream_step.proofs.PendingLemmas.{order_lifted}

-- ---- the rows that they wait for

pub waits_in_order : (row low : ℕ) (waits : List ℕ) (xs : List Request) → length waits ≡ length xs
    → AreWaits row low waits → AreInOrder low (with_afters waits xs)
waits_in_order row low [] [] e w = tt
waits_in_order row low [] (x ∷ xs) e w = absurd (cc)
waits_in_order row low (a ∷ waits) [] e w = tt
waits_in_order row low (a ∷ waits) (x ∷ xs) e w =
    (w.0, waits_in_order row a waits xs (omega (arith, e)) w.2)

pub waits_fed : (row low : ℕ) (waits : List ℕ) (xs : List Request) → length waits ≡ length xs
    → AreWaits row low waits → are_fed row (with_afters waits xs) ≡ true
waits_fed row low [] [] e w = refl
waits_fed row low [] (x ∷ xs) e w = absurd (cc)
waits_fed row low (a ∷ waits) [] e w = refl
waits_fed row low (a ∷ waits) (x ∷ xs) e w =
    and_from (nat_le a row) (are_fed row (with_afters waits xs)) (le-leb a row w.1)
    (waits_fed row a waits xs (omega (arith, e)) w.2)

pub as_many : (n : ℕ) (waits : List ℕ) (xs : List Request) → n ≤ length xs → n ≡ length waits
    → length waits ≡ length (take n xs)
as_many n waits xs le e = sym e ∙ sym (length-take-le n xs le)

pub turned_all : (n : ℕ) (waits : List ℕ) (xs : List Request) → n ≤ length xs → n
    ≡ length (with_afters waits (take n xs))
turned_all n waits xs le = sym (length-take-le n xs le) ∙ sym (length_waiting waits (take n xs))

-- ---- they are accepted

changes_parted : (n : ℕ) (waits : List ℕ) (xs : List Request)
    → changes_of (with_afters waits (take n xs)) ++ changes_of (drop n xs) ≡ changes_of xs
changes_parted n waits xs =
    ap (λ (l : List (List Change)). l ++ changes_of (drop n xs))
    (changes-with_afters waits (take n xs))
    ∙ (sym (changes_append (take n xs) (drop n xs)) ∙ ap changes_of (take-append-drop n xs))

pub resumed_accepted : KeepOrder → MayWait
    → (job : JobView) (row n : ℕ) (waits : List ℕ) (xs : List Request) → n ≤ length xs → n
    ≡ length waits → AreWaits row 0 waits → AreAccepted job xs
    → AreAccepted job (with_afters waits (take n xs) ++ map (lifted row) (drop n xs))
resumed_accepted keeps may job row n waits xs le e w is =
    let front : List Request = with_afters waits (take n xs) in
    let back : List Request = map (lifted row) (drop n xs) in
    let order : AreInOrder 0 (drop n xs) =
    order_back 0 (take n xs) (drop n xs)
    (subst (AreInOrder 0) (sym (take-append-drop n xs)) (keeps job xs is)) in
    let same : changes_of (front ++ back) ≡ changes_of xs =
    changes_append front back ∙ (ap (λ (l : List (List Change)). changes_of front ++ l)
    (changes_lifted row (drop n xs)) ∙ changes_parted n waits xs) in
    may job xs (front ++ back) is same
    (order_both 0 row front back (omega arith)
    (waits_in_order row 0 waits (take n xs) (as_many n waits xs le e) w)
    (waits_fed row 0 waits (take n xs) (as_many n waits xs le e) w)
    (order_lifted row 0 row (drop n xs) (le-max_right 0 row) order))

pub resumed_asked : (job : JobView) (n : ℕ) (waits : List ℕ) (xs : List Request)
    → AreAccepted job xs → AreAsked job (with_afters waits (take n xs)) (drop n xs) xs
resumed_asked job n waits xs is = record {
  earlier = take n xs;
  all_are = sym (take-append-drop n xs);
  same = sym (changes-with_afters waits (take n xs));
  accepted = is;
}

-- ---- the splits that they make

pub made_right : (xs ys : List Request) (node : ℕ) → is_made_split ys node ≡ true
    → is_made_split (xs ++ ys) node ≡ true
made_right [] ys node e = e
made_right (x ∷ xs) ys node e =
    or_right (list_any (makes_split node) x.changes) (is_made_split (xs ++ ys) node)
    (made_right xs ys node e)

pub made_dropped : (n : ℕ) (xs : List Request) (node : ℕ) → is_made_split (drop n xs) node ≡ true
    → is_made_split xs node ≡ true
made_dropped n xs node e =
    subst (λ (l : List Request). is_made_split l node ≡ true) (take-append-drop n xs)
    (made_right (take n xs) (drop n xs) node e)
