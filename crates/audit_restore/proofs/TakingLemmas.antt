-- Entries that take the next items of their lanes, one after the other.
use Rattle.std.proofs.Common.{◌≡◌, ◌∙◌, ◌==◌, ◌++◌, ℕ, List, [], ◌∷◌, refl, sym, ap, ap₂, true, false, Bool, cond, filter, append_assoc, option_to_list, Option}
use Rattle.std.proofs.lemmas.List.{append-nil}
use Rattle.sink_journal.specs.declared.journal.Entry.{Entry}
use Rattle.sink_journal.specs.declared.journal.Entry.TheVariants as entry
use Rattle.tuple_trace.specs.declared.tuple.Item.{Item}
use Rattle.audit_laws.specs.declared.audit.AuditEntry.{AuditEntry}
use Rattle.audit_laws.specs.declared.audit.AuditEntry.TheVariants as kept
use Rattle.audit_laws.specs.Faults.{comes_by}
use Rattle.audit_laws.specs.Restoring.{later_items, restored, taken_from, took, took_next}
use Rattle.audit_restore.specs.Standing.{HasTakenAll, left_on, taken_all}

restored-append : (left : ℕ → List Item) (xs ys : List AuditEntry) → restored left (xs ++ ys) ≡ restored left xs ++ restored (taken_all xs left) ys
restored-append left [] ys = refl
restored-append left (kept.Met lane row birth ∷ xs) ys =
    ap (λ (l : List Entry). took_next lane (left lane) ++ l) (restored-append (taken_from lane left) xs ys)
    ∙ sym (append_assoc (took_next lane (left lane)) (restored (taken_from lane left) xs) (restored (taken_all xs (taken_from lane left)) ys))
restored-append left (kept.Marked lane request ∷ xs) ys =
    ap (λ (l : List Entry). took_next lane (left lane) ++ l) (restored-append (taken_from lane left) xs ys)
    ∙ sym (append_assoc (took_next lane (left lane)) (restored (taken_from lane left) xs) (restored (taken_all xs (taken_from lane left)) ys))
restored-append left (kept.Turned request ∷ xs) ys = ap (λ (l : List Entry). entry.Turned request ∷ l) (restored-append left xs ys)
restored-append left (kept.Ended lane ∷ xs) ys =
    ap (λ (l : List Entry). took_next lane (left lane) ++ l) (restored-append (taken_from lane left) xs ys)
    ∙ sym (append_assoc (took_next lane (left lane)) (restored (taken_from lane left) xs) (restored (taken_all xs (taken_from lane left)) ys))

taken-append : (left : ℕ → List Item) (xs ys : List AuditEntry) (n : ℕ) → taken_all (xs ++ ys) left n ≡ taken_all ys (taken_all xs left) n
taken-append left [] ys n = refl
taken-append left (kept.Met lane row birth ∷ xs) ys n = taken-append (taken_from lane left) xs ys n
taken-append left (kept.Marked lane request ∷ xs) ys n = taken-append (taken_from lane left) xs ys n
taken-append left (kept.Turned request ∷ xs) ys n = taken-append left xs ys n
taken-append left (kept.Ended lane ∷ xs) ys n = taken-append (taken_from lane left) xs ys n

-- one entry looks at one lane
one_same : (a b : ℕ → List Item) (x : AuditEntry) → ((n : ℕ) → a n ≡ b n) → restored a (x ∷ []) ≡ restored b (x ∷ [])
one_same a b (kept.Met lane row birth) same = ap (λ (l : List Item). took_next lane l ++ []) (same lane)
one_same a b (kept.Marked lane request) same = ap (λ (l : List Item). took_next lane l ++ []) (same lane)
one_same a b (kept.Turned request) same = refl
one_same a b (kept.Ended lane) same = ap (λ (l : List Item). took_next lane l ++ []) (same lane)

from_same : (a b : ℕ → List Item) (lane n : ℕ) → a n ≡ b n → taken_from lane a n ≡ taken_from lane b n
from_same a b lane n same = ap (λ (l : List Item). cond (lane == n) (later_items l) l) same

left_same : (a b : ℕ → List Item) (x : AuditEntry) (n : ℕ) → a n ≡ b n → taken_all (x ∷ []) a n ≡ taken_all (x ∷ []) b n
left_same a b (kept.Met lane row birth) n same = from_same a b lane n same
left_same a b (kept.Marked lane request) n same = from_same a b lane n same
left_same a b (kept.Turned request) n same = same
left_same a b (kept.Ended lane) n same = from_same a b lane n same

pub nothing_taken : (standing : List (List Item)) → HasTakenAll [] standing standing
nothing_taken standing = record { long = refl; left = λ n. refl }

pub one_more_taken : (xs : List AuditEntry) (x : AuditEntry) (before mid after : List (List Item)) → HasTakenAll xs before mid → HasTakenAll (x ∷ []) mid after → HasTakenAll (xs ++ x ∷ []) before after
one_more_taken xs x before mid after a b = record {
  long = b.long ∙ a.long;
  left = λ n. b.left n ∙ (left_same (left_on mid) (taken_all xs (left_on before)) x n (a.left n) ∙ sym (taken-append (left_on before) xs (x ∷ []) n));
}

pub one_more_made : (xs : List AuditEntry) (x : AuditEntry) (before mid : List (List Item)) (old new step : List Entry) → HasTakenAll xs before mid → old ≡ restored (left_on before) xs
    → step ≡ restored (left_on mid) (x ∷ []) → new ≡ old ++ step → new ≡ restored (left_on before) (xs ++ x ∷ [])
one_more_made xs x before mid old new step a made one grown =
    grown ∙ (ap₂ (λ (k l : List Entry). k ++ l) made (one ∙ one_same (left_on mid) (taken_all xs (left_on before)) x a.left) ∙ sym (restored-append (left_on before) xs (x ∷ [])))

pub taken_from_lane : (lane : ℕ) (before : List (List Item)) (found : Option Entry) → option_to_list found ≡ took_next lane (left_on before lane) → option_to_list found ≡ took_next lane (left_on before lane) ++ []
taken_from_lane lane before found e = e ∙ sym (append-nil (took_next lane (left_on before lane)))

pub took_found : (lane : ℕ) (items later : List Item) (x : Item) (step : Entry) → items ≡ x ∷ later → step ≡ took lane x → step ∷ [] ≡ took_next lane items
took_found lane items later x step e is = ap (λ (y : Entry). y ∷ []) is ∙ sym (ap (took_next lane) e)

-- what no entry came by is left
pub untouched : (left : ℕ → List Item) (xs : List AuditEntry) (n : ℕ) → filter (comes_by n) xs ≡ [] → taken_all xs left n ≡ left n
untouched left [] n none = refl
untouched left (kept.Met lane row birth ∷ xs) n none = go (lane == n) none (untouched (taken_from lane left) xs n)
  where
    go : (b : Bool) → cond b (kept.Met lane row birth ∷ filter (comes_by n) xs) (filter (comes_by n) xs) ≡ [] → (filter (comes_by n) xs ≡ [] → taken_all xs (taken_from lane left) n ≡ cond b (later_items (left n)) (left n))
        → taken_all xs (taken_from lane left) n ≡ left n
    go true e rest = absurd (cc)
    go false e rest = rest e
untouched left (kept.Marked lane request ∷ xs) n none = go (lane == n) none (untouched (taken_from lane left) xs n)
  where
    go : (b : Bool) → cond b (kept.Marked lane request ∷ filter (comes_by n) xs) (filter (comes_by n) xs) ≡ [] → (filter (comes_by n) xs ≡ [] → taken_all xs (taken_from lane left) n ≡ cond b (later_items (left n)) (left n))
        → taken_all xs (taken_from lane left) n ≡ left n
    go true e rest = absurd (cc)
    go false e rest = rest e
untouched left (kept.Turned request ∷ xs) n none = untouched left xs n none
untouched left (kept.Ended lane ∷ xs) n none = go (lane == n) none (untouched (taken_from lane left) xs n)
  where
    go : (b : Bool) → cond b (kept.Ended lane ∷ filter (comes_by n) xs) (filter (comes_by n) xs) ≡ [] → (filter (comes_by n) xs ≡ [] → taken_all xs (taken_from lane left) n ≡ cond b (later_items (left n)) (left n))
        → taken_all xs (taken_from lane left) n ≡ left n
    go true e rest = absurd (cc)
    go false e rest = rest e
