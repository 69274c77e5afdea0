-- Which splits accepted requests make, if only the nodes of a mask may be splits.
use Rattle.std.proofs.Common.{◌≡◌, ◌∙◌, ◌+◌, ◌==◌, ℕ, Bool, true, false, List, [], ◌∷◌, ◌⊎◌, inl, inr, Option, None, Some, cond, refl, sym, ap, subst}
use Rattle.std.specs.Prelude.{◌&&◌, not}
use Rattle.std.specs.List.{list_any, position, position_from}
use Rattle.std.specs.Option.{option_or}
use Rattle.std.proofs.lemmas.Bool.{and_from, and_parts, eq-eqb, eqb-true, or_cases, or_left, or_right}
use Rattle.std.proofs.lemmas.Iterator.Adapters.{position_from-zero}
use Rattle.flow_dag.specs.Masks.{Has, has}
use Rattle.jobs.proofs.LimitLemmas.{option_or-none}
use Rattle.jobs.specs.JobView.{JobView}
use Rattle.jobs.specs.Nodes.{is_split}
use Rattle.versions.specs.Book.{accepted, first_book}
use Rattle.versions.specs.Judged.{accepting, by_fault, judged, judged_from, judged_within, refusing}
use Rattle.versions.specs.Judging.{fault_of, fault_within, is_late_split, late_split, named}
use Rattle.versions.specs.declared.book.Current.{Current}
use Rattle.versions.specs.declared.fault.QFault.{QFault}
use Rattle.versions.specs.declared.fault.QFault.TheVariants as fault
use Rattle.versions.specs.declared.request.Change.{Change}
use Rattle.versions.specs.declared.request.Request.{Request}
use Rattle.versions.proofs.FirstLemmas.{named-none}
use Rattle.flow_model.specs.Planned.{is_made_split, makes_split}

-- ---- the changes of one request

-- a split whose node the mask holds isn't late
held : (split h : Bool) → (split && not h) ≡ false → split ≡ true → h ≡ true
held split true late is = refl
held true false late is = absurd (cc)
held false false late is = absurd (cc)

-- without a late split each split is at a node of the mask
made_within : (mask i : ℕ) (changes : List Change) (node : ℕ) → position_from (is_late_split mask) i changes ≡ None → list_any (makes_split node) changes ≡ true → Has mask node
made_within mask i [] node none made = absurd (cc)
made_within mask i (c ∷ changes) node none made =
    go (is_late_split mask c) refl none (or_cases (makes_split node c) (list_any (makes_split node) changes) made) (made_within mask (i + 1) changes node)
  where
    go : (late : Bool) → is_late_split mask c ≡ late → cond late (Some i) (position_from (is_late_split mask) (i + 1) changes) ≡ None
        → (makes_split node c ≡ true) ⊎ (list_any (makes_split node) changes ≡ true)
        → (position_from (is_late_split mask) (i + 1) changes ≡ None → list_any (makes_split node) changes ≡ true → Has mask node) → Has mask node
    go true is e own f = absurd (cc)
    go false is e (inl own) f =
        let parts = and_parts (c.node == node) (is_split c.func) own in
        let there : has mask c.node ≡ true = held (is_split c.func) (has mask c.node) is parts.1 in
        subst (Has mask) (eqb-true c.node node parts.0) (eqb-true _ _ there)
    go false is e (inr later) f = f e later

-- if each split is at a node of the mask, none is late
none_late : (mask i : ℕ) (changes : List Change) → ((node : ℕ) → list_any (makes_split node) changes ≡ true → Has mask node) → position_from (is_late_split mask) i changes ≡ None
none_late mask i [] all = refl
none_late mask i (c ∷ changes) all =
    go (is_split c.func) refl (none_late mask (i + 1) changes (λ node h. all node (or_right (makes_split node c) (list_any (makes_split node) changes) h)))
  where
    go : (split : Bool) → is_split c.func ≡ split → position_from (is_late_split mask) (i + 1) changes ≡ None
        → cond (split && not (has mask c.node)) (Some i) (position_from (is_late_split mask) (i + 1) changes) ≡ None
    go false is later = later
    go true is later =
        let own : makes_split c.node c ≡ true = and_from (c.node == c.node) (is_split c.func) (eq-eqb c.node c.node refl) is in
        let there : has mask c.node ≡ true = eq-eqb _ _ (all c.node (or_left (makes_split c.node c) (list_any (makes_split c.node) changes) own)) in
        rw there later

late-none : (mask : ℕ) (changes : List Change) → ((node : ℕ) → list_any (makes_split node) changes ≡ true → Has mask node) → late_split mask changes ≡ None
late-none mask changes all = ap (named fault.LateSplit) (position_from-zero (is_late_split mask) changes ∙ none_late mask 0 changes all)

none-late : (mask : ℕ) (changes : List Change) (node : ℕ) → late_split mask changes ≡ None → list_any (makes_split node) changes ≡ true → Has mask node
none-late mask changes node none made =
    made_within mask 0 changes node (sym (position_from-zero (is_late_split mask) changes) ∙ named-none fault.LateSplit (position (is_late_split mask) changes) none) made

-- ---- accepted requests

within_from : (mask : ℕ) (job : JobView) (book : List Current) (last place : ℕ) (requests : List Request) (node : ℕ) → is_made_split (judged_from (Some mask) job book last place requests).accepted node ≡ true
    → Has mask node
unfolding judged_from
within_from mask job book last place [] node made = absurd (cc)
within_from mask job book last place (r ∷ rest) node made =
    go (fault_within (Some mask) book job r last) refl made (within_from mask job book last (place + 1) rest node) (within_from mask job (accepted book r.changes) r.after (place + 1) rest node)
  where
    go : (o : Option QFault) → fault_within (Some mask) book job r last ≡ o
        → is_made_split (by_fault o (λ fault. refusing place fault (judged_from (Some mask) job book last (place + 1) rest))
        (accepting r (judged_from (Some mask) job (accepted book r.changes) r.after (place + 1) rest))).accepted node ≡ true
        → (is_made_split (judged_from (Some mask) job book last (place + 1) rest).accepted node ≡ true → Has mask node)
        → (is_made_split (judged_from (Some mask) job (accepted book r.changes) r.after (place + 1) rest).accepted node ≡ true → Has mask node) → Has mask node
    go (Some q) is m f g = f m
    go None is m f g =
        elim (or_cases (list_any (makes_split node) r.changes) (is_made_split (judged_from (Some mask) job (accepted book r.changes) r.after (place + 1) rest).accepted node) m) [
          | inl own ↦ none-late mask r.changes node (option_or-none (fault_of book job r last) (late_split mask r.changes) is).1 own
          | inr later ↦ g later
        ]

pub splits_within : (mask : ℕ) (job : JobView) (requests : List Request) (node : ℕ) → is_made_split (judged_within (Some mask) job requests).accepted node ≡ true → Has mask node
splits_within mask job requests node made = within_from mask job (first_book job.nodes) 0 1 requests node made

-- ---- a mask that holds the splits that are made

settled_from : (mask : ℕ) (job : JobView) (book : List Current) (last place : ℕ) (requests : List Request)
    → ((node : ℕ) → is_made_split (judged_from None job book last place requests).accepted node ≡ true → Has mask node)
    → judged_from (Some mask) job book last place requests ≡ judged_from None job book last place requests
unfolding judged_from
settled_from mask job book last place [] all = refl
settled_from mask job book last place (r ∷ rest) all =
    go (fault_of book job r last) all (settled_from mask job book last (place + 1) rest) (settled_from mask job (accepted book r.changes) r.after (place + 1) rest)
  where
    go : (o : Option QFault)
        → ((node : ℕ) → is_made_split (by_fault o (λ fault. refusing place fault (judged_from None job book last (place + 1) rest))
        (accepting r (judged_from None job (accepted book r.changes) r.after (place + 1) rest))).accepted node ≡ true → Has mask node)
        → (((node : ℕ) → is_made_split (judged_from None job book last (place + 1) rest).accepted node ≡ true → Has mask node)
        → judged_from (Some mask) job book last (place + 1) rest ≡ judged_from None job book last (place + 1) rest)
        → (((node : ℕ) → is_made_split (judged_from None job (accepted book r.changes) r.after (place + 1) rest).accepted node ≡ true → Has mask node)
        → judged_from (Some mask) job (accepted book r.changes) r.after (place + 1) rest ≡ judged_from None job (accepted book r.changes) r.after (place + 1) rest)
        → by_fault (option_or o (late_split mask r.changes)) (λ fault. refusing place fault (judged_from (Some mask) job book last (place + 1) rest))
        (accepting r (judged_from (Some mask) job (accepted book r.changes) r.after (place + 1) rest))
        ≡ by_fault o (λ fault. refusing place fault (judged_from None job book last (place + 1) rest))
        (accepting r (judged_from None job (accepted book r.changes) r.after (place + 1) rest))
    go (Some q) h f g = ap (refusing place q) (f h)
    go None h f g =
        let later : List Request = (judged_from None job (accepted book r.changes) r.after (place + 1) rest).accepted in
        let none : late_split mask r.changes ≡ None = late-none mask r.changes (λ node own. h node (or_left (list_any (makes_split node) r.changes) (is_made_split later node) own)) in
        rw none (ap (accepting r) (g (λ node more. h node (or_right (list_any (makes_split node) r.changes) (is_made_split later node) more))))

pub settled : (mask : ℕ) (job : JobView) (requests : List Request) → ((node : ℕ) → is_made_split (judged job requests).accepted node ≡ true → Has mask node)
    → judged_within (Some mask) job requests ≡ judged job requests
settled mask job requests all = settled_from mask job (first_book job.nodes) 0 1 requests all
