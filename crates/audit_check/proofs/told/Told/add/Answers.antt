use Rattle.std.proofs.Common.{◌≡◌, ◌∙◌, ◌<◌, ◌++◌, ◌^◌, ◌∷◌, [], List, ℕ, ℤ, ap, get_or, length, refl, sym, subst}
use Rattle.std.specs.Prelude.{slice_set}
use Rattle.std.specs.Int.{w64}
use Rattle.std.specs.Int.Signed.{mag}
use mir.Val.{SFits, of_z, to_z}
use Rattle.std.proofs.lemmas.Int.{to_z-of_z}
use Rattle.std.specs.Vec.{with_item}
use Rattle.std.proofs.lemmas.List.{length-set}
use Rattle.audit_laws.specs.declared.audit.AuditEntry.{AuditEntry}
use Rattle.audit_laws.specs.declared.audit.Line.{Line}
use Rattle.audit_laws.specs.declared.audit.Line.TheVariants as line
use Rattle.audit_laws.specs.Faults.{Listed}
use Rattle.audit_laws.specs.Lines.{counts_in, journal_in}
use Rattle.audit_check.specs.Telling.{IsWithin, Tells}
use Rattle.audit_check.proofs.TellingLemmas.{AreAt, grown, kept, no_count, no_entry, one_count, one_entry, other_count, other_entry}
use Rattle.audit_check.proofs.told.Told.add.Goals as goal

pub returns-in-Refused : goal.returns-in-Refused
returns-in-Refused c workers above told = subst (λ (l : Line). Tells workers (above ++ l ∷ []) c.args.self.now) (sym c.in-Refused.is) (record {
  journals_long = told.journals_long;
  states_long = told.states_long;
  journals_are = kept workers c.args.self.now.journals.items (journal_in above) (journal_in (above ++ line.Refused c.in-Refused.field-0 ∷ [])) told.journals_are (λ v. no_entry above (line.Refused c.in-Refused.field-0) v refl);
  states_are = kept workers c.args.self.now.states.items (counts_in above) (counts_in (above ++ line.Refused c.in-Refused.field-0 ∷ [])) told.states_are (λ v. no_count above (line.Refused c.in-Refused.field-0) v refl);
})

pub returns-in-Feed : goal.returns-in-Feed
returns-in-Feed c workers above told = subst (λ (l : Line). Tells workers (above ++ l ∷ []) c.args.self.now) (sym c.in-Feed.is) (record {
  journals_long = told.journals_long;
  states_long = told.states_long;
  journals_are = kept workers c.args.self.now.journals.items (journal_in above) (journal_in (above ++ line.Feed c.in-Feed.field-0 ∷ [])) told.journals_are (λ v. no_entry above (line.Feed c.in-Feed.field-0) v refl);
  states_are = kept workers c.args.self.now.states.items (counts_in above) (counts_in (above ++ line.Feed c.in-Feed.field-0 ∷ [])) told.states_are (λ v. no_count above (line.Feed c.in-Feed.field-0) v refl);
})

pub returns-in_ok-push-in-Step : goal.returns-in_ok-push-in-Step
returns-in_ok-push-in-Step c workers above told =
    let w = c.in-Step.worker in
    let entry = c.in-Step.entry in
    let items = c.args.self.now.journals.items in
    let was = c.index_mut.result.now in
    let lt : w < length items = subst (IsWithin (length items)) c.in-Step.is c.requires.journals in
    let new : c.push.new.self ≡ get_or items w was ++ entry ∷ [] =
    c.in_ok-push-in-Step.ensures.ok ∙ ap (λ (l : List AuditEntry). l ++ entry ∷ []) c.index_mut.ensures.value in
    subst (λ (l : Line). Tells workers (above ++ l ∷ []) (record { journals = with_item c.args.self.now.journals w c.push.new.self; states = c.args.self.now.states }))
    (sym c.in-Step.is) (record {
      journals_long = length-set items w c.push.new.self ∙ told.journals_long;
      states_long = told.states_long;
      journals_are = subst (λ (x : List AuditEntry). AreAt workers (slice_set items w x) (journal_in (above ++ line.Step w entry ∷ []))) (sym new)
          (grown workers w items was (journal_in above) (journal_in (above ++ line.Step w entry ∷ [])) entry lt told.journals_are (λ v ne. other_entry above v w entry ne) (one_entry above w entry));
      states_are = kept workers c.args.self.now.states.items (counts_in above) (counts_in (above ++ line.Step w entry ∷ [])) told.states_are (λ v. no_count above (line.Step w entry) v refl);
    })

pub returns-in_ok-push-in-State : goal.returns-in_ok-push-in-State
returns-in_ok-push-in-State c workers above told =
    let w = c.in-State.worker in
    let key = c.in-State.key in
    let count = c.in-State.count in
    let items = c.args.self.now.states.items in
    let was = c.index_mut-in-State.result.now in
    let within : (w < length items) × (mag count < 2 ^ 63) = subst (IsWithin (length items)) c.in-State.is c.requires.states in
    let fits : SFits w64 count = record { sfits = within.1 } in
    let same : to_z w64 (of_z w64 count) ≡ count = to_z-of_z w64 count fits in
    let new : c.push-in-State.new.self ≡ get_or items w was ++ (key, count) ∷ [] =
    c.in_ok-push-in-State.ensures.ok ∙ (ap (λ (x : List ℕ × ℤ). was ++ x ∷ []) (c.of.ensures ∙ ap (λ (z : ℤ). (key, z)) same) ∙ ap (λ (l : Listed). l ++ (key, count) ∷ []) c.index_mut-in-State.ensures.value) in
    subst (λ (l : Line). Tells workers (above ++ l ∷ []) (record { journals = c.args.self.now.journals; states = with_item c.args.self.now.states w c.push-in-State.new.self }))
    (sym c.in-State.is) (record {
      journals_long = told.journals_long;
      states_long = length-set items w c.push-in-State.new.self ∙ told.states_long;
      journals_are = kept workers c.args.self.now.journals.items (journal_in above) (journal_in (above ++ line.State w key count ∷ [])) told.journals_are (λ v. no_entry above (line.State w key count) v refl);
      states_are = subst (λ (x : Listed). AreAt workers (slice_set items w x) (counts_in (above ++ line.State w key count ∷ []))) (sym new)
          (grown workers w items was (counts_in above) (counts_in (above ++ line.State w key count ∷ [])) (key, count) within.0 told.states_are (λ v ne. other_count above v w key count ne) (one_count above w key count));
    })
