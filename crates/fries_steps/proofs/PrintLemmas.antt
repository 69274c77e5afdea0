-- What printing comes to.
use Rattle.std.proofs.Common.{◌≡◌, ◌≤◌, ◌⊎◌, ◌++◌, inl, inr, ℕ, List, Option, None, Some, refl, sym, subst, arith, rules}
use Rattle.std.specs.Prelude.{option_map}
use Rattle.payments.specs.Causes.{GainsPrefix, GainsProperPrefix}
use Rattle.payments.specs.World.{SinkState}
use Rattle.tuple_trace.specs.Counts.{Rose}
use Rattle.fries_steps.specs.Effects.{Prints}
use Rattle.fries_lines.specs.FaultWords.{fault_line}
use Rattle.fries_lines.specs.declared.fault.Fault.{Fault}
use Rattle.fries_lines.specs.declared.fault.Fault.TheVariants as fault
use Rattle.fries_lines.specs.declared.fault.FileIs.TheVariants as file

-- if memory runs out before a text is made, nothing of it is printed
pub prints_nothing : (text : List ℕ) (old : SinkState) (answer : Option Fault) → answer ≡ Some fault.NoMemory → Prints text old old answer
prints_nothing text old answer is = subst (λ (a : Option Fault). Prints text old old a) (sym is) (inr refl, refl)

gains_whole : (text : List ℕ) (old new : Option (List ℕ)) → new ≡ option_map (λ written. written ++ text) old → GainsPrefix old new text
gains_whole text old new is = search rules

gains_part : (text : List ℕ) (old new : Option (List ℕ)) → GainsProperPrefix old new text → GainsPrefix old new text
gains_part text old new gains = record { done = gains.done; left = gains.left; text_is = gains.text_is; holds = gains.holds }

gains_at_most : (text : List ℕ) (old new : Option (List ℕ)) → GainsProperPrefix old new text ⊎ (new ≡ old) → GainsPrefix old new text
gains_at_most text old new (inl gains) = gains_part text old new gains
gains_at_most text old new (inr same) = subst (λ (n : Option (List ℕ)). GainsPrefix old n text) (sym same) (search rules)

rose_above : (out later : ℕ) → Rose out later → out ≤ later
rose_above out later rose = search rules

-- printing the line of a fault is what a call may report
pub reports : (why : Fault) (old new : SinkState) (answer : Option Fault) →
    Prints (fault_line why) old new answer → GainsPrefix old.written new.written (fault_line why) × (old.faults ≤ new.faults)
reports why old new None (is, same) = (gains_whole (fault_line why) old.written new.written is, omega (arith, same))
reports why old new (Some (fault.Write file.Out)) (gains, rose) = (gains_part (fault_line why) old.written new.written gains, rose_above old.faults new.faults rose)
reports why old new (Some fault.NoMemory) (gains, same) = (gains_at_most (fault_line why) old.written new.written gains, omega (arith, same))
reports why old new (Some _) prints = absurd prints

-- printing lines comes to its end, or a fault was counted, or memory ran out
pub prints_or : (text : List ℕ) (old new : SinkState) (answer : Option Fault) → Prints text old new answer →
    (answer ≡ None) ⊎ (((answer ≡ Some (fault.Write file.Out)) × Rose old.faults new.faults) ⊎ (answer ≡ Some fault.NoMemory))
prints_or text old new None prints = inl refl
prints_or text old new (Some (fault.Write file.Out)) (gains, rose) = inr (inl (refl, rose))
prints_or text old new (Some fault.NoMemory) prints = inr (inr refl)
prints_or text old new (Some _) prints = absurd prints
