use Rattle.std.proofs.Common.{◌≡◌, ◌∙◌, ap, arith, drop, length, refl, rules, sym, ℕ}
use Rattle.std.proofs.lemmas.Grind.{common_steps}
use Rattle.std.proofs.lemmas.List.{length-drop, take_rest}
use Rattle.csv.specs.Reading.{default_config}
use Rattle.csv.specs.declared.parser.State.TheVariants as st
use Rattle.input_pieces.specs.Cut.{has_cut, state_after}
use Rattle.input_pieces.proofs.ScanLemmas.{behind_cut}
use Rattle.input_pieces.proofs.pieces.Pieces.take_ready.Goals as goal

pub invariant_of-self : goal.invariant_of-self
invariant_of-self c =
    let old = c.args.self.now in
    let rest : c.replace-piece.new.dest.items ≡ drop old.ready old.kept.items =
    first_of (search rules, grind (arith, common_steps), search (rules, take_rest {X = ℕ})) in
    record {
      placed = old.placed ∙ behind_cut default_config st.StartRecord old.ready old.kept.items old.cut ∙ ap (state_after default_config st.StartRecord) (sym rest);
      within = omega arith;
      cut = refl;
      uncut = ap (has_cut default_config st.StartRecord) rest ∙ old.uncut;
      short = omega (arith, ap length rest, length-drop old.ready old.kept.items, old.short);
    }
