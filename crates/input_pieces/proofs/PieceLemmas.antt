-- Bytes that are gathered and given: calls one after another.
use Rattle.std.proofs.Common.{◌≡◌, ◌∙◌, ◌++◌, ℕ, List, [], ◌∷◌, Option, Some, None, refl, sym, ap, map, All}
use Rattle.std.proofs.lemmas.List.{append-nil, append_assoc}
use Rattle.std.proofs.lemmas.List.Elements.{All-head, All-tail}
use Rattle.std.specs.List.{concat, flat_map}
use Rattle.std.specs.Io.KnownBytes.{Keeps}
use Rattle.std.proofs.KnownBytes.{Consumes-trans}
use Rattle.csv.specs.Reading.{default_config, records}
use Rattle.input_pieces.specs.Cut.{IsCut}
use Rattle.input_pieces.specs.Gathering.{AreCalls, Call, Gathers}
use Rattle.input_pieces.proofs.CutLemmas.{records_both}

-- nothing was read
pub gathers_nothing : (left still : Option (List ℕ)) (kept : List ℕ) → Keeps left still → Gathers left still kept [] kept
gathers_nothing None still kept p = ([], tt, append-nil kept)
gathers_nothing (Some xs) None kept p = absurd p
gathers_nothing (Some xs) (Some ys) kept p = ([], sym p, append-nil kept)

-- one call after another
pub gathers_on : (a b c : Option (List ℕ)) (kept mid given keeps : List ℕ) → Gathers a b kept [] mid → Gathers b c mid given keeps → Gathers a c kept given keeps
gathers_on a b c kept mid given keeps (x, p, e) (y, q, f) =
    (x ++ y, Consumes-trans a b c x y p q, sym (append_assoc kept x y) ∙ ap (λ l. l ++ y) e ∙ f)

-- what was gathered is given
pub gathers_given : (a b : Option (List ℕ)) (kept mid given keeps : List ℕ) → Gathers a b kept [] mid → mid ≡ given ++ keeps → Gathers a b kept given keeps
gathers_given a b kept mid given keeps (x, p, e) f = (x, p, e ∙ f)

pub calls_join : (kept : List ℕ) (calls : List Call) (keeps : List ℕ) → AreCalls kept calls keeps
    → kept ++ concat (map (λ call. call.read) calls) ≡ concat (map (λ call. call.given) calls) ++ keeps
calls_join kept [] keeps e = append-nil kept ∙ e
calls_join kept (call ∷ calls) keeps (next, e, more) =
    let reads = concat (map (λ (c : Call). c.read) calls) in
    let givens = concat (map (λ (c : Call). c.given) calls) in
    sym (append_assoc kept call.read reads)
    ∙ ap (λ l. l ++ reads) e
    ∙ append_assoc call.given next reads
    ∙ ap (λ l. call.given ++ l) (calls_join next calls keeps more)
    ∙ sym (append_assoc call.given givens keeps)

pub one_by_one : (pieces : List (List ℕ)) (last : List ℕ) → All (IsCut default_config) pieces
    → records default_config (concat pieces ++ last) ≡ flat_map (records default_config) pieces ++ records default_config last
one_by_one [] last cut = refl
one_by_one (piece ∷ pieces) last cut =
    ap (records default_config) (append_assoc piece (concat pieces) last)
    ∙ records_both default_config piece (concat pieces ++ last) (All-head (IsCut default_config) piece pieces cut)
    ∙ ap (λ l. records default_config piece ++ l) (one_by_one pieces last (All-tail (IsCut default_config) piece pieces cut))
    ∙ sym (append_assoc (records default_config piece) (flat_map (records default_config) pieces) (records default_config last))
