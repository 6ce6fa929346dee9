-- The line counts if it made the member y.
use Rattle.std.proofs.Common.{None, Option, ap, sym, ◌∙◌}
use Rattle.std.specs.Prelude.{if◌then◌else◌}
use Rattle.kc_language.specs.ConfigFile.{place_at, plain_line}
use Rattle.kc_language.specs.Values.{SymbolPlace}
use Rattle.kc_language.specs.declared.expressions.SymId.{SymId}
use Rattle.kc_user.specs.PartsOfConfigFile.{member_place}
use Rattle.kc_explain.specs.ChoiceFacts.{choosing_line, is_yes_given}
use Rattle.kc_explain.proofs.ChoiceFactLemmas.{chosen_by}
use Rattle.kc_explain.proofs.choice_facts.choosing_line.Goals as goal

pub returns-then-is_yes : goal.returns-then-is_yes
returns-then-is_yes c =
    c.plain_line.ensures
    ∙ ap (λ b. if b then plain_line c.args.input.now c.args.input.now.lines c.in-Some.chosen else None) (sym c.if-is_yes.true ∙ c.is_yes.ensures ∙ ap is_yes_given c.given_at.ensures)
    ∙ chosen_by (place_at c.args.input.now.places (SymbolPlace c.in-Some.chosen.0)) (plain_line c.args.input.now c.args.input.now.lines c.in-Some.chosen)
    ∙ ap (λ (m : Option SymId). choosing_line c.args.input.now (member_place m)) (sym c.in-Some.is)

pub returns-else-is_yes : goal.returns-else-is_yes
returns-else-is_yes c =
    ap (λ b. if b then plain_line c.args.input.now c.args.input.now.lines c.in-Some.chosen else None) (sym c.if-is_yes.false ∙ c.is_yes.ensures ∙ ap is_yes_given c.given_at.ensures)
    ∙ chosen_by (place_at c.args.input.now.places (SymbolPlace c.in-Some.chosen.0)) (plain_line c.args.input.now c.args.input.now.lines c.in-Some.chosen)
    ∙ ap (λ (m : Option SymId). choosing_line c.args.input.now (member_place m)) (sym c.in-Some.is)
