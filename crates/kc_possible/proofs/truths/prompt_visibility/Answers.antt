use Rattle.std.proofs.Common.{Option, subst, sym}
use Rattle.std.specs.Prelude.{option_map}
use Rattle.kc_language.specs.{Expressions.Form, Statements.InputPrompt, Symbols.listed, Values.{condition, conditions}}
use Rattle.kc_entries.specs.StatementViews.{input_prompt_view}
use Rattle.kc_tree.specs.Layouts.{condition_at, prompt_view, visible_at}
use Rattle.kc_values.proofs.TriLemmas.{greater_n}
use Rattle.kc_possible.specs.Bounds.{IsWithin}
use Rattle.kc_possible.proofs.truths.prompt_visibility.Goals as goal

pub returns-in-Some : goal.returns-in-Some
returns-in-Some c = λ known h.
    let tree = c.args.p.now.laid.tree.now in
    let l = c.args.p.now.laid.layout.now in
    let view = prompt_view (condition_at l c.args.place.context.0) (visible_at l c.args.place.visible.0) in
    let b = c.prompt_bounds.result in
    subst (λ (o : Option (InputPrompt Form)). IsWithin b (conditions tree known (listed (option_map view o)))) c.in-Some.ensures
    (subst (λ t. IsWithin b t) (sym (greater_n (condition tree known (view (input_prompt_view c.in-Some.prompt.now))))) (c.prompt_bounds.ensures known h))
