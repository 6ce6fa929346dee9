use Rattle.std.proofs.Common.{None, Option, Some, ap, refl, sym, ◌∙◌, ◌≡◌}
use Rattle.std.specs.Prelude.{option_map}
use Rattle.kc_language.specs.Expressions.{lesser}
use Rattle.kc_entries.specs.{StatementViews.head_view, declared.{entries.Entry.Entry, statement.Head.Head}}
use Rattle.kc_tree.specs.Layouts.{entry_at, place_of, visible_at}
use Rattle.kc_values.specs.AtTable as table
use Rattle.kc_values.specs.TableFacts.{condition_at, known_at}
use Rattle.kc_values.proofs.ConditionLemmas.{condition-with_conjuncts}
use Rattle.kc_values.proofs.conditions.title_condition.Goals as goal

viewed : (o : Option Entry) → option_map (λ (h : Head). head_view h) (option_map (λ (x : Entry). x.head) o) ≡ option_map (λ (x : Entry). head_view x.head) o
viewed None = refl
viewed (Some x) = refl

pub returns-in-Some-Menu : goal.returns-in-Some-Menu
returns-in-Some-Menu c =
    let t = c.args.table.now in
    let l = t.layout.now in
    let at = c.args.entry.0 in
    let p = place_of l at in
    c.lesser.ensures
    ∙ (λ j. lesser (c.context.ensures j) (c.visible_context.ensures j))
    ∙ ap (λ q. lesser (table.context t q.context.0) (table.visible_context t q.visible.0)) c.place-place.ensures
    ∙ sym (condition-with_conjuncts t.tree.now (known_at t) (condition_at t p.context.0) (visible_at l p.visible.0))
    ∙ ap (table.title_value t at) (ap (λ h. Some (head_view h)) (sym c.in-Some-Menu.field-0-is) ∙ ap (option_map (λ (h : Head). head_view h)) c.in-Some-Menu.ensures ∙ viewed (entry_at l at))
