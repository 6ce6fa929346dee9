use Rattle.std.proofs.Common.{None, Some, ap, false, sym, ◌∙◌}
use Rattle.std.specs.Option.{option_map_or}
use Rattle.kc_language.specs.Values as spec
use Rattle.kc_values.specs.TableFacts.{known_at}
use Rattle.kc_values.proofs.Laid.{choice_found}
use Rattle.kc_values.proofs.answers.has_other.Goals as goal

pub has_other_member-requires : goal.has_other_member-requires
has_other_member-requires c =
    let t = c.args.table.now in
    c.requires
    ∙ ap (λ o. spec.selected t.tree.now (known_at t) o None) (sym (choice_found t.tree.now t.layout.now t.laid c.args.choice.0 (Some c.in-Some.found.now) c.in-Some.ensures))

pub returns-in-Some : goal.returns-in-Some
returns-in-Some c =
    let t = c.args.table.now in
    c.has_other_member.ensures
    ∙ ap (λ o. option_map_or (spec.has_other t.tree.now (known_at t)) o false) (choice_found t.tree.now t.layout.now t.laid c.args.choice.0 (Some c.in-Some.found.now) c.in-Some.ensures)

pub returns-in-None : goal.returns-in-None
returns-in-None c =
    let t = c.args.table.now in
    ap (λ o. option_map_or (spec.has_other t.tree.now (known_at t)) o false) (choice_found t.tree.now t.layout.now t.laid c.args.choice.0 None c.in-None.ensures)
