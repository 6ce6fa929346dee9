use Rattle.std.proofs.Common.{ap, subst, sym, ◌∙◌}
use Rattle.kc_language.specs.{ConfigFile.place_at, Values.{choice_at, selected}}
use Rattle.kc_user.specs.PartsOfConfigFile.{member_place}
use Rattle.kc_values.specs.{Table.known_in, TableFacts.IsSelected}
use Rattle.kc_solve.proofs.FlagSteps.{one_more_default, one_more_selected}
use Rattle.kc_solve.proofs.flags.selections.Goals as goal

pub selection-selection-requires : goal.selection-selection-requires
selection-selection-requires c = subst (IsSelected c.args.table.now c.loop-c.c) (sym c.selected-given.ensures) (c.requires.selected c.loop-c.c)

pub loop-c-preserved : goal.loop-c-preserved
loop-c-preserved c =
    let t = c.args.table.now.tree.now in
    let values = c.args.table.now.values in
    record {
      selected = one_more_selected t values (place_at c.args.user.now) c.loop-c.c c.selection-selection.result c.loop-c.selected.items c.push.new.self.items c.requires.full
          c.loop-c.invariant.selected c.in_ok-push.ensures.items
          (c.selection-selection.ensures ∙ ap (λ o. selected t (known_in t values) (choice_at t c.loop-c.c) (member_place o)) c.selected-given.ensures);
      default = one_more_default t values c.loop-c.c c.default_of.result c.loop-c.default.items c.push-in-loop-c.new.self.items c.requires.full c.loop-c.invariant.default
          c.in_ok-push-2.ensures.items c.default_of.ensures;
    }
