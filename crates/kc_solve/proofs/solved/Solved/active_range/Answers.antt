use Rattle.std.proofs.Common.{ap, arith, subst, sym, ◌<◌, ◌∙◌}
use Rattle.std.specs.Option.{option_and_then}
use Rattle.kc_language.specs.{Expressions.SymbolValue, Symbols.TreeFacts, Texts.Solution, Values.{active_range, facts, name_count}, declared.expressions.SymId.SymId}
use Rattle.kc_values.specs.TableFacts.{known_at}
use Rattle.kc_solve.proofs.{SolvedSteps.told, TableSteps.{row_count, row_facts}}
use Rattle.kc_solve.proofs.solved.Solved.active_range.Goals as goal

pub symbol_row-symbol-requires : goal.symbol_row-symbol-requires
symbol_row-symbol-requires c =
    let below : c.args.id.0 < name_count c.self.inside.table.tree.now = subst (λ (s : Solution). c.args.id.0 < name_count s.tree) (sym c.self.view_is) c.requires in
    omega (arith, below, row_count c.self.inside.table)

pub returns-clause-range : goal.returns-clause-range
returns-clause-range c =
    let t = c.self.inside.table in
    let at = row_facts t c.args.id c.symbol_row-symbol.result.now c.symbol_row-symbol.ensures in
    told t.tree.now c.self.inside.user.now t.values c.self.invariant.full _ c.self.view_is
    (λ (tree : TreeFacts) (k : SymId → SymbolValue). option_and_then (active_range tree k) (facts tree c.args.id)) _
    (c.active_range.ensures.range ∙ sym (ap (option_and_then (active_range t.tree.now (known_at t))) at))
