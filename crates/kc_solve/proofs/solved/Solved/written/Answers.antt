use Rattle.std.proofs.Common.{Some, ap, option_map, sym, ◌∙◌}
use Rattle.kc_language.specs.{ConfigFile.place_at, Expressions.SymbolValue, Symbols.TreeFacts, Values.written, declared.expressions.SymId.SymId}
use Rattle.kc_solve.proofs.{SolvedSteps.{told, written_is}, WrittenSteps.solved_at}
use Rattle.kc_solve.proofs.solved.Solved.written.Goals as goal

pub is_written-requires : goal.is_written-requires
is_written-requires c =
    let is = c.self.invariant in
    solved_at c.self.inside.table (place_at c.self.inside.user.now) is.full is.solves c.args.id

pub returns-in-Some : goal.returns-in-Some
returns-in-Some c =
    let t = c.self.inside.table in
    c.at_symbol.ensures ∙ written_is t.tree.now c.self.inside.user.now t.values _ _ _ _ _ c.self.invariant _ c.self.view_is _
    (ap (option_map (λ v. v.items)) c.in-Some.is ∙ ap Some (sym c.deref.ensures.value)) c.args.id

pub returns-in-None : goal.returns-in-None
returns-in-None c =
    let t = c.self.inside.table in
    told t.tree.now c.self.inside.user.now t.values c.self.invariant.full _ c.self.view_is
    (λ (tree : TreeFacts) (k : SymId → SymbolValue). written tree k c.args.id) _
    c.is_written.ensures
