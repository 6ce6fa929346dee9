-- The results of the solution, of which is kept what the next one needs.
use Rattle.std.proofs.Common.{map, option_map, refl, subst, sym, ◌∙◌}
use Rattle.kc_io.specs.Delivered.{text_view}
use Rattle.kc_language.specs.Symbols.{TreeFacts}
use Rattle.kc_conf.specs.Computed.{Computes}
use Rattle.kc_conf.proofs.compute.compute.Goals as goal

pub results_of-requires : goal.results_of-requires
results_of-requires c = record {
  tree_is = refl;
  places_are = c.in_ok-solved.ensures.solution.places_are ∙ c.user.ensures;
  solves = c.in_ok-solved.ensures.solution.solves;
}

pub returns-clause-computes : goal.returns-clause-computes
returns-clause-computes c = λ files opened listed are.
    subst (λ (t : TreeFacts). Computes files c.args.options.now opened t c.args.input.now c.args.waiting.now.items c.results_of.new.waiting.items (option_map (λ texts. map text_view texts.items) c.in_ok-texts.texts))
    c.in_ok-solved.ensures.solution.tree_is (c.in_ok-texts.ensures.computes files opened listed are)

pub returns-clause-again : goal.returns-clause-again
returns-clause-again c = c.keep.ensures c.args.accepted.now.laid (sym c.in_ok-solved.ensures.solution.tree_is) c.in_ok-solved.ensures.stage c.in_ok-solved.ensures.again
