-- A place of the user's is what its value says.
use Rattle.std.proofs.Common.{ap, ◌∙◌}
use Rattle.kc_language.specs.ConfigFile.{Places}
use Rattle.kc_explain.proofs.FactLemmas.{given_found}
use Rattle.kc_explain.proofs.facts.given_at.Goals as goal

pub returns : goal.returns
returns c =
    given_found _ c.symbols.result.now c.args.input.now.places c.args.id.0 c.get.ensures (c.symbols.ensures ∙ ap (λ (p : Places). p.symbols) c.user.ensures)
