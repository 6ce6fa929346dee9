-- The lines that begin the definitions. No place was seen before.
use Rattle.kc_read.specs.Files.{files_in}
use Rattle.std.proofs.Common.{ℕ, List, ap, ◌++◌, ◌∙◌}
use Rattle.std.proofs.lemmas.Result.{on_ok_weaker}
use Rattle.kc_explain.specs.Excerpts.{new_definitions}
use Rattle.kc_explain.specs.Places.{Place}
use Rattle.kc_explain.proofs.PlaceLemmas.{comments-are}
use Rattle.kc_explain.proofs.excerpt.DefinitionReader.add_definitions.Goals as goal

pub returns-clause-text : goal.returns-clause-text
returns-clause-text c =
    rw (← c.self.view_is)
    (on_ok_weaker c.add_each_definition.result (λ e. e ∙ ap (λ (t : List ℕ). c.args.text.now.items ++ t)
    (ap (λ (seen : List Place). new_definitions (files_in c.self.inside.lines) c.args.layout.now seen c.deref.result.now) c.new-places.ensures
    ∙ comments-are c.args.layout.now (files_in c.self.inside.lines) c.deref.result.now c.args.id (rw c.deref.ensures.value c.in_ok-definitions.ensures))) c.add_each_definition.ensures.text)
