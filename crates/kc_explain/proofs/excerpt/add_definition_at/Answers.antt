-- The definition of an entry that is there.
use Rattle.kc_read.specs.Files.{files_in}
use Rattle.std.proofs.Common.{ℕ, List, ap, ◌++◌, ◌∙◌}
use Rattle.std.proofs.lemmas.Result.{on_ok_weaker}
use Rattle.kc_explain.proofs.ExcerptLemmas.{definition-is}
use Rattle.kc_explain.proofs.excerpt.add_definition_at.Goals as goal

pub returns-in-Some-clause-text : goal.returns-in-Some-clause-text
returns-in-Some-clause-text c =
    on_ok_weaker c.add_definition.result (λ e. e ∙ ap (λ (r : List ℕ). c.args.text.now.items ++ r)
    (definition-is c.args.layout.now (files_in c.args.reader.now) c.args.entry c.in-Some.own.first.now c.in-Some.own.attributes.now c.in-Some.ensures.first c.in-Some.ensures.own))
    c.add_definition.ensures.text
