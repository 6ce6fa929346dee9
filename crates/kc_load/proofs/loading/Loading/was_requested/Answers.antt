use Rattle.std.proofs.Common.{ap, is_some, ◌∙◌}
use Rattle.kc_language.specs.Expressions.{same_name}
use Rattle.kc_load.proofs.ListLemmas.{found_is}
use Rattle.kc_load.proofs.loading.Loading.was_requested.Goals as goal

pub returns : goal.returns
returns c = c.is_some.ensures ∙ ap is_some c.find.ensures ∙ found_is (same_name c.args.name.now) c.args.self.now.requested
