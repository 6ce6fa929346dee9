use Rattle.std.proofs.Common.{length}
use Rattle.kc_language.specs.Needs.{needs_in}
use Rattle.kc_order.proofs.MinimalLaws.{nothing_can_go}
use Rattle.kc_order.proofs.laws.minimal_has_nothing_to_spare.Goals as goal

pub returns : goal.returns
returns g c = λ needs place rhs lines V keep below reads m. nothing_can_go (length needs) (needs_in needs) place rhs below reads lines V keep m
