use Rattle.std.proofs.Common.{length}
use Rattle.kc_language.specs.Needs.{needs_in}
use Rattle.kc_order.proofs.MinimalLaws.{restores}
use Rattle.kc_order.proofs.laws.minimal_restores.Goals as goal

pub returns : goal.returns
returns g c = λ needs place rhs lines V keep below free reads m. restores (length needs) (needs_in needs) place rhs below reads lines V keep free m
