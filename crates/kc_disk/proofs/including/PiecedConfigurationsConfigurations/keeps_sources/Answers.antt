-- They are kept if the options of all configurations want them.
use Rattle.std.proofs.Common.{Bool, map, string_bytes, subst, sym}
use Rattle.kc_conf.specs.Many.{KeepsFor}
use Rattle.kc_disk.specs.Program.{GivesPieced}
use Rattle.kc_disk.proofs.KeptLemmas.{keeps_for_pieces}
use Rattle.kc_disk.proofs.including.PiecedConfigurationsConfigurations.keeps_sources.Goals as goal

pub returns : goal.returns
returns c =
    let named = c.args.self.now.named.now in
    let each = named.each.now in
    let names = map string_bytes named.names.now in
    subst (λ (b : Bool). KeepsFor (GivesPieced each names) b) (sym c.wants_sources.ensures) (keeps_for_pieces each names)
