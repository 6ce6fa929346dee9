-- Lines end with a line feed.
use Rattle.std.proofs.Common.{◌≡◌, ap, length, sym, ◌∙◌, false, true}
use Rattle.std.specs.Prelude.{◌==◌}
use Rattle.kc_conf.proofs.SayLemmas.{whole-end}
use Rattle.kc_conf.proofs.runs.say_waiting.Goals as goal

pub say_parts-requires : goal.say_parts-requires
say_parts-requires g c =
    whole-end c.args.waiting.now c.requires
    (λ e. let both : false ≡ true = sym c.if-is_empty.false ∙ c.is_empty.ensures ∙ ap (λ l. length l == 0) e in cc)
