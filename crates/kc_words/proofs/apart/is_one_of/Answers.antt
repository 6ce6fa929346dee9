-- One of the names is the same.
use Rattle.std.proofs.Common.{◌∙◌, ap, sym, arith, bytes_eq}
use Rattle.kc_words.proofs.ApartLemmas.{any-at}
use Rattle.kc_words.proofs.apart.is_one_of.Goals as goal

pub returns-then-eq : goal.returns-then-eq
returns-then-eq c = sym (any-at (bytes_eq c.args.name.now) c.args.names.now c.loop-other.other-index c.other-item.result (omega arith) c.other-item.is
    (ap (bytes_eq c.args.name.now) (sym c.as_str.ensures.value) ∙ sym c.eq.ensures ∙ c.if-eq.true))
