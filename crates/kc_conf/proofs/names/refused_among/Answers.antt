-- A name that make cannot read comes first.
use Rattle.std.proofs.Common.{◌∙◌, ap, sym, option_map}
use Rattle.std.proofs.lemmas.Result.{IfOk-weaker}
use Rattle.kc_outcome.specs.Outcome.{unknown_name}
use Rattle.kc_conf.specs.PartsOfOutcome.{refusal_by}
use Rattle.kc_conf.proofs.names.refused_among.Goals as goal

pub returns-in-Some : goal.returns-in-Some
returns-in-Some c = λ opened listed.
    ap (λ u. refusal_by c.args.tree.now u (unknown_name c.args.options.now c.args.tree.now)) (ap (option_map (λ n. n.now)) (sym c.in-Some.is) ∙ c.unreadable_among.ensures opened listed)

pub returns-in-None : goal.returns-in-None
returns-in-None c = IfOk-weaker c.unknown_among.result _ _
    (λ refused is opened listed.
    is ∙ ap (λ u. refusal_by c.args.tree.now u (unknown_name c.args.options.now c.args.tree.now)) (ap (option_map (λ n. n.now)) (sym c.in-None.is) ∙ c.unreadable_among.ensures opened listed))
    c.unknown_among.ensures
