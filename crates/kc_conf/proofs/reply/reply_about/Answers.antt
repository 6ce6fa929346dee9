-- There is no such value; or the question is answered.
use Rattle.std.proofs.Common.{ap, option_map, refl, subst, sym, ◌∙◌}
use Rattle.std.proofs.lemmas.Result.{IfOk-weaker}
use Rattle.kc_language.specs.Symbols.{TreeFacts}
use Rattle.kc_language.specs.Texts.{IsSolutionFor}
use Rattle.kc_language.specs.Values.{facts, type_in}
use Rattle.kc_user.specs.ValueView.{given_of_value}
use Rattle.kc_conf.proofs.ReplyLemmas.{IsReply-asked, IsReply-no_value, wanted-is}
use Rattle.kc_conf.proofs.reply.reply_about.Goals as goal

pub returns-in_default-2 : goal.returns-in_default-2
returns-in_default-2 c =
    let tree = c.args.accepted.now.laid.tree.now in
    let s = c.in-Some.symbol in
    let solves = c.in_ok-before.ensures.solution in
    let wanted =
    wanted-is c.args.options.now c.args.inquiry.now.asked.now tree s c.in_ok-value.ensures c.is_raw.ensures
    (c.symbol_type-symbol_type.ensures ∙ ap (λ (t : TreeFacts). type_in (facts t s)) solves.tree_is) c.as_bytes-text.ensures.value in
    IsReply-no_value c.args.options.now c.args.inquiry.now.asked.now tree c.args.input.now c.in_ok-before.before
    (subst (λ p. IsSolutionFor tree p c.in_ok-before.before) c.user.ensures solves) s c.in_ok-line.line (sym c.asked_first.ensures.symbol ∙ c.in-Some.is)
    (wanted ∙ ap (option_map given_of_value) c.in_default-2.is) c.in_ok-line.ensures

pub returns : goal.returns
returns c =
    let tree = c.args.accepted.now.laid.tree.now in
    let s = c.in-Some.symbol in
    let solves = c.in_ok-before.ensures.solution in
    let wanted =
    wanted-is c.args.options.now c.args.inquiry.now.asked.now tree s c.in_ok-value.ensures c.is_raw.ensures
    (c.symbol_type-symbol_type.ensures ∙ ap (λ (t : TreeFacts). type_in (facts t s)) solves.tree_is) c.as_bytes-text.ensures.value in
    IfOk-weaker c.reply_to.result _ _
    (λ reply replies.
    IsReply-asked _ reply (subst (λ p. IsSolutionFor tree p c.in_ok-before.before) c.user.ensures solves)
    (record { prefix = refl; goal = record { symbol = sym c.asked_first.ensures.symbol ∙ c.in-Some.is; value = wanted ∙ ap (option_map given_of_value) c.in-Some-2.is }; steps = refl; strict = refl })
    replies) c.reply_to.ensures
