-- The explanation of one name more.
use Rattle.std.proofs.Common.{◌++◌, ◌∙◌, ℕ, List, [], ap, string_bytes}
use Rattle.std.specs.List.{flat_map}
use Rattle.kc_outcome.specs.Explanations.{asked_symbol, explanation_text}
use Rattle.kc_language.specs.Symbols.{listed}
use Rattle.kc_conf.proofs.MoreLemmas.{one_more_mapped}
use Rattle.kc_conf.proofs.explained.explanations.Goals as goal

pub loop-asked-preserved : goal.loop-asked-preserved
loop-asked-preserved c =
    let told : List ℕ → List ℕ = λ asked.
    flat_map (explanation_text c.new-teller.result.input.now c.new-teller.result.solved.now c.new-teller.result.is_raw c.args.options.now.explain_depth) (listed (asked_symbol c.new-teller.result.solved.now.tree c.args.options.now.prefix.prefix asked)) in
    one_more_mapped told string_bytes c.deref-asked-items.result.now c.args.options.now.explain.items c.loop-asked.asked-index c.asked-item.result _ _
    c.deref-asked-items.ensures.value c.loop-asked-test.true c.asked-item.is c.loop-asked.invariant
    (c.in_ok-add_asked.ensures ∙ ap (λ (t : List ℕ). c.loop-asked.text.items ++ told t) c.as_bytes.ensures.value)
