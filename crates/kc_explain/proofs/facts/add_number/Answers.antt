-- The range that counts is that of the facts of the symbol.
use Rattle.std.proofs.Common.{ap, append_assoc, ◌++◌, ◌∙◌}
use Rattle.std.specs.Option.{option_copied}
use Rattle.std.proofs.lemmas.Result.{on_ok_weaker}
use Rattle.kc_language.specs.Values.{if_within_range}
use Rattle.kc_explain.specs.FactLists.{ranges_of, shown, text_told}
use Rattle.kc_explain.proofs.FactLemmas.{range_is, row_within}
use Rattle.kc_explain.proofs.facts.add_number.Goals as goal

pub active_range-range-requires : goal.active_range-range-requires
active_range-range-requires c = row_within c.args.t.now c.args.id c.args.symbol.now c.requires

pub returns : goal.returns
returns c =
    let used = c.if_within_range-used.ensures
    ∙ ap (λ range. if_within_range c.args.symbol.now.symbol_type range (option_copied c.args.shown)) (c.active_range-range.ensures.range ∙ range_is c.args.t.now c.args.id c.args.symbol.now c.requires) in
    on_ok_weaker c.add_text.result
    (λ e. e ∙ (λ j. c.in_ok-add_ranges.ensures j ++ text_told c.args.t.now c.args.id c.args.symbol.now.symbol_type (used j))
    ∙ append_assoc (shown c.args.t.now c.args.facts.now.items) (ranges_of c.args.t.now c.args.id c.args.symbol.now.symbol_type) _) c.add_text.ensures
