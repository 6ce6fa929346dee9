use Rattle.std.proofs.{Common.{rules, tests}, lemmas.Iterator.{Search.any_from_yields_List, YieldsList-from_slice}}
use Rattle.kc_language.specs.Expansion.{is_choice_block}
use Rattle.kc_read.proofs.frame.Frame.is_in_choice.Goals as goal

pub returns-else-self : goal.returns-else-self
returns-else-self c =
    let xs = c.args.self.now.blocks.items in
    rw c.if-self.false (any_from_yields_List (λ o. is_choice_block o.block) _ _ c.any.result c.any.ensures.ran (YieldsList-from_slice xs cc) (λ x b q k. search (rules, tests)))
