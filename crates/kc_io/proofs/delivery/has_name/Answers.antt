use Rattle.std.proofs.{Common.{bytes_eq, rules, sym, tests, ◌∙◌}, lemmas.Iterator.{Search.any_from_yields_List, YieldsList-from_slice}}
use Rattle.kc_io.proofs.DeliveryLemmas.{list_any-map}
use Rattle.kc_io.proofs.delivery.has_name.Goals as goal

pub returns : goal.returns
returns c =
    let xs = c.args.texts.now in
    any_from_yields_List (λ text. bytes_eq c.args.name.now text.name.now) _ _ c.any.result c.any.ensures.ran (YieldsList-from_slice xs cc) (λ x b q k. search (rules, tests))
    ∙ sym (list_any-map (λ text. bytes_eq c.args.name.now text.name) xs)
