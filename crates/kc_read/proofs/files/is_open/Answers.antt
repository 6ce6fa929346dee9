use Rattle.std.proofs.{Common.{rules, sym, tests, ◌∙◌}, lemmas.Iterator.{Search.any_from_yields_List, YieldsList-from_slice}}
use Rattle.kc_language.specs.Expressions.{same_name}
use Rattle.kc_entries.proofs.ListLemmas.{list_any-map}
use Rattle.kc_read.proofs.files.is_open.Goals as goal

pub returns : goal.returns
returns c =
    let xs = c.args.progress.now.open_files.items in
    any_from_yields_List (λ f. same_name c.args.name.now f.value.items) _ _ c.any.result c.any.ensures.ran (YieldsList-from_slice xs cc) (λ x b q k. search (rules, tests))
    ∙ sym (list_any-map (same_name c.args.name.now) (λ f. f.value.items) xs)
