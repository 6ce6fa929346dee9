use Rattle.std.proofs.Common.{rules, tests}
use Rattle.std.proofs.lemmas.Iterator.{YieldsList-from_slice}
use Rattle.std.proofs.lemmas.Iterator.Search.{find_from_yields_List}
use Rattle.kc_hints.specs.Facts.{names_file}
use Rattle.kc_hints.specs.declared.facts.Input.{Input}
use Rattle.kc_hints.proofs.value.input_named.Goals as goal

pub returns : goal.returns
returns c = find_from_yields_List (λ (input : Input). names_file c.args.file.now input.name.items) _ _ _ c.find.ensures.ran (YieldsList-from_slice c.args.inputs.now cc) (λ x b q k. search (rules, tests))
