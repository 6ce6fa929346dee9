-- A symbol of each type.
use Rattle.std.proofs.Common.{List, ap, append_assoc, ◌++◌, ◌∙◌}
use Rattle.std.proofs.lemmas.Result.{on_ok_weaker}
use Rattle.kc_language.specs.Values.{visible_text}
use Rattle.kc_explain.specs.FactLists.{facts_by, modules_told, number_told, shown, text_told, truth_told}
use Rattle.kc_explain.specs.FactViews.{FactView}
use Rattle.kc_explain.proofs.FactLemmas.{none-added, value_bool, value_hex, value_int, value_string, value_tristate, value_untyped, visibility_is}
use Rattle.kc_explain.proofs.facts.add_value.Goals as goal

pub returns-in-Undefined : goal.returns-in-Undefined
returns-in-Undefined c = none-added (shown c.args.t.now c.args.facts.now.items) _ (value_untyped c.args.t.now c.args.id (facts_by c.args.t.now c.args.id c.args.symbol.now) c.in-Undefined.is)

pub returns-in-Bool : goal.returns-in-Bool
returns-in-Bool c =
    on_ok_weaker c.add_truth.result (λ e. e ∙ ap (λ (xs : List FactView). shown c.args.t.now c.args.facts.now.items ++ xs)
    (value_bool c.args.t.now c.args.id (facts_by c.args.t.now c.args.id c.args.symbol.now) c.in-Bool.is)) c.add_truth.ensures

pub returns-in_ok-add_modules-in-Tristate : goal.returns-in_ok-add_modules-in-Tristate
returns-in_ok-add_modules-in-Tristate c =
    on_ok_weaker c.add_truth-in-Tristate.result
    (λ e. e ∙ ap (λ (xs : List FactView). xs ++ truth_told c.args.t.now c.args.id (facts_by c.args.t.now c.args.id c.args.symbol.now)) c.in_ok-add_modules-in-Tristate.ensures
    ∙ append_assoc (shown c.args.t.now c.args.facts.now.items) (modules_told c.args.t.now) (truth_told c.args.t.now c.args.id (facts_by c.args.t.now c.args.id c.args.symbol.now))
    ∙ ap (λ (xs : List FactView). shown c.args.t.now c.args.facts.now.items ++ xs)
    (value_tristate c.args.t.now c.args.id (facts_by c.args.t.now c.args.id c.args.symbol.now) c.in-Tristate.is)) c.add_truth-in-Tristate.ensures

pub returns-in-Str : goal.returns-in-Str
returns-in-Str c =
    on_ok_weaker c.add_text.result (λ e. e ∙ ap (λ (xs : List FactView). shown c.args.t.now c.args.facts.now.items ++ xs)
    (ap (text_told c.args.t.now c.args.id c.args.symbol.now.symbol_type) (c.visible_text-shown.ensures ∙ (λ j. visible_text (c.given_at.ensures j) ((c.visibility.ensures ∙ visibility_is c.args.t.now c.args.id c.args.symbol.now c.requires) j)))
    ∙ value_string c.args.t.now c.args.id (facts_by c.args.t.now c.args.id c.args.symbol.now) c.in-Str.is)) c.add_text.ensures

pub returns-in-Int : goal.returns-in-Int
returns-in-Int c =
    on_ok_weaker c.add_number.result (λ e. e ∙ ap (λ (xs : List FactView). shown c.args.t.now c.args.facts.now.items ++ xs)
    (ap (number_told c.args.t.now c.args.id (facts_by c.args.t.now c.args.id c.args.symbol.now)) (c.visible_text-shown.ensures ∙ (λ j. visible_text (c.given_at.ensures j) ((c.visibility.ensures ∙ visibility_is c.args.t.now c.args.id c.args.symbol.now c.requires) j)))
    ∙ value_int c.args.t.now c.args.id (facts_by c.args.t.now c.args.id c.args.symbol.now) c.in-Int.is)) c.add_number.ensures

pub returns-in-Hex : goal.returns-in-Hex
returns-in-Hex c =
    on_ok_weaker c.add_number-in-Hex.result (λ e. e ∙ ap (λ (xs : List FactView). shown c.args.t.now c.args.facts.now.items ++ xs)
    (ap (number_told c.args.t.now c.args.id (facts_by c.args.t.now c.args.id c.args.symbol.now)) (c.visible_text-shown.ensures ∙ (λ j. visible_text (c.given_at.ensures j) ((c.visibility.ensures ∙ visibility_is c.args.t.now c.args.id c.args.symbol.now c.requires) j)))
    ∙ value_hex c.args.t.now c.args.id (facts_by c.args.t.now c.args.id c.args.symbol.now) c.in-Hex.is)) c.add_number-in-Hex.ensures
