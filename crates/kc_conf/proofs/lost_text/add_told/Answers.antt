-- The symbols are those of the lost values.
use Rattle.std.proofs.Common.{◌≡◌, ◌∙◌, ◌++◌, List, ap, append_assoc, length, map, sym, ℕ}
use Rattle.std.proofs.lemmas.Result.{IfOk-weaker}
use Rattle.std.proofs.lemmas.List.{length-map}
use Rattle.std.specs.List.{flat_map}
use Rattle.kc_language.specs.declared.expressions.SymId.{SymId}
use Rattle.kc_language.specs.Values.{name}
use Rattle.kc_outcome.specs.Explanations.{causes_lines, text_of_lines}
use Rattle.kc_outcome.specs.Outcome.{question_text}
use Rattle.kc_tree.proofs.ListLemmas.{map-map_is}
use Rattle.kc_conf.specs.Lost.{lost_view, with_explanation}
use Rattle.kc_conf.proofs.lost_text.add_told.Goals as goal

abbrev symbol_of : SymId × List ℕ → SymId
symbol_of v = v.0

pub returns : goal.returns
returns c =
    let t = c.args.t.now in
    let front = c.args.front.now in
    let values = map lost_view c.args.lost.now in
    let told = flat_map (with_explanation t front) values in
    let causes : List SymId → ℕ → List ℕ = λ symbols n. text_of_lines front (causes_lines t.input.now t.solved.now t.is_raw symbols n) in
    let question : List SymId → List ℕ = λ symbols. question_text front (map (name t.solved.now.tree) symbols) in
    let symbols : c.deref.result.now ≡ map symbol_of values = c.deref.ensures.value ∙ c.in_ok-symbols.ensures ∙ sym (map-map_is symbol_of lost_view c.args.lost.now) in
    let count : length c.deref.result.now ≡ length values = ap length symbols ∙ length-map values symbol_of in
    let again : c.deref-2.result.now ≡ map symbol_of values = c.deref-2.ensures.value ∙ c.in_ok-symbols.ensures ∙ sym (map-map_is symbol_of lost_view c.args.lost.now) in
    IfOk-weaker c.add_first_question.result _ _ (λ u more. more
    ∙ (λ j. c.in_ok-add_causes.ensures j ++ question_text front (map (name (c.tree.ensures j)) (again j)))
    ∙ (λ j. c.in_ok-add_all_explained.ensures j ++ causes (symbols j) (count j) ++ question (map symbol_of values))
    ∙ ap (λ x. x ++ question (map symbol_of values)) (append_assoc c.args.text.now.items told (causes (map symbol_of values) (length values)))
    ∙ append_assoc c.args.text.now.items (told ++ causes (map symbol_of values) (length values)) (question (map symbol_of values))) c.add_first_question.ensures
