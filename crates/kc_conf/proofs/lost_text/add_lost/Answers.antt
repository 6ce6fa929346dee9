-- With explanations and causes, or the lines alone.
use Rattle.std.proofs.Common.{◌≡◌, ◌∙◌, ◌++◌, Bool, List, ℕ, ap, codes, false, length, map}
use Rattle.std.specs.Prelude.{◌&&◌}
use Rattle.std.proofs.lemmas.Result.{IfOk-weaker}
use Rattle.std.specs.List.{flat_map}
use Rattle.kc_language.specs.ConfigFile.{UserInput}
use Rattle.kc_language.specs.Texts.{Solution}
use Rattle.kc_language.specs.Values.{name}
use Rattle.kc_outcome.specs.Explanations.{causes_lines, symbol_lines, text_of_lines}
use Rattle.kc_outcome.specs.Outcome.{question_text}
use Rattle.kc_conf.specs.Lost.{lost_view}
use Rattle.kc_conf.proofs.LostLemmas.{lost_explained, lost_plain}
use Rattle.kc_conf.proofs.lost_text.add_lost.Goals.{else-options-via-then-options+else-options-2, else-options-via-else-options}
use Rattle.kc_conf.proofs.lost_text.add_lost.Goals as goal

pub returns-in_ok-front : goal.returns-in_ok-front
returns-in_ok-front c =
    let options = c.args.options.now in
    let values = map lost_view c.args.lost.now in
    let told : UserInput → Solution → Bool → List ℕ → List ℕ = λ input solution is_raw front.
    flat_map (λ v. v.1 ++ codes "\n" ++ text_of_lines front (symbol_lines input solution is_raw v.0)) values
    ++ text_of_lines front (causes_lines input solution is_raw (map (λ v. v.0) values) (length values))
    ++ question_text front (map (name solution.tree) (map (λ v. v.0) values)) in
    IfOk-weaker c.add_told.result _ _ (λ u more. more ∙ ap (λ x. c.args.text.now.items ++ x)
    ((λ j. told (c.new-teller.ensures.input j) (c.new-teller.ensures.solved j) ((c.new-teller.ensures.is_raw ∙ c.is_raw.ensures) j) ((c.deref.ensures.value ∙ c.in_ok-front.ensures) j))
    ∙ lost_explained options c.args.input.now c.args.solved.now values c.requires c.if-options-2.true (ap (λ b. b && options.warn_lost) c.if-options.true ∙ c.if-options-2.true))) c.add_told.ensures

pub returns-else-options : goal.returns-else-options
returns-else-options c =
    let options = c.args.options.now in
    let off : (options.explain_lost && options.warn_lost) ≡ false = elim c.else-options.branch [
      | else-options-via-then-options+else-options-2 w ↦ ap (λ b. b && options.warn_lost) w.if-options.true ∙ w.if-options-2.false
      | else-options-via-else-options w ↦ ap (λ b. b && options.warn_lost) w.if-options.false
    ] in
    IfOk-weaker c.add_lines.result _ _ (λ u more. more
    ∙ ap (λ x. c.args.text.now.items ++ x) (lost_plain options c.args.input.now c.args.solved.now (map lost_view c.args.lost.now) c.requires off)) c.add_lines.ensures
