-- The texts are those of the solution, or are refused; what was added is whole lines.
use Rattle.std.proofs.Common.{◌∙◌, ℕ, Bool, List, ap, sym, map, Option, None, Some}
use Rattle.std.specs.Prelude.{◌||◌, ◌&&◌, ◌++◌, if◌then◌else◌}
use Rattle.kc_language.specs.ConfigFile.{UserInput}
use Rattle.kc_language.specs.Expansion.{Files}
use Rattle.kc_language.specs.Symbols.{TreeFacts}
use Rattle.kc_language.specs.Texts.{Solution, warnings}
use Rattle.kc_outcome.specs.Outcome.{Options, done_outcome, lead, is_not_empty, lines_text, refuses_input}
use Rattle.kc_conf.proofs.ComputedLemmas.{lines_added, texts_are}
use Rattle.kc_io.specs.Delivery.{NamedText, texts_of}
use Rattle.kc_conf.proofs.compute.results_of.Goals as goal

given_by : Files → Options → List (List ℕ) → UserInput → Solution → Bool → Option (List NamedText)
given_by files options opened input s b = if b then None else Some (texts_of options (done_outcome files options opened input s))

pub returns-then-is_refused-clause-computes : goal.returns-then-is_refused-clause-computes
unfolding given_by
returns-then-is_refused-clause-computes c = λ files opened listed are.
    let options = c.args.options.now in
    let s = c.args.basis.now.solved.now in
    let input = c.args.basis.now.input.now in
    let told = c.is_warned_by-is_warned.ensures ∙ ap (λ t. c.has_warnings.result || is_not_empty t) c.deref-2.ensures.value
    ∙ ap (λ b. b || is_not_empty c.add_value_lines.new.text.items) (c.has_warnings.ensures ∙ ap (λ (t : TreeFacts). is_not_empty (lines_text t.warnings)) c.tree.ensures) in
    let e = ap (λ b. refuses_input options input s || (options.strict_tree && b)) (sym told) ∙ sym c.is_refused.ensures ∙ c.if-is_refused.true in
    record {
      solution = s;
      solution_is = c.requires;
      adds = c.in_ok-add_value_lines.ensures;
      texts_are = sym (ap (given_by files options opened input s) e);
    }

pub returns-then-is_refused-clause-lines : goal.returns-then-is_refused-clause-lines
returns-then-is_refused-clause-lines c =
    lines_added c.args.options.now c.args.basis.now.input.now c.args.basis.now.solved.now c.args.waiting.now.items _ c.in_ok-add_value_lines.ensures

pub returns-clause-computes : goal.returns-clause-computes
unfolding given_by
returns-clause-computes c = λ files opened listed are.
    let options = c.args.options.now in
    let s = c.args.basis.now.solved.now in
    let input = c.args.basis.now.input.now in
    let told = c.is_warned_by-is_warned.ensures ∙ ap (λ t. c.has_warnings.result || is_not_empty t) c.deref-2.ensures.value
    ∙ ap (λ b. b || is_not_empty c.add_value_lines.new.text.items) (c.has_warnings.ensures ∙ ap (λ (t : TreeFacts). is_not_empty (lines_text t.warnings)) c.tree.ensures) in
    let e = ap (λ b. refuses_input options input s || (options.strict_tree && b)) (sym told) ∙ sym c.is_refused.ensures ∙ c.if-is_refused.false in
    record {
      solution = s;
      solution_is = c.requires;
      adds = c.in_ok-add_value_lines.ensures;
      texts_are =
          ap Some (c.in_ok-texts.ensures ∙ texts_are files opened options c.args.basis.now are listed)
          ∙ sym (ap (given_by files options opened input s) e);
    }

pub returns-clause-lines : goal.returns-clause-lines
returns-clause-lines c =
    lines_added c.args.options.now c.args.basis.now.input.now c.args.basis.now.solved.now c.args.waiting.now.items _ c.in_ok-add_value_lines.ensures
