-- The parts are those of the line.
use Rattle.std.proofs.Common.{◌∙◌, ◌++◌, List, ap, append_assoc, codes, decimal, sym, ℕ}
use Rattle.std.proofs.lemmas.Result.{IfOk-weaker}
use Rattle.kc_how.specs.FixTexts.{many_text}
use Rattle.kc_how.proofs.changes.add_changes.Goals as goal

pub returns : goal.returns
returns c =
    let number = decimal c.args.count in
    let many = many_text c.args.count in
    let begun : List ℕ → List ℕ = λ rest. c.args.text.now.items ++ (codes "# other values that change: " ++ rest) in
    IfOk-weaker c.add_parts.result _ _ (λ u more. more
    ∙ (λ j. begun ((c.as_bytes-number.ensures.value ∙ c.format.ensures.text) j ++ (c.many_text.ensures j ++ codes "\n")))
    ∙ ap begun (sym (append_assoc number many (codes "\n")))) c.add_parts.ensures
