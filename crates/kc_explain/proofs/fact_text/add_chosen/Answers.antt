-- The member that the user chose.
use Rattle.std.proofs.Common.{ℕ, List, Option, ap, append_assoc, codes, sym, ◌++◌, ◌∙◌}
use Rattle.std.proofs.lemmas.Result.{on_ok_weaker}
use Rattle.kc_language.specs.Values.{name}
use Rattle.kc_language.specs.declared.expressions.SymId.{SymId}
use Rattle.kc_explain.specs.FactTexts.{chosen_words}
use Rattle.kc_explain.proofs.fact_text.add_chosen.Goals as goal

pub returns-in_ok-extend_from_slice-in-Some : goal.returns-in_ok-extend_from_slice-in-Some
returns-in_ok-extend_from_slice-in-Some c =
    let called = name c.args.t.now.solved.now.tree c.in-Some.member in
    on_ok_weaker c.add_name.result (λ e. e ∙ ap (λ (r : List ℕ). r ++ called) c.in_ok-extend_from_slice-in-Some.ensures.items
    ∙ append_assoc c.args.text.now.items (codes "chosen member ") called
    ∙ ap (λ (m : Option SymId). c.args.text.now.items ++ chosen_words c.args.t.now.is_raw c.args.t.now.solved.now.tree m) (sym c.in-Some.is)) c.add_name.ensures
