-- The line of the titles around the entry.
use Rattle.std.proofs.Common.{ℕ, List, ap, map, ◌++◌, ◌∙◌}
use Rattle.std.proofs.lemmas.Result.{on_ok_weaker}
use Rattle.kc_outcome.specs.Explanations.{text_of_lines}
use Rattle.kc_explain.specs.SymbolTexts.{path_of}
use Rattle.kc_explain.proofs.SymbolLemmas.{menus-told}
use Rattle.kc_explain.proofs.menus.add_menu_path.Goals as goal

pub returns : goal.returns
returns c =
    on_ok_weaker c.add_path.result (λ e. e
    ∙ ap (λ (ts : List (List ℕ)). c.args.text.now.items ++ text_of_lines c.args.lead.now (path_of ts)) (ap (map (λ t. t.now)) c.deref.ensures.value ∙ c.in_ok-titles.ensures)
    ∙ ap (λ (r : List ℕ). c.args.text.now.items ++ r) (menus-told c.args.layout.now c.args.lead.now c.args.entry)) c.add_path.ensures
