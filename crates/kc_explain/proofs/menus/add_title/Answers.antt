-- The title of an entry that is there.
use Rattle.std.proofs.Common.{ℕ, List, None, Some, ap, append-nil, map, sym, ◌++◌, ◌∙◌}
use Rattle.std.proofs.lemmas.Result.{on_ok_weaker}
use Rattle.kc_language.specs.Symbols.{listed}
use Rattle.kc_explain.proofs.SymbolLemmas.{title-there}
use Rattle.kc_explain.proofs.menus.add_title.Goals as goal

pub returns-in-Some : goal.returns-in-Some
returns-in-Some c =
    on_ok_weaker c.push_title.result (λ e. e ∙ ap (λ (r : List (List ℕ)). map (λ t. t.now) c.args.all.now.items ++ r)
    (ap listed c.menu_title.ensures ∙ title-there c.args.layout.now c.args.block.0 (Some c.in-Some.head.now) c.in-Some.ensures)) c.push_title.ensures

pub returns-in-None : goal.returns-in-None
returns-in-None c =
    sym (append-nil (map (λ t. t.now) c.args.all.now.items))
    ∙ ap (λ (r : List (List ℕ)). map (λ t. t.now) c.args.all.now.items ++ r) (title-there c.args.layout.now c.args.block.0 None c.in-None.ensures)
