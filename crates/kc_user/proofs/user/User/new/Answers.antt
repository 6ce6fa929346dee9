use Rattle.std.proofs.{Common.{ap, length, sym, ◌∙◌}, lemmas.List.length-map}
use Rattle.kc_tree.specs.declared.rows.Choice.{Choice}
use Rattle.kc_language.specs.Symbols.{ChoiceFacts}
use Rattle.kc_user.proofs.UserLemmas.{empties}
use Rattle.kc_user.proofs.user.User.new.Goals as goal

pub returns : goal.returns
returns c =
    empties c.args.tree.now _ _ _ _ c.in_ok-symbols.ensures c.in_ok-choices.ensures (c.name_count.ensures.count ∙ sym c.name_count.ensures.formed.symbols_named)
    (sym (length-map c.choices.result.now (λ (x : Choice). x.members.items)) ∙ sym (ap length c.choices.ensures) ∙ length-map c.args.tree.now.choices (λ (f : ChoiceFacts). f.members))
