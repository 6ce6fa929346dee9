use Rattle.std.proofs.Common.{ap, length, subst, sym, ◌∙◌, ◌≡◌}
use Rattle.kc_language.specs.ConfigFile.{ArePlacesOf, Places}
use Rattle.kc_how.specs.Merged.{merged_places}
use Rattle.kc_how.proofs.MergedLemmas.{merged-are, over-none-yet}
use Rattle.kc_how.proofs.merged.merged.Goals as goal

pub put-requires-2-clause-symbols : goal.put-requires-2-clause-symbols
put-requires-2-clause-symbols c =
    let first : c.put.new.user ≡ c.args.first.now = c.in_ok-put.ensures ∙ ap (λ p. merged_places p c.args.first.now) c.in_ok-user.ensures ∙ over-none-yet c.args.tree.now c.args.first.now c.requires.first in
    ap (λ (p : Places). length p.symbols) first ∙ c.requires.first.symbols ∙ sym c.requires.second.symbols

pub put-requires-2-clause-user : goal.put-requires-2-clause-user
put-requires-2-clause-user c =
    let first : c.put.new.user ≡ c.args.first.now = c.in_ok-put.ensures ∙ ap (λ p. merged_places p c.args.first.now) c.in_ok-user.ensures ∙ over-none-yet c.args.tree.now c.args.first.now c.requires.first in
    ap (λ (p : Places). length p.choices) first ∙ c.requires.first.choices ∙ c.layout-layout.ensures.laid.choice_count

pub returns-clause-merged : goal.returns-clause-merged
returns-clause-merged c =
    c.in_ok-put-2.ensures ∙ ap (λ p. merged_places p c.args.second.now) (c.in_ok-put.ensures ∙ ap (λ p. merged_places p c.args.first.now) c.in_ok-user.ensures ∙ over-none-yet c.args.tree.now c.args.first.now c.requires.first)

pub returns-clause-places : goal.returns-clause-places
returns-clause-places c = subst (ArePlacesOf c.args.tree.now) (sym (returns-clause-merged c)) (merged-are c.args.tree.now c.args.first.now c.args.second.now c.requires.first)
