-- Those that raise, and how many do not.
use Rattle.std.proofs.Common.{List, [], ap, map, refl, sym, append-nil, append_assoc, ◌++◌, ◌∷◌, ◌∙◌}
use Rattle.kc_explain.specs.FactLists.{shown}
use Rattle.kc_explain.specs.FactViews.{FactView, NotRaised}
use Rattle.kc_explain.specs.LineViews.{target_view}
use Rattle.kc_explain.specs.RaiseFacts.{all_raised}
use Rattle.kc_explain.proofs.FactLemmas.{pushed-first}
use Rattle.kc_explain.proofs.RaiseLemmas.{all-raise, some-do-not}
use Rattle.kc_explain.proofs.raises.add_raises.Goals as goal

pub returns-then-count-gt0 : goal.returns-then-count-gt0
returns-then-count-gt0 c =
    pushed-first c.args.t.now c.add_all_raised.new.facts.items _ _ c.in_ok-push.ensures.items _ [] _ (sym (append-nil _)) refl
    ∙ ap (λ (xs : List FactView). xs ++ NotRaised c.args.word c.in_ok-count.count ∷ []) c.in_ok-count.ensures.facts
    ∙ append_assoc (shown c.args.t.now c.args.facts.now.items) (all_raised c.args.t.now c.args.word (map (target_view c.args.t.now.layout.now) c.deref.result.now)) (NotRaised c.args.word c.in_ok-count.count ∷ [])
    ∙ ap (λ (xs : List FactView). shown c.args.t.now c.args.facts.now.items ++ xs)
    (some-do-not c.args.t.now c.args.word c.args.id (map (target_view c.args.t.now.layout.now) c.deref.result.now) (ap (map (target_view c.args.t.now.layout.now)) c.deref.ensures.value ∙ c.in_ok-lines.ensures)
    c.in_ok-count.count c.in_ok-count.ensures.count c.if-count-gt0.true)

pub returns : goal.returns
returns c =
    c.in_ok-count.ensures.facts ∙ ap (λ (xs : List FactView). shown c.args.t.now c.args.facts.now.items ++ xs)
    (all-raise c.args.t.now c.args.word c.args.id (map (target_view c.args.t.now.layout.now) c.deref.result.now) (ap (map (target_view c.args.t.now.layout.now)) c.deref.ensures.value ∙ c.in_ok-lines.ensures)
    c.in_ok-count.count c.in_ok-count.ensures.count c.if-count-gt0.false)
