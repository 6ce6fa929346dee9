-- One member more, the first that is visible, and all.
use Rattle.std.proofs.Common.{Some, [], ap, get_or, sym, ◌++◌, ◌∷◌, ◌∙◌}
use Rattle.std.specs.List.{list_any}
use Rattle.std.proofs.lemmas.List.{get_or_default}
use Rattle.kc_language.specs.declared.expressions.SymId.{SymId}
use Rattle.kc_explain.specs.ChoiceFacts.{member_told}
use Rattle.kc_explain.specs.FactLists.{shown}
use Rattle.kc_explain.specs.FactViews.{MemberIs}
use Rattle.kc_explain.specs.StatedFacts.{counts}
use Rattle.kc_explain.proofs.PartLemmas.{through-ends, through-next, through-one, through-stops}
use Rattle.kc_explain.proofs.choice_facts.add_members.Goals as goal

pub returns-then-branch : goal.returns-then-branch
returns-then-branch c =
    (through-stops counts (λ (m : SymId). member_told c.args.t.now m ∷ []) (shown c.args.t.now c.args.facts.now.items) c.args.members.now
    c.loop-member.member-index (get_or c.args.members.now c.loop-member.member-index (record { 0 = 0 })) (shown c.args.t.now c.loop-member.facts.items) (shown c.args.t.now c.add_one.new.facts.items) c.loop-member.invariant c.loop-member-test.true
    (get_or_default c.args.members.now c.loop-member.member-index _ _ c.loop-member-test.true) (c.in_ok-add_one.ensures.facts ∙ ap (λ r. shown c.args.t.now c.loop-member.facts.items ++ r)
    ((λ j. MemberIs (get_or c.args.members.now c.loop-member.member-index (record { 0 = 0 })) (c.prompts_condition.ensures j) ∷ []) ∙ through-one counts (Some (member_told c.args.t.now (get_or c.args.members.now c.loop-member.member-index (record { 0 = 0 }))))))
    (sym (c.in_ok-add_one.ensures.met ∙ (λ j. list_any counts (MemberIs (get_or c.args.members.now c.loop-member.member-index (record { 0 = 0 })) (c.prompts_condition.ensures j) ∷ []))) ∙ c.if-branch.true)).0

pub loop-member-preserved : goal.loop-member-preserved
loop-member-preserved c =
    through-next counts (λ (m : SymId). member_told c.args.t.now m ∷ []) (shown c.args.t.now c.args.facts.now.items) c.args.members.now
    c.loop-member.member-index (get_or c.args.members.now c.loop-member.member-index (record { 0 = 0 })) (shown c.args.t.now c.loop-member.facts.items) (shown c.args.t.now c.add_one.new.facts.items) c.loop-member.invariant c.loop-member-test.true
    (get_or_default c.args.members.now c.loop-member.member-index _ _ c.loop-member-test.true) (c.in_ok-add_one.ensures.facts ∙ ap (λ r. shown c.args.t.now c.loop-member.facts.items ++ r)
    ((λ j. MemberIs (get_or c.args.members.now c.loop-member.member-index (record { 0 = 0 })) (c.prompts_condition.ensures j) ∷ []) ∙ through-one counts (Some (member_told c.args.t.now (get_or c.args.members.now c.loop-member.member-index (record { 0 = 0 }))))))
    (sym (c.in_ok-add_one.ensures.met ∙ (λ j. list_any counts (MemberIs (get_or c.args.members.now c.loop-member.member-index (record { 0 = 0 })) (c.prompts_condition.ensures j) ∷ []))) ∙ c.if-branch.false)

pub returns : goal.returns
returns c =
    (through-ends counts (λ (m : SymId). member_told c.args.t.now m ∷ []) (shown c.args.t.now c.args.facts.now.items) c.args.members.now
    c.loop-member.member-index (shown c.args.t.now c.loop-member.facts.items) c.loop-member.invariant c.loop-member-test.false).0
