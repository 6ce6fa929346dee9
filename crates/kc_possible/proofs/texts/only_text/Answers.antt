use denote.Enum.Bare.{same_true}
use Rattle.std.proofs.{Common.{None, Option, Some, ap, false, refl, rules, sym, ◌∙◌, ◌≡◌}, lemmas.Option.IfSome_then}
use Rattle.std.specs.Option.{is_some}
use Rattle.kc_language.specs.{Expressions.TextValue, Values.conditions, contracts.expressions.{SymbolType.the_type as types, Tri.the_type}, declared.expressions.SymbolType.TheVariants.Str}
use Rattle.kc_tree.specs.Places.{mode_view}
use Rattle.kc_possible.specs.PartsOfPossible.{facts_in}
use Rattle.kc_possible.proofs.{MemberLemmas.within-n, TextLemmas.hidden-string}
use Rattle.kc_possible.proofs.texts.only_text.Goals as goal

none-there : {X : Type 0} (o : Option X) → is_some o ≡ false → o ≡ None
none-there None e = refl
none-there (Some x) e = absurd cc

pub returns-then-eq-2 : goal.returns-then-eq-2
returns-then-eq-2 c = IfSome_then c.fixed_default.result c.fixed_default.ensures (λ text says user known allowed.
    let p = c.args.p.now in
    let tree = p.laid.tree.now in
    let f = facts_in p c.args.id c.args.row.now in
    let type = same_true types (search rules) _ _ (sym c.if-eq.ensures) in
    let high = same_true the_type (search rules) _ _ (sym c.if-eq-2.ensures) in
    let outside = ap mode_view (none-there c.args.row.now.choice (ap is_some (sym c.get.ensures) ∙ sym c.is_some.ensures ∙ c.if-is_some.false)) in
    hidden-string tree known c.args.id f user outside type (within-n c.prompts_bounds.result (conditions tree known f.prompts) high (c.prompts_bounds.ensures known allowed))
    ∙ ap (TextValue Str) (says known allowed)
    ∙ ap (λ k. TextValue k text.now) (sym type))
