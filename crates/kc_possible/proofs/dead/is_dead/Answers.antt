use denote.Enum.Bare.{same_true}
use Rattle.std.proofs.Common.{List, Some, [], arith, length, rules, sym, true, ◌<◌, ◌∙◌, ◌∷◌, ◌≡◌}
use Rattle.kc_language.specs.{Symbols.Condition, Texts.has_prompt, Values.{conditions, known_from}, contracts.expressions.Tri.the_type, declared.expressions.Tri.TheVariants.N}
use Rattle.kc_possible.specs.PartsOfPossible.{facts_in}
use Rattle.kc_values.proofs.Laid.{symbol_found}
use Rattle.kc_possible.proofs.MemberLemmas.{within-n}
use Rattle.kc_possible.proofs.dead.is_dead.Goals as goal

some-prompt : (cs : List Condition) → has_prompt cs ≡ true → 0 < length cs
some-prompt [] h = absurd cc
some-prompt (x ∷ xs) h = omega arith

pub returns-then-has_prompt : goal.returns-then-has_prompt
returns-then-has_prompt c low =
    let p = c.args.p.now in
    let tree = p.laid.tree.now in
    let own = facts_in p c.args.id c.in-Some.row.now in
    let high : c.prompts_bounds.result.high ≡ N = same_true the_type (search rules) _ _ (sym c.eq.ensures ∙ low) in
    record {
      own = own;
      is = sym (symbol_found tree p.laid.layout.now p.laid.laid c.args.id.0 (Some c.in-Some.row.now) c.in-Some.ensures);
      prompted = some-prompt own.prompts (sym c.has_prompt.ensures ∙ c.if-has_prompt.true);
      hidden = λ user V under. within-n c.prompts_bounds.result (conditions tree (known_from tree V) own.prompts) high (c.prompts_bounds.ensures (known_from tree V) (c.requires user V under));
    }
