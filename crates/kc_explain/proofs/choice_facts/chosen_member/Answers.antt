-- The member is that of its place.
use Rattle.std.proofs.Common.{List, None, Option, ap, ◌∙◌}
use Rattle.std.specs.Prelude.{option_map, slice_index_or}
use Rattle.kc_language.specs.ConfigFile.{Places}
use Rattle.kc_language.specs.Values.{Member}
use Rattle.kc_language.specs.declared.expressions.SymId.{SymId}
use Rattle.kc_explain.proofs.ChoiceFactLemmas.{member_is}
use Rattle.kc_explain.proofs.choice_facts.chosen_member.Goals as goal

pub returns : goal.returns
returns c =
    member_is c.chosen_in.result
    ∙ ap (option_map Member) (c.chosen_in.ensures ∙ ap (λ (xs : List (Option SymId)). slice_index_or xs c.args.choice None) (c.choices.ensures ∙ ap (λ (p : Places). p.choices) c.user.ensures))
