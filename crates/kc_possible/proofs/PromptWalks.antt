-- The prompts of the definitions of a symbol, one after another.
use Rattle.std.proofs.Common.{List, None, Option, Some, ap, false, refl, true, ℕ, ◌∙◌, ◌≡◌}
use Rattle.std.specs.{List.{cons_option, filter_map}, Option.is_some, Prelude.option_map}
use Rattle.kc_language.specs.{Symbols.Condition, Texts.has_prompt, declared.expressions.SymId.SymId}
use Rattle.kc_tree.specs.{Layouts.{DefinitionFacts, place_of, prompt_in}, declared.layout.Layout.Layout}
use Rattle.kc_possible.proofs.DefinitionWalks.{IsNext, definitions_left}

abbrev pub prompts_among : List DefinitionFacts → List Condition
prompts_among ds = filter_map (λ (d : DefinitionFacts). d.prompt) ds

some-first : {X : Type 0} (f : X → Condition) (o : Option X) (rest : List Condition) → is_some o ≡ true → has_prompt (cons_option (option_map f o) rest) ≡ true
some-first f None rest h = absurd cc
some-first f (Some x) rest h = refl

none-first : {X : Type 0} (f : X → Condition) (o : Option X) (rest : List Condition) → is_some o ≡ false → cons_option (option_map f o) rest ≡ rest
none-first f None rest h = refl
none-first f (Some x) rest h = absurd cc

module _ (l : Layout) (s : SymId) (at next : ℕ) (n : IsNext l s at next) where
  pub prompted : is_some (prompt_in l (place_of l at)) ≡ true → has_prompt (prompts_among (definitions_left l s at)) ≡ true
  prompted e = ap (λ ds. has_prompt (prompts_among ds)) n.says ∙ some-first _ (prompt_in l (place_of l at)) (prompts_among (definitions_left l s next)) e

  pub unprompted : is_some (prompt_in l (place_of l at)) ≡ false → prompts_among (definitions_left l s at) ≡ prompts_among (definitions_left l s next)
  unprompted e = ap prompts_among n.says ∙ none-first _ (prompt_in l (place_of l at)) (prompts_among (definitions_left l s next)) e
