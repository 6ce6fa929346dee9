-- The text of a string that the user cannot change: that of its default.
use Rattle.std.proofs.Common.{List, None, Option, Some, ap, cond, refl, subst, ℕ, ◌∙◌, ◌≡◌}
use Rattle.std.specs.Prelude.{unwrap_or}
use Rattle.kc_language.specs.{Expressions.{SymbolValue, TextValue, Truth}, Symbols.{SymbolFacts, TreeFacts, is_symbol_of}, Values.{GivenText, GivenTruth, GivenValue, Member, by_type, choice_at, conditions, default_text, equation, first_met, is_n, selected, upgrade, upgraded, visibility, visible_text}, declared.expressions.{SymId.SymId, SymbolType.{SymbolType, TheVariants.{Str, Undefined}}, Tri.{TheVariants.{N, Y}, Tri}}}
use Rattle.kc_possible.specs.Possible.{IsTyped}

pub hidden-text : (user : Option GivenValue) (vis : Tri) → vis ≡ N → visible_text user vis ≡ None
hidden-text None vis e = refl
hidden-text (Some (GivenText t)) vis e = ap (λ v. cond (is_n v) None (Some t)) e
hidden-text (Some (GivenTruth u)) vis e = refl
hidden-text (Some (Member m)) vis e = refl

module _ (tree : TreeFacts) (known : SymId → SymbolValue) (s : SymId) (f : SymbolFacts) (user : Option GivenValue) where
  abbrev default : List ℕ
  default = default_text known (first_met tree known f.defaults)

  abbrev of-choice : Option ℕ → Option GivenValue → SymbolValue
  of-choice c = elim c [ None ↦ by_type tree known s f f.symbol_type | Some k ↦ λ g. Truth (cond (is_symbol_of s (selected tree known (choice_at tree k) g)) Y N) ]

  hidden : f.symbol_type ≡ Str → conditions tree known f.prompts ≡ N → visibility tree known f ≡ N
  hidden type none = ap (λ k. upgraded tree known k (conditions tree known f.prompts)) type ∙ ap upgrade none

  -- a string outside a choice whose prompts are hidden
  pub hidden-string : f.choice ≡ None → f.symbol_type ≡ Str → conditions tree known f.prompts ≡ N → equation tree known s (Some f) user ≡ TextValue Str default
  hidden-string outside type none =
      ap (λ c. of-choice c user) outside
      ∙ ap (λ k. by_type tree known s f k user) type
      ∙ ap (λ t. TextValue Str (unwrap_or t default)) (hidden-text user (visibility tree known f) (hidden type none))

-- a symbol without a type has its name
pub named-value : (k : SymbolType) (called : List ℕ) (v : SymbolValue) → k ≡ Undefined → IsTyped k called v → v ≡ TextValue Undefined called
named-value k called v e typed = subst (λ x. IsTyped x called v) e typed
