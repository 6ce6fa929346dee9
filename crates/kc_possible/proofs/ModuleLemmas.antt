-- The equation of a symbol does not give m if it is no tristate, or if the modules symbol is n.
use Rattle.std.proofs.Common.{Bool, None, Option, Some, ap, cond, false, refl, sym, true, ℕ, ◌∙◌, ◌≡◌}
use Rattle.kc_language.specs.{Expressions.{SymbolValue, TextValue, Truth, truth_of_value}, Symbols.{SymbolFacts, TreeFacts, is_symbol_of}, Values.{GivenValue, by_type, choice_at, equation, is_n, modules_value, name, selected, type_in, upgrade, upgraded}, declared.expressions.{SymId.SymId, SymbolType.{SymbolType, TheVariants.{Bool as IsBool, Hex, Int, Str, Tristate, Undefined}}, Tri.{TheVariants.{M, N, Y}, Tri}}}

upgrade-m : (t : Tri) → upgrade t ≡ M → ⊥
upgrade-m N e = cc
upgrade-m M e = cc
upgrade-m Y e = cc

either-m : (b : Bool) → cond b Y N ≡ M → ⊥
either-m true e = cc
either-m false e = cc

module _ (tree : TreeFacts) (known : SymId → SymbolValue) (s : SymId) (user : Option GivenValue) where
  abbrev WithoutModules : SymbolType → Type 0
  WithoutModules k = k ≡ Tristate → modules_value known tree.modules ≡ N

  upgraded-m : (k : SymbolType) → WithoutModules k → (t : Tri) → upgraded tree known k t ≡ M → ⊥
  upgraded-m Tristate h t e = upgrade-m t (sym (ap (λ m. cond (is_n m) (upgrade t) t) (h refl)) ∙ e)
  upgraded-m IsBool h t e = upgrade-m t e
  upgraded-m Undefined h t e = upgrade-m t e
  upgraded-m Str h t e = upgrade-m t e
  upgraded-m Int h t e = upgrade-m t e
  upgraded-m Hex h t e = upgrade-m t e

  type-m : (f : SymbolFacts) → WithoutModules f.symbol_type → (k : SymbolType) → by_type tree known s f k user ≡ Truth M → ⊥
  type-m f h IsBool e = upgraded-m f.symbol_type h _ (ap truth_of_value e)
  type-m f h Tristate e = upgraded-m f.symbol_type h _ (ap truth_of_value e)
  type-m f h Undefined e = cc
  type-m f h Str e = cc
  type-m f h Int e = cc
  type-m f h Hex e = cc

  abbrev of-choice : SymbolFacts → Option ℕ → Option GivenValue → SymbolValue
  of-choice f c = elim c [ None ↦ by_type tree known s f f.symbol_type | Some k ↦ λ g. Truth (cond (is_symbol_of s (selected tree known (choice_at tree k) g)) Y N) ]

  choice-m : (f : SymbolFacts) → WithoutModules f.symbol_type → (c : Option ℕ) → of-choice f c user ≡ Truth M → ⊥
  choice-m f h None e = type-m f h f.symbol_type e
  choice-m f h (Some k) e = either-m (is_symbol_of s (selected tree known (choice_at tree k) user)) (ap truth_of_value e)

  pub equation-m : (o : Option SymbolFacts) → WithoutModules (type_in o) → equation tree known s o user ≡ Truth M → ⊥
  equation-m None h e = cc
  equation-m (Some f) h e = choice-m f h f.choice e
