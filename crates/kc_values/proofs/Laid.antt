-- What a tree says of a symbol and a choice is what the rows of its layout say.
use Rattle.std.proofs.Common.{None, Option, Some, ap, length, refl, sym, ℕ, ◌∙◌, ◌≡◌}
use Rattle.std.specs.{List.slice_get, Prelude.option_map}
use Rattle.kc_language.specs.{Symbols.TreeFacts, Values.type_in, declared.expressions.SymbolType.{SymbolType, TheVariants.Undefined}}
use Rattle.kc_tree.specs.{Layouts.{IsLayoutOf, choice_facts, facts_of}, declared.{layout.Layout.Layout, rows.{Choice.Choice, Symbol.Symbol}}}

module _ (tree : TreeFacts) (l : Layout) (laid : IsLayoutOf tree l) where
  pub facts_laid : (i : ℕ) → slice_get tree.symbols i ≡ option_map (facts_of l i) (slice_get l.symbols.items i)
  facts_laid i = laid.symbols i

  pub symbols_count : length tree.symbols ≡ length l.symbols.items
  symbols_count = laid.symbol_count

  pub choices_laid : (k : ℕ) → slice_get tree.choices k ≡ option_map (choice_facts l k) (slice_get l.choices.items k)
  choices_laid k = laid.choices k

  -- the row of a choice that was found, or not
  pub choice_found : (k : ℕ) (o : Option Choice) → o ≡ slice_get l.choices.items k → option_map (choice_facts l k) o ≡ slice_get tree.choices k
  choice_found k o e = ap (option_map (choice_facts l k)) e ∙ sym (choices_laid k)

  -- the same of a symbol
  pub symbol_found : (i : ℕ) (o : Option Symbol) → o ≡ slice_get l.symbols.items i → option_map (facts_of l i) o ≡ slice_get tree.symbols i
  symbol_found i o e = ap (option_map (facts_of l i)) e ∙ sym (facts_laid i)

abbrev pub type_of_row : Option Symbol → SymbolType
type_of_row None = Undefined
type_of_row (Some s) = s.symbol_type

same_type : (l : Layout) (i : ℕ) (o : Option Symbol) → type_of_row o ≡ type_in (option_map (facts_of l i) o)
same_type l i None = refl
same_type l i (Some s) = refl

pub type_laid : (tree : TreeFacts) (l : Layout) → IsLayoutOf tree l → (i : ℕ) (o : Option Symbol) → o ≡ slice_get l.symbols.items i → type_of_row o ≡ type_in (slice_get tree.symbols i)
type_laid tree l laid i o e = same_type l i o ∙ ap type_in (symbol_found tree l laid i o e)
