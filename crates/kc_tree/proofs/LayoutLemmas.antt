-- The layout of a tree says what the lines of its entries say.
use Rattle.std.proofs.{Common.{List, None, Option, Some, [], ap, arith, inl, inr, length, map, refl, suc, sym, ℕ, ◌<◌, ◌∙◌, ◌∷◌, ◌≡◌, ◌≤◌}, lemmas.{Bool.cases_lt, Option.{slice_get-map, slice_get_past}}}
use Rattle.std.specs.{Borrow.Bor, List.{filter_map, flat_map, slice_get}, Prelude.{option_map, ◌⊎◌}}
use Rattle.kc_language.specs.declared.symbols.SelectOrImply.TheVariants as word
use Rattle.kc_language.specs.{Expansion.numbers, Expressions.symbol, Statements.Numbered, Symbols.{ChoiceFacts, SymbolFacts, TreeFacts, definitions_of, symbol_facts}}
use Rattle.kc_entries.proofs.{ListLemmas.filter_map-map, PlaceLemmas.{get-map_numbers, length-map_numbers, there_in}}
use Rattle.kc_tree.specs.{EntryViews.statements_in, Layouts.{DefinitionFacts, IsLayoutOf, choice_facts, facts_of}, RowFacts.{AreChoicesOf, IsSymbolRowOf}, TreeView.{IsNamed, tree_of}, declared.{layout.{Layout.Layout, TreeParts.TreeParts}, rows.{Choice.Choice, Symbol.Symbol}}}
use Rattle.kc_tree.proofs.{ChoiceLemmas.{choices-are, choices-length}, DefinitionLemmas.{definitions-are, said_of}, ListLemmas.{flat-map, map-map_is}, SelectorLemmas.lines-are, ShownLemmas.entries-are}

module _ (l : Layout) where
  abbrev ss : List Numbered
  ss = statements_in l.entries

  -- the facts of a symbol by its row
  pub facts-are : (i : ℕ) (row : Symbol) → slice_get l.symbols.items i ≡ Some row → symbol_facts ss (symbol i) ≡ facts_of l i row
  facts-are i row h =
      let is = l.laid.symbols_are i row h in
      let symbol_type = sym is.symbol_type in
      let choice = sym is.choice in
      let said = definitions-are l (symbol i) in
      let dependencies = sym (map-map_is (λ (d : DefinitionFacts). d.dependency) (said_of l) (definitions_of ss (symbol i))) ∙ ap (map (λ (d : DefinitionFacts). d.dependency)) said in
      let prompts = sym (filter_map-map (λ (d : DefinitionFacts). d.prompt) (said_of l) (definitions_of ss (symbol i))) ∙ ap (filter_map (λ (d : DefinitionFacts). d.prompt)) said in
      let defaults = sym (flat-map (λ (d : DefinitionFacts). d.defaults) (said_of l) (definitions_of ss (symbol i))) ∙ ap (flat_map (λ (d : DefinitionFacts). d.defaults)) said in
      let ranges = sym (flat-map (λ (d : DefinitionFacts). d.ranges) (said_of l) (definitions_of ss (symbol i))) ∙ ap (flat_map (λ (d : DefinitionFacts). d.ranges)) said in
      let selectors = sym (lines-are l word.Select (symbol i)) in
      let impliers = sym (lines-are l word.Imply (symbol i)) in
      λ j. record {
        symbol_type = symbol_type j;
        choice = choice j;
        dependencies = dependencies j;
        prompts = prompts j;
        defaults = defaults j;
        ranges = ranges j;
        selectors = selectors j;
        impliers = impliers j;
      }

  abbrev AllFacts : List (List ℕ) → List SymbolFacts
  AllFacts names = map (λ i. symbol_facts ss (symbol i)) (numbers (length names))

  symbols-by : (names : List (List ℕ)) (i : ℕ) → length l.symbols.items ≡ length names → (i < length names) ⊎ (length names ≤ i) →
      slice_get (AllFacts names) i ≡ option_map (facts_of l i) (slice_get l.symbols.items i)
  symbols-by names i e (inl h) =
      let row = there_in l.symbols.items i (omega (arith, h, e)) in
      get-map_numbers (λ k. symbol_facts ss (symbol k)) (length names) i h
      ∙ ap Some (facts-are i (row.0) (row.1))
      ∙ sym (ap (option_map (facts_of l i)) (row.1))
  symbols-by names i e (inr h) =
      let count = length-map_numbers (λ k. symbol_facts ss (symbol k)) (length names) in
      slice_get_past (AllFacts names) i (omega (arith, h, count))
      ∙ sym (ap (option_map (facts_of l i)) (slice_get_past l.symbols.items i (omega (arith, h, e))))

-- a layout with these names is that of the tree
pub layout-is : (names : List (List ℕ)) (p : TreeParts) → IsNamed names p.layout → IsLayoutOf (tree_of names p) p.layout
layout-is names p named = record {
  symbol_count = length-map_numbers (λ k. symbol_facts (statements_in p.layout.entries) (symbol k)) (length names) ∙ sym named.symbols;
  symbols = λ i. symbols-by p.layout names i named.symbols (cases_lt i (length names));
  defined = sym p.layout.laid.defined_are;
  choice_count = choices-length p.layout;
  choices = choices-are p.layout;
  entries = entries-are p.layout;
  modules = sym named.modules;
  lines = refl;
}

-- What rows tell by themselves.
module _ (t : TreeFacts) (l : Layout) (is : IsLayoutOf t l) where
  pub row-found : (i : ℕ) (found : Option (Bor Symbol)) → option_map (λ s. s.now) found ≡ slice_get l.symbols.items i → IsSymbolRowOf (slice_get t.symbols i) found
  row-found i None e = is.symbols i ∙ ap (option_map (facts_of l i)) (sym e)
  row-found i (Some s) e = (facts_of l i s.now, is.symbols i ∙ ap (option_map (facts_of l i)) (sym e), record { symbol_type = refl; choice = refl })

  -- lists with the same elements
  same-by : {X : Type 0} (xs ys : List X) → ((k : ℕ) → slice_get xs k ≡ slice_get ys k) → xs ≡ ys
  same-by [] [] h = refl
  same-by [] (y ∷ ys) h = absurd (let no : None ≡ Some y = h 0 in cc)
  same-by (x ∷ xs) [] h = absurd (let no : Some x ≡ None = h 0 in cc)
  same-by (x ∷ xs) (y ∷ ys) h = let first : x ≡ y = (let e : Some x ≡ Some y = h 0 in cc) in λ j. first j ∷ same-by xs ys (λ k. h (suc k)) j

  members-by : (k : ℕ) (o : Option Choice) → option_map (λ (f : ChoiceFacts). f.members) (option_map (choice_facts l k) o) ≡ option_map (λ (c : Choice). c.members.items) o
  members-by k None = refl
  members-by k (Some c) = refl

  pub members-are : AreChoicesOf t.choices l.choices.items
  members-are =
      same-by (map (λ (f : ChoiceFacts). f.members) t.choices) (map (λ (c : Choice). c.members.items) l.choices.items)
      (λ k. slice_get-map (λ (f : ChoiceFacts). f.members) t.choices k ∙ ap (option_map (λ (f : ChoiceFacts). f.members)) (is.choices k)
      ∙ members-by k (slice_get l.choices.items k) ∙ sym (slice_get-map (λ (c : Choice). c.members.items) l.choices.items k))
