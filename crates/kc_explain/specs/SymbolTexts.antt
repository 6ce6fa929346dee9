-- For proofs: Parts of the lines about a symbol.
use Rattle.std.specs.Prelude.{List, None, Option, Some, [], codes, slice_get, ℕ, ◌++◌, ◌∷◌}
use Rattle.std.specs.List.{flat_map}
use Rattle.kc_language.specs.Expansion.{enclosing}
use Rattle.kc_language.specs.Sources.{source}
use Rattle.kc_language.specs.Statements.{MenuLine, Numbered}
use Rattle.kc_language.specs.Symbols.{listed}
use Rattle.kc_language.specs.Values.{facts, name, type_in}
use Rattle.kc_language.specs.declared.expressions.SymId.{SymId}
use Rattle.kc_language.specs.declared.expressions.SymbolType.{SymbolType}
use Rattle.kc_language.specs.declared.expressions.SymbolType.TheVariants.{Undefined}
use Rattle.kc_outcome.specs.Explanations as rules
use Rattle.kc_outcome.specs.Explanations.{menu_path, text_of_lines}
use Rattle.kc_tree.specs.Layouts.{statements_in}
use Rattle.kc_tree.specs.declared.rows.EntryId.{EntryId}
use Rattle.kc_explain.specs.FactTexts.{facts_text}
use Rattle.kc_explain.specs.FactViews.{FactView}
use Rattle.kc_explain.specs.LineViews.{at_entry}
use Rattle.kc_explain.specs.declared.teller.Teller.{Teller}

-- the title of a statement that begins a menu; the titles of the menus around an entry; the line of menus with these titles
abbrev pub title_of : Option Numbered → Option (List ℕ)
title_of o = elim o [ Some (MenuLine t) ↦ Some t | _ ↦ None ]

abbrev pub titles_at : List Numbered → ℕ → List (List ℕ)
titles_at ss j = listed (title_of (slice_get ss j))

abbrev pub titles_around : List Numbered → ℕ → List (List ℕ)
titles_around ss i = flat_map (titles_at ss) (enclosing ss i)

abbrev pub more_titles : List (List ℕ) → List ℕ
more_titles titles = flat_map (λ u. codes " > " ++ u) titles

abbrev pub path_of : List (List ℕ) → List (List ℕ)
path_of titles = elim titles [ [] ↦ [] | t ∷ ts ↦ (codes "in " ++ t ++ more_titles ts) ∷ [] ]

-- the text about a name without a type that these entries define
abbrev pub untyped_text : List EntryId → List ℕ
untyped_text entries = elim entries [ [] ↦ codes ": not a symbol, only mentioned" | _ ↦ codes ": a symbol without a type" ]

module _ (t : Teller) where
  -- the first line of a symbol of this type, or without one
  abbrev pub typed_head : SymId → SymbolType → List ℕ
  typed_head s kind = rules.value_words t.input.now t.solved.now t.is_raw s ++ codes " (" ++ rules.type_text kind ++ codes "): "
      ++ rules.source_text (source t.solved.now s)

  abbrev pub head_of : List EntryId → SymId → SymbolType → List ℕ
  head_of entries s kind = elim kind [ Undefined ↦ name t.solved.now.tree s ++ untyped_text entries | k ↦ typed_head s k ]

  -- the menus around the first of these entries
  abbrev pub menus_text : List ℕ → List EntryId → List ℕ
  menus_text lead entries = elim entries [
    | [] ↦ []
    | e ∷ more ↦ text_of_lines (lead ++ codes "  ") (at_entry t.layout.now (menu_path (statements_in t.layout.now)) e)
  ]

  -- all lines of a symbol that these entries define and that has these facts
  abbrev pub symbol_text : List ℕ → List EntryId → SymId → List FactView → List ℕ
  symbol_text lead entries s fs = text_of_lines lead (head_of entries s (type_in (facts t.solved.now.tree s)) ∷ []) ++ menus_text lead entries
      ++ facts_text t.is_raw t.solved.now.tree lead fs
