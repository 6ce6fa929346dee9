-- Trusted: The facts of a tree with these names and parts: those of the lines of its entries, with its warnings and its title.
use Rattle.std.specs.Prelude.{List, length, map, ℕ, ◌≡◌}
use Rattle.kc_language.specs.Symbols.{TreeFacts, facts_with}
use Rattle.kc_entries.specs.Entries.{lines_in}
use Rattle.kc_tree.specs.declared.{layout.{Layout.Layout, TreeParts.TreeParts}, tree.Tree.TheInside.Inside}

abbrev pub tree_of : List (List ℕ) → TreeParts → TreeFacts
tree_of names p = record (facts_with names (lines_in p.layout.entries)) { warnings = map (λ w. w.items) p.warnings.items; main_menu = p.main_menu.items }

abbrev pub tree_of_parts : Inside → TreeFacts
tree_of_parts t = tree_of t.names (record { layout = t.layout; warnings = t.warnings; main_menu = t.main_menu })

-- the layout has a row for each name, and the modules symbol that these names give
pub record IsNamed (names : List (List ℕ)) (l : Layout) : Type 0 where
  pub symbols : length l.symbols.items ≡ length names
  pub modules : l.modules ≡ (facts_with names (lines_in l.entries)).modules
