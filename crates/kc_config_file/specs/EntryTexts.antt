-- For proofs: The text of entries, one after another.
use Rattle.std.specs.Prelude.{Bool, List, None, Option, Some, [], if◌then◌else◌, option_map, ℕ, ◌++◌, ◌∷◌}
use Rattle.kc_language.specs.{ConfigFile.Notation, Symbols.{Shown, TreeFacts}, Texts.{SolutionView, entry_text, has_lines}}
use Rattle.kc_entries.specs.{StatementViews.head_view, declared.entries.Entry.Entry}
use Rattle.kc_tree.specs.{Layouts.{entry_at, shown_of}, declared.layout.Layout.Layout}
use Rattle.kc_config_file.specs.PartsOfTexts.{is_end}

-- what an entry of the tree is in the menu, by its number as it is stored
abbrev pub shown_at : Layout → ℕ → Option Shown
shown_at l at = shown_of l at (option_map (λ (x : Entry). head_view x.head) (entry_at l at))

-- whether the last line is an end line, after this entry
abbrev pub ends_after : TreeFacts → SolutionView → Bool → Shown → Bool
ends_after tree solution after_end entry = if has_lines tree solution entry then is_end entry else after_end

-- the text of entries, after a line that may be an end line
abbrev pub entries_after : TreeFacts → Notation → SolutionView → Bool → List Shown → List ℕ
entries_after tree prefix solution after_end [] = []
entries_after tree prefix solution after_end (entry ∷ entries) =
    entry_text tree prefix solution after_end entry ++ entries_after tree prefix solution (ends_after tree solution after_end entry) entries

-- of an entry that may not be shown in the menu: its text, and whether the last line is an end line after it
abbrev pub text_of : TreeFacts → Notation → SolutionView → Bool → Option Shown → List ℕ
text_of tree prefix solution after_end None = []
text_of tree prefix solution after_end (Some entry) = entry_text tree prefix solution after_end entry

abbrev pub ends_behind : TreeFacts → SolutionView → Bool → Option Shown → Bool
ends_behind tree solution after_end None = after_end
ends_behind tree solution after_end (Some entry) = ends_after tree solution after_end entry
