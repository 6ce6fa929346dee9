-- Trusted: The lines of a root file, with their names numbered.
use Rattle.std.specs.Prelude.{List, Ok, ℕ, ◌≡◌}
use Rattle.kc_language.specs.{Expansion.{Expands, Files, ReadSoFar, mentioned_names, numbered_lines}, Statements.statements, Symbols.{defined_symbols, modules_symbol}}
use Rattle.kc_entries.specs.Entries.{lines_in}
use Rattle.kc_build.specs.declared.listing.Listing.{Listing}

-- the lines of this expanded list, its names, the symbols that it defines and the modules symbol
pub record IsListing (log : ReadSoFar) (l : Listing) : Type 0 where
  pub names_are : l.names ≡ mentioned_names (statements log.lines)
  pub lines_are : lines_in l.entries ≡ numbered_lines log.lines
  pub defined_are : l.defined.items ≡ defined_symbols (statements (numbered_lines log.lines))
  pub modules_is : l.modules ≡ modules_symbol (mentioned_names (statements log.lines)) (statements (numbered_lines log.lines))

-- the listing of the expanded list of a root file
abbrev pub IsListingOf : Files → List ℕ → Listing → Type 0
IsListingOf files root l = (log : ReadSoFar) × Expands files root (Ok log) × IsListing log l
