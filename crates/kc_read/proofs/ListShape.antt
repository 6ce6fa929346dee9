-- What the shape of an expanded list gives a tree.
use Rattle.std.proofs.Common.{List, None, Ok, Some, map, true, ℕ, ◌<◌, ◌≡◌}
use Rattle.std.specs.List.{slice_get}
use Rattle.kc_language.specs.{Expansion.{Expands, Files, ReadSoFar, mentioned_names, numbered_lines}, Expressions.number_of, Statements.{Numbered, statements}, Symbols.{Condition, EndShown, MenuShown, enclosing_choice, of_block}}
use Rattle.kc_language.specs.declared.statements.Block.TheVariants as block
use Rattle.kc_entries.specs.PartsOfSymbols.{entries}
use Rattle.kc_read.proofs.{ExpansionLemmas.AreNested, MenuEndLemmas.end_names_menu, NestLemmas.{expanded_nested, opener_alone}}

module _ (files : Files) (root : List ℕ) (log : ReadSoFar) (expands : Expands files root (Ok log)) where
  abbrev numbered : List Numbered
  numbered = map (λ l. l.statement) (numbered_lines log.lines)

  pub nested : AreNested numbered
  nested =
      expanded_nested files root log (number_of (mentioned_names (statements log.lines))) expands

  -- a choice does not stand in a choice
  pub choices_alone : (p : ℕ) → of_block numbered block.Choice p ≡ true → enclosing_choice numbered p ≡ None
  choices_alone p e = opener_alone numbered nested p e

  -- the end of a menu names a menu that stands before it
  pub ends_name_menus : (i menu : ℕ) → slice_get (entries numbered) i ≡ Some (EndShown menu) → (menu < i)
      × ((text : List ℕ) × (when : Condition) × (slice_get (entries numbered) menu ≡ Some (MenuShown text when)))
  ends_name_menus i menu e = end_names_menu numbered nested i menu e
