-- Examples for the chapter Statements: keywords, and where a line may stand.
use Rattle.std.proofs.Common.{refl, ◌≡◌}
use Rattle.std.specs.Prelude.{None, Some, [], codes, true}
use Rattle.kc_language.specs.{Statements.{LineContext, cause_text, keyword_of, placement_cause}, declared.{expressions.SymbolType.SymbolType, statements.{Block.Block, EntryKind.EntryKind}}}
use Rattle.kc_language.specs.declared.diagnostics.Cause.TheVariants as cause
use Rattle.kc_language.specs.declared.statements.Keyword.TheVariants as key

-- `menuconfig` begins an entry as `config` does.
menuconfig_is_config : keyword_of (codes "menuconfig") ≡ keyword_of (codes "config")
menuconfig_is_config = refl

-- `def_bool` gives a type and a default at once.
def_bool_keyword : keyword_of (codes "def_bool") ≡ Some (key.Def SymbolType.Bool)
def_bool_keyword = refl

-- A line cannot begin with `depend`: keywords are not abbreviated.
depend_is_no_keyword : keyword_of (codes "depend") ≡ None
depend_is_no_keyword = refl

-- After `choice` and its attributes the next line is in the entry and the block of the choice. There a `default` may stand, and a `range` may not.
abbrev in_choice_entry : LineContext
in_choice_entry = record { entry = EntryKind.Choice; own = Some Block.Choice; in_choice = true; modules = true }

choice_default : placement_cause in_choice_entry (codes "default") [] key.Default ≡ None
choice_default = refl

choice_range : placement_cause in_choice_entry (codes "range") [] key.Range ≡ Some cause.Misplaced
choice_range = refl

-- `endmenu` does not end a choice. The text of that error begins with its number.
endmenu_in_choice : placement_cause in_choice_entry (codes "endmenu") [] key.EndMenu ≡ Some cause.Block
endmenu_in_choice = refl

endmenu_error : cause_text cause.Block ≡ codes "E9: unbalanced block"
endmenu_error = refl
