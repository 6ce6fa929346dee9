-- Trusted: Everything in the layout of a tree can be found in its entries. Any two proofs of this are equal.
use Rattle.std.specs.Prelude.{List, length, ◌*◌, ◌+◌, ◌<◌, ◌^◌, ◌≡◌}
use denote.Struct.Props.{props}
use Rattle.kc_language.specs.{Symbols.defined_symbols, declared.expressions.SymId.SymId}
use Rattle.kc_entries.specs.{ListFacts.{AreChoicesApart, AreMenusClosed}, declared.entries.Entries.Entries}
use Rattle.kc_tree.specs.{EntryViews.{entry_count, statements_in}, Places.{AreChained, AreChoiceEntries, AreEffects, AreMembers, AreMembersOnce, ArePlaces, AreRowsThere, AreSymbolRows, AreVisibles}, declared.rows.{Choice.Choice, EntryId.EntryId, EntryPlace.EntryPlace, Selector.Selector, Symbol.Symbol}}

-- the layout of these entries
pub record IsLaid (es : Entries) (places : List EntryPlace) (visibles : List EntryId) (symbols : List Symbol) (lines : List Selector) (choices : List Choice) (defined : List SymId) : Type 0 where
  pub count : length places ≡ entry_count es
  pub places_are : ArePlaces es places
  pub visibles_are : AreVisibles es visibles
  pub symbols_are : AreSymbolRows es lines symbols
  pub symbols_there : AreRowsThere es symbols
  pub effects : AreEffects es lines
  pub chained : AreChained es lines
  pub choice_entries : AreChoiceEntries es choices
  pub members : AreMembers es choices
  pub defined_are : defined ≡ defined_symbols (statements_in es)
  -- choices do not nest, and a symbol is a member of at most one choice
  pub apart : AreChoicesApart (statements_in es)
  pub members_once : AreMembersOnce es
  pub menus_closed : AreMenusClosed (statements_in es)
  -- all of them, and the top, have numbers of 32 bits
  pub few : length symbols + (length visibles + 1) + (entry_count es + 1) + 2 * length choices < 2 ^ 32

pub laid-prop : (es : Entries) (places : List EntryPlace) (visibles : List EntryId) (symbols : List Symbol) (lines : List Selector) (choices : List Choice) (defined : List SymId) → IsProp (IsLaid es places visibles symbols lines choices defined)
laid-prop es places visibles symbols lines choices defined = hlevel props
