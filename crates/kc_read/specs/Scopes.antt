-- For proofs: The scope of a line: the conditions of its enclosing blocks.
use Rattle.std.specs.{List.flat_map, Prelude.{List, Option, Some, [], if◌then◌else◌, ℕ, ◌++◌}}
use Rattle.kc_language.specs.{Expansion.enclosing, Expressions.Form, Statements.Numbered, Symbols.{block_conjuncts, enclosing_choice, of_block, own_visible}}
use Rattle.kc_language.specs.declared.statements.Block.TheVariants as block
use Rattle.kc_entries.specs.PartsOfSymbols.{enclosing_block, enclosing_visible}

pub record Scope : Type 0 where
  pub conjuncts : List Form
  pub visible : List Form
  pub mode : Option ℕ
  pub opened_at : Option ℕ

module _ (ss : List Numbered) where
  -- the `visible if` conditions that the block of statement i adds to its prompts and menus
  abbrev pub block_visible : ℕ → List Form
  block_visible i = if of_block ss block.Menu i then own_visible ss i else []

  -- the scope of the lines of the block that statement i begins, given the scope of that statement and the number of choices before it
  abbrev pub scope_of_block : ℕ → Scope → ℕ → Scope
  scope_of_block i r choices = record {
    conjuncts = r.conjuncts ++ block_conjuncts ss i;
    visible = r.visible ++ block_visible i;
    mode = if of_block ss block.Choice i then Some choices else r.mode;
    opened_at = Some i;
  }

  -- the scope of statement i
  abbrev pub scope_at : ℕ → Scope
  scope_at i = record { conjuncts = flat_map (block_conjuncts ss) (enclosing ss i); visible = enclosing_visible ss i; mode = enclosing_choice ss i; opened_at = enclosing_block ss i }
