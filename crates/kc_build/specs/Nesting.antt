-- For proofs: Lines that close blocks.
use Rattle.std.specs.Prelude.{List, None, Option, Some, slice_get, ℕ, ◌≡◌}
use Rattle.kc_language.specs.{Statements.{EndChoiceLine, EndIfLine, EndMenuLine, Numbered}, declared.statements.Block.Block}
use Rattle.kc_language.specs.declared.statements.Block.TheVariants as block
use Rattle.kc_entries.specs.PartsOfSymbols.{block_at, enclosing_block}

-- the kind of block that a line closes
abbrev pub closed_block : Numbered → Option Block
closed_block EndIfLine = Some block.If
closed_block EndMenuLine = Some block.Menu
closed_block EndChoiceLine = Some block.Choice
closed_block _ = None

-- the innermost block around statement i is of this kind
abbrev pub IsWithin : List Numbered → ℕ → Block → Type 0
IsWithin ss i b = (k : ℕ) × (enclosing_block ss i ≡ Some k) × (block_at ss k ≡ Some b)

-- each line that closes a block closes one of its kind
abbrev pub AreBlocksClosed : List Numbered → Type 0
AreBlocksClosed ss = (i : ℕ) (s : Numbered) (b : Block) → slice_get ss i ≡ Some s → closed_block s ≡ Some b → IsWithin ss i b
