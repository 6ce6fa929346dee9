-- For proofs: The name in the next line of a file.
use Rattle.std.specs.Prelude.{[]}
use Rattle.kc_language.specs.{Expansion.{IsSource, SourceNames}, Lines.UnreadLines}
use Rattle.kc_read.specs.declared.sources.NextSource.{NextSource}
use Rattle.kc_read.specs.declared.sources.NextSource.TheVariants as found
use Rattle.kc_entries.specs.PartsOfExpansion.{IsOther}

-- the meaning of the next line: no name is left, this line has none, or this name
abbrev pub IsFound : UnreadLines → UnreadLines → NextSource → Type 0
IsFound l m found.Nothing = SourceNames l []
IsFound l m found.Other = IsOther l m
IsFound l m (found.Name t) = IsSource l m t.items

-- another line follows
abbrev pub HasMoreLines : NextSource → Type 0
HasMoreLines found.Nothing = ⊥
HasMoreLines found.Other = Unit {0}
HasMoreLines (found.Name t) = Unit {0}
