-- Trusted: Parts of the definitions of ConfigFile, with names of their own.
use Rattle.std.specs.Prelude.{None, Option, Some, length, replicate}
use Rattle.kc_language.specs.{ConfigFile.Places, Symbols.TreeFacts, Values.{GivenValue, Member}, declared.expressions.SymId.SymId}

-- the user's member of a choice, as a given value
abbrev pub member_place : Option SymId → Option GivenValue
member_place None = None
member_place (Some m) = Some (Member m)

-- the user values of a tree, all absent
abbrev pub no_places : TreeFacts → Places
no_places tree = record {
  symbols = replicate (length tree.symbols) None;
  choices = replicate (length tree.choices) None;
}
