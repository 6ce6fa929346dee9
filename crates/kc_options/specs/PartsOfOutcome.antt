-- Trusted: Names for parts of the definitions of Outcome.
use Rattle.std.specs.Prelude.{Bool, ◌&&◌, ◌||◌}
use Rattle.kc_outcome.specs.{Outcome.{Options, wants}, declared.outcome.Output.{Output}}

-- the warnings of the input files are held back until all of them are read
abbrev pub holds_warnings : Options → Bool
holds_warnings options = options.strict || options.strict_tree

-- A text is made of the files of the tree: new symbols are listed with help.
abbrev pub wants_sources : Options → Bool
wants_sources options = options.with_help && wants options Output.NewSymbols
