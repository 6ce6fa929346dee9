-- What is added so far and what is still to be added make the whole, from the same files.
use Rattle.kc_read.specs.Files.{files_in}
use Rattle.std.proofs.Common.{◌≡◌, ◌++◌, drop}
use Rattle.kc_explain.specs.Excerpts.{new_definitions}
use Rattle.kc_explain.proofs.excerpt.add_each_definition.Given as goal

abbrev pub invariant-loop-entry : goal.invariant-loop-entry
invariant-loop-entry l = (l.reader ≡ l.fn.reader)
    × (l.text.items ++ new_definitions (files_in l.fn.reader) l.layout l.places (drop l.entry-index l.entries) ≡ l.fn.text.items ++ new_definitions (files_in l.fn.reader) l.layout l.fn.places l.entries)
