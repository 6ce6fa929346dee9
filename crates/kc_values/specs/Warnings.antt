-- Trusted: The warnings about values (our own).
use Rattle.std.specs.{Prelude.{List, map, ℕ}, declared.{alloc.Global.Global, vec.Vec.Vec}}
use Rattle.kc_diagnostics.specs.Warnings.{owned_warning}
use Rattle.kc_language.specs.Symbols.{Warning}
use Rattle.kc_language.specs.declared.diagnostics.Warning as declared

-- the warnings in a list of the code
abbrev pub held : List (declared.Warning (Vec ℕ Global)) → List Warning
held warnings = map owned_warning warnings
