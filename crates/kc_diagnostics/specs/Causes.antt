-- Trusted: Why a tree is refused: the text of each error, and its line (our own).
use Rattle.std.specs.{Borrow.Bor, Prelude.{List, ℕ}, declared.{alloc.Global.Global, vec.Vec.Vec}}
use Rattle.kc_language.specs.Statements.{Cause}
use Rattle.kc_language.specs.declared.diagnostics.Cause as declared
use Rattle.kc_language.specs.declared.diagnostics.Cause.TheVariants as cause

-- the same cause, with its name converted
abbrev pub map_cause : {M N : Type 0} → (M → N) → declared.Cause M → declared.Cause N
map_cause f (cause.NoFile name) = cause.NoFile (f name)
map_cause f (cause.InclusionLoop name) = cause.InclusionLoop (f name)
map_cause f cause.TooManyLines = cause.TooManyLines
map_cause f cause.LineTooLong = cause.LineTooLong
map_cause f cause.BadToken = cause.BadToken
map_cause f cause.Macro = cause.Macro
map_cause f (cause.LeftOut word) = cause.LeftOut (f word)
map_cause f cause.Syntax = cause.Syntax
map_cause f cause.Block = cause.Block
map_cause f cause.Misplaced = cause.Misplaced
map_cause f (cause.BadName name) = cause.BadName (f name)
map_cause f cause.TooDeep = cause.TooDeep
map_cause f (cause.ChoiceMember name) = cause.ChoiceMember (f name)
map_cause f (cause.BadDefault name) = cause.BadDefault (f name)
map_cause f (cause.Loop names) = cause.Loop (f names)
map_cause f cause.TooManySymbols = cause.TooManySymbols
map_cause f cause.Memory = cause.Memory

-- a cause that borrows its name
abbrev pub shown_cause : declared.Cause (Bor (List ℕ)) → Cause
shown_cause c = map_cause (λ name. name.now) c

-- a cause that owns its name
abbrev pub owned_cause : declared.Cause (Vec ℕ Global) → Cause
owned_cause c = map_cause (λ name. name.items) c
