-- Trusted: Warnings: the text of each, and its line (our own).
use Rattle.std.specs.{Borrow.Bor, Prelude.{List, ℕ}, declared.{alloc.Global.Global, vec.Vec.Vec}}
use Rattle.kc_language.specs.Symbols.{Warning}
use Rattle.kc_language.specs.declared.diagnostics.Warning as declared
use Rattle.kc_language.specs.declared.diagnostics.Warning.TheVariants as warning

-- the same warning, with its texts converted
abbrev pub map_warning : {M N : Type 0} → (M → N) → declared.Warning M → declared.Warning N
map_warning f (warning.TypeRedefined name) = warning.TypeRedefined (f name)
map_warning f (warning.PromptRedefined name) = warning.PromptRedefined (f name)
map_warning f (warning.WithoutType name) = warning.WithoutType (f name)
map_warning f (warning.TextTarget name word) = warning.TextTarget (f name) (f word)
map_warning f (warning.DefaultNotMember name) = warning.DefaultNotMember (f name)
map_warning f (warning.MemberTarget name word) = warning.MemberTarget (f name) (f word)
map_warning f (warning.UnknownSymbol name) = warning.UnknownSymbol (f name)
map_warning f (warning.NotAllowed name) = warning.NotAllowed (f name)
map_warning f warning.MalformedLine = warning.MalformedLine
map_warning f (warning.SetAgain name) = warning.SetAgain (f name)
map_warning f (warning.Selected name selected_to direct) = warning.Selected (f name) (f selected_to) (f direct)
map_warning f (warning.UserOutside name value low high) = warning.UserOutside (f name) (f value) (f low) (f high)
map_warning f (warning.DefaultOutside name value low high used) = warning.DefaultOutside (f name) (f value) (f low) (f high) (f used)
map_warning f (warning.Lost name given value) = warning.Lost (f name) (f given) (f value)
map_warning f (warning.LostWithoutPrompt name given value) = warning.LostWithoutPrompt (f name) (f given) (f value)
map_warning f (warning.Changed name old file line new) = warning.Changed (f name) (f old) (f file) line (f new)
map_warning f (warning.TextUnset name) = warning.TextUnset (f name)

-- a warning that borrows its texts
abbrev pub shown_warning : declared.Warning (Bor (List ℕ)) → Warning
shown_warning w = map_warning (λ text. text.now) w

-- a warning that owns its texts
abbrev pub owned_warning : declared.Warning (Vec ℕ Global) → Warning
owned_warning w = map_warning (λ text. text.items) w
