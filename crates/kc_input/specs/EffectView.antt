-- Trusted: The meaning of an effect, and what it may assign.
use Rattle.std.specs.Prelude.{length, ◌<◌}
use Rattle.kc_diagnostics.specs.Warnings.{shown_warning}
use Rattle.kc_language.specs.Symbols.{TreeFacts}
use Rattle.kc_user.specs.ValueView.{given_of_value}
use Rattle.kc_language.specs.ConfigFile as spec
use Rattle.kc_input.specs.declared.effect.Effect.{Effect, TheVariants.{Assigns, Silent, Warns}}

abbrev pub effect_view : Effect → spec.Effect
effect_view Silent = spec.Silent
effect_view (Warns line_warning) = spec.Warns (shown_warning line_warning)
effect_view (Assigns s value) = spec.Assigns s (given_of_value value)

-- an assignment is to a defined symbol
abbrev pub AssignsDefined : TreeFacts → spec.Effect → Type 0
AssignsDefined tree spec.Silent = Unit {0}
AssignsDefined tree (spec.Warns line_warning) = Unit {0}
AssignsDefined tree (spec.Assigns s given) = s.0 < length tree.symbols
