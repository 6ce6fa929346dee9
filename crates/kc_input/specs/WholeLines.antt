-- Trusted: A reader adds whole lines.
use Rattle.std.specs.Prelude.{◌≡◌, ℕ, List, ◌++◌, true}
pub use Rattle.kc_text.specs.PartsOfLines.{ends_line}
pub use Rattle.kc_language.specs.Lines.{is_whole_lines}

-- adds whole lines, or nothing
abbrev pub AddsWholeLines : List ℕ → List ℕ → Type 0
AddsWholeLines old new = (added : List ℕ) × (new ≡ old ++ added) × (is_whole_lines added ≡ true)
