-- Examples for the chapter Lines: joined lines and help texts.
use Rattle.std.proofs.Common.{◌≡◌, refl, sym, ◌∙◌, ap, true≢false, arith, ◌++◌, ◌≤◌, length, List, [], ◌∷◌, Bool, true, take}
use Rattle.std.specs.Prelude.{codes}
use Rattle.kc_language.specs.Lines.{AreJoined, Physical, TakesLine, after_help, continues, physical_lines, unread_lines}

-- Line 7 ends in `\`, so lines 7 and 8 are one logical line, and line 9 is next.
two_lines_are_joined : TakesLine (unread_lines (codes "bool \"A\" \\\nif B\nhelp\n") 7) (unread_lines (codes "help\n") 9) (codes "bool \"A\" if B")
unfolding physical_lines
two_lines_are_joined = (take 2 lines, record { split = refl; joined = (refl, tt); longest = longest }, refl, omega arith, refl, refl)
  where
    lines : List Physical
    lines = physical_lines (codes "bool \"A\" \\\nif B\nhelp\n")

    second : List Physical → Bool
    second [] = true
    second (l ∷ []) = true
    second (l ∷ m ∷ more) = continues m

    longest : (other rest : List Physical) → lines ≡ other ++ rest → AreJoined other → length other ≤ 2
    longest [] rest e j = omega arith
    longest (l ∷ []) rest e j = omega arith
    longest (l ∷ m ∷ []) rest e j = omega arith
    longest (l ∷ m ∷ n ∷ more) rest e j = absurd (true≢false (sym j.1.0 ∙ sym (ap second e)))

-- A help text goes on over a blank line and over a line that is indented more. It ends before a line that is indented less.
help_is_skipped : after_help (physical_lines (codes "\n  First line.\n    More.\n\n  Last line.\nconfig B\n")) ≡ physical_lines (codes "config B\n")
unfolding physical_lines
help_is_skipped = refl

-- Without indentation there is no help text.
no_help_is_skipped : after_help (physical_lines (codes "\nconfig B\n")) ≡ physical_lines (codes "config B\n")
unfolding physical_lines
no_help_is_skipped = refl
