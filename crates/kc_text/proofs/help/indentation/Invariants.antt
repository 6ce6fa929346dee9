-- What holds at each turn of the loop of `indentation`.
use Rattle.std.proofs.Common.{◌≡◌, ℕ, List, ◌-◌, ◌≤◌, ◌*◌, ◌++◌, length, take, drop}
use Rattle.kc_language.specs.Lines.{column}
use Rattle.kc_text.specs.PartsOfLines.{is_blank_line}
use Rattle.kc_text.proofs.help.indentation.Given as goal

abbrev pub invariant-blanks : goal.invariant-blanks
invariant-blanks l = record {
  within : l.blanks ≤ length l.text;
  passed : (more : List ℕ) → column 0 (take l.blanks l.text ++ more) ≡ column l.at more;
  whole : column l.at (drop l.blanks l.text) ≡ column 0 l.text;
  low : l.at ≤ 8 * l.blanks;
  blank : is_blank_line (drop l.blanks l.text) ≡ is_blank_line l.text;
}

abbrev pub decreases-blanks : goal.decreases-blanks
decreases-blanks l = length l.text - l.blanks
