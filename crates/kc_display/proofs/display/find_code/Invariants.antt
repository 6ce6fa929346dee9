-- No code stands before this place.
use Rattle.std.proofs.Common.{◌≡◌, drop}
use Rattle.kc_display.specs.Hints.{all_codes, code_from}
use Rattle.kc_display.proofs.display.find_code.Given as goal

abbrev pub invariant-loop-i : goal.invariant-loop-i
invariant-loop-i l = code_from all_codes 0 l.line ≡ code_from all_codes l.i (drop l.i l.line)
