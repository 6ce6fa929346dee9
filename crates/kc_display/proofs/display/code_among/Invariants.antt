-- None of the codes so far fits.
use Rattle.std.proofs.Common.{◌≡◌, drop}
use Rattle.kc_display.specs.Hints.{code_among}
use Rattle.kc_display.proofs.display.code_among.Given as goal

abbrev pub invariant-loop-code : goal.invariant-loop-code
invariant-loop-code l = code_among l.codes l.text ≡ code_among (drop l.code-index l.codes) l.text
