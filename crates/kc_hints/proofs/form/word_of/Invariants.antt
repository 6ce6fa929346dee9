use Rattle.std.proofs.Common.{◌≡◌, ◌++◌, drop, take}
use Rattle.kc_hints.specs.Forms.{word_of}
use Rattle.kc_hints.proofs.form.word_of.Given as goal

-- no blank so far
abbrev pub invariant-loop-i : goal.invariant-loop-i
invariant-loop-i l = word_of l.text ≡ take l.i l.text ++ word_of (drop l.i l.text)
