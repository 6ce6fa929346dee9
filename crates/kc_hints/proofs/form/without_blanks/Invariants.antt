use Rattle.std.proofs.Common.{◌≡◌, length}
use Rattle.kc_hints.specs.Forms.{without_blanks}
use Rattle.kc_hints.proofs.form.without_blanks.Given as goal

-- blanks were passed
abbrev pub invariant-blanks : goal.invariant-blanks
invariant-blanks l = without_blanks l.bytes ≡ without_blanks l.rest

abbrev pub decreases-blanks : goal.decreases-blanks
decreases-blanks l = length l.rest
