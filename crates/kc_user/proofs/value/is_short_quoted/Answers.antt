use Rattle.std.proofs.{Common.{length, ◌∙◌}, lemmas.Bool.lt-leb}
use Rattle.kc_user.proofs.UserLemmas.{quoted_over, quoted_within}
use Rattle.kc_user.proofs.value.is_short_quoted.Goals as goal

pub returns-then-text-le-LONGEST_VALUE : goal.returns-then-text-le-LONGEST_VALUE
returns-then-text-le-LONGEST_VALUE c = rw c.escaped_count.ensures.count (quoted_within c.args.text.now 65000)

pub returns-else-text-le-LONGEST_VALUE : goal.returns-else-text-le-LONGEST_VALUE
returns-else-text-le-LONGEST_VALUE c =
    lt-leb (length c.args.text.now) 65000 c.if-text-le-LONGEST_VALUE.false ∙ quoted_over c.args.text.now 65000 c.if-text-le-LONGEST_VALUE.false
