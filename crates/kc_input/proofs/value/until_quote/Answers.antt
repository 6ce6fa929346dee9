use Rattle.kc_input.proofs.{QuotedLemmas.{inside_found, inside_over, inside_over_taken, preceded-nothing}, value.until_quote.Goals.{else-body-at-eq92, then-body-at-eq92}}
use Rattle.kc_language.specs.ConfigFile.{until_quote}
use Rattle.kc_input.proofs.value.until_quote.Goals as goal

pub bytes-init : goal.bytes-init
bytes-init c = preceded-nothing (until_quote c.args.body.now)

pub returns-then-body-at-eq34 : goal.returns-then-body-at-eq34
returns-then-body-at-eq34 c = inside_found c.args.body.now c.bytes.at c.bytes-test.true c.if-body-at-eq34.true c.bytes.invariant

pub bytes-preserved : goal.bytes-preserved
bytes-preserved c =
    elim c.if-body-at-eq92.branch [
      | then-body-at-eq92 w ↦
          inside_over_taken c.args.body.now c.bytes.at c.if-body-at-eq92.at w.at-is c.bytes-test.true w.if-body-at-eq92.true c.bytes.invariant
      | else-body-at-eq92 w ↦
          inside_over c.args.body.now c.bytes.at c.if-body-at-eq92.at w.at-is c.bytes-test.true c.if-body-at-eq34.false w.if-body-at-eq92.false c.bytes.invariant
    ]
