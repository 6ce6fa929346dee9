use Rattle.kc_language.specs.Symbols.{stated_type}
use Rattle.kc_tree.proofs.AttributeLemmas.{first_here, first_later, first_none}
use Rattle.kc_tree.proofs.attributes.first_type.Goals as goal

pub returns-in-Some : goal.returns-in-Some
returns-in-Some c =
    first_here stated_type c.args.attributes.now c.loop-line.line-index c.line-item.result c.stated_type.result c.loop-line.invariant c.loop-line-test.true
    c.line-item.is c.stated_type.ensures c.in-Some.symbol_type c.in-Some.is

pub loop-line-preserved : goal.loop-line-preserved
loop-line-preserved c =
    first_later stated_type c.args.attributes.now c.loop-line.line-index c.line-item.result c.stated_type.result c.loop-line.invariant c.loop-line-test.true c.line-item.is c.stated_type.ensures c.in_default.is

pub returns : goal.returns
returns c =
    first_none stated_type c.args.attributes.now c.loop-line.line-index c.loop-line.invariant c.loop-line-test.false
