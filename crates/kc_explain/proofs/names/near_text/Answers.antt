use Rattle.std.proofs.Common.{◌∙◌, ◌+◌, drop, ap, sym}
use Rattle.kc_input.proofs.DefinedLemmas.{defined_named}
use Rattle.kc_language.specs.Values.{name}
use Rattle.std.proofs.Common.{map}
use Rattle.kc_explain.specs.NearNames.{with_each}
use Rattle.kc_explain.proofs.NearLemmas.{near_begins, near_next}
use Rattle.kc_explain.proofs.names.near_text.Goals as goal

pub loop-i-init : goal.loop-i-init
loop-i-init c =
    ap (λ text. with_each c.args.asked.now text (map (name c.args.tree.now) c.args.tree.now.defined)) c.new-text.ensures.items
    ∙ near_begins c.args.tree.now c.args.asked.now

pub name-requires : goal.name-requires
name-requires c = defined_named c.args.tree.now c.symbol_count-i-end.ensures.formed c.loop-i.i c.symbol.result c.symbol.ensures

pub loop-i-preserved : goal.loop-i-preserved
loop-i-preserved c =
    let next = near_next c.args.tree.now c.args.asked.now c.loop-i.text.items c.loop-i.i c.symbol.result c.name.result.now c.symbol.ensures c.name.ensures in
    ap (λ text. with_each c.args.asked.now text (map (name c.args.tree.now) (drop (c.loop-i.i + 1) c.args.tree.now.defined))) c.in_ok-add_near.ensures ∙ sym next ∙ c.loop-i.invariant
