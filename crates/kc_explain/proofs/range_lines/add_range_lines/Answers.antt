-- A symbol of another type, and an int or hex.
use Rattle.std.proofs.Common.{ap, sym, ◌++◌, ◌∙◌}
use Rattle.std.proofs.lemmas.Result.{on_ok_weaker}
use Rattle.kc_explain.proofs.RangeLemmas.{no-ranges, ranges-are}
use Rattle.kc_explain.proofs.range_lines.add_range_lines.Goals as goal

pub returns-then-not-holds_number : goal.returns-then-not-holds_number
returns-then-not-holds_number c =
    no-ranges c.args.t.now c.args.id _ c.args.lead.now c.args.number.now c.args.text.now.items c.symbol_type-symbol_type.ensures
    (sym c.holds_number.ensures ∙ c.if-not-holds_number.true)

pub returns : goal.returns
returns c =
    on_ok_weaker c.add_all.result (λ e. e ∙ ap (λ r. c.args.text.now.items ++ r)
    (ranges-are c.args.t.now c.args.id (record { symbol_type = c.symbol_type-symbol_type.result; number = c.args.number; lead = c.args.lead }) c.deref.result.now
    c.symbol_type-symbol_type.ensures (sym c.holds_number.ensures ∙ c.if-not-holds_number.false)
    (rw c.deref.ensures.value c.in_ok-entries.ensures))) c.add_all.ensures
