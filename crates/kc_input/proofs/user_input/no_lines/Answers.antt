-- For each symbol no line yet.
use Rattle.std.proofs.{Common.{None, ap, arith, sym, true, ◌∙◌, ◌≡◌}, lemmas.Result.IfOk-weaker}
use Rattle.std.specs.Prelude.{replicate}
use Rattle.kc_input.proofs.user_input.no_lines.Goals as goal

pub returns : goal.returns
returns g c =
    let on : c.args.keeps_lines ≡ true = grind (arith, c.if-not-keeps_lines.false) in
    IfOk-weaker c.empty_places.result _ _
    (λ lines is. rw on (is ∙ ap (λ n. replicate n None) (c.name_count.ensures.count ∙ sym c.name_count.ensures.formed.symbols_named)))
    c.empty_places.ensures
