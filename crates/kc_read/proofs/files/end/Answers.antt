use Rattle.kc_entries.proofs.ListLemmas.{last_of-none}
use Rattle.std.proofs.Common.{ap, sym, ◌∙◌}
use Rattle.kc_language.specs.{Expansion.refusal_at, declared.diagnostics.Cause.TheVariants.Block}
use Rattle.kc_read.proofs.files.end.Goals as goal

pub returns-in-None-clause-closed : goal.returns-in-None-clause-closed
returns-in-None-clause-closed c = last_of-none c.args.frame.now.blocks.items (sym c.in-None.ensures)

pub returns-in-Some-clause-open : goal.returns-in-Some-clause-open
returns-in-Some-clause-open c = λ ne.
    let file = c.deref-in-Some.ensures.value ∙ ap (λ v. v.items) c.deref.ensures in
    (c.in-Some.opener.now, sym c.in-Some.ensures, c.refuse.ensures.refused ne ∙ ap (λ f. refusal_at Block f c.in-Some.opener.now.line) file)
