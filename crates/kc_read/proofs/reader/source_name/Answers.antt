use Rattle.std.proofs.Common.{ap, sym, ◌∙◌}
use Rattle.kc_read.specs.LineReads.{lexemes_from}
use Rattle.kc_entries.specs.PartsOfStatements.{is_pattern}
use Rattle.kc_read.proofs.{FrontLemmas.after_one, PartLemmas.source_ok}
use Rattle.kc_read.proofs.reader.source_name.Goals as goal

pub returns-clause-name : goal.returns-clause-name
returns-clause-name c =
    let ls = lexemes_from c.args.tokens.now 1 in
    source_ok ls c.in_ok-name.name.items c.in_ok-name.ensures.part (sym (c.is_pattern.ensures ∙ ap is_pattern c.deref.ensures.value) ∙ c.if-is_pattern.false)
    (after_one c.args.tokens.now 1 ∙ c.in_ok-end.ensures.end)
