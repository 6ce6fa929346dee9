-- The prefix is valid, and the depth is not.
use Rattle.std.proofs.Common.{◌∙◌, ap, codes, subst, sym}
use Rattle.clap.specs.Words.{Text, found_of, rows_of}
use Rattle.kc_language.specs.ConfigFile.{is_prefix}
use Rattle.kc_words.specs.Refusals.{IsNoNumber}
use Rattle.kc_words.proofs.RefusalLemmas.{depth-bad}
use Rattle.kc_words.proofs.options.read_form.Goals as goal

pub returns-in-Ok-clause-err : goal.returns-in-Ok-clause-err
returns-in-Ok-clause-err c =
    let u = c.in-Err-checked_number.usage in
    depth-bad (rows_of (found_of c.args.matches.now)) u
    (ap is_prefix (sym (c.as_str.ensures.value ∙ c.in_ok-prefix.ensures)) ∙ c.in-Ok.ensures.valid)
    (subst (λ (t : Text). IsNoNumber (codes "--explain-depth") t u) (c.as_str-in-Ok.ensures.value ∙ c.in_ok-depth.ensures) c.in-Err-checked_number.ensures.err)
