use Rattle.std.proofs.Common.{refl, ◌∙◌, ap, rules}
use Rattle.kc_language.specs.Expressions.{mention}
use Rattle.kc_read.proofs.files.enter.Goals as goal

pub returns-clause-progress : goal.returns-clause-progress
returns-clause-progress c = record {
  open_files = (c.in_ok-clone.field-0, ap (λ v. v.items) (c.in_ok-clone.ensures.cases ∙ c.in_ok-file.ensures.ok), c.in_ok-push.ensures.items);
  total_lines_is = refl;
  opened_is = c.in_ok-id.ensures.names ∙ ap (λ n. mention c.args.progress.now.opened n) c.deref.ensures.value;
  entries = refl;
  defined_is = refl;
  config = refl;
  modules_is = refl;
}

pub returns-clause-within : goal.returns-clause-within
returns-clause-within c = (search rules, search rules)
