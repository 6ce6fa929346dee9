use Rattle.std.proofs.Common.{Some, [], ap, if◌then◌else◌, subst, sym, ◌++◌, ◌∙◌, ◌∷◌}
use Rattle.kc_language.specs.Expansion.{entry_of}
use Rattle.kc_entries.specs.{Entries.{IsLastFile, head_line, lines_in}, StatementViews.head_view}
use Rattle.kc_read.proofs.HeadLemmas.{no_attribute}
use Rattle.kc_read.proofs.files.take_head.Goals as goal

pub returns-in_ok-begin-in-Ok-clause-taken : goal.returns-in_ok-begin-in-Ok-clause-taken
returns-in_ok-begin-in-Ok-clause-taken c =
    let r = c.in_default.ensures.remembered in
    let same = ap (λ v. v.items) c.in-Ok.ensures.cases ∙ ap (λ x. x.value.items) c.in_default-take.ensures.kept.0 in
    record {
      defined_is = r.defined_is;
      config = r.config;
      modules_is = r.modules_is;
      lines = c.in_ok-begin-in-Ok.ensures.lines
          ∙ (λ i. lines_in (r.entries i) ++ head_line (same i) c.args.line c.args.head ∷ []);
      last = subst (IsLastFile c.begin.new.self) same c.in_ok-begin-in-Ok.ensures.last;
      total_lines = r.total_lines;
      opened = r.opened;
      open_files = r.open_files;
      file = c.in_default-take.ensures.kept.0;
      depth = c.in_default-take.ensures.kept.1;
      in_choice = c.in_default-take.ensures.kept.2;
      blocks = c.in_default-take.ensures.turned.0;
      entry = c.in_default-take.ensures.turned.1
          ∙ ap (λ b. if b then c.args.frame.now.entry else entry_of (Some (head_view c.args.head))) (sym (no_attribute c.args.head));
    }
