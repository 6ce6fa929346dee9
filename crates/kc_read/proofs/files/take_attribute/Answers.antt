use Rattle.std.proofs.Common.{Some, [], ap, if◌then◌else◌, refl, subst, sym, ◌++◌, ◌∙◌, ◌∷◌}
use Rattle.kc_language.specs.Expansion.{entry_of}
use Rattle.kc_entries.specs.{Entries.{IsLastFile, attribute_line, lines_in}, StatementViews.attribute_view}
use Rattle.kc_read.specs.Progress.{open_blocks_after, openers}
use Rattle.kc_read.proofs.HeadLemmas.{attribute_is, no_bracket}
use Rattle.kc_read.proofs.files.take_attribute.Goals as goal

pub returns-clause-taken : goal.returns-clause-taken
returns-clause-taken c = λ f last.
    let r = c.remember_attribute.ensures in
    let file = f.file.value.items in
    let added = c.in_ok-add.ensures.added file (subst (λ es. IsLastFile es file) (sym r.entries) last) in
    record {
      defined_is = r.defined_is;
      config = r.config;
      modules_is = r.modules_is;
      lines = added.0 ∙ (λ i. lines_in (r.entries i) ++ attribute_line file c.args.line c.args.attribute ∷ []);
      last = added.1;
      total_lines = r.total_lines;
      opened = r.opened;
      open_files = r.open_files;
      file = refl;
      depth = refl;
      in_choice = refl;
      blocks = ap (λ b. open_blocks_after b f.file.value.items c.args.line (openers f)) (sym (no_bracket c.args.attribute));
      entry = ap (λ b. if b then f.entry else entry_of (Some (attribute_view c.args.attribute))) (sym (attribute_is c.args.attribute));
    }
