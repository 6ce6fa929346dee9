use Rattle.std.proofs.Common.{Some, ap, cond, sym, ◌∙◌}
use Rattle.kc_expr.proofs.NamesLemmas.{on_err}
use Rattle.kc_language.specs.{Expansion.bytes_in, Expressions.same_name}
use Rattle.kc_read.proofs.FileLemmas.{bytes_found, bytes_put, files_of}
use Rattle.kc_read.proofs.file_map.FileMap.insert_text.Goals as goal

pub returns-clause-ok : goal.returns-clause-ok
returns-clause-ok c = record {
  bytes_are = λ other.
      ap (λ es. bytes_in (files_of es) other) c.in_ok-insert.ensures.entries
      ∙ bytes_put c.self.inside.files.entries c.args.name c.args.text other
      ∙ ap (λ fs. cond (same_name other c.args.name.items) (Some c.args.text) (bytes_in fs.entries other)) c.self.view_is;
  flat_is = ap (λ fs. fs.flat) c.self.view_is;
}

pub returns-in_err-insert-clause-unknown : goal.returns-in_err-insert-clause-unknown
returns-in_err-insert-clause-unknown c = on_err c.from_residual.result _
    (ap (λ fs. bytes_in fs.entries c.args.name.items) (sym c.self.view_is) ∙ sym (bytes_found c.self.inside.files.entries c.args.name.items) ∙ c.in_err-insert.ensures.absent)
