use Rattle.std.proofs.Common.{List, Some, ap, if◌then◌else◌, min, subst, ℕ, ◌+◌, ◌∙◌}
use Rattle.kc_language.specs.Expressions.{same_name}
use Rattle.kc_load.specs.Asking.{AreSources, FileBytes}
use Rattle.kc_entries.specs.PartsOfExpansion.{lines_of}
use Rattle.kc_text.specs.PartsOfText.{last_count}
use Rattle.kc_load.proofs.loading.Loading.take.Goals as goal

pub returns-clause-adds : goal.returns-clause-adds
returns-clause-adds c =
    let lists = c.in_ok-push_sources.ensures.pushes in
    let text = c.new-text.ensures in
    record {
      names = lists.names;
      sources = subst (λ (bytes : List ℕ). AreSources bytes lists.names) (c.bytes.ensures ∙ text) lists.sources;
      waiting_is = lists.waiting_is;
      puts = λ other. rw text at (c.in_ok-insert_text.ensures.ok.bytes_are other) ∙ ap (λ (files : FileBytes). if same_name other c.args.name.items then Some c.args.bytes.items else files other) lists.files_are;
      requested_are = lists.requested_are;
      lines_are = c.lines_with-lines.ensures ∙ ap (λ bytes. min (c.args.self.now.lines + lines_of bytes) last_count) text;
    }
