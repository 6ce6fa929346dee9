use Rattle.std.proofs.Common.{IsUtf8, List, Some, ap, refl, subst, sym, ℕ, ◌∙◌}
use Rattle.kc_language.specs.{Expressions.mention, Files.path_of}
use Rattle.kc_load.specs.{Folder.{AnswersAs, files_told}, Steps.{file, was_requested}}
use Rattle.kc_load.proofs.loading.Loading.visit.Goals as goal

pub returns-in_ok-take-in-Ok-Some-clause-ok : goal.returns-in_ok-take-in-Ok-Some-clause-ok
returns-in_ok-take-in-Ok-Some-clause-ok g c =
    let text = c.in-Ok.ensures.cases in
    let answer = rw c.in-Ok-Some.field-0-is at c.in-Ok-Some.ensures.answer in
    file _ c.in-Ok-Some.bytes.items
    (record {
      utf8 = subst IsUtf8 c.deref.ensures.value text.1;
      is_new = ap (was_requested c.args.self.now.requested) (sym c.deref-2.ensures.value) ∙ sym c.if-was_requested.ensures;
    })
    (subst (λ (name : List ℕ). AnswersAs (files_told (g.F.Folder.state c.read_named.new.folder)) (path_of c.args.dir.now name) (Some c.in-Ok-Some.bytes.items)) (text.0 ∙ c.deref.ensures.value) answer)
    (record {
      files_are = refl;
      waiting_is = refl;
      requested_are = c.in_ok-id.ensures.names ∙ ap (mention c.args.self.now.requested) c.deref-3.ensures.value;
      lines_are = refl;
    })
    c.in_ok-take-in-Ok-Some.ensures.adds
