use Rattle.std.proofs.Common.{List, ap, length, refl, subst, sym, ◌∙◌, ◌≡◌}
use Rattle.std.specs.Result.{is_ok}
use Rattle.kc_entries.specs.{Entries.lines_of, EntryStarts.AreInOrder, declared.entries.Entry.Entry}
use Rattle.kc_language.specs.Expansion.{last_of}
use Rattle.kc_entries.proofs.{EntryLemmas.{lines-push, order-push_if}, ListLemmas.last_of-push}
use Rattle.kc_entries.proofs.entries.Entries.begin.Goals as goal

pub invariant_of-self : goal.invariant_of-self
invariant_of-self c =
    let old = c.args.self.now in
    let added : Entry = record { head = c.args.head; file = c.args.file; line = c.args.line; start = c.in_ok-start.start } in
    let at : added.start ≡ length old.attributes.items = c.in_ok-start.ensures ∙ ap length c.deref.ensures.value in
    record {
      in_order = subst (λ (es : List Entry). AreInOrder es (length old.attributes.items)) (sym c.push.ensures.items)
          (order-push_if (is_ok c.push.result) old.first_lines.items added (length old.attributes.items) at old.in_order);
    }

pub returns-clause-lines : goal.returns-clause-lines
returns-clause-lines c =
    let old = c.args.self.now in
    let added : Entry = record { head = c.args.head; file = c.args.file; line = c.args.line; start = c.in_ok-start.start } in
    ap (λ (es : List Entry). lines_of es old.attributes.items) c.in_ok-push.ensures.items
    ∙ lines-push old.first_lines.items added old.attributes.items (c.in_ok-start.ensures ∙ ap length c.deref.ensures.value)

pub returns-clause-last : goal.returns-clause-last
returns-clause-last c =
    let added : Entry = record { head = c.args.head; file = c.args.file; line = c.args.line; start = c.in_ok-start.start } in
    (added, ap last_of c.in_ok-push.ensures.items ∙ last_of-push c.args.self.now.first_lines.items added, refl)
