use Rattle.std.proofs.Common.{List, [], ap, length, subst, sym, ℕ, ◌++◌, ◌∙◌, ◌∷◌}
use Rattle.std.specs.Result.{is_ok}
use Rattle.kc_entries.specs.{Entries.{attribute_line, lines_in, lines_of}, EntryStarts.AreInOrder, declared.entries.AttributeLine.AttributeLine}
use Rattle.kc_entries.proofs.EntryLemmas.{lines-add, order-add_if}
use Rattle.kc_entries.proofs.entries.Entries.add.Goals as goal

pub invariant_of-self : goal.invariant_of-self
invariant_of-self c =
    let old = c.args.self.now in
    let added : AttributeLine = record { line = c.args.line; attribute = c.args.attribute } in
    record {
      in_order = subst (λ (ls : List AttributeLine). AreInOrder old.first_lines.items (length ls)) (sym c.push.ensures.items)
          (order-add_if (is_ok c.push.result) old.first_lines.items old.attributes.items added old.in_order);
    }

pub returns-clause-added : goal.returns-clause-added
returns-clause-added c = λ file last.
    let old = c.args.self.now in
    let added : AttributeLine = record { line = c.args.line; attribute = c.args.attribute } in (
      ap (λ (ls : List AttributeLine). lines_of old.first_lines.items ls) c.in_ok-push.ensures.items
          ∙ lines-add old.first_lines.items last.0 old.attributes.items added old.in_order last.1
          ∙ ap (λ (f : List ℕ). lines_in old ++ attribute_line f c.args.line c.args.attribute ∷ []) last.2,
      last,
    )
