use Rattle.std.proofs.Common.{ap, arith, drop, length, suc, sym, ◌+◌, ◌∙◌, ◌≡◌}
use Rattle.kc_entries.specs.StatementViews.{head_view}
use Rattle.kc_tree.specs.{EntryViews.statements_of, Places.place_at}
use Rattle.kc_build.specs.Standing.{all_noted, bare_place, shown_number}
use Rattle.kc_build.proofs.OwnPlaceLemmas.{number-same}
use Rattle.kc_tree.proofs.AttributeLemmas.{statements_end, statements_from}
use Rattle.kc_build.proofs.blocks.Blocks.place_of.Goals as goal

pub loop-j-init : goal.loop-j-init
loop-j-init c =
    let b = c.args.self.now in
    let x = c.args.lines in
    let at = c.args.at in
    let head = head_view x.first.now.head in
    let around = place_at c.args.self.now.places.items c.args.self.now.block.0 in
    let place : c.bare_place-place.result ≡ bare_place (place_at c.args.self.now.places.items c.args.self.now.block.0) b.block at (head_view c.args.lines.first.now.head) =
    c.bare_place-place.ensures ∙ ap (λ ps. bare_place (place_at ps c.args.self.now.block.0) b.block at head) c.deref.ensures.value in
    let size : c.len.result ≡ length c.args.self.now.visibles.items = omega (arith, c.len.ensures, c.args.self.now.visibles.ok) in
    let number : c.shown_number-visible.result ≡ shown_number (place_at c.args.self.now.places.items c.args.self.now.block.0) (length c.args.self.now.visibles.items) (head_view c.args.lines.first.now.head) =
    c.shown_number-visible.ensures ∙ ap (λ p. shown_number p c.len.result head) place ∙ number-same around b.block at c.len.result head ∙ ap (λ n. shown_number around n head) size in
    let z : x.first.now.start ≡ x.first.now.start + 0 = omega arith in
    λ j. all_noted at (sym number j) (z j) (statements_of x.attributes.now) (sym place j)

pub loop-j-preserved : goal.loop-j-preserved
loop-j-preserved c =
    let x = c.args.lines in
    let at = c.args.at in
    let v = c.shown_number-visible.result in
    let start = x.first.now.start in
    let i = c.loop-j.j in
    let own = statements_of x.attributes.now in
    let z : suc (c.args.lines.first.now.start + c.loop-j.j) ≡ c.args.lines.first.now.start + (c.loop-j.j + 1) = omega arith in
    c.loop-j.invariant
    ∙ ap (λ l. all_noted at v (start + i) l c.loop-j.place) (statements_from x.attributes.now i c.line-item.result c.loop-j-test.true c.line-item.is)
    ∙ (λ j. all_noted at v (z j) (drop (i + 1) own) (sym c.note_attribute.ensures j))

pub returns : goal.returns
returns c =
    let x = c.args.lines in
    sym (c.loop-j.invariant
    ∙ ap (λ l. all_noted c.args.at c.shown_number-visible.result (x.first.now.start + c.loop-j.j) l c.loop-j.place) (statements_end x.attributes.now c.loop-j.j c.loop-j-test.false))
