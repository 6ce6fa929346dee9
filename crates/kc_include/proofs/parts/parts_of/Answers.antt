use Rattle.std.proofs.{Common.{ap, arith, length, length-drop, map, subst, ℕ, ◌∙◌, ◌≡◌}, lemmas.List.map-append}
use Rattle.kc_include.specs.PartView.{IsCut, part_of}
use Rattle.kc_include.proofs.PartLemmas.{cut-none, cut-whole}
use Rattle.kc_include.proofs.parts.parts_of.Goals as goal

pub lines-init : goal.lines-init
lines-init c = record { within = omega arith; counted = omega arith; so_far = rw c.new.ensures.items (cut-none c.args.text.now) }

pub lines-preserved : goal.lines-preserved
lines-preserved c =
    let count = length-drop c.lines.at c.args.text.now in
    record {
      within = omega (arith, count, c.first_line-whole.ensures.within, c.lines.invariant.within);
      counted = omega (arith, c.first_line-whole.ensures.some, c.lines.invariant.counted);
      so_far = c.in_ok-cut_line.ensures;
    }

pub returns : goal.returns
returns c =
    let text = c.args.text.now in
    let cut = c.lines.cut in
    let end : c.lines.at ≡ length text = omega (arith, c.lines.invariant.within, c.lines-test.false) in
    let is : IsCut text (map part_of cut.parts.items) cut.start cut.first (length text) c.lines.number =
    subst (λ (k : ℕ). IsCut text (map part_of cut.parts.items) cut.start cut.first k c.lines.number) end c.lines.invariant.so_far in
    ap (map part_of) c.in_ok-push.ensures.items ∙ map-append part_of cut.parts.items _ ∙ cut-whole text _ _ _ _ is
