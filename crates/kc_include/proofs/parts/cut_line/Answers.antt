use Rattle.std.proofs.Common.{ap, arith, length-drop, map, subst, sym, ℕ, ◌+◌, ◌-◌, ◌∙◌, ◌≡◌}
use Rattle.std.specs.Option.{option_map}
use Rattle.kc_include.specs.{NameView.name_of, PartView.{IsCut, part_of}}
use Rattle.kc_include.proofs.PartLemmas.{cut-on}
use Rattle.kc_include.proofs.parts.cut_line.Goals as goal

pub returns-in-None : goal.returns-in-None
returns-in-None c =
    let at = c.args.at in
    let text = c.args.text.now in
    let cut = c.args.cut.now in
    let whole : at + (c.args.after - at) ≡ c.args.after = omega (arith, c.requires.from) in
    let count = length-drop at text in
    subst (λ (k : ℕ). IsCut text (map part_of cut.parts.items) cut.start cut.first k (c.args.number + 1)) whole
    (cut-on text _ _ _ at c.args.number (c.args.after - at) c.args.line.now c.requires.so_far
    (omega (arith, count, c.requires.to)) c.requires.line (sym c.included_name.ensures ∙ ap (option_map name_of) c.in-None.is))
