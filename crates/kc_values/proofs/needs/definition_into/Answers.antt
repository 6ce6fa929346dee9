use Rattle.std.proofs.Common.{arith, ◌||◌, ◌≡◌}
use Rattle.kc_values.proofs.{LineNames.{added_silent, added_stated}, PlacesThere.place_there, needs.definition_into.Goals.{In_ok-asking_into, else-place, then-place}}
use Rattle.kc_values.proofs.needs.definition_into.Goals as goal

pub asking_into-requires : goal.asking_into-requires
asking_into-requires c = rw c.requires.place (record { there = place_there c.args.layout.now c.args.at.0 })

counts : (c : In_ok-asking_into) → c.if-place.is_stated ≡ (c.args.place.has_default || c.has_ranges-has_range.result)
counts c = elim c.if-place.branch [ then-place w ↦ grind arith | else-place w ↦ grind arith ]

pub returns-in_ok-stated_into : goal.returns-in_ok-stated_into
returns-in_ok-stated_into c =
    added_stated c.args.layout.now c.args.symbol_type c.args.at.0 c.args.place c.has_ranges-has_range.result c.if-place.is_stated c.requires.place c.has_ranges-has_range.ensures
    (counts (goal.at.returns-in_ok-stated_into c).In_ok-asking_into) c.args.out.now c.asking_into.new.out c.stated_into.new.out c.attributes.result.now c.attributes.ensures c.in_ok-asking_into.ensures
    c.in_ok-stated_into.ensures

pub returns-else-is_stated : goal.returns-else-is_stated
returns-else-is_stated c =
    added_silent c.args.layout.now c.args.symbol_type c.args.at.0 c.args.place c.has_ranges-has_range.result c.if-place.is_stated c.requires.place c.has_ranges-has_range.ensures
    (counts (goal.at.returns-else-is_stated c).In_ok-asking_into) c.args.out.now c.asking_into.new.out c.if-is_stated.false c.in_ok-asking_into.ensures
