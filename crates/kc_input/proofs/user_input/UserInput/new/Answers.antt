-- Neither list has a line yet.
use Rattle.std.proofs.Common.{ap, length, map, refl, ◌∙◌}
use Rattle.std.specs.Prelude.{option_map}
use Rattle.kc_input.specs.{InputView.kept_of, ShownView.location_of}
use Rattle.kc_input.proofs.PlaceLemmas.{none_yet}
use Rattle.kc_input.proofs.user_input.UserInput.new.Goals as goal

pub returns : goal.returns
returns c =
    let lines = ap (map (option_map location_of)) c.in_ok-lines.ensures ∙ none_yet location_of c.args.keeps_lines (length c.args.tree.now.symbols) in
    let refused = ap (map (option_map kept_of)) c.in_ok-refused.ensures ∙ none_yet kept_of c.args.keeps_lines (length c.args.tree.now.symbols) in
    rw (c.in_ok-user.ensures, lines, refused, c.new-2.ensures.items) refl
