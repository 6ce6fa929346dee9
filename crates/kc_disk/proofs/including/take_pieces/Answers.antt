-- The root file.
use Rattle.std.proofs.Common.{◌≡◌, List, ℕ, None, map, string_bytes, length, subst, sym, ◌∙◌}
use Rattle.kc_read.specs.Files.{files_in}
use Rattle.kc_disk.specs.Program.{GivesPieced, TakesTurns}
use Rattle.kc_disk.proofs.KeptLemmas.{rooted_pieces}
use Rattle.kc_disk.proofs.including.take_pieces.Goals as goal

pub take_turns-requires : goal.take_turns-requires
take_turns-requires g c =
    let named = c.args.named.now in
    λ i o gives. rooted_pieces named.each.now (map string_bytes named.names.now) i o gives ∙ sym c.as_str-root.ensures.value

pub returns : goal.returns
returns g c =
    let named = c.args.named.now in
    let names = map string_bytes named.names.now in
    subst (λ (first : List ℕ). TakesTurns named.asked (files_in c.args.files) first (GivesPieced named.each.now names) (length named.names.now) None None c.take_turns.result)
    c.as_str-root.ensures.value c.take_turns.ensures
