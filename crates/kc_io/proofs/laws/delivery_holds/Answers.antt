use Rattle.std.proofs.{Common.{[], ap, fold, ◌∙◌}, lemmas.Grind.fold-append}
use Rattle.kc_io.specs.Log.{Spot, after}
use Rattle.kc_io.proofs.HeldLemmas.{delivery_held}
use Rattle.kc_io.proofs.laws.delivery_holds.Goals as goal

pub returns : goal.returns
returns c = λ name manner texts journal.
    let first : Spot = record { held = journal.files name; beside = [] } in
    ap (λ (s : Spot). s.held) (fold-append (after name) first journal.events _)
    ∙ delivery_held name manner texts (fold (after name) first journal.events)
