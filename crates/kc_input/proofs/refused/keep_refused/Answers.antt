-- The line of one symbol.
use Rattle.std.proofs.{Common.Some, lemmas.List.map-set}
use Rattle.std.specs.Prelude.{option_map}
use Rattle.kc_input.specs.InputView.{kept_of}
use Rattle.kc_input.proofs.refused.keep_refused.Goals as goal

pub returns-then-id-len : goal.returns-then-id-len
returns-then-id-len c = map-set (option_map kept_of) c.args.kept.now.items c.args.id.0 (Some c.args.line)
