-- The texts so far were compared.
use Rattle.std.proofs.Common.{map, take}
use Rattle.kc_io.specs.Delivered.{text_view}
use Rattle.kc_conf.specs.Endings.{IsChecked}
use Rattle.kc_conf.proofs.runs.check.Given as goal

abbrev pub invariant-loop-text : goal.invariant-loop-text
invariant-loop-text g l = IsChecked l.options (map text_view (take l.text-index l.texts)) (g.D.Device.log l.fn.device) (g.D.Device.log l.device) l.status
