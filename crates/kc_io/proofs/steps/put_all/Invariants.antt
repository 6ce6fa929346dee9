use Rattle.std.proofs.Common.{[], take}
use Rattle.std.specs.List.{flat_map}
use Rattle.kc_io.specs.{Delivered.text_view, Delivery.put, Log.Leads}
use Rattle.kc_io.proofs.steps.put_all.Given as goal

-- the texts so far were made
abbrev pub invariant-loop-text : goal.invariant-loop-text
invariant-loop-text g l = Leads (flat_map (λ text. put l.site (text_view text)) (take l.text-index l.texts)) [] (g.D.Device.log l.fn.device) (g.D.Device.log l.device)
