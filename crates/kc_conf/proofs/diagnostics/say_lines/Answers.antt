-- Lines are whole lines; they were said, or that was broken off.
use Rattle.std.proofs.Common.{◌≡◌, ◌++◌, [], append-nil, ◌∙◌, Global, Vec, List, Result, Ok, Err, ap, map, subst, sym, ℕ}
use Rattle.kc_io.specs.Log.{Log}
use Rattle.kc_outcome.specs.Outcome.{lines_text}
use Rattle.kc_conf.specs.PartRuns.{SaysLines}
use Rattle.kc_conf.specs.Reads.{IsWholeEnd, Says}
use Rattle.kc_conf.specs.declared.stop.Stop.{Stop}
use Rattle.kc_conf.specs.declared.stop.Stop.TheVariants.{OutOfMemory, Failed}
use Rattle.kc_conf.proofs.SayLemmas.{ends-some, some-end}
use Rattle.kc_conf.proofs.diagnostics.say_lines.Goals as goal

said : (text : List ℕ) (result : Result (Unit {0}) Stop) (old new : Log) → IsWholeEnd text → Says text result old new → SaysLines text result old new
said text (Ok x) old new ends says = says
said text (Err OutOfMemory) old new ends says = absurd says.0
said text (Err (Failed f)) old new ends says = (says.0, some-end text ends, says.1)

pub say_parts-requires : goal.say_parts-requires
say_parts-requires g c =
    let items = λ (line : Vec ℕ Global). line.items in
    let is = c.deref.ensures.value ∙ c.in_ok-add_lines.ensures ∙ ap (λ t. t ++ lines_text (map items c.args.lines.now)) c.new-text.ensures.items in
    subst IsWholeEnd (sym is) (ends-some items c.args.lines.now c.if-is_empty.ensures)

pub returns : goal.returns
returns g c =
    let lines = lines_text (map (λ (line : Vec ℕ Global). line.items) c.args.lines.now) in
    let is : c.deref.result.now ++ [] ≡ lines = append-nil c.deref.result.now ∙ c.deref.ensures.value ∙ c.in_ok-add_lines.ensures ∙ ap (λ t. t ++ lines) c.new-text.ensures.items in
    said lines c.say_parts.result (g.D.Device.log c.args.device.now) (g.D.Device.log c.say_parts.new.device) (ends-some (λ (line : Vec ℕ Global). line.items) c.args.lines.now c.if-is_empty.ensures)
    (rw is at c.say_parts.ensures)
