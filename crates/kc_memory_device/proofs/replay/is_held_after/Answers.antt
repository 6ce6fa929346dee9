use Rattle.std.proofs.Common.{◌∙◌, ap, sym, ℕ, List, Option, Bor, false}
use Rattle.std.specs.Option.{option_map_or}
use Rattle.kc_memory_device.specs.Sights.{seen, bytes_of}
use Rattle.kc_memory_device.proofs.StrippedLemmas.{holds_is, is_nil, nil_is}
use Rattle.kc_memory_device.proofs.replay.is_held_after.Goals as goal

pub returns-in-Some : goal.returns-in-Some
returns-in-Some c =
    c.is_empty.ensures ∙ nil_is c.in-Some.rest.now
    ∙ sym (ap (λ (h : Option (Bor (List ℕ))). option_map_or is_nil (bytes_of h) false) c.in-Some.is)
    ∙ holds_is c.args.bytes.now c.args.name.now c.args.first.now c.args.records.now c.loop-call.call-index (seen c.loop-call.sight) c.loop-call-test.false c.loop-call.invariant

pub returns-in-None : goal.returns-in-None
returns-in-None c =
    sym (ap (λ (h : Option (Bor (List ℕ))). option_map_or is_nil (bytes_of h) false) c.in-None.is)
    ∙ holds_is c.args.bytes.now c.args.name.now c.args.first.now c.args.records.now c.loop-call.call-index (seen c.loop-call.sight) c.loop-call-test.false c.loop-call.invariant
