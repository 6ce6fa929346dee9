-- A reader stands within a line after it has ended one.
use Rattle.std.proofs.Common.{Bool, [], arith, rules, subst, sym, ◌∷◌, ◌≡◌}
use Rattle.kc_language.specs.ConfigFile.{UserInput}
use Rattle.kc_text.specs.PartsOfText.{one_more}
use Rattle.kc_input.specs.{Feeding.{IsWithinLine, StreamPosition}, LineByLine.{IsOpen, after_line, line_at}, PartsOfConfigFile.assignments, ReaderView.position_of, declared.{line_buffer.LineBuffer.LineBuffer, step.NamedStream.NamedStream}}
use Rattle.kc_input.proofs.PlaceLemmas.{ArePlacesOf-given}

pub open-after : (stream : NamedStream) (before after : UserInput) (buffer : LineBuffer) (ended : Bool) (new : StreamPosition) → IsOpen stream (position_of buffer) before →
    after ≡ after_line stream before (line_at stream (position_of buffer) ended) → new ≡ record { number = one_more buffer.number; pending = [] } → IsOpen stream new after
open-after stream before after buffer ended new opened places next = record {
  user = rw places (ArePlacesOf-given stream.tree.now before.places (assignments stream.tree.now stream.prefix.now (line_at stream (position_of buffer) ended ∷ [])) opened.user);
  within = subst IsWithinLine (sym next) (record { numbered = search rules; within = omega arith; one_line = search rules });
}
