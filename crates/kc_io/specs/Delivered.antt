-- Trusted: The result of `deliver`: the delivery was done, or the part of it before the event that failed.
use Rattle.std.specs.Prelude.{◌≡◌, List, [], ◌++◌, Result, Ok, Err}
use Rattle.kc_io.specs.{Log.{Event, Log, Leads, Tells, did, failed}, Delivery.{NamedText, StopsBefore, chosen, delivery}, declared.{delivery.{Manner.{Manner, TheVariants.{InPlace, Replacing}}, Text.Text}, device.Action.TheVariants.Clear, steps.Failure.Failure}}

-- A text to be delivered, as contracts see it.
abbrev pub text_view : Text → NamedText
text_view text = record { name = text.name.now; bytes = text.bytes.items }

-- The event that failed. After a failure the temporary files are removed.
abbrev pub failure_of : Result (Unit {0}) Failure → List Event
failure_of (Ok _) = []
failure_of (Err failure) = failed failure.action failure.name.now failure.fault

abbrev pub cleared : Manner → Result (Unit {0}) Failure → List Event
cleared manner (Ok _) = []
cleared InPlace (Err failure) = []
cleared Replacing (Err failure) = did Clear []

-- All events of the script were done, in order and each once; or those before one event were, and that one failed.
pub record Went (script : List Event) (old new : Log) (result : Result (Unit {0}) Failure) : Type 0 where
  pub done : List Event
  pub left : List Event
  pub all : done ++ left ≡ script
  pub stops : StopsBefore left result
  pub log : Leads (done ++ failure_of result) [] old new

-- The texts were delivered; or everything before one event was done, that event failed, and no temporary file is left.
pub record Delivered (manner : Manner) (texts : List NamedText) (old new : Log) (result : Result (Unit {0}) Failure) : Type 0 where
  pub done : List Event
  pub left : List Event
  pub all : Tells old (λ journal. done ++ left ≡ delivery manner (chosen manner texts journal))
  pub stops : StopsBefore left result
  pub log : Leads (done ++ failure_of result ++ cleared manner result) [] old new
