-- The files so far were read.
use Rattle.kc_language.specs.ConfigFile.{ArePlacesOf}
use Rattle.kc_conf.specs.ReadSteps.{ReadsSoFar, stand}
use Rattle.kc_conf.proofs.reading.read_inputs.Given as goal

abbrev pub invariant-loop-i : goal.invariant-loop-i
invariant-loop-i g l =
    let file = g.D.Device.file in
    let log = g.D.Device.log in
    record {
      read : ReadsSoFar l.options l.streams.tree.now l.i (stand file log l.fn.user l.fn.waiting l.fn.device) (stand file log l.user l.waiting l.device);
      user : ArePlacesOf l.streams.tree.now l.user.places;
    }
