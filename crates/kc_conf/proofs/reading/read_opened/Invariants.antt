-- So many bytes of the file were read, and taken.
use Rattle.kc_language.specs.ConfigFile.{ArePlacesOf}
use Rattle.kc_conf.specs.ReadSteps.{IsStillFresh, TakesSoFar, stand}
use Rattle.kc_conf.proofs.reading.read_opened.Given as goal

abbrev pub invariant-pieces : goal.invariant-pieces
invariant-pieces g l =
    let file = g.D.Device.file in
    let log = g.D.Device.log in
    record {
      taken : TakesSoFar l.fn.reader l.fn.name l.reader.position (stand file log l.fn.user l.fn.waiting l.fn.device) (stand file log l.user l.waiting l.device);
      still : IsStillFresh l.fn.reader l.reader;
      user : ArePlacesOf l.fn.reader.tree l.user.places;
    }

abbrev pub decreases-pieces : goal.decreases-pieces
decreases-pieces g l = (g.D.Device.file l.device).reads_left
