-- The keys as places.
use Rattle.std.proofs.Common.{ap, map, not, ◌∙◌}
use Rattle.kc_explain.proofs.PlaceLemmas.{has-is, place_in, with-is}
use Rattle.kc_explain.proofs.places.Places.add.Goals as goal

pub returns-clause-seen : goal.returns-clause-seen
returns-clause-seen c =
    rw (← c.self.view_is)
    (ap (map place_in) c.in_ok-is_new.ensures.keys ∙ with-is c.self.inside.places.keys (c.args.file, c.args.line))

pub returns-clause-told : goal.returns-clause-told
returns-clause-told c =
    rw (← c.self.view_is)
    (c.in_ok-is_new.ensures.added ∙ ap not (has-is (c.args.file, c.args.line) c.self.inside.places.keys))
