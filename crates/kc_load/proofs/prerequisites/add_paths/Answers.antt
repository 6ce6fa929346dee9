use Rattle.std.proofs.{Common.{ap, sym, ◌∙◌}, lemmas.Option.{get_or_from_slice_get, slice_get_within}}
use Rattle.kc_language.specs.{Expressions.mention, Files.path_of}
use Rattle.kc_load.proofs.MentionLemmas.{mention_next}
use Rattle.kc_load.proofs.prerequisites.add_paths.Goals as goal

pub loop-i-preserved : goal.loop-i-preserved
loop-i-preserved c =
    let name = c.name.result.now in
    let opened = c.args.opened.now in
    mention_next (path_of c.args.dir.now) c.args.names.now c.loop-i.names c.id.new.self opened c.loop-i.i name c.in_ok-path.path.items
    (slice_get_within opened c.loop-i.i name c.name.ensures.there) (sym (get_or_from_slice_get opened c.loop-i.i name name c.name.ensures.there))
    c.in_ok-path.ensures c.loop-i.invariant (c.in_ok-id.ensures.names ∙ ap (mention c.loop-i.names) c.deref.ensures.value)
