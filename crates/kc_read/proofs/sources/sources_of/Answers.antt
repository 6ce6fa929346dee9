use Rattle.kc_language.specs.Lines.{unread_lines}
use Rattle.std.proofs.Common.{map, subst, sym}
use Rattle.kc_read.proofs.{QuietFiles.no_names, SourceLemmas.{Follows, follows_name, follows_other}}
use Rattle.kc_read.proofs.sources.sources_of.Goals as goal

-- no line names a file
pub returns-then-not-may_source-clause-names : goal.returns-then-not-may_source-clause-names
returns-then-not-may_source-clause-names c =
    let names = no_names c.args.file.now (c.may_source.ensures.silent c.if-not-may_source.true) in
    rw c.new-names.ensures.items names

pub along-preserved-in-Other : goal.along-preserved-in-Other
along-preserved-in-Other c = record {
  clear = (rw c.in-Other.is at c.in_ok-next_source.ensures.clear) tt;
  follows = follows_other (unread_lines c.args.file.now 1) c.along.lines c.next_source.new.lines (map (λ n. n.items) c.along.names.items)
      c.along.invariant.follows (rw c.in-Other.is at c.in_ok-next_source.ensures.found);
}

pub along-preserved : goal.along-preserved
along-preserved c = record {
  clear = (rw c.in-Name.is at c.in_ok-next_source.ensures.clear) tt;
  follows = subst (λ ns. Follows (unread_lines c.args.file.now 1) c.next_source.new.lines (map (λ n. n.items) ns)) (sym c.in_ok-push-in-Name.ensures.items)
      (follows_name (unread_lines c.args.file.now 1) c.along.lines c.next_source.new.lines c.in-Name.name c.along.names.items c.along.invariant.follows
      (rw c.in-Name.is at c.in_ok-next_source.ensures.found));
}
