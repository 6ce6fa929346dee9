use Rattle.std.proofs.Common.{map, refl}
use Rattle.kc_load.proofs.ListLemmas.{waits_more}
use Rattle.kc_load.proofs.loading.Loading.push_sources.Goals as goal

pub returns-clause-pushes : goal.returns-clause-pushes
returns-clause-pushes c = record {
  names = map (λ v. v.items) c.in_ok-names.names.items;
  sources = c.in_ok-names.ensures.names;
  waiting_is = waits_more _ _ c.in_ok-names.names.items _ c.in_ok-append.ensures.items c.reverse.ensures.items;
  files_are = refl;
  requested_are = refl;
  lines_are = refl;
}
