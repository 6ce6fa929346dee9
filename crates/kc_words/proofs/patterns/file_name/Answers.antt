-- The last of the parts between `/`.
use Rattle.std.proofs.Common.{◌∙◌, ap, sym, arith, rules, [], map, ◌∷◌, None, unwrap_or}
use Rattle.std.specs.List.{last_or}
use Rattle.std.proofs.lemmas.List.{map-append}
use Rattle.std.proofs.lemmas.Iterator.Splits.{YieldsList-from_str_split}
use Rattle.std.proofs.lemmas.Iterator.Consumers.{YieldsList-end}
use Rattle.kc_words.proofs.PartLemmas.{last-push}
use Rattle.kc_words.proofs.patterns.file_name.Goals as goal

pub loop-part-preserved : goal.loop-part-preserved
loop-part-preserved c =
    (search rules, sym (ap (λ o. unwrap_or o []) (ap (last_or None) (map-append (λ x. x.now) c.loop-part.yielded (c.in-Some.part ∷ [])) ∙ last-push None (map (λ x. x.now) c.loop-part.yielded) c.in-Some.part.now)))

pub returns : goal.returns
returns c =
    c.loop-part.invariant.1 ∙ ap (λ parts. unwrap_or (last_or None parts) [])
    (YieldsList-end (YieldsList-from_str_split 47 c.args.path.now (omega arith) (cc) (cc) (cc)) c.loop-part.yielded _ c.loop-part.yielded_by _ _ c.in-None.is c.next.ensures.steps).0
