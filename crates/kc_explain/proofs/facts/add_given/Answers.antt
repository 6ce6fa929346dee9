-- What the user gave, if it is a fact.
use Rattle.std.proofs.Common.{Option, ap, sym, ◌||◌, ◌∙◌, ◌∷◌, []}
use Rattle.std.specs.Option.{is_some}
use Rattle.kc_language.specs.Values.{GivenValue, SymbolPlace}
use Rattle.kc_explain.specs.FactLists.{could_count, facts_by, shown}
use Rattle.kc_explain.specs.FactViews.{UserGave}
use Rattle.kc_explain.proofs.FactLemmas.{given_none, given_some, none-added, pushed-alone}
use Rattle.kc_explain.proofs.facts.add_given.Goals as goal

pub returns-in_ok-push : goal.returns-in_ok-push
returns-in_ok-push c =
    let f = facts_by c.args.t.now c.args.id c.args.symbol.now in
    pushed-alone c.args.t.now c.args.facts.now.items _ _ c.in_ok-push.ensures.items _
    ((λ j. UserGave (c.plain_line.ensures j) (SymbolPlace c.args.id.0) (c.given_at-given.ensures j) ∷ [])
    ∙ given_some c.args.t.now c.args.id f (sym (c.is_told.ensures ∙ ap (λ (o : Option GivenValue). is_some o || could_count c.args.t.now (facts_by c.args.t.now c.args.id c.args.symbol.now)) c.given_at-given.ensures) ∙ c.if-is_told.true))

pub returns-else-is_told : goal.returns-else-is_told
returns-else-is_told c =
    let f = facts_by c.args.t.now c.args.id c.args.symbol.now in
    none-added (shown c.args.t.now c.args.facts.now.items) _
    (given_none c.args.t.now c.args.id f (sym (c.is_told.ensures ∙ ap (λ (o : Option GivenValue). is_some o || could_count c.args.t.now (facts_by c.args.t.now c.args.id c.args.symbol.now)) c.given_at-given.ensures) ∙ c.if-is_told.false))
