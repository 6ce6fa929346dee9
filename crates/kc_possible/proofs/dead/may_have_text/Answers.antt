use Rattle.std.proofs.Common.{Bool, Some, ap, false, not, refl, sym, true, ◌∙◌, ◌≡◌}
use Rattle.kc_language.specs.Values.{GivenText, equation, given_of, known_from, same_given, user_place}
use Rattle.kc_values.proofs.Laid.{symbol_found}
use Rattle.kc_possible.proofs.SolvedLemmas.{known-solved}
use Rattle.kc_possible.proofs.dead.may_have_text.Goals as goal

pub returns-in-Some-only_text : goal.returns-in-Some-only_text
returns-in-Some-only_text c differs user V under =
    let p = c.args.p.now in
    let tree = p.laid.tree.now in
    let s = c.args.id in
    let u = user (user_place tree s.0) in
    let known = known_from tree V in
    let found = sym (symbol_found tree p.laid.layout.now p.laid.laid s.0 (Some c.in-Some.row.now) c.in-Some.ensures) in
    ap (λ v. same_given (GivenText c.args.text.now) (given_of v))
    (known-solved tree user V under s ∙ ap (λ o. equation tree known s o u) found ∙ c.in-Some-only_text.ensures u known (c.requires user V under))
    ∙ sym c.eq.ensures
    ∙ differs

is-true : (b : Bool) → not b ≡ false → b ≡ true
is-true true e = refl
is-true false e = cc

pub returns-in-None : goal.returns-in-None
returns-in-None c told user V under =
    let p = c.args.p.now in
    let tree = p.laid.tree.now in
    let s = c.args.id in
    let u = user (user_place tree s.0) in
    let known = known_from tree V in
    let found = sym (symbol_found tree p.laid.layout.now p.laid.laid s.0 (Some c.in-Some.row.now) c.in-Some.ensures) in
    ap (λ v. same_given (GivenText c.args.text.now) (given_of v)) (known-solved tree user V under s ∙ ap (λ o. equation tree known s o u) found)
    ∙ c.is_out_of_range.ensures (is-true c.is_out_of_range.result told) u known (c.requires user V under)
