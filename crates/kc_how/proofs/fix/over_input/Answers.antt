use Rattle.std.proofs.Common.{IfOk, ap, subst, sym, ◌∙◌, ◌≡◌}
use Rattle.kc_language.specs.{ConfigFile.{ArePlacesOf, UserInput}, Texts.read_alone}
use Rattle.kc_how.specs.{Fragments.with_text, Merged.merged_places}
use Rattle.kc_how.proofs.FragmentLemmas.{alone-are, merged-read}
use Rattle.kc_how.proofs.fix.over_input.Goals as goal

pub merged-requires-clause-second : goal.merged-requires-clause-second
merged-requires-clause-second c =
    let q = c.args.question.now in
    subst (ArePlacesOf q.laid.now.tree.now) (sym (c.user-2.ensures ∙ ap (λ (i : UserInput). i.places) c.requires.alone.input)) (alone-are q.laid.now.tree.now q.prefix.now c.args.text.now)

pub returns-clause-with_text : goal.returns-clause-with_text
returns-clause-with_text c =
    let q = c.args.question.now in
    let are : merged_places c.user.result.now c.user-2.result.now ≡ with_text q c.args.text.now =
    ap (λ p. merged_places p c.user-2.result.now) c.user.ensures
    ∙ ap (merged_places q.input.now.places) (c.user-2.ensures ∙ ap (λ (i : UserInput). i.places) c.requires.alone.input)
    ∙ merged-read q.laid.now.tree.now q.prefix.now c.args.text.now q.input.now c.requires.question.places in
    subst (λ p. IfOk c.merged.result (λ user. user ≡ p)) are c.merged.ensures.merged
