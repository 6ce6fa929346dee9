use Rattle.std.proofs.{Common.{IfOk, [], ap, subst, sym, ◌∙◌, ◌≡◌}, lemmas.List.append-nil}
use Rattle.kc_language.specs.{ConfigFile.{ArePlacesOf, UserInput}, Texts.read_alone}
use Rattle.kc_how.specs.{Fragments.lines_in, How.{fragment_alone, fragment_text}, Merged.merged_places}
use Rattle.kc_how.proofs.{FragmentLemmas.alone-are, MergedLemmas.over-none-yet}
use Rattle.kc_how.proofs.fix.fragment_alone.Goals as goal

pub merged-requires-clause-second : goal.merged-requires-clause-second
merged-requires-clause-second c =
    let q = c.args.question.now in
    subst (ArePlacesOf q.laid.now.tree.now) (sym (c.user.ensures ∙ ap (λ (i : UserInput). i.places) c.in_ok-alone.ensures.input)) (alone-are q.laid.now.tree.now q.prefix.now c.deref.result.now)

pub returns : goal.returns
returns c =
    let q = c.args.question.now in
    let tree = q.laid.now.tree.now in
    let lines = lines_in c.args.lines.now in
    let there : ArePlacesOf tree c.user.result.now =
    subst (ArePlacesOf tree) (sym (c.user.ensures ∙ ap (λ (i : UserInput). i.places) c.in_ok-alone.ensures.input)) (alone-are tree q.prefix.now c.deref.result.now) in
    let are : merged_places c.in_ok-nothing.nothing c.user.result.now ≡ (fragment_alone tree q.prefix.now lines).input.places =
    ap (λ p. merged_places p c.user.result.now) c.in_ok-nothing.ensures ∙ over-none-yet tree c.user.result.now there
    ∙ c.user.ensures ∙ ap (λ (i : UserInput). i.places) c.in_ok-alone.ensures.input
    ∙ ap (λ t. (read_alone tree q.prefix.now [] t).input.places) (c.deref.ensures.value ∙ c.in_ok-text.ensures ∙ ap fragment_text (append-nil lines)) in
    subst (λ p. IfOk c.merged.result (λ user. user ≡ p)) are c.merged.ensures.merged
