use Rattle.std.proofs.{Common.{List, [], ap, arith, length, refl, subst, sym, true, ℕ, ◌∙◌, ◌∷◌, ◌≡◌}, lemmas.{Bool.eqb-true, List.append-nil, Result.IfOk-weaker}}
use Rattle.std.specs.Prelude.{◌==◌}
use Rattle.kc_language.specs.{ConfigFile.Places, Texts.{IsSolutionFor, read_alone}}
use Rattle.kc_how.specs.{Fragments.{HasValues, IsRead, NeedsEach, lines_in, with_text}, How.{IsFix, fragment_text, reaches}, Questions.goal_of}
use Rattle.kc_how.proofs.FragmentLemmas.{fix-is}
use Rattle.kc_how.proofs.fix.is_fix.Goals as goal

no_bytes : (bytes : List ℕ) (n : ℕ) → length bytes ≡ n → true ≡ (n == 0) → bytes ≡ []
no_bytes [] n count none = refl
no_bytes (b ∷ bytes) n count none = absurd (omega (arith, count, eqb-true n 0 (sym none)))

pub returns : goal.returns
returns c =
    let q = c.args.question.now in
    let tree = q.laid.now.tree.now in
    let lines = lines_in c.args.lines.now in
    let text = c.in_ok-text.text.items in
    let alone = c.in_ok-alone.alone in
    let solved = c.in_ok-solved.solved in
    let is : text ≡ fragment_text lines = c.in_ok-text.ensures ∙ ap fragment_text (append-nil lines) in
    let read : IsRead (read_alone tree q.prefix.now [] text) alone = subst (λ t. IsRead (read_alone tree q.prefix.now [] t) alone) c.deref.ensures.value c.in_ok-alone.ensures in
    let quiet : alone.warned.items ≡ [] = no_bytes alone.warned.items alone.warned.len (omega (arith, alone.warned.ok.0)) c.if-not-is_empty.ensures in
    let solves : IsSolutionFor tree (with_text q text) solved =
    subst (λ p. IsSolutionFor tree p solved) (c.in_ok-user.ensures.with_text ∙ ap (with_text q) c.deref-2.ensures.value) c.in_ok-solved.ensures.solution in
    let reached : reaches (goal_of q.goal.now) q.before.now solved ≡ true = sym c.reaches.ensures ∙ c.if-not-reaches.false in
    let values : HasValues alone.input.places solved =
    subst (λ (p : Places). HasValues p solved) c.user-else-not-reaches.ensures (c.has_values.ensures c.if-not-has_values.false) in
    IfOk-weaker c.needs_each.result (λ needs. needs ≡ true → NeedsEach q lines)
    (λ is_fix. is_fix ≡ true → IsFix tree q.prefix.now q.input.now q.before.now (goal_of q.goal.now) lines)
    (λ _ each is_fix. fix-is q lines text alone solved is read quiet c.if-not-alone.false solves reached values (each is_fix)) c.needs_each.ensures
