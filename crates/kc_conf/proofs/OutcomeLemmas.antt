-- What is refused of an outcome, and what its parts have to do with the whole.
use Rattle.std.proofs.Common.{◌≡◌, ℕ, Bool, true, false, List, [], ◌∷◌, ◌++◌, refl, sym, ap, ◌∙◌, append_assoc, length, map, not, Vec, Global, arith}
use Rattle.std.specs.Prelude.{◌&&◌, ◌||◌, ◌==◌}
use Rattle.kc_outcome.specs.Outcome.{Options, Outcome, is_not_empty, is_done, lines_text, reported, refused_if, strictly}
use Rattle.kc_outcome.specs.declared.outcome.Status.{Status}
use Rattle.kc_conf.specs.PartRuns.{strictly_after}

pub and_never : (b : Bool) → (b && false) ≡ false
and_never true = refl
and_never false = refl

-- ---- text before an outcome

reported_if : (options : Options) (text : List ℕ) (part : Outcome) (b : Bool) → reported text (refused_if options b part) ≡ refused_if options b (reported text part)
reported_if options text part true = refl
reported_if options text part false = refl

told_three : (before : Bool) (a b : List ℕ) → ((before || is_not_empty a) || is_not_empty b) ≡ (before || is_not_empty (a ++ b))
told_three true a b = refl
told_three false [] b = refl
told_three false (x ∷ a) b = refl

-- what was said before a part that refuses warnings is a warning of the whole
pub strictly-reported : (options : Options) (text : List ℕ) (part : Outcome) → reported text (strictly_after options (is_not_empty text) part) ≡ strictly options (reported text part)
strictly-reported options text part =
    reported_if options text part (is_done part.status && (options.strict_tree && (is_not_empty text || is_not_empty part.warned)))
    ∙ ap (λ b. refused_if options (is_done part.status && (options.strict_tree && b)) (reported text part)) (told_three false text part.warned)

-- lines have text where there is one
pub told_lines : (line : List ℕ) (lines : List (List ℕ)) → is_not_empty (lines_text (line ∷ lines)) ≡ true
told_lines [] lines = refl
told_lines (b ∷ line) lines = refl

-- text that is not empty is some
pub text_some : (text : List ℕ) → not (length text == 0) ≡ is_not_empty text
text_some [] = refl
text_some (b ∷ text) = let e : (length (b ∷ text) == 0) ≡ false = grind arith in ap not e

pub lines_some : (lines : List (Vec ℕ Global)) → not (length lines == 0) ≡ is_not_empty (lines_text (map (λ line. line.items) lines))
lines_some [] = refl
lines_some (line ∷ lines) =
    let e : (length (line ∷ lines) == 0) ≡ false = grind arith in ap not e ∙ sym (told_lines line.items (map (λ l. l.items) lines))

pub warned_if : (options : Options) (part : Outcome) (b : Bool) → (refused_if options b part).warned ≡ part.warned
warned_if options part true = refl
warned_if options part false = refl

pub strictly_after-warned : (options : Options) (before : Bool) (part : Outcome) → (strictly_after options before part).warned ≡ part.warned
strictly_after-warned options before part = warned_if options part (is_done part.status && (options.strict_tree && (before || is_not_empty part.warned)))

-- ---- what is done is not refused

pub done_kept : (options : Options) (b : Bool) (part : Outcome) → (refused_if options b part).status ≡ Status.Done → b ≡ false
done_kept options true part done = absurd (let e : Status.Refused ≡ Status.Done = done in cc)
done_kept options false part done = refl

-- and it is as without --strict-tree
pub strictly-done : (options : Options) (lenient outcome : Outcome) → outcome ≡ strictly options lenient → outcome.status ≡ Status.Done → outcome ≡ lenient
strictly-done options lenient outcome is done =
    let kept = done_kept options (is_done lenient.status && (options.strict_tree && is_not_empty lenient.warned)) lenient (sym (ap (λ (o : Outcome). o.status) is) ∙ done) in
    is ∙ ap (λ b. refused_if options b lenient) kept

-- without --strict-tree nothing is changed
pub strictly-off : (options : Options) (lenient : Outcome) → options.strict_tree ≡ false → strictly options lenient ≡ lenient
strictly-off options lenient off =
    ap (λ b. refused_if options (is_done lenient.status && (b && is_not_empty lenient.warned)) lenient) off ∙ ap (λ b. refused_if options b lenient) (and_never (is_done lenient.status))
