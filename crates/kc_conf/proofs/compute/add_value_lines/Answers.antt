-- The lines of the warnings behind the lead, and then those of the lost values.
use Rattle.std.proofs.Common.{◌≡◌, ◌∙◌, ℕ, List, [], ◌∷◌, ◌++◌, ap, map, refl, append_assoc, Vec, Global}
use Rattle.std.specs.List.{flat_map}
use Rattle.kc_diagnostics.specs.Warnings.{owned_warning}
use Rattle.kc_language.specs.Symbols.{warning_line}
use Rattle.kc_language.specs.declared.diagnostics.Warning.{Warning}
use Rattle.kc_outcome.specs.Outcome.{lead, lines_text, lost_text}
use Rattle.kc_conf.proofs.compute.add_value_lines.Goals as goal

led : (l : List ℕ) (ws : List (Warning (Vec ℕ Global))) →
    map (λ w. l ++ warning_line (owned_warning w)) ws ≡ map (λ line. l ++ line) (map warning_line (map owned_warning ws))
led l [] = refl
led l (w ∷ ws) = ap (λ rest. (l ++ warning_line (owned_warning w)) ∷ rest) (led l ws)

pub returns : goal.returns
returns c =
    let old = c.args.text.now.items in
    let warned = c.value_warnings.result.now in
    let lost = lost_text c.args.options.now c.args.input.now c.args.solved.now in
    let front = flat_map (λ part. part.now) c.lead.result in
    c.in_ok-add_lost.ensures ∙ ap (λ t. t ++ lost) c.in_ok-add_warnings.ensures
    ∙ append_assoc old (lines_text (map (λ w. front ++ warning_line (owned_warning w)) warned)) lost
    ∙ ap (λ l. old ++ (lines_text l ++ lost))
    (ap (λ l. map (λ w. l ++ warning_line (owned_warning w)) warned) c.lead.ensures ∙ led (lead c.args.options.now) warned
    ∙ ap (λ ws. map (λ line. lead c.args.options.now ++ line) (map warning_line ws)) c.value_warnings.ensures)
