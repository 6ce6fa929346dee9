-- Explanations are whole lines, and so is what is told of lost values.
use Rattle.std.proofs.Common.{ℕ, Bool, true, false, List, ◌∷◌, [], ◌++◌, append_assoc, codes, refl, subst, sym, append-nil, length, map}
use Rattle.std.specs.List.{flat_map}
use Rattle.std.specs.Prelude.{◌&&◌}
use Rattle.kc_language.specs.ConfigFile.{UserInput}
use Rattle.kc_language.specs.Texts.{Solution, lost_at}
use Rattle.kc_language.specs.Values.{name}
use Rattle.kc_language.specs.declared.expressions.SymId.{SymId}
use Rattle.kc_outcome.specs.Explanations.{causes_lines, symbol_lines, text_of_lines}
use Rattle.kc_outcome.specs.Outcome.{Options, lead, lines_text, lost_symbols, lost_text, lost_warnings, question_text}
use Rattle.kc_conf.specs.Faults.{AreLines}
use Rattle.kc_conf.proofs.LostLemmas.{behind, causes_text, lost_text_if, question_after, told_at}
use Rattle.kc_conf.proofs.PartLemmas.{AreLines-append, AreLines-each, AreLines-nothing}

pub one_line : (text : List ℕ) → AreLines (text ++ codes "\n")
one_line text = (text ∷ [], sym (append-nil (text ++ codes "\n")))

pub AreLines-front : (front : List ℕ) (lines : List (List ℕ)) → AreLines (text_of_lines front lines)
AreLines-front front lines = AreLines-each (λ l. front ++ l ++ codes "\n") lines (λ l. one_line (front ++ l))

AreLines-question : (front : List ℕ) (names : List (List ℕ)) → AreLines (question_text front names)
AreLines-question front [] = AreLines-nothing
AreLines-question front (called ∷ more) =
    subst AreLines (append_assoc (front ++ codes "to see what to set: --how " ++ called) (codes "=VALUE") (codes "\n"))
    (one_line (front ++ codes "to see what to set: --how " ++ called ++ codes "=VALUE"))

module _ (options : Options) (input : UserInput) (solution : Solution) where
  pub AreLines-behind : (s : SymId) → AreLines (behind options input solution s)
  AreLines-behind s = AreLines-front (lead options ++ codes "  ") (symbol_lines input solution options.prefix.is_raw s)

  lost_by : (b : Bool) → AreLines (lost_text_if options input solution b)
  lost_by true =
      let lost = lost_symbols options input solution in
      let causes = causes_text options input solution lost (length lost) in
      AreLines-append (flat_map (told_at options input solution) lost ++ causes) (question_after options input solution lost)
      (AreLines-append (flat_map (told_at options input solution) lost) causes
      (AreLines-each (told_at options input solution) lost (λ s.
      AreLines-append (lines_text (lost_at options.prefix.is_raw input.lines solution s)) (behind options input solution s)
      (lost_at options.prefix.is_raw input.lines solution s, refl) (AreLines-behind s)))
      (AreLines-front (lead options ++ codes "  ") (causes_lines input solution options.prefix.is_raw lost (length lost))))
      (AreLines-question (lead options ++ codes "  ") (map (name solution.tree) lost))
  lost_by false = (lost_warnings options input solution, refl)

  pub AreLines-lost : AreLines (lost_text options input solution)
  AreLines-lost = lost_by (options.explain_lost && options.warn_lost)
