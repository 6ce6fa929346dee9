-- What is made of the files that were kept is what is made of the tree's files, where these are wanted.
use Rattle.std.proofs.Common.{◌≡◌, ◌∙◌, ℕ, Bool, true, false, List, [], ◌∷◌, ◌++◌, map, Option, Some, None, refl, sym, ap, subst, string_bytes}
use Rattle.std.specs.Borrow.{Bor}
use Rattle.std.specs.Prelude.{◌&&◌, if◌then◌else◌}
use Rattle.kc_language.specs.ConfigFile.{UserInput}
use Rattle.kc_language.specs.Expansion.{Files}
use Rattle.kc_outcome.specs.Explanations.{new_text_with_help}
use Rattle.kc_outcome.specs.Outcome.{Options, done_outcome, lead, lines_text, lost_text, names_listed, target, text_of, wants}
use Rattle.kc_language.specs.Files.{rule_text}
use Rattle.kc_outcome.specs.declared.outcome.Output.{Output}
use Rattle.kc_outcome.specs.declared.outcome.WantedOutput.{WantedOutput}
use Rattle.kc_io.specs.Delivery.{NamedText, texts_of, with_names}
use Rattle.kc_outcome.proofs.OutputLemmas.{map-wanted}
use Rattle.kc_options.specs.PartsOfOutcome.{wants_sources}
use Rattle.kc_language.specs.Texts.{Solution, new_text, solution_view, warnings}
use Rattle.kc_read.specs.declared.file_map.FileMap.{FileMap}
use Rattle.kc_conf.specs.Accepted.{AreSources}
use Rattle.kc_conf.specs.Computed.{named_from, new_by, rule_by, text_from, value_lines}
use Rattle.kc_conf.specs.declared.compute.Basis.{Basis}
use Rattle.kc_conf.specs.Faults.{AreLines}
use Rattle.kc_conf.specs.PartsOfOutcome.{names_if}
use Rattle.kc_conf.proofs.ExplainedLemmas.{AreLines-lost}
use Rattle.kc_conf.proofs.PartLemmas.{AreLines-append}

never : {P : Type 0} (b : Bool) → b ≡ true → b ≡ false → P
never b on off = absurd (let clash : true ≡ false = sym on ∙ off in cc)

-- each output with its text
pub named-map : (f : Output → List ℕ) (outputs : List WantedOutput) →
    map (λ (wanted : WantedOutput). let t : NamedText = record { name = string_bytes wanted.file; bytes = f wanted.kind } in t) outputs
    ≡ with_names outputs (map (λ wanted. f wanted.kind) outputs)
named-map f [] = refl
named-map f (wanted ∷ outputs) = ap (λ ts. record { name = string_bytes wanted.file; bytes = f wanted.kind } ∷ ts) (named-map f outputs)

module _ (files : Files) (opened : List (List ℕ)) (options : Options) (basis : Basis) (are : AreSources files options basis.files)
    (listed : basis.names.now ≡ names_if options opened) where
  abbrev input : UserInput
  input = basis.input.now

  abbrev solution : Solution
  solution = basis.solved.now

  new_as : (b : Bool) → options.with_help ≡ b → wants options Output.NewSymbols ≡ true → (o : Option (Bor FileMap)) → AreSources files options o →
      (if b then new_by o options.prefix solution else new_by None options.prefix solution)
      ≡ (if b then new_text_with_help files solution.tree.lines solution.tree options.prefix (solution_view solution) else new_text solution.tree options.prefix (solution_view solution))
  new_as false e wanted o kept = refl
  new_as true e wanted None kept = never (wants_sources options) (ap (λ b. b && wants options Output.NewSymbols) e ∙ wanted) kept
  new_as true e wanted (Some found) kept = ap (λ (f : Files). new_text_with_help f solution.tree.lines solution.tree options.prefix (solution_view solution)) kept

  rule_as : wants options Output.DependencyFile ≡ true → rule_by options basis.names.now ≡ rule_text (target options) (names_listed options opened)
  rule_as wanted = ap (rule_by options) (listed ∙ ap (λ b. if b then Some (names_listed options opened) else None) wanted)

  -- a text that is wanted is the one that the definitions say
  text_as : (kind : Output) → wants options kind ≡ true → text_from options basis kind ≡ text_of files options opened input solution kind
  text_as Output.NewSymbols wanted = new_as options.with_help refl wanted basis.files are
  text_as Output.DependencyFile wanted = rule_as wanted
  text_as _ wanted = refl

  pub texts_are : map (named_from options basis) options.outputs.items ≡ texts_of options (done_outcome files options opened input solution)
  texts_are =
      map-wanted (named_from options basis)
      (λ wanted. record { name = string_bytes wanted.file; bytes = text_of files options opened input solution wanted.kind })
      options.outputs.items options.outputs.items (λ kind has. has)
      (λ wanted has. ap (λ bytes. let t : NamedText = record { name = string_bytes wanted.file; bytes = bytes } in t) (text_as wanted.kind has))
      ∙ named-map (text_of files options opened input solution) options.outputs.items

-- what is told of values is whole lines
pub lines_added : (options : Options) (input : UserInput) (solution : Solution) (old new : List ℕ) →
    new ≡ old ++ value_lines options input solution → AreLines old → AreLines new
lines_added options input solution old new is whole =
    let told = lines_text (map (λ line. lead options ++ line) (warnings solution)) in
    subst AreLines (sym is)
    (AreLines-append old (told ++ lost_text options input solution) whole
    (AreLines-append told (lost_text options input solution) (map (λ line. lead options ++ line) (warnings solution), refl) (AreLines-lost options input solution)))
