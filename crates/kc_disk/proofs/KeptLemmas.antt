-- The sources of the tree are kept, if the options of all configurations want them.
use Rattle.std.proofs.Common.{◌≡◌, ℕ, List, [], ◌∷◌, map, refl, sym, ap, ◌∙◌, string_bytes}
use Rattle.std.specs.List.{list_any}
use Rattle.std.specs.Prelude.{◌&&◌, slice_index_or}
use Rattle.kc_conf.specs.Many.{KeepsFor}
use Rattle.kc_disk.specs.Program.{GivesOptions, GivesPieced}
use Rattle.kc_outcome.proofs.OutputLemmas.{has_kind-kinds, same_output}
use Rattle.kc_outcome.specs.Outcome.{Options, root_file, wants}
use Rattle.kc_outcome.specs.declared.outcome.Output.{Output}
use Rattle.kc_outcome.specs.declared.outcome.WantedOutput.{WantedOutput}
use Rattle.kc_options.specs.PartsOfOutcome.{wants_sources}
use Rattle.kc_words.specs.CommandLine.{AreOptionsFor, filled}
use Rattle.kc_words.specs.declared.each.Each.{Each}

firsts : {A : Type 0} (f : A → Output × List ℕ) (xs : List A) → map (λ x. (f x).0) xs ≡ map (λ (o : Output × List ℕ). o.0) (map f xs)
firsts f [] = refl
firsts f (x ∷ xs) = ap (λ t. (f x).0 ∷ t) (firsts f xs)

-- the options of a configuration want what those of all want
wants_same : (each : Each) (name : List ℕ) (one : Options) → AreOptionsFor each name one → (kind : Output) → wants one kind ≡ wants each.options kind
wants_same each name one are kind =
    has_kind-kinds kind one.outputs.items
    ∙ ap (list_any (same_output kind))
    (firsts (λ (wanted : WantedOutput). (wanted.kind, string_bytes wanted.file)) one.outputs.items ∙ ap (map (λ (o : Output × List ℕ). o.0)) are.outputs
    ∙ sym (firsts (λ (wanted : WantedOutput). (wanted.kind, filled name (string_bytes wanted.file))) each.options.outputs.items))
    ∙ sym (has_kind-kinds kind each.options.outputs.items)

pub keeps_for : (each : Each) (names : List (List ℕ)) → KeepsFor (GivesOptions each names) (wants_sources each.options)
keeps_for each names i one are wanted =
    let asked = each.options in
    let same = sym (wants_same each (slice_index_or names i []) one are Output.NewSymbols) in
    ap (λ b. asked.with_help && b) same ∙ ap (λ b. b && wants one Output.NewSymbols) (sym are.with_help) ∙ wanted

-- The options for pieces want what the options want.
pub keeps_for_pieces : (each : Each) (names : List (List ℕ)) → KeepsFor (GivesPieced each names) (wants_sources each.options)
keeps_for_pieces each names i pieced (options, are, is) wants = keeps_for each names i options are (sym (ap wants_sources is) ∙ wants)

-- All options for pieces name the root file.
pub rooted_pieces : (each : Each) (names : List (List ℕ)) (i : ℕ) (pieced : Options) → GivesPieced each names i pieced → root_file pieced ≡ string_bytes each.options.kconfig
rooted_pieces each names i pieced (options, are, is) = ap root_file is ∙ are.kconfig
