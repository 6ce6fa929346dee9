-- Kinds of outputs: comparing them, and what is wanted.
use Rattle.std.proofs.Common.{◌≡◌, ◌∙◌, true, false, Bool, List, [], ◌∷◌, Some, map, refl, ap}
use Rattle.std.specs.List.{list_any}
use Rattle.std.specs.Prelude.{◌||◌, find, is_some, option_map, string_bytes, if◌then◌else◌}
use denote.Enum.Bare.{sameb}
use Rattle.kc_outcome.specs.contracts.outcome.Output.{the_type}
use Rattle.kc_outcome.specs.declared.outcome.Output.{Output}
use Rattle.kc_outcome.specs.declared.outcome.Output.TheVariants.{Config, DependencyFile, Explanation, GoneLines, Header, Minimal, NewSymbols}
use Rattle.kc_outcome.specs.declared.outcome.WantedOutput.{WantedOutput}

-- Whether two kinds are the same.
abbrev pub same_output : Output → Output → Bool
same_output = sameb the_type

-- A kind is the same as itself.
pub same_output-self : (kind : Output) → same_output kind kind ≡ true
same_output-self Config = refl
same_output-self Header = refl
same_output-self Minimal = refl
same_output-self NewSymbols = refl
same_output-self GoneLines = refl
same_output-self DependencyFile = refl
same_output-self Explanation = refl

-- An output of the list is of a kind that is in the list.
abbrev pub has_kind : List WantedOutput → Output → Bool
has_kind outputs kind = is_some (option_map (λ (wanted : WantedOutput). string_bytes wanted.file) (find (λ wanted. same_output kind wanted.kind) outputs))

pub has_kind-behind : (kind : Output) (first : WantedOutput) (outputs : List WantedOutput) → has_kind outputs kind ≡ true → has_kind (first ∷ outputs) kind ≡ true
has_kind-behind kind first outputs behind = by (same_output kind first.kind)
  where
    by : (b : Bool) → is_some (option_map (λ (wanted : WantedOutput). string_bytes wanted.file) (if b then Some first else find (λ wanted. same_output kind wanted.kind) outputs)) ≡ true
    by true = refl
    by false = behind

pub has_kind-first : (first : WantedOutput) (outputs : List WantedOutput) → has_kind (first ∷ outputs) first.kind ≡ true
has_kind-first first outputs =
    ap (λ b. is_some (option_map (λ (wanted : WantedOutput). string_bytes wanted.file) (if b then Some first else find (λ wanted. same_output first.kind wanted.kind) outputs)))
    (same_output-self first.kind)

-- Whether a kind is in the list follows from the kinds in it.
pub has_kind-kinds : (kind : Output) (outputs : List WantedOutput) → has_kind outputs kind ≡ list_any (same_output kind) (map (λ wanted. wanted.kind) outputs)
has_kind-kinds kind [] = refl
has_kind-kinds kind (first ∷ outputs) = by (same_output kind first.kind) (has_kind-kinds kind outputs)
  where
    by : (b : Bool) → has_kind outputs kind ≡ list_any (same_output kind) (map (λ wanted. wanted.kind) outputs) →
        is_some (option_map (λ (wanted : WantedOutput). string_bytes wanted.file) (if b then Some first else find (λ wanted. same_output kind wanted.kind) outputs))
        ≡ (b || list_any (same_output kind) (map (λ wanted. wanted.kind) outputs))
    by true rest = refl
    by false rest = rest

-- Texts that are the same for each kind in a list of outputs are the same for the list.
module _ {T : Type 0} (f g : WantedOutput → T) where
  pub map-wanted : (all outputs : List WantedOutput) → ((kind : Output) → has_kind outputs kind ≡ true → has_kind all kind ≡ true) →
      ((wanted : WantedOutput) → has_kind all wanted.kind ≡ true → f wanted ≡ g wanted) → map f outputs ≡ map g outputs
  map-wanted all [] within same = refl
  map-wanted all (first ∷ outputs) within same =
      ap (λ t. t ∷ map f outputs) (same first (within first.kind (has_kind-first first outputs)))
      ∙ ap (λ ts. g first ∷ ts) (map-wanted all outputs (λ kind has. within kind (has_kind-behind kind first outputs has)) same)
