-- For proofs: Facts without their layout in memory. A line stands in place of its number.
use Rattle.std.specs.Prelude.{List, None, Option, Some, Bool, if◌then◌else◌, length, option_map, slice_get, ℕ}
use Rattle.kc_expr.specs.When.{when_view}
use Rattle.kc_input.specs.ShownView.{location_of, refused_of}
use Rattle.kc_language.specs.ConfigFile.{RefusedLine, StreamLocation}
use Rattle.kc_language.specs.Expressions.{Form}
use Rattle.kc_language.specs.Statements.{Located, Numbered}
use Rattle.kc_language.specs.Symbols.{Bounds, StatedDefault}
use Rattle.kc_language.specs.Texts.{Solution, known}
use Rattle.kc_language.specs.Values.{ChoicePlace, GivenValue, SymbolPlace, UserPlace}
use Rattle.kc_language.specs.declared.expressions.{SymId.{SymId}, SymbolType.{SymbolType}, Tri.{Tri}}
use Rattle.kc_language.specs.declared.symbols.SelectOrImply.{SelectOrImply}
use Rattle.kc_outcome.specs.Explanations as rules
use Rattle.kc_tree.specs.LineParts as line
use Rattle.kc_user.specs.PartsOfConfigFile.{member_place}
use Rattle.kc_values.specs.User.{given_in}
use Rattle.kc_explain.specs.LineViews.{line_view}
use Rattle.kc_explain.specs.PartViews.{Part, Said, part_in, part_view, said_in}
use Rattle.kc_explain.specs.declared.fact.Fact.{Fact}
use Rattle.kc_explain.specs.declared.fact.Fact.TheVariants as fact

-- a fact as the chapter Explanations has it, but with lines in place of their numbers
pub data FactView : Type 0 where
  UserGave : Option StreamLocation → UserPlace → Option GivenValue → FactView
  NotAllowed : SymId → RefusedLine → FactView
  PartIs : Part → Tri → FactView
  DependencyIs : Option (Located Numbered) → Tri → FactView
  PromptIs : Option (Located Numbered) → Tri → FactView
  DefaultIs : SymbolType → Said StatedDefault → Tri → Option GivenValue → FactView
  RangeIs : SymbolType → Said (Bounds × Option Form) → Tri → Option (List ℕ × List ℕ) → FactView
  RaisedBy : SelectOrImply → SymId → Said (Option Form) → Tri → Tri → FactView
  NotRaised : SelectOrImply → ℕ → FactView
  ModulesAre : SymId → Tri → FactView
  ModeIs : Option (Located Numbered) → Tri → FactView
  MemberIs : SymId → Tri → FactView
  MemberDefaultIs : Said (SymId × Option Form) → Tri → Tri → FactView

-- ---- As the code has it
-- what a default gives, and what the bounds of a range are, if the line counts
module _ (solution : Solution) where
  abbrev pub given_by_default : Bool → SymbolType → StatedDefault → Option GivenValue
  given_by_default counts kind d = if counts then Some (rules.default_given solution.tree (known solution) kind d.value) else None

  abbrev pub bounds_by : Bool → SymbolType → Bounds → Option (List ℕ × List ℕ)
  bounds_by counts kind b = if counts then Some (rules.bound_texts solution.tree (known solution) kind b) else None

  abbrev pub fact_view : Fact → FactView
  fact_view (fact.UserGave at symbol given) = UserGave (option_map location_of at) (SymbolPlace symbol.0) (given_in given)
  fact_view (fact.Chosen at choice member) = UserGave (option_map location_of at) (ChoicePlace choice) (member_place member)
  fact_view (fact.NotAllowed symbol refused) = NotAllowed symbol (refused_of refused)
  fact_view (fact.Part part value) = PartIs (part_view part) value
  fact_view (fact.Dependency l value) = DependencyIs (Some (line_view l)) value
  fact_view (fact.Prompt l value) = PromptIs (Some (line_view l)) value
  fact_view (fact.Default kind l what value counts) =
      DefaultIs kind (record { line = Some (line_view l); what = line.default_said what.now }) value (given_by_default counts kind (line.default_said what.now))
  fact_view (fact.Range kind l what value counts) =
      RangeIs kind (record { line = Some (line_view l); what = line.range_said what.now }) value (bounds_by counts kind (line.range_said what.now).0)
  fact_view (fact.Raised word by by_value l when value) = RaisedBy word by (record { line = Some (line_view l); what = when_view when.now }) by_value value
  fact_view (fact.NotRaised word count) = NotRaised word count
  fact_view (fact.Modules symbol value) = ModulesAre symbol value
  fact_view (fact.Mode l value) = ModeIs (Some (line_view l)) value
  fact_view (fact.Member symbol value) = MemberIs symbol value
  fact_view (fact.MemberDefault l member when value prompt) =
      MemberDefaultIs (record { line = Some (line_view l); what = (member, when_view when.now) }) value prompt

-- ---- From the lines of a tree
module _ (lines : List (Located Numbered)) where
  abbrev pub fact_in : rules.Fact → FactView
  fact_in fact = elim fact [
    | rules.UserGave at place given ↦ UserGave at place given
    | rules.NotAllowed s line ↦ NotAllowed s line
    | rules.PartIs p t ↦ PartIs (part_in lines p) t
    | rules.DependencyIs i t ↦ DependencyIs (slice_get lines i) t
    | rules.PromptIs p t ↦ PromptIs (slice_get lines p.at) t
    | rules.DefaultIs kind d t given ↦ DefaultIs kind (said_in lines d) t given
    | rules.RangeIs kind r t bounds ↦ RangeIs kind (said_in lines r) t bounds
    | rules.RaisedBy word r t u ↦ RaisedBy word r.0 (said_in lines r.1) t u
    | rules.NotRaised word rs ↦ NotRaised word (length rs)
    | rules.ModulesAre m t ↦ ModulesAre m t
    | rules.ModeIs j k t ↦ ModeIs (slice_get lines j) t
    | rules.MemberIs m t ↦ MemberIs m t
    | rules.MemberDefaultIs d t u ↦ MemberDefaultIs (said_in lines d) t u
  ]
