-- For proofs: Laws from which the laws of `Laws` follow.
use Rattle.std.specs.Prelude.{◌≡◌, ◌⊎◌, ℕ, List}
use Rattle.kc_language.specs.Expansion.{Files, Refused}
use Rattle.kc_language.specs.Symbols.{TreeFacts}
use Rattle.kc_language.specs.ConfigFile.{ArePlacesOf, Places}
use Rattle.kc_language.specs.Needs.{IsAccepted}
use Rattle.kc_language.specs.Texts.{Solution}
use Rattle.kc_outcome.specs.Outcome.{IsAcceptedTree, IsOutcome, IsRefusedTree, Options, Outcome, root_file}
use Rattle.kc_language.specs.Texts.{IsSolutionFor}

-- An accepted tree has a solution for any user values.
abbrev pub SolutionExists : Type 0
SolutionExists =
    (tree : TreeFacts) (places : Places) → IsAccepted tree → ArePlacesOf tree places → (solution : Solution) × IsSolutionFor tree places solution

-- For any files a root file has an accepted tree or a refusal.
abbrev pub AnswerExists : Type 0
AnswerExists = (files : Files) (root : List ℕ) → ((tree : TreeFacts) × IsAcceptedTree files root tree) ⊎ ((r : Refused) × IsRefusedTree files root r)

-- An accepted tree has an outcome, for any bytes of the input files.
abbrev pub AcceptedHaveAnOutcome : Type 0
AcceptedHaveAnOutcome =
    (files : Files) (options : Options) (all : List (List ℕ)) (tree : TreeFacts) → IsAcceptedTree files (root_file options) tree →
    (outcome : Outcome) × IsOutcome files options all outcome

-- Each root file has an outcome.
abbrev pub OutcomeExists : Type 0
OutcomeExists = (files : Files) (options : Options) (all : List (List ℕ)) → (outcome : Outcome) × IsOutcome files options all outcome

-- there is at most one outcome
abbrev pub OneOutcome : Type 0
OneOutcome =
    (files : Files) (options : Options) (all : List (List ℕ)) (a b : Outcome) → IsOutcome files options all a → IsOutcome files options all b → a ≡ b

-- a root file has at most one refusal, at most one accepted tree, and not both
pub record OneAnswer : Type 0 where
  pub one_refusal : (files : Files) (root : List ℕ) (r s : Refused) → IsRefusedTree files root r → IsRefusedTree files root s → r ≡ s
  pub one_accepted : (files : Files) (root : List ℕ) (tree other : TreeFacts) → IsAcceptedTree files root tree → IsAcceptedTree files root other → tree ≡ other
  pub not_both : (files : Files) (root : List ℕ) (r : Refused) (tree : TreeFacts) → IsRefusedTree files root r → IsAcceptedTree files root tree → ⊥
