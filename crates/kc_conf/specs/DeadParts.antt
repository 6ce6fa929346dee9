-- For proofs: Parts of a run that lists the prompts that no input makes visible.
use Rattle.std.specs.{Prelude.{All, List, None, Option, Result, Some, [], if◌then◌else◌, ℕ, ◌&&◌, ◌∷◌, ◌≡◌}}
use Rattle.kc_language.specs.{Expansion.Files, Symbols.TreeFacts, declared.expressions.SymId.SymId}
use Rattle.kc_outcome.specs.{Outcome.{Options, Outcome, is_not_empty}, declared.outcome.Status.{Status}}
use Rattle.kc_possible.specs.Possible.{AreSomeOf, IsDead, IsOff}
use Rattle.kc_io.specs.{Delivery.NamedText, Log.Log}
use Rattle.kc_conf.specs.{Dead.{DeadSymbol, EndsList, IsDeadOutcome, dead_text, symbols_of}, declared.stop.Stop.{Stop}}

-- the text lists these symbols, each with symbols that are n under any input
pub record IsListOf (tree : TreeFacts) (symbols : List SymId) (text : List ℕ) : Type 0 where
  pub dead : List DeadSymbol
  pub listed : symbols_of dead ≡ symbols
  pub off : All (λ d. All (IsOff tree) d.reasons) dead
  pub text_is : text ≡ dead_text tree dead

-- the text lists dead prompts of the tree, in the order of their first definitions
pub record IsDeadText (tree : TreeFacts) (text : List ℕ) : Type 0 where
  pub symbols : List SymId
  pub dead : All (IsDead tree) symbols
  pub in_order : AreSomeOf symbols tree.defined
  pub list : IsListOf tree symbols text

-- the text for its file, unless --strict-tree refuses these warnings
abbrev pub texts_unless : Options → List ℕ → List ℕ → List ℕ → Option (List NamedText)
texts_unless options file text warnings =
    if options.strict_tree && is_not_empty warnings then None else Some (record { name = file; bytes = text } ∷ [])

-- what such a run leaves, before it is reported why it stopped early
pub record LeavesList (files : Files) (options : Options) (file : List ℕ) (result : Result Status Stop) (old new : Log) : Type 0 where
  pub outcome : Outcome
  pub is_outcome : IsDeadOutcome files options outcome
  pub ends : EndsList options file outcome result old new
