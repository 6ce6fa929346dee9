-- For proofs: Parts of a run that tells what must be set so that a symbol has a value.
use Rattle.std.specs.List.{flat_map}
use Rattle.std.specs.Prelude.{◌&&◌, ◌++◌, ◌||◌, ◌≡◌, All, Bool, List, None, Option, Some, if◌then◌else◌, map, string_bytes, ℕ}
use Rattle.kc_language.specs.{ConfigFile.UserInput, Symbols.TreeFacts, Texts.{IsSolutionFor, Solution}}
use Rattle.kc_language.specs.declared.expressions.SymId.{SymId}
use Rattle.kc_outcome.specs.Explanations.{Fact}
use Rattle.kc_outcome.specs.{Outcome.{Options, Outcome, is_not_empty, lead, refused_outcome}, declared.outcome.WantedOutput.{WantedOutput}}
use Rattle.kc_how.specs.{Questions.goal_of, declared.question.Question.{Question}}
use Rattle.kc_possible.specs.Possible.{IsSound}
use Rattle.kc_explain.specs.declared.teller.Teller.{Teller}
use Rattle.kc_io.specs.Delivery.{NamedText}
use Rattle.kc_conf.specs.{Accepted.IsReady, How.{IsGoal, IsReason, IsToldOf, heading, reason_lines, told}, Reads.IsWholeEnd, declared.accepted.OrderedTree.OrderedTree, declared.reply.{Asked.{Asked}, Inquiry.{Inquiry}, Reply.{Reply, TheVariants.{Refusal, Text}}}}

-- what such a reply leaves: its text for each output, or a refusal
abbrev pub outcome_by : Options → Reply → Outcome
outcome_by options (Text text) = told options text.items
outcome_by options (Refusal text) = refused_outcome (lead options ++ text.items)

-- a refusal is whole lines
abbrev pub EndsLine : Reply → Type 0
EndsLine (Text text) = Unit {0}
EndsLine (Refusal text) = IsWholeEnd text.items

-- the tree is accepted, and the bounds are its own
pub record IsInquiry (accepted : OrderedTree) (inquiry : Inquiry) : Type 0 where
  pub ready : IsReady accepted
  pub bounds : inquiry.possible.now.laid ≡ accepted.laid
  pub sound : IsSound inquiry.possible.now

-- the question is what is asked under these options
pub record IsAsked (options : Options) (asked : Asked) (q : Question) : Type 0 where
  pub prefix : q.prefix.now ≡ options.prefix
  pub goal : IsGoal options asked q.laid.now.tree.now (goal_of q.goal.now)
  pub steps : q.steps ≡ asked.steps
  pub strict : q.is_strict ≡ options.strict

-- the teller tells of the solution before
pub record IsTellerOf (q : Question) (t : Teller) : Type 0 where
  pub solved : t.solved.now ≡ q.before.now
  pub input : t.input.now ≡ q.input.now
  pub is_raw : t.is_raw ≡ q.prefix.now.is_raw

-- the lines of such reasons are added
pub record AddsReasons (q : Question) (old new : List ℕ) : Type 0 where
  pub reasons : List (SymId × List Fact)
  pub off : All (IsReason q.input.now q.before.now) reasons
  pub added : new ≡ old ++ flat_map (reason_lines q.prefix.now q.laid.now.tree.now) reasons

-- the reply to a question
pub record Replies (q : Question) (reply : Reply) : Type 0 where
  pub told : (options : Options) (asked : Asked) → IsAsked options asked q → IsToldOf options asked q.laid.now.tree.now q.input.now q.before.now (outcome_by options reply)
  pub ends : EndsLine reply

-- the reply about an input of a tree
pub record IsReply (options : Options) (asked : Asked) (tree : TreeFacts) (input : UserInput) (reply : Reply) : Type 0 where
  pub solution : Solution
  pub solution_is : IsSolutionFor tree input.places solution
  pub told : IsToldOf options asked tree input solution (outcome_by options reply)
  pub ends : EndsLine reply

-- an output with this text; all of them, unless --strict-tree refuses the warnings
abbrev pub named_with : List ℕ → WantedOutput → NamedText
named_with text wanted = record { name = string_bytes wanted.file; bytes = text }

abbrev pub given_unless : Options → Bool → List ℕ → List ℕ → Option (List NamedText)
given_unless options before waits text =
    if options.strict_tree && (before || is_not_empty waits) then None else Some (map (named_with (heading options ++ text)) options.outputs.items)
