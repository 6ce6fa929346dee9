-- For proofs: What is asked, and what is promised of the answer.
use Rattle.std.specs.Prelude.{All, Bool, List, map, true, ◌<◌, ◌≡◌}
use Rattle.kc_language.specs.{ConfigFile.ArePlacesOf, Texts.IsSolutionFor, Values.name_count}
use Rattle.kc_possible.specs.Possible.{IsOff, IsSound}
use Rattle.kc_solve.specs.Orders.{IsOrderOf}
use Rattle.kc_user.specs.ValueView.{given_of_value}
use Rattle.kc_how.specs.{How.{Goal, IsFix, IsOutOfReach, fragment_alone, with_fragment}, declared.{answer.Answer.{Answer, TheVariants.{Found, Impossible, NotFound}}, goal.Goal.Goal as AskedGoal, question.Question.Question, text.Fix.Fix}}

-- what shall hold
abbrev pub goal_of : AskedGoal → Goal
goal_of goal = record { symbol = goal.symbol; value = given_of_value goal.value }

-- A question: the order, the bounds and the solution are those of the tree and the input, and the goal is about a symbol of the tree.
pub record IsQuestion (q : Question) : Type 0 where
  pub order : IsOrderOf q.laid.now q.order.now
  pub places : ArePlacesOf q.laid.now.tree.now q.input.now.places
  pub before : IsSolutionFor q.laid.now.tree.now q.input.now.places q.before.now
  pub bounds : q.possible.now.laid ≡ q.laid.now
  pub sound : IsSound q.possible.now
  pub symbol : q.goal.now.symbol.0 < name_count q.laid.now.tree.now

-- What is promised of an answer. Nothing is, if there is none.
abbrev pub Answers : Question → Answer → Type 0
Answers q (Found lines) = IsFix q.laid.now.tree.now q.prefix.now q.input.now q.before.now (goal_of q.goal.now) (map (λ line. line.items) lines.items)
Answers q (Impossible reasons) = IsOutOfReach q.laid.now.tree.now (goal_of q.goal.now) × All (IsOff q.laid.now.tree.now) reasons.items
Answers q (NotFound miss) = Unit {0}

-- A fix beside the question: what its lines give alone, and the solution with them.
pub record IsWith (q : Question) (fix : Fix) : Type 0 where
  pub alone : fix.alone.now ≡ (fragment_alone q.laid.now.tree.now q.prefix.now (map (λ line. line.items) fix.lines.now)).input.places
  pub after : IsSolutionFor q.laid.now.tree.now (with_fragment q.laid.now.tree.now q.prefix.now q.input.now (map (λ line. line.items) fix.lines.now)).places fix.after.now
