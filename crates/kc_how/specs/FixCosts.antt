-- For proofs: What a fix costs, by a question and a fix for it.
use Rattle.std.specs.Prelude.{Bool, List, None, Option, Some, filter, false, flat_map, length, map, ℕ, ◌++◌}
use Rattle.kc_language.specs.{ConfigFile.plain_line, Values.GivenValue, declared.expressions.SymId.SymId}
use Rattle.kc_how.specs.FixTexts as texts
use Rattle.kc_how.specs.declared.{question.Question.Question, text.Fix.Fix}

-- a value that the user gave a symbol, and the line that gave it, between two texts
abbrev pub user_setting : Question → List ℕ → SymId → GivenValue → List ℕ → List ℕ
user_setting q front s old end =
    front ++ texts.setting q.laid.now.tree.now q.prefix.now s old ++ texts.location_text (plain_line q.input.now q.input.now.lines s) ++ end

module _ (q : Question) (fix : Fix) where
  abbrev pub fragment : List (List ℕ)
  fragment = map (λ line. line.items) fix.lines.now

  -- what the fix gives a symbol, and what the user gave it
  abbrev pub own_value : SymId → Option GivenValue
  own_value s = texts.own_value q.laid.now.tree.now q.prefix.now q.input.now q.before.now fix.after.now fragment s

  abbrev pub user_value : SymId → Option GivenValue
  user_value s = texts.user_value q.laid.now.tree.now q.prefix.now q.input.now q.before.now fix.after.now fragment s

  -- whether a value is no more in force; whether that is so of the user's value, and whether the fix gives no other one
  abbrev pub is_loss : SymId → GivenValue → Bool
  is_loss s old = texts.is_loss q.laid.now.tree.now q.prefix.now q.input.now q.before.now fix.after.now fragment s old

  abbrev pub is_gone : SymId → Bool
  is_gone s = elim (user_value s) [ None ↦ false | Some old ↦ is_loss s old ]

  abbrev pub is_lost : SymId → Bool
  is_lost s = elim (user_value s) [ None ↦ false | Some old ↦ elim (own_value s) [ None ↦ is_loss s old | Some new ↦ false ] ]

  -- the other values that change
  abbrev pub is_other : SymId → Bool
  is_other s = texts.is_other q.laid.now.tree.now q.prefix.now q.input.now q.before.now fix.after.now fragment s

  abbrev pub other_count : List SymId → ℕ
  other_count ids = length (filter is_other ids)

  -- the lines that tell it
  abbrev pub loss_line : SymId → GivenValue → List ℕ
  loss_line s old = texts.loss_line q.laid.now.tree.now q.prefix.now q.input.now q.before.now fix.after.now fragment s old

  abbrev pub cost_line : SymId → List ℕ
  cost_line s = texts.cost_line q.laid.now.tree.now q.prefix.now q.input.now q.before.now fix.after.now fragment s

  abbrev pub costs : List ℕ
  costs = texts.changes_line (other_count q.laid.now.tree.now.defined) ++ flat_map cost_line q.laid.now.tree.now.defined
